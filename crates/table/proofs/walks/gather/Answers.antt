use Rattle.std.proofs.Common.{ℕ, length, Some, None, sym, refl, ap, ◌∙◌, subst, arith}
use Rattle.layout.specs.Cells.{records_of, layout}
use Rattle.layout.specs.Map.{put}
use Rattle.layout.specs.Places.{Sound}
use Rattle.layout.proofs.Gathers.{gather_start, gather_sound, gather_absent, gather_skip, gather_add, gather_end}
use Rattle.layout.proofs.Layouts.{sound_distinct}
use Rattle.maps.specs.Maps.{kinds_of}
use Rattle.cells.specs.Rows.{row_order, row_rule}
use Rattle.table.specs.Rows.{row_merged}
use Rattle.cells.proofs.Rules.{none_of, read_at, lawful, lawful_at}
use Rattle.table.proofs.walks.gather.Goals.{in_default, in-Some}
use Rattle.table.proofs.walks.gather.Goals as goal

pub loop-cell-init : goal.loop-cell-init
loop-cell-init g c =
    let x = kinds_of g.K.Key.kind g.V.Value.kind in
    let F = lawful x g.met.K.Key.lawful c.args.seed c.args.from.now c.requires.sound in
    let L = lawful_at x g.met.K.Key.lawful c.args.seed (length c.args.into.now) (omega (arith, c.requires.room)) in
    gather_start _ L c.args.from.now (sound_distinct _ F c.args.from.now c.requires.sound) c.requires.room c.args.into.now c.requires.empty

pub insert-requires : goal.insert-requires
insert-requires g c =
    let x = kinds_of g.K.Key.kind g.V.Value.kind in
    let F = lawful x g.met.K.Key.lawful c.args.seed c.args.from.now c.requires.sound in
    let L = lawful_at x g.met.K.Key.lawful c.args.seed (length c.args.into.now) (omega (arith, c.requires.room)) in
    let apart = sound_distinct _ F c.args.from.now c.requires.sound in
    record {
      few = omega (arith, c.requires.few, c.loop-cell.invariant.size);
      sound = subst (λ (n : ℕ). Sound (row_rule x c.args.seed n) c.loop-cell.into) (sym c.loop-cell.invariant.size) (gather_sound _ L c.args.from.now apart c.requires.room c.loop-cell.cell-index c.loop-cell.into c.loop-cell.invariant);
      absent = gather_absent _ L c.args.from.now apart c.requires.room c.loop-cell.cell-index c.loop-cell.into c.loop-cell.invariant c.in-Some.record
          (read_at c.args.from.now c.loop-cell.cell-index c.cell-item.result (Some c.in-Some.record) c.loop-cell-test.true c.cell-item.is c.in-Some.is);
    }

pub loop-cell-preserved : goal.loop-cell-preserved
loop-cell-preserved g c =
    let x = kinds_of g.K.Key.kind g.V.Value.kind in
    let F = lawful x g.met.K.Key.lawful c.args.seed c.args.from.now c.requires.sound in
    let L = lawful_at x g.met.K.Key.lawful c.args.seed (length c.args.into.now) (omega (arith, c.requires.room)) in
    let apart = sound_distinct _ F c.args.from.now c.requires.sound in
    elim c.match-cell.branch [
      | in_default w ↦ rw w.into-is (gather_skip _ L c.args.from.now apart c.requires.room c.loop-cell.cell-index c.loop-cell.into c.loop-cell.invariant c.loop-cell-test.true
          (read_at c.args.from.now c.loop-cell.cell-index c.cell-item.result None c.loop-cell-test.true c.cell-item.is (none_of c.cell-item.result w.in_default.not-Some)))
      | in-Some w ↦ gather_add _ L c.args.from.now apart c.requires.room c.loop-cell.cell-index c.loop-cell.into c.loop-cell.invariant c.loop-cell-test.true w.in-Some.record
          (read_at c.args.from.now c.loop-cell.cell-index c.cell-item.result (Some w.in-Some.record) c.loop-cell-test.true c.cell-item.is w.in-Some.is)
          (row_merged x) (λ old new e. refl) c.match-cell.into
          (w.into-is ∙ w.insert.ensures ∙ ap (λ (n : ℕ). layout (row_rule x c.args.seed n) (put (row_order x) (row_merged x) w.in-Some.record (records_of (row_order x) c.loop-cell.into))) c.loop-cell.invariant.size)
    ]

pub returns : goal.returns
returns g c =
    let x = kinds_of g.K.Key.kind g.V.Value.kind in
    let F = lawful x g.met.K.Key.lawful c.args.seed c.args.from.now c.requires.sound in
    let L = lawful_at x g.met.K.Key.lawful c.args.seed (length c.args.into.now) (omega (arith, c.requires.room)) in
    gather_end _ L c.args.from.now (sound_distinct _ F c.args.from.now c.requires.sound) c.requires.room c.loop-cell.cell-index c.loop-cell.into c.loop-cell.invariant c.loop-cell-test.false
