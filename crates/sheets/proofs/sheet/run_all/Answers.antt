use Rattle.std.proofs.Common.{ℕ, refl, ◌∙◌, subst, arith}
use Rattle.maps.specs.Commands.{answer_to, map_after}
use Rattle.maps.specs.Maps.{kinds_of}
use Rattle.table.specs.Runs.{Does}
use Rattle.sheets.proofs.Walking.{walk_start, walk_on, walk_end}
use Rattle.sheets.proofs.sheet.run_all.Goals as goal

pub loop-i-init : goal.loop-i-init
loop-i-init g c =
    let t = c.args.table.now in
    (refl, refl, refl, walk_start (kinds_of g.K.Key.kind g.V.Value.kind) t.seed t.count t.cells.now c.args.answers.now c.args.sheet.now)

pub loop-i-preserved : goal.loop-i-preserved
loop-i-preserved g c =
    let x = kinds_of g.K.Key.kind g.V.Value.kind in
    let t = c.args.table.now in
    let (s, a, b, w) = c.loop-i.invariant in
    let command = c.index-sheet-i.result in
    let after = c.run.new.self in (
      c.run.ensures.stays.0 ∙ s,
      c.run.ensures.stays.1 ∙ a,
      c.run.ensures.scratch_named ∙ b,
      walk_on x t.seed t.count t.cells.now c.args.answers.now c.args.sheet.now c.loop-i.i c.loop-i.table.count c.loop-i.table.cells.now c.loop-i.answers w c.loop-i-test.true c.requires.room command c.index-sheet-i.is after.cells.now (c.run.result, after.count)
          (subst (λ (q : ℕ). Does x q c.loop-i.table.count (λ m. map_after x command m) (λ m. answer_to x command m) c.loop-i.table.cells.now after.cells.now (c.run.result, after.count)) s c.run.ensures.done)
          c.write_answer.new.answers c.write_answer.ensures,
    )

pub returns : goal.returns
returns g c =
    let t = c.args.table.now in
    let left = c.loop-i.table in
    let (s, a, b, w) = c.loop-i.invariant in
    record {
      runs = walk_end (kinds_of g.K.Key.kind g.V.Value.kind) t.seed t.count t.cells.now c.args.answers.now c.args.sheet.now c.loop-i.i left.count left.cells.now c.loop-i.answers w c.loop-i-test.false (omega arith) c.loop-i.scratch.cells.now c.loop-i.scratch.empty;
      cells_named = a;
      scratch_named = b;
    }
