use Rattle.std.proofs.Common.{◌<◌, true, false, length, Some, None, sym, refl, ap, ◌∙◌, arith}
use Rattle.layout.specs.Capacity.{home_at}
use Rattle.layout.specs.Views.{hash_some}
use Rattle.layout.specs.Walks.{Carry, steps_left}
use Rattle.layout.proofs.Carries.{carry_start, carry_on, carry_swap, carry_end}
use Rattle.maps.specs.Maps.{kinds_of}
use Rattle.cells.specs.Rows.{row_order, row_rule}
use Rattle.table.specs.Rows.{row_merged}
use Rattle.cells.proofs.Rules.{read_at, told_two, lawful}
use Rattle.table.proofs.walks.insert.Given as given
use Rattle.table.proofs.walks.insert.Goals.{then-is_before, else-is_before}
use Rattle.table.proofs.walks.insert.Goals as goal

pub carry-init : goal.carry-init
carry-init g c =
    let x = kinds_of g.K.Key.kind g.V.Value.kind in
    let L = lawful x g.met.K.Key.lawful c.args.seed c.args.cells.now c.requires.sound in
    let w = carry_start _ L c.args.cells.now c.args.new c.requires.sound c.requires.absent c.home-i.result
    (c.home-i.ensures ∙ ap (λ o. home_at (length c.args.cells.now) (hash_some (x.key.hash c.args.seed) o)) c.from_row-first.ensures) in
    (w.inside, refl, w)

pub returns-in-None : goal.returns-in-None
returns-in-None g c =
    let x = kinds_of g.K.Key.kind g.V.Value.kind in
    let L = lawful x g.met.K.Key.lawful c.args.seed c.args.cells.now c.requires.sound in
    carry_end _ L c.args.cells.now c.args.new c.carry.cells c.carry.carried c.carry.i c.carry.invariant.2 c.requires.sound c.requires.absent (row_merged x) (λ old new e. refl)
    (read_at c.carry.cells c.carry.i c.index-cells-i.result None c.carry.invariant.0 c.index-cells-i.is c.in-None.is)

turn : (g : given.Over) (c : goal.After-step-i g)
    → Carry (row_rule (kinds_of g.K.Key.kind g.V.Value.kind) c.args.seed (length c.args.cells.now)) c.args.cells.now c.args.new c.if-is_before.cells c.if-is_before.carried c.step-i.result
    × (steps_left (length c.args.cells.now) (home_at (length c.args.cells.now) (hash_some (g.K.Key.kind.hash c.args.seed) (g.K.Key.kind.key c.args.new.key))) c.step-i.result
    < steps_left (length c.args.cells.now) (home_at (length c.args.cells.now) (hash_some (g.K.Key.kind.hash c.args.seed) (g.K.Key.kind.key c.args.new.key))) c.carry.i)
turn g c =
    let x = kinds_of g.K.Key.kind g.V.Value.kind in
    let L = lawful x g.met.K.Key.lawful c.args.seed c.args.cells.now c.requires.sound in
    let is = read_at c.carry.cells c.carry.i c.index-cells-i.result (Some c.in-Some.found) c.carry.invariant.0 c.index-cells-i.is c.in-Some.is in
    elim c.if-is_before.branch [
      | then-is_before w ↦ rw (w.cells-is, w.carried-is) (carry_swap _ L c.args.cells.now c.args.new c.carry.cells c.carry.carried c.carry.i c.carry.invariant.2 c.in-Some.found is
          (told_two (row_order x).before c.from_row-ours.result (x.key.key c.carry.carried.key) c.from_row-theirs.result (x.key.key c.in-Some.found.key) true (sym w.if-is_before.true ∙ c.is_before.ensures) c.from_row-ours.ensures c.from_row-theirs.ensures)
          c.step-i.result c.step-i.ensures)
      | else-is_before w ↦ rw (w.cells-is, w.carried-is) (carry_on _ L c.args.cells.now c.args.new c.carry.cells c.carry.carried c.carry.i c.carry.invariant.2 c.in-Some.found is
          (told_two (row_order x).before c.from_row-ours.result (x.key.key c.carry.carried.key) c.from_row-theirs.result (x.key.key c.in-Some.found.key) false (sym w.if-is_before.false ∙ c.is_before.ensures) c.from_row-ours.ensures c.from_row-theirs.ensures)
          c.step-i.result c.step-i.ensures)
    ]

pub carry-smaller : goal.carry-smaller
carry-smaller g c = (turn g c).1

pub carry-preserved : goal.carry-preserved
carry-preserved g c = let w = (turn g c).0 in (omega (arith, w.inside, w.size), w.size, w)
