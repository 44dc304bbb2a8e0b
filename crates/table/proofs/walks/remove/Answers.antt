use Rattle.std.proofs.Common.{◌<◌, length, set, Some, None, ap, ◌∙◌, arith}
use Rattle.layout.specs.Capacity.{home_at}
use Rattle.layout.specs.Cells.{distance as steps}
use Rattle.layout.specs.Views.{hash_some}
use Rattle.layout.specs.Walks.{Shift, steps_left}
use Rattle.layout.proofs.Shifts.{shift_start, shift_stay, shift_move, shift_end}
use Rattle.maps.specs.Maps.{kinds_of}
use Rattle.cells.specs.Rows.{row_rule}
use Rattle.cells.proofs.Rules.{read_at, lawful, home_inside}
use Rattle.table.proofs.walks.remove.Given as given
use Rattle.table.proofs.walks.remove.Goals.{then-distance, else-distance}
use Rattle.table.proofs.walks.remove.Goals as goal

pub shift-init : goal.shift-init
shift-init g c =
    let x = kinds_of g.K.Key.kind g.V.Value.kind in
    let L = lawful x g.met.K.Key.lawful c.args.seed c.args.cells.now c.requires.sound in
    let w = shift_start _ L c.args.cells.now c.requires.sound c.args.place c.args.old c.requires.there c.requires.within c.step-i.result c.step-i.ensures in
    (omega (arith, w.in_j, w.size), omega (arith, w.in_hole, w.size), w.size, w)

pub distance-requires : goal.distance-requires
distance-requires g c =
    let x = kinds_of g.K.Key.kind g.V.Value.kind in
    home_inside x g.met.K.Key.lawful c.args.seed c.args.cells.now c.requires.sound _ _ c.home-start.result c.home-start.ensures c.from_row-key.ensures

pub distance-requires-in-Some : goal.distance-requires-in-Some
distance-requires-in-Some g c =
    let x = kinds_of g.K.Key.kind g.V.Value.kind in
    home_inside x g.met.K.Key.lawful c.args.seed c.args.cells.now c.requires.sound _ _ c.home-start.result c.home-start.ensures c.from_row-key.ensures

pub returns-in-None : goal.returns-in-None
returns-in-None g c =
    let x = kinds_of g.K.Key.kind g.V.Value.kind in
    let L = lawful x g.met.K.Key.lawful c.args.seed c.args.cells.now c.requires.sound in
    shift_end _ L c.args.cells.now c.requires.sound c.args.place c.args.old c.requires.there c.shift.cells c.shift.hole c.shift.i c.shift.invariant.3
    (read_at c.shift.cells c.shift.i c.index-cells-i.result None c.shift.invariant.0 c.index-cells-i.is c.in-None.is)

turn : (g : given.Over) (c : goal.After-step-i-in-Some g)
    → Shift (row_rule (kinds_of g.K.Key.kind g.V.Value.kind) c.args.seed (length c.args.cells.now)) (set c.args.cells.now c.args.place None) c.args.place c.if-distance.cells c.if-distance.hole c.step-i-in-Some.result
    × (steps_left (length c.args.cells.now) c.args.place c.step-i-in-Some.result < steps_left (length c.args.cells.now) c.args.place c.shift.i)
turn g c =
    let x = kinds_of g.K.Key.kind g.V.Value.kind in
    let L = lawful x g.met.K.Key.lawful c.args.seed c.args.cells.now c.requires.sound in
    let is = read_at c.shift.cells c.shift.i c.index-cells-i.result (Some c.in-Some.found) c.shift.invariant.0 c.index-cells-i.is c.in-Some.is in
    let start = c.home-start.ensures ∙ ap (λ o. home_at (length c.args.cells.now) (hash_some (x.key.hash c.args.seed) o)) c.from_row-key.ensures in
    let to-hole = c.distance.ensures ∙ ap (λ h. steps (length c.args.cells.now) h c.shift.hole) start in
    let to-here = c.distance-in-Some.ensures ∙ ap (λ h. steps (length c.args.cells.now) h c.shift.i) start in
    elim c.if-distance.branch [
      | then-distance w ↦ rw (w.cells-is, w.hole-is) (shift_move _ L (set c.args.cells.now c.args.place None) c.args.place c.shift.cells c.shift.hole c.shift.i c.shift.invariant.3 c.in-Some.found is
          (omega (arith, to-hole, to-here, w.if-distance.true)) c.step-i-in-Some.result c.step-i-in-Some.ensures)
      | else-distance w ↦ rw (w.cells-is, w.hole-is) (shift_stay _ L (set c.args.cells.now c.args.place None) c.args.place c.shift.cells c.shift.hole c.shift.i c.shift.invariant.3 c.in-Some.found is
          (omega (arith, to-hole, to-here, w.if-distance.false)) c.step-i-in-Some.result c.step-i-in-Some.ensures)
    ]

pub shift-smaller : goal.shift-smaller
shift-smaller g c = (turn g c).1

pub shift-preserved : goal.shift-preserved
shift-preserved g c = let w = (turn g c).0 in (omega (arith, w.in_j, w.size), omega (arith, w.in_hole, w.size), w.size, w)
