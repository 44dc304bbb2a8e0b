use Rattle.std.proofs.Common.{◌-◌, length}
use Rattle.layout.specs.Cells.{from_home}
use Rattle.layout.specs.Walks.{Way}
use Rattle.maps.specs.Maps.{kinds_of}
use Rattle.cells.specs.Rows.{row_rule}
use Rattle.cells.proofs.places.is_barred.Given as goal

abbrev pub invariant-way : goal.invariant-way
invariant-way g l = Way (row_rule (kinds_of g.K.Key.kind g.V.Value.kind) l.seed (length l.cells)) l.cells l.key l.i l.j

abbrev pub decreases-way : goal.decreases-way
decreases-way g l =
    from_home (row_rule (kinds_of g.K.Key.kind g.V.Value.kind) l.seed (length l.cells)) l.key l.i
    - from_home (row_rule (kinds_of g.K.Key.kind g.V.Value.kind) l.seed (length l.cells)) l.key l.j
