use Rattle.std.proofs.Common.{◌≡◌, ◌<◌, length}
use Rattle.layout.specs.Walks.{Shift, steps_left}
use Rattle.maps.specs.Maps.{kinds_of}
use Rattle.cells.specs.Rows.{row_rule}
use Rattle.table.proofs.walks.remove.Given as goal

abbrev pub invariant-shift : goal.invariant-shift
invariant-shift g l =
    (l.i < length l.cells)
    × (l.hole < length l.cells)
    × (length l.cells ≡ l.size)
    × Shift (row_rule (kinds_of g.K.Key.kind g.V.Value.kind) l.seed l.size) l.initial.cells l.place l.cells l.hole l.i

abbrev pub decreases-shift : goal.decreases-shift
decreases-shift g l = steps_left l.size l.place l.i
