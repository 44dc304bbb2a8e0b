use Rattle.std.proofs.Common.{◌≡◌, ◌<◌, length}
use Rattle.layout.specs.Capacity.{home_at}
use Rattle.layout.specs.Views.{hash_some}
use Rattle.layout.specs.Walks.{Carry, steps_left}
use Rattle.maps.specs.Maps.{kinds_of}
use Rattle.cells.specs.Rows.{row_rule}
use Rattle.table.proofs.walks.insert.Given as goal

abbrev pub invariant-carry : goal.invariant-carry
invariant-carry g l =
    (l.i < length l.cells)
    × (length l.cells ≡ l.size)
    × Carry (row_rule (kinds_of g.K.Key.kind g.V.Value.kind) l.seed l.size) l.initial.cells l.initial.carried l.cells l.carried l.i

abbrev pub decreases-carry : goal.decreases-carry
decreases-carry g l = steps_left l.size (home_at l.size (hash_some (g.K.Key.kind.hash l.seed) (g.K.Key.kind.key l.initial.carried.key))) l.i
