use Rattle.std.proofs.Common.{◌<◌, length}
use Rattle.layout.specs.Capacity.{home_at}
use Rattle.layout.specs.Places.{Reach}
use Rattle.layout.specs.Walks.{steps_left}
use Rattle.maps.specs.Maps.{kinds_of}
use Rattle.layout.specs.Views.{hash_some}
use Rattle.cells.specs.Rows.{row_rule}
use Rattle.table.proofs.walks.lookup.Given as goal

abbrev pub invariant-probe : goal.invariant-probe
invariant-probe g l =
    (l.i < length l.cells)
    × Reach (row_rule (kinds_of g.K.Key.kind g.V.Value.kind) l.seed (length l.cells)) l.cells l.wanted l.i

abbrev pub decreases-probe : goal.decreases-probe
decreases-probe g l = steps_left (length l.cells) (home_at (length l.cells) (hash_some (g.K.Key.kind.hash l.seed) l.wanted)) l.i
