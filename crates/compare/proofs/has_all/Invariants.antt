use Rattle.std.proofs.Common.{◌≡◌, ℕ, ◌<◌, List, Some}
use Rattle.kinds.specs.declared.record.Record.{Record}
use Rattle.layout.specs.Cells.{at}
use Rattle.maps.specs.Maps.{Laid, kinds_of}
use Rattle.compare.specs.Compare.{Lends}
use Rattle.compare.proofs.has_all.Given as goal

abbrev pub invariant-loop-row : goal.invariant-loop-row
invariant-loop-row g l =
    (k : ℕ) → k < l.row-index → (s : Record _ _) → at l.rows k ≡ Some s → (m : List (Record _ _))
    → Laid (kinds_of g.K.Key.kind g.V.Value.kind) l.table.seed m l.table.cells.now → Lends (kinds_of g.K.Key.kind g.V.Value.kind) m s
