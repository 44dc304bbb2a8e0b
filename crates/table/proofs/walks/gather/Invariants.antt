use Rattle.std.proofs.Common.{length}
use Rattle.layout.specs.Walks.{Gathered}
use Rattle.maps.specs.Maps.{kinds_of}
use Rattle.cells.specs.Rows.{row_rule}
use Rattle.table.proofs.walks.gather.Given as goal

abbrev pub invariant-loop-cell : goal.invariant-loop-cell
invariant-loop-cell g l = Gathered (row_rule (kinds_of g.K.Key.kind g.V.Value.kind) l.seed (length l.initial.into)) l.from l.cell-index l.into
