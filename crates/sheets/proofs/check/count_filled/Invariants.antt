use Rattle.std.proofs.Common.{◌≡◌, ◌≤◌, take, is_some}
use Rattle.std.specs.List.{count_by}
use Rattle.sheets.proofs.check.count_filled.Given as goal

abbrev pub invariant-loop-cell : goal.invariant-loop-cell
invariant-loop-cell g l = (l.count ≤ l.cell-index) × (l.count ≡ count_by is_some (take l.cell-index l.cells))
