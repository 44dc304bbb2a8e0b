use Rattle.std.proofs.Common.{◌≡◌}
use Rattle.maps.specs.Maps.{kinds_of}
use Rattle.sheets.proofs.Walking.{Walked}
use Rattle.sheets.proofs.sheet.run_all.Given as goal

abbrev pub invariant-loop-i : goal.invariant-loop-i
invariant-loop-i g l =
    (l.table.seed ≡ l.initial.table.seed) × (l.table.cells.ghost_name ≡ l.initial.table.cells.ghost_name) × (l.scratch.cells.ghost_name ≡ l.initial.scratch.cells.ghost_name)
    × Walked (kinds_of g.K.Key.kind g.V.Value.kind) l.initial.table.seed l.initial.table.count l.initial.table.cells.now l.initial.answers l.sheet l.i l.table.count l.table.cells.now l.answers
