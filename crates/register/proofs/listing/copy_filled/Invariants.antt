use Rattle.std.proofs.Common.{◌≡◌, length}
use Rattle.model.specs.Steps.{in_cells}
use Rattle.register.proofs.Copies.{copied}
use Rattle.register.proofs.listing.copy_filled.Given as goal

abbrev pub invariant-loop-place : goal.invariant-loop-place
invariant-loop-place g l = l.output ≡ copied (in_cells l.cells) l.initial.output (length l.yielded)
