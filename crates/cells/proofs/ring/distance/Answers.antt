use Rattle.std.proofs.Common.{arith}
use Rattle.layout.proofs.Round.{distance_cases}
use Rattle.cells.proofs.ring.distance.Goals as goal

pub returns-then-h-i : goal.returns-then-h-i
returns-then-h-i c = omega (arith, distance_cases c.args.cells c.args.h c.args.i)

pub returns-else-h-i : goal.returns-else-h-i
returns-else-h-i c = omega (arith, distance_cases c.args.cells c.args.h c.args.i)
