use Rattle.std.proofs.Common.{arith}
use Rattle.layout.proofs.Round.{next_cases}
use Rattle.cells.proofs.ring.step.Goals as goal

pub returns-then-i-cells : goal.returns-then-i-cells
returns-then-i-cells c = omega (arith, next_cases c.args.cells c.args.i)

pub returns-else-i-cells : goal.returns-else-i-cells
returns-else-i-cells c = omega (arith, next_cases c.args.cells c.args.i)
