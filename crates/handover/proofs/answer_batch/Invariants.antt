use Rattle.std.proofs.Common.{◌≤◌, length}
use Rattle.lines.specs.Lines.{unread}
use Rattle.handover.proofs.answer_batch.Given as goal

abbrev pub invariant-loop-line : goal.invariant-loop-line
invariant-loop-line g l = length (unread l.lines) ≤ length (unread l.initial.lines)

abbrev pub decreases-loop-line : goal.decreases-loop-line
decreases-loop-line g l = length (unread l.lines)
