use Rattle.std.proofs.Common.{length}
use Rattle.lines.specs.Lines.{unread}
use Rattle.handover.proofs.answer_all.Given as goal

abbrev pub decreases-loop-desk : goal.decreases-loop-desk
decreases-loop-desk g l = length (unread l.lines)
