use Rattle.image_store.proofs.Blocks.{Copied}
use Rattle.image_store.proofs.load.load.Given as goal

abbrev pub invariant-loop-i : goal.invariant-loop-i
invariant-loop-i g l = Copied (g.S.Store.shown l.store) l.i l.work
