use Rattle.std.proofs.Common.{◌≡◌}
use Rattle.image_save.proofs.Writes.{partly_written}
use Rattle.image_save.proofs.blocks.write_all.Given as goal

abbrev pub invariant-loop-i : goal.invariant-loop-i
invariant-loop-i g l =
    (g.S.Store.count l.store ≡ g.S.Store.count l.initial.store)
    × (g.S.Store.protected l.store ≡ g.S.Store.protected l.initial.store)
    × (g.S.Store.shown l.store ≡ partly_written (g.S.Store.shown l.initial.store) l.bytes l.i)
