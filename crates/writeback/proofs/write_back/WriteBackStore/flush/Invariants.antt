use Rattle.std.proofs.Common.{◌≡◌, length}
use Rattle.writeback.specs.Holds.{held_list}
use Rattle.writeback.specs.Overlays.{overlay}
use Rattle.writeback.proofs.write_back.WriteBackStore.flush.Given as goal

abbrev pub invariant-loop-next : goal.invariant-loop-next
invariant-loop-next g l =
    let m = g.S.Store in
    let was = l.initial.self.below in
    (m.count l.self.below ≡ m.count was)
    × (m.protected l.self.below ≡ m.protected was)
    × (overlay (m.count was) (m.protected was) (m.shown l.self.below) (held_list l.self.held) ≡ overlay (m.count was) (m.protected was) (m.shown was) (held_list l.initial.self.held))

abbrev pub decreases-loop-next : goal.decreases-loop-next
decreases-loop-next g l = length (held_list l.self.held)
