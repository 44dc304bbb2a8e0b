use Rattle.std.proofs.Common.{◌≡◌, ◌<◌, drop}
use Rattle.store.specs.Sums.{sums, sums_from}
use Rattle.store.proofs.checked.fletcher.Given as goal

abbrev pub invariant-loop-x : goal.invariant-loop-x
invariant-loop-x l = (l.s1 < 255) × (l.s2 < 255) × (sums_from l.s1 l.s2 (drop l.x-index l.bytes) ≡ sums l.bytes)
