use Rattle.std.proofs.Common.{◌≡◌, ℕ, ◌<◌, get_or}
use Rattle.compare.proofs.same_value.Given as goal

abbrev pub invariant-loop-i : goal.invariant-loop-i
invariant-loop-i g l = (k : ℕ) → k < l.i → get_or (g.V.Value.kind.code l.left) k 0 ≡ get_or (g.V.Value.kind.code l.right) k 0
