-- the first number that passes a test, as `find` over a range gives it
use Rattle.std.proofs.Common.{◌≡◌, ℕ, ◌<◌, ◌≤◌, Bool, true, false, Some, None, Option, sym, arith}
use Rattle.std.specs.Option.{MatchOption}
use Rattle.layout.specs.Tests.{lowest}
use Rattle.layout.proofs.Tests.{all_lowest, some_lowest}

pub lowest_found : (t : ℕ → Bool) (n : ℕ) (o : Option ℕ)
    → MatchOption o ((k : ℕ) → 0 ≤ k → k < n → t k ≡ false) (λ i. (0 ≤ i) × (i < n) × (t i ≡ true) × ((k : ℕ) → 0 ≤ k → k < i → t k ≡ false)) → o ≡ lowest t 0 n
lowest_found t n None none = sym (all_lowest t 0 n (λ j a b. none j a (omega arith)))
lowest_found t n (Some p) (a, b, y, below) = sym (some_lowest t 0 n p a (omega arith) y (λ j c d. below j c d))
