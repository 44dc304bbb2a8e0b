-- the power of two that a count demands, as a program finds it
use Rattle.std.proofs.Common.{◌≡◌, ℕ, ◌+◌, ◌-◌, ◌*◌, ◌%◌, ◌^◌, ◌<◌, ◌≤◌, true, false, Some, None, Option, sym, ap, ◌∙◌, arith}
use Rattle.std.specs.Option.{MatchOption, unwrap_or}
use native.Mathlib.Nat.{pow-le-pow_right}
use Rattle.std.proofs.lemmas.Nat.{pow-add}
use Rattle.layout.specs.Capacity.{enough, or_else, power}
use Rattle.layout.proofs.Tests.{all_lowest, some_lowest}

-- three quarters of 2 ^ p
pub quarters : (p : ℕ) → 3 ≤ p → p < 10 → 4 * ((3 * 2 ^ (p - 2)) % 2 ^ 64) ≡ 3 * 2 ^ p
quarters p lo hi =
    let q : p - 2 + 2 ≡ p = omega arith in
    let e : 2 ^ p ≡ 2 ^ (p - 2) * 4 = ap (λ y. 2 ^ y) (sym q) ∙ pow-add 2 (p - 2) 2 in
    let m : 2 ^ (p - 2) ≤ 2 ^ 10 = pow-le-pow_right {n = 2} (omega arith) {i = p - 2} {j = 10} (omega arith) in
    omega arith

abbrev pub Enough : ℕ → ℕ → Type 0
Enough count p = 3 ≤ p → p < 10 → enough count p ≡ true

abbrev pub TooFew : ℕ → ℕ → Type 0
TooFew count p = 3 ≤ p → p < 10 → enough count p ≡ false

-- the first of 3 to 9 that is enough, or 10
pub power_found : (count : ℕ) (o : Option ℕ)
    → MatchOption o ((k : ℕ) → 3 ≤ k → k < 10 → TooFew count k) (λ i. (3 ≤ i) × (i < 10) × Enough count i × ((k : ℕ) → 3 ≤ k → k < i → TooFew count k)) → unwrap_or o 10 ≡ power count
unfolding power
power_found count None few = sym (ap (or_else 10) (all_lowest (enough count) 3 7 (λ j a b. few j a (omega arith) a (omega arith))))
power_found count (Some p) (a, b, y, below) =
    sym (ap (or_else 10) (some_lowest (enough count) 3 7 p a (omega arith) (y a b) (λ j c d. below j c d c (omega arith))))
