-- the capacity that a count demands, and homes
use Rattle.std.proofs.Common.{◌≡◌, ℕ, ◌+◌, ◌*◌, ◌^◌, ◌<◌, ◌≤◌, true, false, Some, None, Option, sym, refl, ap, ◌∙◌, inl, inr, mul-le-mul_right, add-one, arith, lit<}
use native.Mathlib.Nat.{pow-le-pow_right, pow-succ'}
use Rattle.std.proofs.lemmas.Nat.{div_below, pow_pos}
use Rattle.std.proofs.lemmas.Bool.{cases_lt, cases_Bool, leb-true, leb-false, le-leb}
use Rattle.layout.specs.Orders.{Order, Ordered}
use Rattle.layout.specs.Tests.{lowest}
use Rattle.layout.specs.Capacity.{enough, or_else, power, capacity, Demanded, home_at}
use Rattle.layout.specs.Cells.{Lawful, hashed}
use Rattle.layout.proofs.Tests.{lowest_all, all_lowest, lowest_some, some_lowest}

pow_le : (p q : ℕ) → p ≤ q → 2 ^ p ≤ 2 ^ q
pow_le p q l = pow-le-pow_right {n = 2} (omega arith) {i = p} {j = q} l

double : (p : ℕ) → 2 ^ (p + 1) ≡ 2 * 2 ^ p
double p = rw add-one (pow-succ' 2 p)

pow_lt : (p q : ℕ) → p < q → 2 ^ p < 2 ^ q
pow_lt p q l = omega (arith, double p, pow_le (p + 1) q (omega arith), pow_pos p)

-- the count is at most three quarters of the capacity
not_enough : (count p : ℕ) → enough count p ≡ false → 3 * 2 ^ p < 4 * count
not_enough count p f = omega (arith, leb-false (4 * count) (3 * 2 ^ p) f)

-- the power that the count demands is told by what it is enough for
power_is : (count p : ℕ) → 3 ≤ p → p ≤ 10 → ((q : ℕ) → 3 ≤ q → q < p → enough count q ≡ false) → (p < 10 → enough count p ≡ true) → power count ≡ p
unfolding power
power_is count p a b below here =
    elim (cases_lt p 10) [
      | inl l ↦ ap (or_else 10) (some_lowest (enough count) 3 7 p a (omega arith) (here l) below)
      | inr g ↦ let e : p ≡ 10 = omega arith in ap (or_else 10) (all_lowest (enough count) 3 7 (λ j c d. below j c (omega arith))) ∙ sym e
    ]

-- a power from 3 to 10, none below it is enough, and up to 768 records it is
pub power_law : (count : ℕ)
    → (3 ≤ power count) × (power count ≤ 10) × ((q : ℕ) → 3 ≤ q → q < power count → 3 * 2 ^ q < 4 * count) × (count ≤ 768 → 4 * count ≤ 3 * 2 ^ power count)
unfolding power
power_law count = go (lowest (enough count) 3 7) refl
  where
    go : (o : Option ℕ) → lowest (enough count) 3 7 ≡ o
        → (3 ≤ power count) × (power count ≤ 10) × ((q : ℕ) → 3 ≤ q → q < power count → 3 * 2 ^ q < 4 * count) × (count ≤ 768 → 4 * count ≤ 3 * 2 ^ power count)
    go None e = rw e (omega arith, omega arith, (λ q a b. not_enough count q (lowest_all (enough count) 3 7 e q a (omega arith))), (λ l. omega arith))
    go (Some p) e = let h = lowest_some (enough count) 3 7 p e in
        rw e (h.0, omega (arith, h.1), (λ q a b. not_enough count q (h.3 q a b)), (λ l. leb-true (4 * count) (3 * 2 ^ p) h.2))

pub capacity_range : (count : ℕ) → (8 ≤ capacity count) × (capacity count ≤ 1024)
unfolding capacity
capacity_range count = let h = power_law count in (pow_le 3 (power count) h.0, pow_le (power count) 10 h.1)

pub capacity_demanded : (count : ℕ) → count ≤ 768 → Demanded count (capacity count)
unfolding capacity
capacity_demanded count l =
    let h = power_law count in
    record {
      is_power = (power count, h.0, h.1, refl);
      suffices = h.3 l;
      smallest = λ q a s. elim (cases_lt q (power count)) [
        | inl b ↦ absurd (omega (arith, h.2 q a b, s))
        | inr b ↦ pow_le (power count) q b
      ];
    }

-- and no other number is the capacity
pub demanded_only : (count cap : ℕ) → Demanded count cap → cap ≡ capacity count
unfolding capacity
demanded_only count cap d =
    let (p, a, b, e) = d.is_power in
    e ∙ ap (λ (x : ℕ). 2 ^ x) (sym (power_is count p a b
    (λ q c l. elim (cases_Bool (enough count q)) [
      | inl t ↦ absurd (omega (arith, pow_lt q p l, e, d.smallest q c (leb-true (4 * count) (3 * 2 ^ q) t)))
      | inr f ↦ f
    ])
    (λ l. le-leb (4 * count) (3 * 2 ^ p) (omega (arith, e, d.suffices)))))

-- an empty cell is left
pub capacity_room : (count : ℕ) → count ≤ 768 → count < capacity count
capacity_room count l = omega (arith, (capacity_demanded count l).suffices, (capacity_range count).0)

-- the home of a hash below 2^32 is one of the cells
pub home_below : (cap hash : ℕ) → 0 < cap → hash < 2 ^ 32 → home_at cap hash < cap
home_below cap hash pos small = div_below (hash * cap) (2 ^ 32) cap (lit< tt) (omega (arith, mul-le-mul_right {m = hash + 1} {n = 2 ^ 32} cap (omega arith)))

pub hashed_lawful : {R Key : Type 0} (O : Order R Key) → Ordered O → (hash : Key → ℕ) → ((k : Key) → hash k < 2 ^ 32) → (cap : ℕ) → 0 < cap
    → Lawful (hashed O hash cap)
hashed_lawful O ordered hash small cap pos = record { ordered = ordered; homes = λ k. home_below cap (hash k) pos (small k) }
