-- arithmetic of the ring
use Rattle.std.proofs.Common.{◌≡◌, ℕ, zero, suc, ◌+◌, ◌-◌, ◌<◌, ◌≤◌, ◌≢◌, ◌⊎◌, arith}
use Rattle.std.proofs.lemmas.Bool.Decides.{nat_tests}
use Rattle.layout.specs.Cells.{next, after, distance}

pub distance_cases : (cap h i : ℕ) → ((distance cap h i ≡ i - h) × (h ≤ i)) ⊎ ((distance cap h i ≡ i + cap - h) × (i < h))
unfolding distance
distance_cases cap h i = grind (arith, nat_tests)

pub next_cases : (cap i : ℕ) → ((next cap i ≡ 0) × (i + 1 ≡ cap)) ⊎ ((next cap i ≡ i + 1) × (i + 1 ≢ cap))
unfolding next
next_cases cap i = grind (arith, nat_tests)

pub distance_same : (cap h i j : ℕ) → h < cap → i < cap → j < cap → distance cap h i ≡ distance cap h j → i ≡ j
distance_same cap h i j a b c e = omega (arith, distance_cases cap h i, distance_cases cap h j)

pub distance_lt : (cap h i : ℕ) → h < cap → i < cap → distance cap h i < cap
distance_lt cap h i a b = omega (arith, distance_cases cap h i)

pub next_lt : (cap i : ℕ) → i < cap → next cap i < cap
next_lt cap i a = omega (arith, next_cases cap i)

pub distance_next : (cap h i : ℕ) → h < cap → i < cap → distance cap h i + 1 < cap → distance cap h (next cap i) ≡ distance cap h i + 1
distance_next cap h i a b c = omega (arith, distance_cases cap h i, distance_cases cap h (next cap i), next_cases cap i)

-- i lies on the way from h to p, and j on the way from i to p
pub on_way : (cap h i j p : ℕ) → h < cap → i < cap → j < cap → p < cap → distance cap h i < distance cap h p → distance cap i j < distance cap i p
    → distance cap h j < distance cap h p
on_way cap h i j p a b c d u v = omega (arith, distance_cases cap h i, distance_cases cap h j, distance_cases cap h p, distance_cases cap i j, distance_cases cap i p)

pub span_room : (cap s h j : ℕ) → s < cap → h < cap → j < cap → distance cap s h < distance cap s j → distance cap s j + 1 < cap → distance cap h j + 1 < cap
span_room cap s h j a b c u v = omega (arith, distance_cases cap s h, distance_cases cap s j, distance_cases cap h j)

pub distance_self : (cap h : ℕ) → distance cap h h ≡ 0
distance_self cap h = omega (arith, distance_cases cap h h)

after_distance : (cap h : ℕ) → h < cap → (n : ℕ) → n < cap → (after cap n h < cap) × (distance cap h (after cap n h) ≡ n)
after_distance cap h a zero l = (a, distance_self cap h)
after_distance cap h a (suc n) l =
    let w = after_distance cap h a n (omega arith) in
    (next_lt cap (after cap n h) w.0, omega (arith, distance_next cap h (after cap n h) a w.0 (omega (arith, w.1)), w.1))

-- distance counts the steps
pub round_law : (cap h i : ℕ) → h < cap → i < cap → (distance cap h i < cap) × (after cap (distance cap h i) h ≡ i)
round_law cap h i a b =
    let l : distance cap h i < cap = distance_lt cap h i a b in
    let w = after_distance cap h a (distance cap h i) l in
    (l, distance_same cap h (after cap (distance cap h i) h) i a w.0 b w.1)
