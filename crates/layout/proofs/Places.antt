-- the test of a cell's place decides whether what it holds is in place
use Rattle.std.proofs.Common.{◌≡◌, ℕ, ◌+◌, ◌-◌, ◌<◌, true, false, not, ◌≢◌, ◌↔◌, List, is_some, Some, None, Option, sym, refl, ap, ◌∙◌, inl, inr, arith}
use Rattle.std.proofs.lemmas.Bool.{cases_lt, cases_Bool, both_ways, and_left, and_right, and_cases, lt-ltb, le-ltb, not-false}
use Rattle.layout.specs.Cells.{Rule, Lawful, at, next, from_home}
use Rattle.layout.specs.Places.{earlier, Reach, InPlace, AllInPlace, bars, barred, out_of_place, first_out, Lowest}
use Rattle.layout.specs.Walks.{Way}
use Rattle.layout.proofs.Tests.{is_some_false, lowest_all, all_lowest, lowest_some, some_lowest}
use Rattle.layout.proofs.Round.{distance_same, distance_lt, next_lt, distance_next, distance_self}
use Rattle.layout.proofs.Steps.{reach_home, reach_step}

module _ {R Key : Type 0} (K : Rule R Key) (cells : List (Option R)) where
  pub unbarred_reach : (k : Key) (i : ℕ) → barred K cells k i ≡ false → Reach K cells k i
  unbarred_reach k i e j lj near =
      let b = lowest_all (bars K cells k i) 0 K.capacity (is_some_false _ e) j (omega arith) (omega arith) in
      elim (and_cases _ _ b) [
        | inl f ↦ absurd (both_ways _ f (lt-ltb _ _ near))
        | inr f ↦ not-false _ f
      ]

  pub reach_unbarred : (k : Key) (i : ℕ) → Reach K cells k i → barred K cells k i ≡ false
  reach_unbarred k i h = ap is_some (all_lowest (bars K cells k i) 0 K.capacity (λ j a b. elim (cases_lt (from_home K k j) (from_home K k i)) [
    | inl near ↦ and_right _ _ (ap not (h j (omega arith) near))
    | inr far ↦ and_left _ _ (le-ltb _ _ far)
  ]))

  -- a cell on the way that holds no earlier key
  pub barred_by : (k : Key) (i j : ℕ) → j < K.capacity → from_home K k j < from_home K k i → earlier K (at cells j) k ≡ false → barred K cells k i ≡ true
  barred_by k i j lj near later =
      elim (cases_Bool (barred K cells k i)) [
        | inl t ↦ t
        | inr f ↦ absurd (both_ways (earlier K (at cells j) k) later (unbarred_reach k i f j lj near))
      ]

  pub empty_cell : (i : ℕ) → at cells i ≡ None → out_of_place K cells i ≡ false
  unfolding out_of_place
  empty_cell i e = rw e

  pub filled_cell : (i : ℕ) (r : R) → at cells i ≡ Some r → out_of_place K cells i ≡ barred K cells (K.order.key r) i
  unfolding out_of_place
  filled_cell i r e = rw e

  pub placed_in : (i : ℕ) → out_of_place K cells i ≡ false → InPlace K cells i
  placed_in i e r is = unbarred_reach (K.order.key r) i (sym (filled_cell i r is) ∙ e)

  pub in_placed : (i : ℕ) → InPlace K cells i → out_of_place K cells i ≡ false
  in_placed i h = go (at cells i) refl
    where
      go : (o : Option R) → at cells i ≡ o → out_of_place K cells i ≡ false
      go None e = empty_cell i e
      go (Some r) e = filled_cell i r e ∙ reach_unbarred (K.order.key r) i (h r e)

  -- the test decides
  pub in_place_iff : (i : ℕ) → (out_of_place K cells i ≡ false) ↔ InPlace K cells i
  in_place_iff i = (placed_in i, in_placed i)

  not_placed : (i : ℕ) → (InPlace K cells i → ⊥) → out_of_place K cells i ≡ true
  not_placed i h = elim (cases_Bool (out_of_place K cells i)) [ inl t ↦ t | inr f ↦ absurd (h (placed_in i f)) ]

  -- none is out of place exactly when all are in place
  pub first_out_none : (first_out K cells ≡ None) ↔ AllInPlace K cells
  first_out_none = (
    (λ e i r l is. placed_in i (lowest_all (out_of_place K cells) 0 K.capacity e i (omega arith) (omega arith)) r is),
    (λ all. all_lowest (out_of_place K cells) 0 K.capacity (λ j a b. in_placed j (λ r is. all j r (omega arith) is))),
  )

  -- and the first one out of place is the lowest that is not in place
  pub first_out_some : (i : ℕ) → (first_out K cells ≡ Some i) ↔ Lowest K cells i
  first_out_some i = (
    (λ e. let h = lowest_some (out_of_place K cells) 0 K.capacity i e in
        record { within = omega (arith, h.1); below = λ j l. placed_in j (h.3 j (omega arith) l); out = λ p. both_ways (out_of_place K cells i) (in_placed i p) h.2 }),
    (λ w. some_lowest (out_of_place K cells) 0 K.capacity i (omega arith) (omega (arith, w.within)) (not_placed i w.out) (λ j a b. in_placed j (w.below j b))),
  )

-- the walk that finds out: from the home of k towards cell i
module _ {R Key : Type 0} (K : Rule R Key) (L : Lawful K) (c : List (Option R)) (k : Key) (i : ℕ) (li : i < K.capacity) where
  pub way_start : (j : ℕ) → j ≡ K.home k → Way K c k i j
  way_start j e = rw e (L.homes k, omega (arith, distance_self K.capacity (K.home k)), reach_home K L c k)

  pub way_end : Way K c k i i → barred K c k i ≡ false
  way_end (lj, le, reach) = reach_unbarred K c k i reach

  module _ (j : ℕ) (ne : j ≢ i) (w : Way K c k i j) where
    near : from_home K k j < from_home K k i
    near = let apart : from_home K k j ≢ from_home K k i = λ q. ne (distance_same K.capacity (K.home k) j i (L.homes k) w.0 li q) in omega (arith, w.1, apart)

    pub way_on : (y : R) → at c j ≡ Some y → K.order.before (K.order.key y) k ≡ true → (n : ℕ) → n ≡ next K.capacity j
        → Way K c k i n × (from_home K k i - from_home K k n < from_home K k i - from_home K k j)
    way_on y is lt n e =
        let short : from_home K k j < from_home K k i = near in
        let top : from_home K k i < K.capacity = distance_lt K.capacity (K.home k) i (L.homes k) li in
        let d : from_home K k (next K.capacity j) ≡ from_home K k j + 1 = distance_next K.capacity (K.home k) j (L.homes k) w.0 (omega arith) in
        rw e ((next_lt K.capacity j w.0, omega arith, reach_step K L c k j w.0 (omega arith) w.2 (rw is lt)), omega arith)

    pub way_empty : at c j ≡ None → barred K c k i ≡ true
    way_empty is = barred_by K c k i j w.0 near (rw is)

    pub way_later : (y : R) → at c j ≡ Some y → K.order.before (K.order.key y) k ≡ false → barred K c k i ≡ true
    way_later y is f = barred_by K c k i j w.0 near (rw is f)
