-- the layout of an ascending list is all in place and holds that list
use Rattle.std.proofs.Common.{◌≡◌, ℕ, zero, suc, ◌+◌, ◌<◌, ◌≤◌, true, cond, ◌⊎◌, ◌↔◌, List, [], ◌∷◌, length, set, replicate, is_some, Some, None, Option, sym, refl, ap, ◌∙◌, subst, inl, inr, arith}
use Rattle.std.proofs.lemmas.Bool.{cases_order, both_ways}
use Rattle.std.proofs.lemmas.List.{length-set, length-replicate, get_or-replicate}
use Rattle.layout.specs.Orders.{In, All, Precedes, Ascending}
use Rattle.layout.specs.Cells.{Rule, Lawful, at, next, distance, free, place, places, layout, filled, Held, Holds}
use Rattle.layout.specs.Places.{Reach, AllInPlace, FirstFree}
use Rattle.layout.proofs.Tests.{some_none, is_some_true}
use Rattle.layout.proofs.Round.{distance_same, distance_lt, next_lt, distance_next, distance_self}
use Rattle.layout.proofs.Unique.{unique}
use Rattle.layout.proofs.Steps.{held_set, held_set_other, held_set_same, set_empty}

-- where fewer cells are filled than there are, one is empty
pub vacancy : {R : Type 0} (c : List (Option R)) → filled c < length c → (e : ℕ) × (e < length c) × (at c e ≡ None)
vacancy [] l = absurd (omega arith)
vacancy (None ∷ c) l = (0, omega arith, refl)
vacancy (Some r ∷ c) l = let (e, a, n) = vacancy c (omega arith) in (suc e, omega arith, n)

pub filled_set : {R : Type 0} (c : List (Option R)) (i : ℕ) (r : R) → i < length c → at c i ≡ None → filled (set c i (Some r)) ≡ filled c + 1
filled_set [] i r l e = absurd (omega arith)
filled_set (o ∷ c) zero r l e = rw e (omega arith)
filled_set (None ∷ c) (suc i) r l e = filled_set c i r (omega arith) e
filled_set (Some x ∷ c) (suc i) r l e = omega (arith, filled_set c i r (omega arith) e)

pub filled_none : (R : Type 0) (n : ℕ) → filled {R = R} (replicate n None) ≡ 0
filled_none R zero = refl
filled_none R (suc n) = filled_none R n

pub filled_le : {R : Type 0} (c : List (Option R)) → filled c ≤ length c
filled_le [] = omega arith
filled_le (None ∷ c) = omega (arith, filled_le c)
filled_le (Some r ∷ c) = omega (arith, filled_le c)

module _ {R : Type 0} (cap : ℕ) (c : List (Option R)) (h : ℕ) (lh : h < cap) (e : ℕ) (le : e < cap) (none : at c e ≡ None) where
  abbrev pub Full : ℕ → Type 0
  Full i = (j : ℕ) → j < cap → distance cap h j < distance cap h i → is_some (at c j) ≡ true

  abbrev pub First : ℕ → Type 0
  First f = (f < cap) × (at c f ≡ None) × Full f

  full_next : (i : ℕ) → i < cap → Full i → is_some (at c i) ≡ true → (distance cap h (next cap i) ≡ distance cap h i + 1) × Full (next cap i)
  full_next i a full here = (m, more)
    where
      far : distance cap h i < distance cap h e
      far = elim (cases_order (distance cap h i) (distance cap h e)) [
        | inl q ↦ absurd (both_ways (is_some (at c i)) (rw (distance_same cap h i e lh a le q) (ap is_some none)) here)
        | inr (inl l) ↦ l
        | inr (inr l) ↦ absurd (both_ways (is_some (at c e)) (ap is_some none) (full e le l))
      ]

      m : distance cap h (next cap i) ≡ distance cap h i + 1
      m = distance_next cap h i lh a (omega (arith, distance_lt cap h e lh le, far))

      more : Full (next cap i)
      more j lj n = elim (cases_order (distance cap h j) (distance cap h i)) [
        | inl q ↦ rw (distance_same cap h j i lh lj a q) here
        | inr (inl l) ↦ full j lj l
        | inr (inr l) ↦ absurd (omega (arith, m))
      ]

  first : (n i : ℕ) → i < cap → distance cap h i + n ≡ cap → Full i → First (free cap c n i)
  unfolding free
  first zero i a s full = absurd (omega (arith, distance_lt cap h i lh a))
  first (suc n) i a s full = go (at c i) refl (λ here. first n (next cap i) (next_lt cap i a) (omega (arith, (full_next i a full here).0)) (full_next i a full here).1)
    where
      go : (o : Option R) → at c i ≡ o → (is_some (at c i) ≡ true → First (free cap c n (next cap i)))
          → First (cond (is_some (at c i)) (free cap c n (next cap i)) i)
      go None q rec = rw q (a, q, full)
      go (Some r) q rec = rw q (rec (ap is_some q))

-- the cells are as many as the rule says, all in place, n of them filled, and hold the records of which P is told
pub record Stands {R Key : Type 0} (K : Rule R Key) (c : List (Option R)) (P : R → Type 0) (n : ℕ) : Type 0 where
  pub size : length c ≡ K.capacity
  pub count : filled c ≡ n
  pub all : AllInPlace K c
  pub held : (s : R) → Held K c s ↔ P s

-- empty cells
pub empty_stands : {R Key : Type 0} (K : Rule R Key) → Stands K (replicate K.capacity None) (λ s. ⊥) 0
empty_stands {R} K = record {
  size = length-replicate K.capacity None;
  count = filled_none R K.capacity;
  all = λ i r l e. absurd (none r (i, l, e));
  held = λ s. (none s, λ z. absurd z);
}
  where
    none : (s : R) → Held K (replicate K.capacity None) s → ⊥
    none s (p, l, e) = some_none (at (replicate K.capacity None) p) s e (get_or-replicate K.capacity p None None l)

module _ {R Key : Type 0} (K : Rule R Key) (L : Lawful K) where
  pub place_at : (c : List (Option R)) (r : R) → length c ≡ K.capacity → filled c < K.capacity
      → (f : ℕ) × FirstFree K c (K.order.key r) f × (place K c r ≡ set c f (Some r))
  unfolding place
  place_at c r len room =
      let h : ℕ = K.home (K.order.key r) in
      let (e, le, none) = vacancy c (omega arith) in
      let lh : h < K.capacity = L.homes (K.order.key r) in
      let (within, free-there, full) = first K.capacity c h lh e (omega arith) none K.capacity h lh (omega (arith, distance_self K.capacity h))
      (λ j lj l. absurd (omega (arith, distance_self K.capacity h))) in
      (free K.capacity c K.capacity h, record { within = within; none = free-there; full = full }, refl)

  pub placed : (c : List (Option R)) (P : R → Type 0) (n : ℕ) (r : R) → Stands K c P n → n < K.capacity
      → ((s : R) → P s → K.order.before (K.order.key s) (K.order.key r) ≡ true) → Stands K (place K c r) (λ s. P s ⊎ (r ≡ s)) (n + 1)
  placed c P n r g room up =
      let (f, w, eq) = place_at c r g.size (omega (arith, g.count)) in
      subst (λ d. Stands K d (λ s. P s ⊎ (r ≡ s)) (n + 1)) (sym eq) (go f w)
    where
      go : (f : ℕ) → FirstFree K c (K.order.key r) f → Stands K (set c f (Some r)) (λ s. P s ⊎ (r ≡ s)) (n + 1)
      go f w = record {
        size = rw length-set g.size;
        count = filled_set c f r inside w.none ∙ rw g.count;
        all = set_empty K L c f r inside w.within g.all w.none reach;
        held = λ s. (to s, from s);
      }
        where
          inside : f < length c
          inside = omega (arith, g.size, w.within)

          reach : Reach K c (K.order.key r) f
          reach j lj n = let (s, e) = is_some_true (at c j) (w.full j lj n) in rw e (up s ((g.held s).0 (j, lj, e)))

          to : (s : R) → Held K (set c f (Some r)) s → P s ⊎ (r ≡ s)
          to s h = elim (held_set K c f (Some r) s inside h) [ inl q ↦ inr (cc) | inr (p, lp, n, e) ↦ inl ((g.held s).0 (p, lp, e)) ]

          from : (s : R) → P s ⊎ (r ≡ s) → Held K (set c f (Some r)) s
          from s (inl h) = let (p, lp, e) = (g.held s).1 h in held_set_other K c f (Some r) s p lp (λ q. some_none (at c f) s (rw q at e) w.none) e
          from s (inr q) = subst (Held K (set c f (Some r))) q (held_set_same K c f r inside w.within)

  pub all_placed : (rs : List R) (c : List (Option R)) (P : R → Type 0) (n : ℕ) → Stands K c P n → n + length rs ≤ K.capacity → Ascending K.order rs
      → ((s : R) → P s → All (Precedes K.order s) rs)
      → Stands K (places K c rs) (λ s. P s ⊎ In s rs) (n + length rs)
  unfolding places
  all_placed [] c P n g room up below = record {
    size = g.size;
    count = omega (arith, g.count);
    all = g.all;
    held = λ s. ((λ h. inl ((g.held s).0 h)), (elim [ inl h ↦ (g.held s).1 h | inr z ↦ absurd z ]));
  }
  all_placed (r ∷ rs) c P n g room up below =
      again (all_placed rs (place K c r) (λ s. P s ⊎ (r ≡ s)) (n + 1) (placed c P n r g (omega arith) (λ s h. (below s h).0)) (omega arith) up.1 (λ s. split s))
    where
      split : (s : R) → P s ⊎ (r ≡ s) → All (Precedes K.order s) rs
      split s (inl h) = (below s h).1
      split s (inr q) = subst (λ x. All (Precedes K.order x) rs) q up.0

      right : (s : R) → (P s ⊎ (r ≡ s)) ⊎ In s rs → P s ⊎ In s (r ∷ rs)
      right s (inl (inl h)) = inl h
      right s (inl (inr q)) = inr (inl q)
      right s (inr i) = inr (inr i)

      left : (s : R) → P s ⊎ In s (r ∷ rs) → (P s ⊎ (r ≡ s)) ⊎ In s rs
      left s (inl h) = inl (inl h)
      left s (inr (inl q)) = inl (inr q)
      left s (inr (inr i)) = inr i

      again : {d : List (Option R)} → Stands K d (λ s. (P s ⊎ (r ≡ s)) ⊎ In s rs) (n + 1 + length rs)
          → Stands K d (λ s. P s ⊎ In s (r ∷ rs)) (n + length (r ∷ rs))
      again h = record { size = h.size; count = omega (arith, h.count); all = h.all; held = λ s. ((λ x. right s ((h.held s).0 x)), (λ x. (h.held s).1 (left s x))) }

  -- the layout of a map is all in place, holds exactly the map, and fills as many cells as the map has records
  pub laid : (rs : List R) → Ascending K.order rs → length rs ≤ K.capacity → Stands K (layout K rs) (λ s. In s rs) (length rs)
  unfolding layout
  laid rs up room = trim (all_placed rs (replicate K.capacity None) (λ s. ⊥) 0 (empty_stands K) (omega arith) up (λ s z. absurd z))
    where
      trim : {d : List (Option R)} → Stands K d (λ s. ⊥ ⊎ In s rs) (0 + length rs) → Stands K d (λ s. In s rs) (length rs)
      trim h = record { size = h.size; count = omega (arith, h.count); all = h.all; held = λ s. ((λ x. elim ((h.held s).0 x) [ inl z ↦ absurd z | inr i ↦ i ]), (λ x. (h.held s).1 (inr x))) }

  pub is_layout : (c : List (Option R)) (rs : List R) → Ascending K.order rs → length rs ≤ K.capacity → length c ≡ K.capacity → AllInPlace K c
      → Holds K c rs → c ≡ layout K rs
  is_layout c rs up room len all holds =
      let g : Stands K (layout K rs) (λ s. In s rs) (length rs) = laid rs up room in
      unique K L c (layout K rs) all g.all rs holds g.held up len g.size
