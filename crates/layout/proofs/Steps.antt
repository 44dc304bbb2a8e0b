-- single steps on cells: a write to one cell, a probe, a carried record
use Rattle.std.proofs.Common.{◌≡◌, ℕ, ◌+◌, ◌<◌, true, false, ◌≢◌, ◌⊎◌, ◌↔◌, List, length, set, Some, None, Option, sym, ◌∙◌, subst, inl, inr, arith}
use Rattle.std.proofs.lemmas.Bool.{cases_order, cases_eq, both_ways}
use Rattle.std.proofs.lemmas.List.{get_or-set_same, get_or-set_other}
use Rattle.layout.specs.Cells.{Rule, Lawful, at, next, distance, from_home, Held}
use Rattle.layout.specs.Places.{earlier, Reach, AllInPlace}
use Rattle.layout.proofs.Orders.{irrefl}
use Rattle.layout.proofs.Tests.{some_none}
use Rattle.layout.proofs.Round.{distance_same, distance_lt, distance_next, distance_self}
use Rattle.layout.proofs.Unique.{earlier_some, earlier_none}

-- a cell after a write
pub at_set : {R : Type 0} (c : List (Option R)) (i : ℕ) (o : Option R) (p : ℕ) → i < length c
    → ((p ≡ i) × (at (set c i o) p ≡ o)) ⊎ ((p ≢ i) × (at (set c i o) p ≡ at c p))
at_set c i o p l =
    elim (cases_eq p i) [
      | inl e ↦ inl (e, rw e (get_or-set_same c i o None l))
      | inr n ↦ inr (n, get_or-set_other c i p o None n)
    ]

module _ {R Key : Type 0} (K : Rule R Key) where
  -- a write to cell i leaves a way clear if i is off it or the new content is earlier
  pub reach_set : (c : List (Option R)) (i : ℕ) (o : Option R) (k : Key) (p : ℕ) → i < length c → Reach K c k p
      → (from_home K k i < from_home K k p → earlier K o k ≡ true) → Reach K (set c i o) k p
  reach_set c i o k p l reach new j a n =
      elim (at_set c i o j l) [
        | inl h ↦ rw h.1 (new (rw h.0 at n))
        | inr h ↦ rw h.1 (reach j a n)
      ]

  -- the records after a write
  pub held_set : (c : List (Option R)) (i : ℕ) (o : Option R) (s : R) → i < length c → Held K (set c i o) s
      → (o ≡ Some s) ⊎ ((p : ℕ) × (p < K.capacity) × (p ≢ i) × (at c p ≡ Some s))
  held_set c i o s l (p, a, e) =
      elim (at_set c i o p l) [
        | inl h ↦ inl (sym h.1 ∙ e)
        | inr h ↦ inr (p, a, h.0, sym h.1 ∙ e)
      ]

  pub held_set_other : (c : List (Option R)) (i : ℕ) (o : Option R) (s : R) → (p : ℕ) → p < K.capacity → p ≢ i → at c p ≡ Some s → Held K (set c i o) s
  held_set_other c i o s p a n e = (p, a, get_or-set_other c i p o None n ∙ e)

  pub held_set_same : (c : List (Option R)) (i : ℕ) (s : R) → i < length c → i < K.capacity → Held K (set c i (Some s)) s
  held_set_same c i s l a = (i, a, get_or-set_same c i (Some s) None l)

module _ {R Key : Type 0} (K : Rule R Key) (L : Lawful K) where
  pub reach_home : (c : List (Option R)) (k : Key) → Reach K c k (K.home k)
  reach_home c k j a l = absurd (omega (arith, distance_self K.capacity (K.home k)))

  -- one cell further, short of a whole turn
  pub reach_step : (c : List (Option R)) (k : Key) (i : ℕ) → i < K.capacity → from_home K k i + 1 < K.capacity → Reach K c k i → earlier K (at c i) k ≡ true
      → Reach K c k (next K.capacity i)
  reach_step c k i a room reach here j lj n =
      let h : ℕ = K.home k in
      let lh : h < K.capacity = L.homes k in
      let m : distance K.capacity h (next K.capacity i) ≡ distance K.capacity h i + 1 = distance_next K.capacity h i lh a room in
      elim (cases_order (distance K.capacity h j) (distance K.capacity h i)) [
        | inl q ↦ rw (distance_same K.capacity h j i lh lj a q) here
        | inr (inl l) ↦ reach j lj l
        | inr (inr l) ↦ absurd (omega arith)
      ]

  -- while all up to i hold earlier keys, an empty cell lies ahead
  pub ahead : (c : List (Option R)) (k : Key) (i e : ℕ) → i < K.capacity → e < K.capacity → at c e ≡ None → Reach K c k i → earlier K (at c i) k ≡ true
      → from_home K k i < from_home K k e
  ahead c k i e a b none reach here =
      elim (cases_order (from_home K k i) (from_home K k e)) [
        | inl q ↦ absurd (earlier_none K (at c i) k (rw (distance_same K.capacity (K.home k) i e (L.homes k) a b q) none) here)
        | inr (inl l) ↦ l
        | inr (inr l) ↦ absurd (earlier_none K (at c e) k none (reach e b l))
      ]

  -- one cell further, while an empty cell is left somewhere
  pub reach_next : (c : List (Option R)) (k : Key) (i e : ℕ) → i < K.capacity → e < K.capacity → at c e ≡ None → Reach K c k i → earlier K (at c i) k ≡ true
      → Reach K c k (next K.capacity i)
  reach_next c k i e a b none reach here =
      let far : from_home K k i < from_home K k e = ahead c k i e a b none reach here in
      reach_step c k i a (omega (arith, far, distance_lt K.capacity (K.home k) e (L.homes k) b)) reach here

  -- a probe that ends: the key is not held
  pub absent : (c : List (Option R)) (k : Key) (i : ℕ) → AllInPlace K c → i < K.capacity → Reach K c k i → earlier K (at c i) k ≡ false
      → ((s : R) → at c i ≡ Some s → K.order.key s ≡ k → ⊥) → (s : R) → Held K c s → K.order.key s ≡ k → ⊥
  absent c k i all a reach later other s (p, b, e) same =
      elim (cases_order (from_home K k p) (from_home K k i)) [
        | inl q ↦ other s (rw (distance_same K.capacity (K.home k) p i (L.homes k) b a q) at e) same
        | inr (inl l) ↦ irrefl K.order L.ordered k (rw same at (earlier_some K (at c p) s k e (reach p b l)))
        | inr (inr l) ↦ both_ways (earlier K (at c i) k) later (rw same at (all p s b e i a (rw same l)))
      ]

  -- a record put into a cell that its way reaches, where all that came behind the old content comes behind it too
  pub set_in_place : (c : List (Option R)) (i : ℕ) (r : R) → i < length c → i < K.capacity → AllInPlace K c → Reach K c (K.order.key r) i
      → ((k : Key) → earlier K (at c i) k ≡ true → K.order.before (K.order.key r) k ≡ true) → AllInPlace K (set c i (Some r))
  set_in_place c i r l a all reach new p s b e =
      elim (at_set c i (Some r) p l) [
        | inl h ↦ (let z : r ≡ s = cc in rw (h.0, ← z) (reach_set K c i (Some r) (K.order.key r) i l reach (λ n. absurd (omega arith))))
        | inr h ↦ reach_set K c i (Some r) (K.order.key s) p l (all p s b (sym h.1 ∙ e)) (λ n. new (K.order.key s) (all p s b (sym h.1 ∙ e) i a n))
      ]

  pub set_empty : (c : List (Option R)) (i : ℕ) (r : R) → i < length c → i < K.capacity → AllInPlace K c → at c i ≡ None → Reach K c (K.order.key r) i
      → AllInPlace K (set c i (Some r))
  set_empty c i r l a all none reach = set_in_place c i r l a all reach (λ k h. absurd (earlier_none K (at c i) k none h))

  -- the value of a key replaced
  pub set_again : (c : List (Option R)) (i : ℕ) (y r : R) → i < length c → i < K.capacity → AllInPlace K c → at c i ≡ Some y
      → K.order.key y ≡ K.order.key r → AllInPlace K (set c i (Some r))
  set_again c i y r l a all is same = set_in_place c i r l a all (rw same at (all i y a is)) (λ k h. rw same at (earlier_some K (at c i) y k is h))

  pub set_before : (c : List (Option R)) (i : ℕ) (y r : R) → i < length c → i < K.capacity → AllInPlace K c → at c i ≡ Some y
      → K.order.before (K.order.key r) (K.order.key y) ≡ true → Reach K c (K.order.key r) i → AllInPlace K (set c i (Some r))
  set_before c i y r l a all is lt reach = set_in_place c i r l a all reach (λ k h. L.ordered.transitive (K.order.key r) (K.order.key y) k lt (earlier_some K (at c i) y k is h))

  -- the record that was taken out is carried to the next cell
  pub carried : (c : List (Option R)) (i e : ℕ) (y r : R) → i < length c → i < K.capacity → e < K.capacity → at c e ≡ None → AllInPlace K c → at c i ≡ Some y
      → K.order.before (K.order.key r) (K.order.key y) ≡ true → Reach K (set c i (Some r)) (K.order.key y) (next K.capacity i)
  carried c i e y r l a b none all is lt =
      let ne : e ≢ i = λ q. some_none (at c i) y is (rw q at none) in
      reach_next (set c i (Some r)) (K.order.key y) i e a b (get_or-set_other c i e (Some r) None ne ∙ none)
      (reach_set K c i (Some r) (K.order.key y) i l (all i y a is) (λ n. absurd (omega arith)))
      (rw (get_or-set_same c i (Some r) None l) lt)

  -- the records with the carried one stay
  pub carried_held : (c : List (Option R)) (i : ℕ) (y r s : R) → i < length c → i < K.capacity → at c i ≡ Some y
      → (Held K c s ⊎ (r ≡ s)) ↔ (Held K (set c i (Some r)) s ⊎ (y ≡ s))
  carried_held c i y r s l a is = (to, from)
    where
      to : Held K c s ⊎ (r ≡ s) → Held K (set c i (Some r)) s ⊎ (y ≡ s)
      to (inl (p, b, e)) = elim (cases_eq p i) [
        | inl q ↦ inr (let e' : at c i ≡ Some s = rw q at e in cc)
        | inr n ↦ inl (held_set_other K c i (Some r) s p b n e)
      ]
      to (inr q) = inl (subst (Held K (set c i (Some r))) q (held_set_same K c i r l a))

      from : Held K (set c i (Some r)) s ⊎ (y ≡ s) → Held K c s ⊎ (r ≡ s)
      from (inl h) = elim (held_set K c i (Some r) s l h) [
        | inl q ↦ inr (cc)
        | inr (p, b, n, e) ↦ inl (p, b, e)
      ]
      from (inr q) = inl (i, a, rw (← q) is)
