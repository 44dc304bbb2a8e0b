-- all in place: one layout for a set of records
use Rattle.std.proofs.Common.{◌≡◌, ℕ, ◌<◌, true, false, ◌⊎◌, List, [], ◌∷◌, length, Some, None, Option, sym, refl, ◌∙◌, subst, inl, inr, arith}
use Rattle.std.proofs.lemmas.Bool.{cases_order, both_ways}
use Rattle.std.proofs.lemmas.List.{ext_get_or}
use Rattle.layout.specs.Orders.{In, Precedes, Ascending}
use Rattle.layout.specs.Cells.{Rule, Lawful, at, from_home, Held, Holds}
use Rattle.layout.specs.Places.{earlier, AllInPlace}
use Rattle.layout.proofs.Orders.{all_in, irrefl, asym}
use Rattle.layout.proofs.Round.{distance_same}

module _ {R Key : Type 0} (K : Rule R Key) where
  -- what an earlier cell holds
  pub earlier_is : (o : Option R) (k : Key) → earlier K o k ≡ true → (r : R) × (o ≡ Some r) × (K.order.before (K.order.key r) k ≡ true)
  earlier_is None k e = absurd (both_ways false refl e)
  earlier_is (Some r) k e = (r, refl, e)

  pub earlier_some : (o : Option R) (r : R) (k : Key) → o ≡ Some r → earlier K o k ≡ true → K.order.before (K.order.key r) k ≡ true
  earlier_some o r k e h = cc

  pub earlier_none : (o : Option R) (k : Key) → o ≡ None → earlier K o k ≡ true → ⊥
  earlier_none o k e h = let z : false ≡ true = cc in both_ways false refl z

module _ {R Key : Type 0} (K : Rule R Key) (L : Lawful K) where
  -- one cell for a key
  pub once : (c : List (Option R)) → AllInPlace K c → (i j : ℕ) (r s : R) → i < K.capacity → j < K.capacity → at c i ≡ Some r → at c j ≡ Some s
      → K.order.key r ≡ K.order.key s → i ≡ j
  once c all i j r s a b e f same =
      elim (cases_order (from_home K (K.order.key s) i) (from_home K (K.order.key s) j)) [
        | inl e' ↦ distance_same K.capacity (K.home (K.order.key s)) i j (L.homes (K.order.key s)) a b e'
        | inr (inl l) ↦ absurd (irrefl K.order L.ordered (K.order.key s) (rw same at (earlier_some K (at c i) r (K.order.key s) e (all j s b f i a l))))
        | inr (inr l) ↦ absurd (irrefl K.order L.ordered (K.order.key r) (rw (← same) at (earlier_some K (at c j) s (K.order.key r) f (all i r a e j b (rw same l)))))
      ]

  module _ (c d : List (Option R)) where
    abbrev Agreed : R → Type 0
    Agreed r = (i : ℕ) → i < K.capacity → (at c i ≡ Some r → at d i ≡ Some r) × (at d i ≡ Some r → at c i ≡ Some r)

  not_nearer : (c d : List (Option R)) → AllInPlace K d → (i j : ℕ) (r : R) → i < K.capacity → j < K.capacity → at c i ≡ Some r → at d j ≡ Some r
      → ((s : R) → K.order.before (K.order.key s) (K.order.key r) ≡ true → at d i ≡ Some s → at c i ≡ Some s)
      → from_home K (K.order.key r) i < from_home K (K.order.key r) j → ⊥
  not_nearer c d all i j r a b e f before l =
      let (s, is, lt) = earlier_is K (at d i) (K.order.key r) (all j r b f i a l) in
      let e' : at c i ≡ Some s = before s lt is in
      let z : K.order.key s ≡ K.order.key r = cc in
      irrefl K.order L.ordered (K.order.key r) (rw z at lt)

  same_place : (c d : List (Option R)) → AllInPlace K c → AllInPlace K d → (r : R)
      → ((s : R) → Held K c s ⊎ Held K d s → K.order.before (K.order.key s) (K.order.key r) ≡ true → Agreed c d s) → (i j : ℕ) → i < K.capacity
      → j < K.capacity → at c i ≡ Some r → at d j ≡ Some r → i ≡ j
  same_place c d allc alld r before i j a b e f =
      elim (cases_order (from_home K (K.order.key r) i) (from_home K (K.order.key r) j)) [
        | inl e' ↦ distance_same K.capacity (K.home (K.order.key r)) i j (L.homes (K.order.key r)) a b e'
        | inr (inl l) ↦ absurd (not_nearer c d alld i j r a b e f (λ s lt is. (before s (inr (i, a, is)) lt i a).1 is) l)
        | inr (inr l) ↦ absurd (not_nearer d c allc j i r b a f e (λ s lt is. (before s (inl (j, b, is)) lt j b).0 is) l)
      ]

  settled : (c d : List (Option R)) → AllInPlace K c → AllInPlace K d → (r : R) → Held K c r → Held K d r
      → ((s : R) → Held K c s ⊎ Held K d s → K.order.before (K.order.key s) (K.order.key r) ≡ true → Agreed c d s) → Agreed c d r
  settled c d allc alld r (i, a, e) (j, b, f) before n l = (
    (λ h. let z : n ≡ j = same_place c d allc alld r before n j l b h f in rw z f),
    (λ h. let z : i ≡ n = same_place c d allc alld r before i n a l e h in rw (← z) e),
  )

  module _ (c d : List (Option R)) (allc : AllInPlace K c) (alld : AllInPlace K d) (rs : List R) (hc : Holds K c rs) (hd : Holds K d rs) where
    walk : (s : List R) → Ascending K.order s → ((r : R) → In r s → In r rs) → ((r : R) → In r rs → In r s ⊎ Agreed c d r) → (r : R) → In r rs → Agreed c d r
    walk [] up sub known r i = elim (known r i) [ inl z ↦ absurd z | inr g ↦ g ]
    walk (x ∷ xs) up sub known r i = walk xs up.1 (λ q h. sub q (inr h)) more r i
      where
        old : (s : R) → K.order.before (K.order.key s) (K.order.key x) ≡ true → In s (x ∷ xs) ⊎ Agreed c d s → Agreed c d s
        old s lt (inl (inl e)) = absurd (irrefl K.order L.ordered (K.order.key x) (rw (← e) at lt))
        old s lt (inl (inr h)) = absurd (asym K.order L.ordered (K.order.key x) (K.order.key s) (all_in (Precedes K.order x) xs s up.0 h) lt)
        old s lt (inr g) = g

        inn : (s : R) → Held K c s ⊎ Held K d s → In s rs
        inn s (inl h) = (hc s).0 h
        inn s (inr h) = (hd s).0 h

        here : Agreed c d x
        here = settled c d allc alld x ((hc x).1 (sub x (inl refl))) ((hd x).1 (sub x (inl refl))) (λ s h lt. old s lt (known s (inn s h)))

        shift : (q : R) → In q (x ∷ xs) ⊎ Agreed c d q → In q xs ⊎ Agreed c d q
        shift q (inl (inl e)) = inr (subst (Agreed c d) e here)
        shift q (inl (inr h)) = inl h
        shift q (inr g) = inr g

        more : (q : R) → In q rs → In q xs ⊎ Agreed c d q
        more q h = shift q (known q h)

    pub unique : Ascending K.order rs → length c ≡ K.capacity → length d ≡ K.capacity → c ≡ d
    unique up lc ld = ext_get_or None c d (lc ∙ sym ld) (λ i l. cell i (omega arith) (at c i) (at d i) refl refl)
      where
        agreed : (r : R) → In r rs → Agreed c d r
        agreed = walk rs up (λ r h. h) (λ r h. inl h)

        cell : (i : ℕ) → i < K.capacity → (o p : Option R) → at c i ≡ o → at d i ≡ p → at c i ≡ at d i
        cell i l None None e f = cc
        cell i l None (Some r) e f = let g : at c i ≡ Some r = (agreed r ((hd r).0 (i, l, f)) i l).1 f in cc
        cell i l (Some r) p e f = let g : at d i ≡ Some r = (agreed r ((hc r).0 (i, l, e)) i l).0 e in cc
