-- the records of cells, and cells as the layout of their records
use Rattle.std.proofs.Common.{◌≡◌, ℕ, zero, suc, ◌<◌, ◌≤◌, ◌≢◌, ◌⊎◌, ◌↔◌, List, [], ◌∷◌, length, Some, None, Option, sym, refl, ap, subst, inl, inr, arith}
use Rattle.std.proofs.lemmas.Bool.{cases_lt}
use Rattle.std.proofs.lemmas.List.{get_or_past}
use Rattle.layout.specs.Orders.{Order, Ordered, In, Ascending}
use Rattle.layout.specs.Map.{put, newer}
use Rattle.layout.specs.Cells.{Rule, Lawful, at, layout, records_of, filled, Holds}
use Rattle.layout.specs.Places.{AllInPlace}
use Rattle.layout.proofs.Tests.{some_none}
use Rattle.layout.proofs.Maps.{in_put_absent, length_put_absent, length_put_le, put_ascending, same_map}
use Rattle.layout.proofs.Unique.{once}
use Rattle.layout.proofs.Laid.{filled_le, Stands, laid, is_layout}

abbrev pub Sits : {R : Type 0} → List (Option R) → R → Type 0
Sits c s = (i : ℕ) × (at c i ≡ Some s)

pub some_inside : {R : Type 0} (c : List (Option R)) (i : ℕ) (r : R) → at c i ≡ Some r → i < length c
some_inside c i r e = elim (cases_lt i (length c)) [ inl l ↦ l | inr g ↦ absurd (some_none (at c i) r e (get_or_past c i None g)) ]

sits_next : {R : Type 0} (o : Option R) (c : List (Option R)) (s : R) → Sits (o ∷ c) s → (o ≡ Some s) ⊎ Sits c s
sits_next o c s (zero, e) = inl e
sits_next o c s (suc i, e) = inr (i, e)

module _ {R Key : Type 0} (O : Order R Key) where
  abbrev pub Distinct : List (Option R) → Type 0
  Distinct c = (i j : ℕ) (r s : R) → at c i ≡ Some r → at c j ≡ Some s → O.key r ≡ O.key s → i ≡ j

  distinct_tail : (o : Option R) (c : List (Option R)) → Distinct (o ∷ c) → Distinct c
  distinct_tail o c d i j r s e f q = let z : suc i ≡ suc j = d (suc i) (suc j) r s e f q in omega arith

module _ {R Key : Type 0} (O : Order R Key) (L : Ordered O) where
  pub records_ascending : (c : List (Option R)) → Ascending O (records_of O c)
  unfolding records_of
  records_ascending [] = tt
  records_ascending (None ∷ c) = records_ascending c
  records_ascending (Some r ∷ c) = put_ascending O L newer r (λ old new e. refl) (records_of O c) (records_ascending c)

  pub records_le : (c : List (Option R)) → length (records_of O c) ≤ filled c
  unfolding records_of
  records_le [] = omega arith
  records_le (None ∷ c) = records_le c
  records_le (Some r ∷ c) = omega (arith, records_le c, length_put_le O L newer r (records_of O c))

  records_out : (r : R) (c : List (Option R)) → Distinct O (Some r ∷ c) → ((q : R) → In q (records_of O c) ↔ Sits c q) → (q : R) → In q (records_of O c)
      → O.key q ≢ O.key r
  records_out r c d ih q h w = let (i, e) = (ih q).0 h in let z : suc i ≡ 0 = d (suc i) 0 q r e refl w in omega arith

  records_more : (r : R) (c : List (Option R)) → Distinct O (Some r ∷ c) → ((q : R) → In q (records_of O c) ↔ Sits c q) → (s : R)
      → In s (put O newer r (records_of O c)) ↔ Sits (Some r ∷ c) s
  records_more r c d ih s = (to, from)
    where
      new : In s (put O newer r (records_of O c)) ↔ ((r ≡ s) ⊎ In s (records_of O c))
      new = in_put_absent O L newer r (records_of O c) (records_out r c d ih) s

      to : In s (put O newer r (records_of O c)) → Sits (Some r ∷ c) s
      to h = elim (new.0 h) [ inl q ↦ (0, ap Some q) | inr g ↦ (let (i, e) = (ih s).0 g in (suc i, e)) ]

      from : Sits (Some r ∷ c) s → In s (put O newer r (records_of O c))
      from h = elim (sits_next (Some r) c s h) [ inl e ↦ new.1 (inl (cc)) | inr g ↦ new.1 (inr ((ih s).1 g)) ]

  pub records_in : (c : List (Option R)) → Distinct O c → (s : R) → In s (records_of O c) ↔ Sits c s
  unfolding records_of
  records_in [] d s = ((λ z. absurd z), (λ (i, e). some_none None s e refl))
  records_in (None ∷ c) d s =
      let ih : In s (records_of O c) ↔ Sits c s = records_in c (distinct_tail O None c d) s in
      ((λ h. let (i, e) = ih.0 h in (suc i, e)), (λ h. elim (sits_next None c s h) [ inl e ↦ absurd (some_none None s e refl) | inr g ↦ ih.1 g ]))
  records_in (Some r ∷ c) d s = records_more r c d (records_in c (distinct_tail O (Some r) c d)) s

  pub records_count : (c : List (Option R)) → Distinct O c → length (records_of O c) ≡ filled c
  unfolding records_of
  records_count [] d = refl
  records_count (None ∷ c) d = records_count c (distinct_tail O None c d)
  records_count (Some r ∷ c) d = omega (arith, records_count c (distinct_tail O (Some r) c d), length_put_absent O L newer r (records_of O c) (records_out r c d (records_in c (distinct_tail O (Some r) c d))))

module _ {R Key : Type 0} (K : Rule R Key) (L : Lawful K) where
  pub distinct : (c : List (Option R)) → length c ≡ K.capacity → AllInPlace K c → Distinct K.order c
  distinct c len all i j r s e f q = once K L c all i j r s (omega (arith, some_inside c i r e)) (omega (arith, some_inside c j s f)) e f q

  pub records_held : (c : List (Option R)) → length c ≡ K.capacity → AllInPlace K c → Holds K c (records_of K.order c)
  records_held c len all s =
      let h : In s (records_of K.order c) ↔ Sits c s = records_in K.order L.ordered c (distinct c len all) s in
      ((λ (i, l, e). h.1 (i, e)), (λ x. let (i, e) = h.0 x in (i, omega (arith, some_inside c i s e), e)))

  -- cells are the layout of their records exactly when all are in place
  pub layout_iff : (c : List (Option R)) → length c ≡ K.capacity → AllInPlace K c ↔ (c ≡ layout K (records_of K.order c))
  layout_iff c len =
      let room : length (records_of K.order c) ≤ K.capacity = omega (arith, records_le K.order L.ordered c, filled_le c) in
      let up : Ascending K.order (records_of K.order c) = records_ascending K.order L.ordered c in (
        (λ all. is_layout K L c (records_of K.order c) up room len all (records_held c len all)),
        (λ e. subst (AllInPlace K) (sym e) (laid K L (records_of K.order c) up room).all),
      )

  -- and a map is the records of its layout
  pub records_layout : (m : List R) → Ascending K.order m → length m ≤ K.capacity → records_of K.order (layout K m) ≡ m
  records_layout m up room =
      let g : Stands K (layout K m) (λ s. In s m) (length m) = laid K L m up room in
      let h : Holds K (layout K m) (records_of K.order (layout K m)) = records_held (layout K m) g.size g.all in
      same_map K.order L.ordered (records_of K.order (layout K m)) m (records_ascending K.order L.ordered (layout K m)) up (λ s. ((λ i. (g.held s).0 ((h s).1 i)), (λ i. (h s).0 ((g.held s).1 i))))
