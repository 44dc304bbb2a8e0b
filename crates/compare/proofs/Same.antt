-- a map that has all the records of another, and the cells that lend them
use Rattle.std.proofs.Common.{◌≡◌, ℕ, zero, suc, ◌+◌, ◌-◌, ◌<◌, ◌≤◌, Bool, false, eqb, ◌↔◌, List, [], ◌∷◌, ◌++◌, map, length, get_or, take, drop, replicate, Some, None, Decides, Option, sym, refl, ap, ◌∙◌, subst, inl, inr, arith, length-take}
use Rattle.std.proofs.lemmas.List.{get_or-take, get_or-drop, ext_get_or}
use Rattle.std.proofs.lemmas.Bool.{both_ways, cases_lt, ne_eqb}
use Rattle.std.proofs.lemmas.Bool.Decides.{Decides-at, Decides-like}
use Rattle.kinds.specs.Kinds.{KeyLaws, ValueKind, ValueLaws}
use Rattle.kinds.specs.declared.record.Record.{Record}
use Rattle.layout.specs.Capacity.{capacity}
use Rattle.layout.specs.Cells.{at, records_of}
use Rattle.layout.specs.Orders.{Order, Ordered, In, Ascending, Precedes}
use Rattle.layout.proofs.Layouts.{sound_distinct}
use Rattle.layout.proofs.Maps.{get_in, same_map}
use Rattle.layout.proofs.MapLaws.{map_laws}
use Rattle.layout.proofs.Orders.{all_in, irrefl}
use Rattle.layout.proofs.Records.{Sits, records_in, some_inside}
use Rattle.layout.proofs.Tests.{some_none}
use Rattle.maps.specs.Commands.{found, get_answer}
use Rattle.maps.specs.Maps.{Kinds, Laid, lent, record_order}
use Rattle.maps.specs.declared.Answer.{Answer}
use Rattle.maps.specs.declared.Answer.TheVariants.{Found}
use Rattle.cells.specs.Rows.{row_key, row_order}
use Rattle.table.specs.Runs.{Stores}
use Rattle.cells.proofs.Rules.{ordered, rows_ordered, lawful}
use Rattle.table.proofs.Maps.{opened, keyed}
use Rattle.compare.specs.Compare.{StoresBySome, Lends, HasAll, Compares}

pub no : {P : Type 0} → (P → ⊥) → Decides false P
no h = ((λ e. absurd (both_ways false refl e)), (λ p. absurd (h p)))

module _ {R Key : Type 0} (O : Order R Key) (L : Ordered O) where
  -- a map whose records are all another's is that other, unless it has fewer
  as_many : (a b : List R) → Ascending O a → Ascending O b → length b ≤ length a → ((s : R) → In s a → In s b) → a ≡ b
  as_many [] [] ua ub n h = refl
  as_many [] (y ∷ ys) ua ub n h = absurd (omega arith)
  as_many (x ∷ xs) [] ua ub n h = absurd (h x (inl refl))
  as_many (x ∷ xs) (y ∷ ys) ua ub n h =
      elim (h x (inl refl)) [
        | inl e ↦ (let t : xs ≡ ys = as_many xs ys ua.1 ub.1 (omega arith) (λ s i. tail s e i (h s (inr i))) in cc)
        | inr i ↦ (let t : x ∷ xs ≡ ys = as_many (x ∷ xs) ys ua ub.1 (omega arith) (λ s j. later s (all_in (Precedes O y) ys x ub.0 i) j (h s j)) in absurd (omega (arith, ap length t)))
      ]
    where
      tail : (s : R) → y ≡ x → In s xs → In s (y ∷ ys) → In s ys
      tail s e i (inl w) = absurd (irrefl O L (O.key s) (rw (sym e ∙ w) at (all_in (Precedes O x) xs s ua.0 i)))
      tail s e i (inr g) = g

      later : (s : R) → Precedes O y x → In s (x ∷ xs) → In s (y ∷ ys) → In s ys
      later s p (inl e) (inl w) = absurd (irrefl O L (O.key s) (rw (w, e) at p))
      later s p (inr i) (inl w) = absurd (irrefl O L (O.key s) (rw w at (L.transitive (O.key y) (O.key x) (O.key s) p (all_in (Precedes O x) xs s ua.0 i))))
      later s p j (inr g) = g

in_map : {R S : Type 0} (f : R → S) (s : S) (m : List R) → In s (map f m) → (r : R) × In r m × (f r ≡ s)
in_map f s [] i = absurd i
in_map f s (r ∷ m) (inl e) = (r, inl refl, e)
in_map f s (r ∷ m) (inr i) = let (q, j, e) = in_map f s m i in (q, inr j, e)

map_in : {R S : Type 0} (f : R → S) (r : R) (m : List R) → In r m → In (f r) (map f m)
map_in f r [] i = absurd i
map_in f r (q ∷ m) (inl e) = inl (ap f e)
map_in f r (q ∷ m) (inr i) = inr (map_in f r m i)

none_at : {R : Type 0} (n i : ℕ) → at {R = R} (replicate n None) i ≡ None
none_at zero i = refl
none_at (suc n) zero = refl
none_at (suc n) (suc i) = none_at n i

-- what stands in cells of which all from cap on are empty stands in the others
front : {R : Type 0} (cap n : ℕ) (c : List (Option R)) → drop cap c ≡ replicate n None → (s : R) → Sits (take cap c) s ↔ Sits c s
front cap n c e s = (out, into)
  where
    out : Sits (take cap c) s → Sits c s
    out (i, h) = (i, sym (get_or-take cap c i None (omega (arith, some_inside (take cap c) i s h, length-take cap c))) ∙ h)

    into : Sits c s → Sits (take cap c) s
    into (i, h) = elim (cases_lt i cap) [
      | inl l ↦ (i, get_or-take cap c i None l ∙ h)
      | inr g ↦ (let k : cap + (i - cap) ≡ i = omega arith in
          absurd (some_none (at c i) s h (sym (ap (at c) k) ∙ sym (get_or-drop cap c (i - cap) None) ∙ ap (λ (d : List (Option _)). at d (i - cap)) e ∙ none_at n (i - cap))))
    ]

module _ {V : Type 0} (kind : ValueKind V) (laws : ValueLaws kind) where
  -- values whose codes have the same bytes are equal
  pub same_code : (v w : V) → length (kind.code v) ≡ length (kind.code w) → ((i : ℕ) → i < length (kind.code v) → get_or (kind.code v) i 0 ≡ get_or (kind.code w) i 0) → v ≡ w
  same_code v w n h = laws.codes.apart v w [] [] (ap (λ (c : List ℕ). c ++ []) (ext_get_or 0 (kind.code v) (kind.code w) n h))

-- what was read from a cell is what stands in it
pub lends_read : {K Row V : Type 0} (x : Kinds K Row V) (m : List (Record K V)) (o : Option (Record Row V)) (s t : Record Row V) → o ≡ Some s → o ≡ Some t → Lends x m t
    → Lends x m s
lends_read x m o s t e f h = let q : t ≡ s = cc in subst (Lends x m) q h

module _ {K Row V : Type 0} (x : Kinds K Row V) (laws : KeyLaws x.key) where
  lent_one : (r t : Record K V) → lent x r ≡ lent x t → r ≡ t
  lent_one r t e =
      let f : Some r.key ≡ Some t.key = sym (keyed x laws r) ∙ ap (row_key x) e ∙ keyed x laws t in
      let k : r.key ≡ t.key = cc in
      let v : r.value ≡ t.value = ap (λ (s : Record Row V). s.value) e in
      ap (λ (q : K). record { key = q; value = r.value }) k ∙ ap (λ (q : V). record { key = t.key; value = q }) v

  lends_in : (r : Record K V) (m : List (Record K V)) → Lends x m (lent x r) ↔ In r m
  lends_in r m = ((λ i. let (q, j, e) = in_map (lent x) (lent x r) m i in subst (λ (t : Record K V). In t m) (lent_one q r e) j), map_in (lent x) r m)

  -- a table's cells hold what its map lends
  sits_lends : (seed : ℕ) (m : List (Record K V)) (cells : List (Option (Record Row V))) → Laid x seed m cells → (s : Record Row V) → Sits cells s ↔ Lends x m s
  sits_lends seed m cells h s =
      let cap : ℕ = capacity (length m) in
      let o = opened x laws seed cap (length m) m cells h refl refl in
      let c : List (Option (Record Row V)) = take cap cells in
      let held : In s (records_of (row_order x) c) ↔ Sits c s = records_in (row_order x) (rows_ordered x laws) c (sound_distinct _ (lawful x laws seed c o.sound) c o.sound) s in
      let near : Sits c s ↔ Sits cells s = front cap (1024 - cap) cells o.rest s in
      ((λ i. subst (In s) o.records (held.1 (near.1 i))), (λ i. near.0 (held.0 (subst (In s) (sym o.records) i))))

  -- so they hold one map, under whatever seed
  one_map : (seed seed' : ℕ) (m n : List (Record K V)) (cells : List (Option (Record Row V))) → Laid x seed m cells → Laid x seed' n cells → m ≡ n
  one_map seed seed' m n cells h g = same_map (record_order x) (ordered x laws) m n h.lawful.ascending g.lawful.ascending (λ r. (over seed seed' m n h g r, over seed' seed n m g h r))
    where
      over : (s s' : ℕ) (a b : List (Record K V)) → Laid x s a cells → Laid x s' b cells → (r : Record K V) → In r a → In r b
      over s s' a b p q r i = (lends_in r b).0 ((sits_lends s' b cells q (lent x r)).0 ((sits_lends s a cells p (lent x r)).1 ((lends_in r a).1 i)))

  pub counted : (seed seed' count : ℕ) (m : List (Record K V)) (cells : List (Option (Record Row V))) → Stores x seed count cells → Laid x seed' m cells → count ≡ length m
  counted seed seed' count m cells (n, g, e) h = e ∙ ap length (one_map seed seed' n m cells g h)

  module _ (m : List (Record K V)) (up : Ascending (record_order x) m) (s : Record Row V) where
    -- a row that is no key's is in no map
    pub no_key : row_key x s ≡ None → Lends x m s → ⊥
    no_key none i = let (r, j, e) = in_map (lent x) s m i in some_none (row_key x s) r.key (ap (row_key x) (sym e) ∙ keyed x laws r) none

    -- and another is where the lookup of its key finds its value
    found_lends : (k : K) → row_key x s ≡ Some k → Lends x m s ↔ (get_answer (found x k m) ≡ Found s.value)
    found_lends k e = (to, from (found x k m) refl)
      where
        to : Lends x m s → get_answer (found x k m) ≡ Found s.value
        to i =
            let (r, j, q) = in_map (lent x) s m i in
            let f : Some r.key ≡ Some k = sym (keyed x laws r) ∙ ap (row_key x) q ∙ e in
            let same : r.key ≡ k = cc in
            ap get_answer (get_in (record_order x) (ordered x laws) k m up r j same) ∙ ap (λ (t : Record Row V). Found t.value) q

        from : (o : Option (Record K V)) → found x k m ≡ o → get_answer (found x k m) ≡ Found s.value → Lends x m s
        from None none a = let z : ◌≡◌ {A = ℕ} 0 1 = (let b : get_answer {K = K} {V = V} None ≡ Found s.value = sym (ap get_answer none) ∙ a in cc) in absurd (omega arith)
        from (Some r) is a =
            let b : get_answer (Some r) ≡ Found s.value = sym (ap get_answer is) ∙ a in
            let v : r.value ≡ s.value = cc in
            let (j, q) = ((map_laws (record_order x) (ordered x laws)).get_is k m up r).0 is in
            let w : lent x r ≡ s =
            ap (λ (t : Row). record { key = t; value = r.value }) (ap x.key.row q ∙ laws.rows.only s.key k e) ∙ ap (λ (t : V). record { key = s.key; value = t }) v in
            subst (Lends x m) w (map_in (lent x) r m j)

    -- so an answer tells whether it is
    module _ (k : K) (e : row_key x s ≡ Some k) (a : Answer V) (told : a ≡ get_answer (found x k m)) where
      pub value_tells : (v : V) → a ≡ Found v → (r : Bool) → Decides r (v ≡ s.value) → Decides r (Lends x m s)
      value_tells v is r d = Decides-like r (λ q. (found_lends k e).1 (sym told ∙ is ∙ ap Found q)) (λ i. (let f : Found v ≡ Found s.value = sym is ∙ told ∙ (found_lends k e).0 i in cc)) d

      pub none_tells : ((v : V) → a ≡ Found v → ⊥) → Decides false (Lends x m s)
      none_tells out = no (λ i. out s.value (told ∙ (found_lends k e).0 i))

  -- of as many records, one map has all of the other exactly when both are one
  all_same : (seed seed' : ℕ) (m n : List (Record K V)) (cells other : List (Option (Record Row V))) → Laid x seed m cells → Laid x seed' n other → length m ≡ length n
      → ((i : ℕ) (s : Record Row V) → at cells i ≡ Some s → Lends x n s) ↔ (m ≡ n)
  all_same seed seed' m n cells other h g e = (
    (λ all. as_many (record_order x) (ordered x laws) m n h.lawful.ascending g.lawful.ascending (omega arith)
        (λ r j. let (i, is) = (sits_lends seed m cells h (lent x r)).1 ((lends_in r m).1 j) in (lends_in r n).0 (all i (lent x r) is))),
    (λ q i s is. subst (λ (t : List (Record K V)). Lends x t s) q ((sits_lends seed m cells h s).0 (i, is))),
  )

  module _ (count other-count other_seed : ℕ) (cells other : List (Option (Record Row V))) (held : StoresBySome x count cells) (other-held : Stores x other_seed other-count other) where
    pub all_tell : count ≡ other-count → (r : Bool) → HasAll x other_seed other cells r → Compares x cells other r
    all_tell e r all seed seed' m n h g =
        let (n', g', c) = other-held in
        let few : length m ≡ length n' = sym (counted held.0 seed count m cells held.1 h) ∙ e ∙ c in
        let (to, from) = all_same seed other_seed m n' cells other h g' few in
        subst (λ (t : List (Record K V)). Decides r (m ≡ t)) (one_map other_seed seed' n' n other g' g) (Decides-like r to from (all n' g'))

    pub counts_tell : (count ≡ other-count → ⊥) → Compares x cells other (eqb count other-count)
    counts_tell ne seed seed' m n h g =
        Decides-at (eqb count other-count) false (ne_eqb count other-count ne)
        (no (λ q. ne (counted held.0 seed count m cells held.1 h ∙ ap length q ∙ sym (counted other_seed seed' other-count n other other-held g))))
