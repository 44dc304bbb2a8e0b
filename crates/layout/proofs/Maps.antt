-- maps as ascending lists
use Rattle.std.proofs.Common.{◌≡◌, ℕ, ◌+◌, ◌≤◌, true, false, ◌≢◌, ◌⊎◌, ◌↔◌, List, [], ◌∷◌, length, Some, None, sym, refl, ap, ◌∙◌, subst, inl, inr, arith}
use Rattle.std.proofs.lemmas.Bool.{cond-true}
use Rattle.layout.specs.Orders.{Order, Ordered, In, All, Precedes, Ascending, Absent}
use Rattle.layout.specs.Map.{put, without, get, Keeps}
use Rattle.layout.proofs.Orders.{all_in, all_from_in, irrefl, asym, not_before, three, less, more, same}

module _ {R Key : Type 0} (O : Order R Key) (L : Ordered O) where
  module _ (j : R → R → R) (r : R) where
    pub put_less : (x : R) (xs : List R) → O.before (O.key r) (O.key x) ≡ true → put O j r (x ∷ xs) ≡ r ∷ x ∷ xs
    unfolding put
    put_less x xs t = cond-true (O.before (O.key r) (O.key x)) _ _ t

    pub put_more : (x : R) (xs : List R) → O.before (O.key r) (O.key x) ≡ false → O.before (O.key x) (O.key r) ≡ true
        → put O j r (x ∷ xs) ≡ x ∷ put O j r xs
    unfolding put
    put_more x xs f t = rw (f, t)

    pub put_same : (x : R) (xs : List R) → O.before (O.key r) (O.key x) ≡ false → O.before (O.key x) (O.key r) ≡ false → put O j r (x ∷ xs) ≡ j x r ∷ xs
    unfolding put
    put_same x xs f g = rw (f, g)

    -- a key that is absent comes in
    pub in_put_absent : (m : List R) → Absent O (O.key r) m → (s : R) → In s (put O j r m) ↔ ((r ≡ s) ⊎ In s m)
    unfolding put
    in_put_absent [] out s = ((λ h. h), (λ h. h))
    in_put_absent (x ∷ xs) out s =
        elim (three O L (O.key r) (O.key x)) [
          | less t f ↦ rw (put_less x xs t) ((λ h. h), (λ h. h))
          | more t f ↦ rw (put_more x xs f t) (let ih : In s (put O j r xs) ↔ ((r ≡ s) ⊎ In s xs) = in_put_absent xs (λ q i. out q (inr i)) s in (to ih, from ih))
          | same e f g ↦ absurd (out x (inl refl) (sym e))
        ]
      where
        to : In s (put O j r xs) ↔ ((r ≡ s) ⊎ In s xs) → (x ≡ s) ⊎ In s (put O j r xs) → (r ≡ s) ⊎ ((x ≡ s) ⊎ In s xs)
        to ih (inl q) = inr (inl q)
        to ih (inr i) = elim (ih.0 i) [ inl q ↦ inl q | inr h ↦ inr (inr h) ]

        from : In s (put O j r xs) ↔ ((r ≡ s) ⊎ In s xs) → (r ≡ s) ⊎ ((x ≡ s) ⊎ In s xs) → (x ≡ s) ⊎ In s (put O j r xs)
        from ih (inl q) = inr (ih.1 (inl q))
        from ih (inr (inl q)) = inl q
        from ih (inr (inr i)) = inr (ih.1 (inr i))

    pub length_put_absent : (m : List R) → Absent O (O.key r) m → length (put O j r m) ≡ length m + 1
    unfolding put
    length_put_absent [] out = refl
    length_put_absent (x ∷ xs) out =
        elim (three O L (O.key r) (O.key x)) [
          | less t f ↦ rw (put_less x xs t) (omega arith)
          | more t f ↦ rw (put_more x xs f t) (omega (arith, length_put_absent xs (λ q i. out q (inr i))))
          | same e f g ↦ absurd (out x (inl refl) (sym e))
        ]

    pub length_put_le : (m : List R) → length (put O j r m) ≤ length m + 1
    unfolding put
    length_put_le [] = omega arith
    length_put_le (x ∷ xs) =
        elim (three O L (O.key r) (O.key x)) [
          | less t f ↦ rw (put_less x xs t) (omega arith)
          | more t f ↦ rw (put_more x xs f t) (omega (arith, length_put_le xs))
          | same e f g ↦ rw (put_same x xs f g) (omega arith)
        ]

    module _ (keeps : Keeps O j) where
      all_put : (k : Key) (m : List R) → O.before k (O.key r) ≡ true → All (λ y. O.before k (O.key y) ≡ true) m
          → All (λ y. O.before k (O.key y) ≡ true) (put O j r m)
      unfolding put
      all_put k [] h all = (h, tt)
      all_put k (x ∷ xs) h all =
          elim (three O L (O.key r) (O.key x)) [
            | less t f ↦ rw (put_less x xs t) (h, all)
            | more t f ↦ rw (put_more x xs f t) (all.0, all_put k xs h all.1)
            | same e f g ↦ rw (put_same x xs f g) ((rw (keeps x r (sym e)) h), all.1)
          ]

      pub put_ascending : (m : List R) → Ascending O m → Ascending O (put O j r m)
      unfolding put
      put_ascending [] up = (tt, tt)
      put_ascending (x ∷ xs) up =
          elim (three O L (O.key r) (O.key x)) [
            | less t f ↦ rw (put_less x xs t) ((t, all_from_in (Precedes O r) xs (λ y i. L.transitive (O.key r) (O.key x) (O.key y) t (all_in (Precedes O x) xs y up.0 i))), up)
            | more t f ↦ rw (put_more x xs f t) (all_put (O.key x) xs t up.0, put_ascending xs up.1)
            | same e f g ↦ rw (put_same x xs f g) (subst (λ (k : Key). All (λ y. O.before k (O.key y) ≡ true) xs) (sym e ∙ sym (keeps x r (sym e))) up.0, up.1)
          ]

      -- a key that is there has its record replaced
      pub in_put_present : (m : List R) → Ascending O m → (old : R) → In old m → O.key old ≡ O.key r → (s : R)
          → In s (put O j r m) ↔ ((j old r ≡ s) ⊎ (In s m × (O.key s ≢ O.key r)))
      unfolding put
      in_put_present [] up old i eq s = absurd i
      in_put_present (x ∷ xs) up old (inl q) eq s =
          let ex : O.key x ≡ O.key r = ap O.key q ∙ eq in
          rw (put_same x xs (rw ex (L.irreflexive (O.key r))) (rw ex (L.irreflexive (O.key r)))) (to ex, from ex)
        where
          to : O.key x ≡ O.key r → (j x r ≡ s) ⊎ In s xs → (j old r ≡ s) ⊎ (In s (x ∷ xs) × (O.key s ≢ O.key r))
          to ex (inl e) = inl (rw (← q) e)
          to ex (inr i) = inr (inr i, λ w. irrefl O L (O.key r) (rw (ex, w) at (all_in (Precedes O x) xs s up.0 i)))

          from : O.key x ≡ O.key r → (j old r ≡ s) ⊎ (In s (x ∷ xs) × (O.key s ≢ O.key r)) → (j x r ≡ s) ⊎ In s xs
          from ex (inl e) = inl (rw q e)
          from ex (inr (inl e, w)) = absurd (w (sym (ap O.key e) ∙ ex))
          from ex (inr (inr i, w)) = inr i
      in_put_present (x ∷ xs) up old (inr i) eq s =
          let t : O.before (O.key x) (O.key r) ≡ true = rw eq at (all_in (Precedes O x) xs old up.0 i) in
          let ih : In s (put O j r xs) ↔ ((j old r ≡ s) ⊎ (In s xs × (O.key s ≢ O.key r))) = in_put_present xs up.1 old i eq s in
          rw (put_more x xs (not_before O L (O.key r) (O.key x) (λ u. asym O L (O.key x) (O.key r) t u)) t) (to t ih, from ih)
        where
          to : O.before (O.key x) (O.key r) ≡ true → In s (put O j r xs) ↔ ((j old r ≡ s) ⊎ (In s xs × (O.key s ≢ O.key r)))
              → (x ≡ s) ⊎ In s (put O j r xs) → (j old r ≡ s) ⊎ (In s (x ∷ xs) × (O.key s ≢ O.key r))
          to t ih (inl e) = inr (inl e, λ w. irrefl O L (O.key r) (rw (ap O.key e, w) at t))
          to t ih (inr h) = elim (ih.0 h) [ inl e ↦ inl e | inr g ↦ inr (inr g.0, g.1) ]

          from : In s (put O j r xs) ↔ ((j old r ≡ s) ⊎ (In s xs × (O.key s ≢ O.key r))) → (j old r ≡ s) ⊎ (In s (x ∷ xs) × (O.key s ≢ O.key r))
              → (x ≡ s) ⊎ In s (put O j r xs)
          from ih (inl e) = inr (ih.1 (inl e))
          from ih (inr (inl e, w)) = inl e
          from ih (inr (inr h, w)) = inr (ih.1 (inr (h, w)))

  -- a key leaves
  pub in_without : (k : Key) (m : List R) → Ascending O m → (s : R) → In s (without O k m) ↔ (In s m × (O.key s ≢ k))
  unfolding without
  in_without k [] up s = ((λ z. absurd z), (λ h. h.0))
  in_without k (x ∷ xs) up s =
      let ih : In s (without O k xs) ↔ (In s xs × (O.key s ≢ k)) = in_without k xs up.1 s in
      elim (three O L k (O.key x)) [
        | less t f ↦ rw t ((λ h. (h, off t h)), (λ h. h.0))
        | more t f ↦ rw (f, t) (to t ih, from ih)
        | same e f g ↦ rw (f, g) ((λ i. (inr i, λ w. irrefl O L k (rw (← e, w) at (behind i)))), (λ h. out e h))
      ]
    where
      behind : In s xs → O.before (O.key x) (O.key s) ≡ true
      behind i = all_in (Precedes O x) xs s up.0 i

      off : O.before k (O.key x) ≡ true → In s (x ∷ xs) → O.key s ≢ k
      off t (inl e) w = irrefl O L k (rw (ap O.key e, w) at t)
      off t (inr i) w = irrefl O L k (rw w at (L.transitive k (O.key x) (O.key s) t (behind i)))

      to : O.before (O.key x) k ≡ true → In s (without O k xs) ↔ (In s xs × (O.key s ≢ k)) → (x ≡ s) ⊎ In s (without O k xs) → In s (x ∷ xs) × (O.key s ≢ k)
      to t ih (inl e) = (inl e, λ w. irrefl O L k (rw (ap O.key e, w) at t))
      to t ih (inr i) = (inr (ih.0 i).0, (ih.0 i).1)

      from : In s (without O k xs) ↔ (In s xs × (O.key s ≢ k)) → In s (x ∷ xs) × (O.key s ≢ k) → (x ≡ s) ⊎ In s (without O k xs)
      from ih (inl e, w) = inl e
      from ih (inr i, w) = inr (ih.1 (i, w))

      out : k ≡ O.key x → In s (x ∷ xs) × (O.key s ≢ k) → In s xs
      out e (inl q, w) = absurd (w (sym (ap O.key q) ∙ sym e))
      out e (inr i, w) = i

  pub without_ascending : (k : Key) (m : List R) → Ascending O m → Ascending O (without O k m)
  unfolding without
  without_ascending k [] up = tt
  without_ascending k (x ∷ xs) up =
      elim (three O L k (O.key x)) [
        | less t f ↦ rw t up
        | more t f ↦ rw (f, t) (all_from_in (Precedes O x) (without O k xs) (λ y i. all_in (Precedes O x) xs y up.0 ((in_without k xs up.1 y).0 i).0), without_ascending k xs up.1)
        | same e f g ↦ rw (f, g) up.1
      ]

  pub length_without : (k : Key) (m : List R) → length (without O k m) ≤ length m
  unfolding without
  length_without k [] = omega arith
  length_without k (x ∷ xs) =
      elim (three O L k (O.key x)) [
        | less t f ↦ rw t (omega arith)
        | more t f ↦ rw (f, t) (omega (arith, length_without k xs))
        | same e f g ↦ rw (f, g) (omega arith)
      ]

  pub get_in : (k : Key) (m : List R) → Ascending O m → (s : R) → In s m → O.key s ≡ k → get O k m ≡ Some s
  unfolding get
  get_in k [] up s i eq = absurd i
  get_in k (x ∷ xs) up s (inl q) eq =
      let e : O.key x ≡ k = ap O.key q ∙ eq in
      rw (e, L.irreflexive k) (ap Some q)
  get_in k (x ∷ xs) up s (inr i) eq =
      let t : O.before (O.key x) k ≡ true = rw eq at (all_in (Precedes O x) xs s up.0 i) in
      let f : O.before k (O.key x) ≡ false = not_before O L k (O.key x) (λ u. asym O L (O.key x) k t u) in
      rw (f, t) (get_in k xs up.1 s i eq)

  pub get_out : (k : Key) (m : List R) → Absent O k m → get O k m ≡ None
  unfolding get
  get_out k [] out = refl
  get_out k (x ∷ xs) out =
      elim (three O L k (O.key x)) [
        | less t f ↦ rw t
        | more t f ↦ rw (f, t) (get_out k xs (λ s i. out s (inr i)))
        | same e f g ↦ absurd (out x (inl refl) (sym e))
      ]

  -- maps with the same records are the same list
  pub same_map : (a b : List R) → Ascending O a → Ascending O b → ((s : R) → In s a ↔ In s b) → a ≡ b
  same_map [] [] ua ub h = refl
  same_map [] (y ∷ ys) ua ub h = absurd ((h y).1 (inl refl))
  same_map (x ∷ xs) [] ua ub h = absurd ((h x).0 (inl refl))
  same_map (x ∷ xs) (y ∷ ys) ua ub h =
      let e : x ≡ y = heads ((h x).0 (inl refl)) ((h y).1 (inl refl)) in
      let t : xs ≡ ys = same_map xs ys ua.1 ub.1 (λ s. ((λ i. tail s xs ys x y e ua.0 i ((h s).0 (inr i))), (λ i. tail s ys xs y x (sym e) ub.0 i ((h s).1 (inr i))))) in
      cc
    where
      heads : In x (y ∷ ys) → In y (x ∷ xs) → x ≡ y
      heads (inl e) i = sym e
      heads (inr i) (inl e) = e
      heads (inr i) (inr i') = absurd (asym O L (O.key x) (O.key y) (all_in (Precedes O x) xs y ua.0 i') (all_in (Precedes O y) ys x ub.0 i))

      tail : (s : R) (ps qs : List R) (p q : R) → p ≡ q → All (Precedes O p) ps → In s ps → In s (q ∷ qs) → In s qs
      tail s ps qs p q e all i (inl w) = absurd (irrefl O L (O.key s) (rw (e ∙ w) at (all_in (Precedes O p) ps s all i)))
      tail s ps qs p q e all i (inr g) = g

  pub get_none_out : (k : Key) (m : List R) → Ascending O m → get O k m ≡ None → (s : R) → In s m → O.key s ≢ k
  get_none_out k m up none s i q = let e : get O k m ≡ Some s = get_in k m up s i q in let z : ◌≡◌ {A = ℕ} 0 1 = cc in omega arith
