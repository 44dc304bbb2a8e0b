-- what a map gives after a put and after a removal
use Rattle.std.proofs.Common.{◌≡◌, suc, ◌+◌, ◌≢◌, ◌↔◌, List, [], ◌∷◌, length, Some, None, Option, sym, refl, ap, ◌∙◌, inl, inr, arith}
use Rattle.layout.specs.Orders.{Order, Ordered, In, Precedes, Ascending, Absent}
use Rattle.layout.specs.Map.{put, without, get, joined, Keeps}
use Rattle.layout.specs.Theorems.{MapLaws}
use Rattle.layout.proofs.Orders.{all_in, irrefl, asym, three, less, more, same}
use Rattle.layout.proofs.Tests.{some_none}
use Rattle.layout.proofs.Maps.{in_put_absent, length_put_absent, put_ascending, in_put_present, in_without, without_ascending, get_in, get_out, same_map, get_none_out}

module _ {R Key : Type 0} (O : Order R Key) (L : Ordered O) where
  -- what is found is in the map, under that key
  pub get_some : (k : Key) (m : List R) (s : R) → get O k m ≡ Some s → In s m × (O.key s ≡ k)
  unfolding get
  get_some k [] s e = absurd (some_none None s e refl)
  get_some k (x ∷ xs) s e =
      elim (three O L k (O.key x)) [
        | less t f ↦ absurd (some_none None s (rw t at e) refl)
        | more t f ↦ (let h = get_some k xs s (rw (f, t) at e) in (inr h.0, h.1))
        | same q f g ↦ (let e' : Some x ≡ Some s = rw (f, g) at e in let z : x ≡ s = cc in (inl z, ap O.key (sym z) ∙ sym q))
      ]

  -- every other record stays under a put
  in_put_other : (join : R → R → R) → Keeps O join → (r : R) (m : List R) → Ascending O m → (s : R) → O.key s ≢ O.key r → In s (put O join r m) ↔ In s m
  in_put_other join keeps r m up s ne = go (get O (O.key r) m) refl
    where
      go : (o : Option R) → get O (O.key r) m ≡ o → In s (put O join r m) ↔ In s m
      go None e =
          let h = in_put_absent O L join r m (get_none_out O L (O.key r) m up e) s in
          ((λ i. elim (h.0 i) [ inl q ↦ absurd (ne (ap O.key (sym q))) | inr g ↦ g ]), (λ i. h.1 (inr i)))
      go (Some old) e =
          let g = get_some (O.key r) m old e in
          let h = in_put_present O L join r keeps m up old g.0 g.1 s in
          ((λ i. elim (h.0 i) [ inl q ↦ absurd (ne (ap O.key (sym q) ∙ keeps old r g.1)) | inr p ↦ p.0 ]), (λ i. h.1 (inr (i, ne))))

  -- maps that agree on the records of a key give the same for it
  same_get : (k : Key) (a b : List R) → Ascending O a → Ascending O b → ((s : R) → O.key s ≡ k → In s a ↔ In s b) → get O k a ≡ get O k b
  same_get k a b ua ub h = go (get O k b) refl
    where
      go : (o : Option R) → get O k b ≡ o → get O k a ≡ get O k b
      go None e = get_out O L k a (λ s i q. get_none_out O L k b ub e s ((h s q).0 i) q) ∙ sym e
      go (Some s) e = let g = get_some k b s e in get_in O L k a ua s ((h s g.1).1 g.0) g.1 ∙ sym e

  get_put_same : (join : R → R → R) → Keeps O join → (r : R) (m : List R) → Ascending O m
      → get O (O.key r) (put O join r m) ≡ Some (joined join (get O (O.key r) m) r)
  get_put_same join keeps r m up = go (get O (O.key r) m) refl
    where
      ups : Ascending O (put O join r m)
      ups = put_ascending O L join r keeps m up

      go : (o : Option R) → get O (O.key r) m ≡ o → get O (O.key r) (put O join r m) ≡ Some (joined join o r)
      go None e = get_in O L (O.key r) (put O join r m) ups r ((in_put_absent O L join r m (get_none_out O L (O.key r) m up e) r).1 (inl refl)) refl
      go (Some old) e =
          let g = get_some (O.key r) m old e in
          get_in O L (O.key r) (put O join r m) ups (join old r) ((in_put_present O L join r keeps m up old g.0 g.1 (join old r)).1 (inl refl)) (keeps old r g.1)

  put_length : (join : R → R → R) (r old : R) (m : List R) → Ascending O m → In old m → O.key old ≡ O.key r → length (put O join r m) ≡ length m
  unfolding put
  put_length join r old [] up i q = absurd i
  put_length join r old (x ∷ xs) up i q =
      elim (three O L (O.key r) (O.key x)) [
        | less t f ↦ absurd (elim i [
          | inl e ↦ irrefl O L (O.key r) (rw (e, q) at t)
          | inr h ↦ asym O L (O.key r) (O.key x) t (rw q at (all_in (Precedes O x) xs old up.0 h))
        ])
        | more t f ↦ rw (f, t) (ap suc (put_length join r old xs up.1 (elim i [ inl e ↦ absurd (irrefl O L (O.key r) (rw (e, q) at t)) | inr h ↦ h ]) q))
        | same e f g ↦ rw (f, g)
      ]

  without_length : (k : Key) (old : R) (m : List R) → Ascending O m → In old m → O.key old ≡ k → length (without O k m) + 1 ≡ length m
  unfolding without
  without_length k old [] up i q = absurd i
  without_length k old (x ∷ xs) up i q =
      elim (three O L k (O.key x)) [
        | less t f ↦ absurd (elim i [
          | inl e ↦ irrefl O L k (rw (e, q) at t)
          | inr h ↦ asym O L k (O.key x) t (rw q at (all_in (Precedes O x) xs old up.0 h))
        ])
        | more t f ↦ rw (f, t) (omega (arith, without_length k old xs up.1 (elim i [ inl e ↦ absurd (irrefl O L k (rw (e, q) at t)) | inr h ↦ h ]) q))
        | same e f g ↦ rw (f, g) (omega arith)
      ]

  without_absent : (k : Key) (m : List R) → Absent O k m → without O k m ≡ m
  unfolding without
  without_absent k [] out = refl
  without_absent k (x ∷ xs) out =
      elim (three O L k (O.key x)) [
        | less t f ↦ rw t
        | more t f ↦ rw (f, t) (ap (λ (l : List R). x ∷ l) (without_absent k xs (λ s i. out s (inr i))))
        | same e f g ↦ absurd (out x (inl refl) (sym e))
      ]

  same_gets : (a b : List R) → Ascending O b → ((k : Key) → get O k a ≡ get O k b) → (s : R) → get O (O.key s) a ≡ Some s → In s b
  same_gets a b ub h s e = (get_some (O.key s) b s (sym (h (O.key s)) ∙ e)).0

  pub map_laws : MapLaws O
  map_laws = record {
    put_ascends = λ join keeps r m up. put_ascending O L join r keeps m up;
    without_ascends = without_ascending O L;
    get_is = λ k m up r. ((λ e. get_some k m r e), (λ (i, q). get_in O L k m up r i q));
    get_none = λ k m up. (get_none_out O L k m up, get_out O L k m);
    get_put = get_put_same;
    get_put_other = λ join keeps r m up k ne. same_get k (put O join r m) m (put_ascending O L join r keeps m up) up
        (λ s q. in_put_other join keeps r m up s (λ e. ne (sym q ∙ e)));
    get_without = λ k m up. get_out O L k (without O k m) (λ s i. ((in_without O L k m up s).0 i).1);
    get_without_other = λ k m up l ne. same_get l (without O k m) m (without_ascending O L k m up) up
        (λ s q. ((λ i. ((in_without O L k m up s).0 i).0), (λ i. (in_without O L k m up s).1 (i, λ e. ne (sym q ∙ e)))));
    put_new = λ join r m up e. length_put_absent O L join r m (get_none_out O L (O.key r) m up e);
    put_old = λ join r old m up e. let g = get_some (O.key r) m old e in put_length join r old m up g.0 g.1;
    without_old = λ k old m up e. let g = get_some k m old e in without_length k old m up g.0 g.1;
    without_none = λ k m up e. without_absent k m (get_none_out O L k m up e);
    one_map = λ a b ua ub h. same_map O L a b ua ub (λ s. (
      (λ i. same_gets a b ub h s (get_in O L (O.key s) a ua s i refl)),
      (λ i. same_gets b a ua (λ k. sym (h k)) s (get_in O L (O.key s) b ub s i refl)),
    ));
  }
