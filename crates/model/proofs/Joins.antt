-- Puts commute, and a put again changes nothing.
use Rattle.std.proofs.Common.{◌≡◌, true, false, List, [], ◌∷◌, sym, refl, ap, ◌∙◌}
use Rattle.layout.specs.Map.{put}
use Rattle.layout.specs.Orders.{Order, Ordered}
use Rattle.layout.proofs.Maps.{put_less, put_more, put_same}
use Rattle.layout.proofs.Orders.{three, less, more, same, asym, not_before}

-- what a join of records has to keep
pub record Joining {R Key : Type 0} (O : Order R Key) (j : R → R → R) : Type 0 where
  pub keeps : (a b : R) → O.key (j a b) ≡ O.key b
  pub comm : (a b : R) → O.key a ≡ O.key b → j a b ≡ j b a
  pub swap : (z a b : R) → O.key a ≡ O.key b → j (j z b) a ≡ j (j z a) b
  pub idem : (a : R) → j a a ≡ a
  pub again : (z a : R) → j (j z a) a ≡ j z a

module _ {R Key : Type 0} (O : Order R Key) (L : Ordered O) (j : R → R → R) (J : Joining O j) where
  abbrev P : R → List R → List R
  P a m = put O j a m

  put_none : (a : R) → P a [] ≡ a ∷ []
  unfolding put
  put_none a = refl

  put_on : (a z : R) (zs : List R) → O.key a ≡ O.key z → P a (z ∷ zs) ≡ j z a ∷ zs
  put_on a z zs e = put_same O L j a z zs (rw e (L.irreflexive (O.key z))) (rw e (L.irreflexive (O.key z)))

  later : (a z : R) → O.before (O.key z) (O.key a) ≡ true → O.before (O.key a) (O.key z) ≡ false
  later a z t = not_before O L (O.key a) (O.key z) (λ u. asym O L (O.key z) (O.key a) t u)

  put_behind : (a z : R) (zs : List R) → O.before (O.key z) (O.key a) ≡ true → P a (z ∷ zs) ≡ z ∷ P a zs
  put_behind a z zs t = put_more O L j a z zs (later a z t) t

  -- the earlier key goes in front, whatever the later one does
  ahead : (a b z : R) (zs : List R) → O.before (O.key a) (O.key b) ≡ true → O.before (O.key a) (O.key z) ≡ true → P a (P b (z ∷ zs)) ≡ a ∷ P b (z ∷ zs)
  ahead a b z zs t u =
      elim (three O L (O.key b) (O.key z)) [
        | less p q ↦ rw (put_less O L j b z zs p) (put_less O L j a b (z ∷ zs) t)
        | more p q ↦ rw (put_behind b z zs p) (put_less O L j a z (P b zs) u)
        | same e p q ↦ rw (put_on b z zs e) (put_less O L j a (j z b) zs (rw (J.keeps z b) t))
      ]

  swap_less : (a b : R) (m : List R) → O.before (O.key a) (O.key b) ≡ true → P a (P b m) ≡ P b (P a m)
  swap_less a b [] t =
      ap (P a) (put_none b) ∙ put_less O L j a b [] t
      ∙ sym (ap (P b) (put_none a) ∙ put_behind b a [] t ∙ ap (λ (m : List R). a ∷ m) (put_none b))
  swap_less a b (z ∷ zs) t =
      elim (three O L (O.key a) (O.key z)) [
        | less p q ↦ ahead a b z zs t p ∙ sym (ap (P b) (put_less O L j a z zs p) ∙ put_behind b a (z ∷ zs) t)
        | more p q ↦
            let u : O.before (O.key z) (O.key b) ≡ true = L.transitive (O.key z) (O.key a) (O.key b) p t in
            ap (P a) (put_behind b z zs u) ∙ put_behind a z (P b zs) p ∙ ap (λ (m : List R). z ∷ m) (swap_less a b zs t)
            ∙ sym (ap (P b) (put_behind a z zs p) ∙ put_behind b z (P a zs) u)
        | same e p q ↦
            ap (P a) (put_behind b z zs (rw (← e) t)) ∙ put_on a z (P b zs) e
            ∙ sym (ap (P b) (put_on a z zs e) ∙ put_behind b (j z a) zs (rw (J.keeps z a) t))
      ]

  swap_same : (a b : R) (m : List R) → O.key a ≡ O.key b → P a (P b m) ≡ P b (P a m)
  swap_same a b [] e =
      ap (P a) (put_none b) ∙ put_on a b [] e ∙ ap (λ (r : R). r ∷ []) (sym (J.comm a b e))
      ∙ sym (ap (P b) (put_none a) ∙ put_on b a [] (sym e))
  swap_same a b (z ∷ zs) e =
      elim (three O L (O.key a) (O.key z)) [
        | less p q ↦
            ap (P a) (put_less O L j b z zs (rw (← e) p)) ∙ put_on a b (z ∷ zs) e ∙ ap (λ (r : R). r ∷ (z ∷ zs)) (sym (J.comm a b e))
            ∙ sym (ap (P b) (put_less O L j a z zs p) ∙ put_on b a (z ∷ zs) (sym e))
        | more p q ↦
            ap (P a) (put_behind b z zs (rw (← e) p)) ∙ put_behind a z (P b zs) p ∙ ap (λ (m : List R). z ∷ m) (swap_same a b zs e)
            ∙ sym (ap (P b) (put_behind a z zs p) ∙ put_behind b z (P a zs) (rw (← e) p))
        | same u p q ↦
            ap (P a) (put_on b z zs (sym e ∙ u)) ∙ put_on a (j z b) zs (e ∙ sym (J.keeps z b)) ∙ ap (λ (r : R). r ∷ zs) (J.swap z a b e)
            ∙ sym (ap (P b) (put_on a z zs u) ∙ put_on b (j z a) zs (sym e ∙ sym (J.keeps z a)))
      ]

  pub put_swap : (a b : R) (m : List R) → P a (P b m) ≡ P b (P a m)
  put_swap a b m =
      elim (three O L (O.key a) (O.key b)) [
        | less t f ↦ swap_less a b m t
        | more t f ↦ sym (swap_less b a m t)
        | same e p q ↦ swap_same a b m e
      ]

  pub put_again : (a : R) (m : List R) → P a (P a m) ≡ P a m
  put_again a [] = ap (P a) (put_none a) ∙ put_on a a [] refl ∙ ap (λ (r : R). r ∷ []) (J.idem a) ∙ sym (put_none a)
  put_again a (z ∷ zs) =
      elim (three O L (O.key a) (O.key z)) [
        | less p q ↦ rw (put_less O L j a z zs p) (put_on a a (z ∷ zs) refl ∙ ap (λ (r : R). r ∷ (z ∷ zs)) (J.idem a))
        | more p q ↦ rw (put_behind a z zs p) (put_behind a z (P a zs) p ∙ ap (λ (m : List R). z ∷ m) (put_again a zs))
        | same e p q ↦ rw (put_on a z zs e) (put_on a (j z a) zs (sym (J.keeps z a)) ∙ ap (λ (r : R). r ∷ zs) (J.again z a))
      ]
