-- a value joined in its cell leaves the layout of the map with the joined record
use Rattle.std.proofs.Common.{◌≡◌, ℕ, ◌<◌, List, length, set, Some, Option, sym, ap, ◌∙◌, subst, inl, inr, arith}
use Rattle.std.proofs.lemmas.List.{length-set}
use Rattle.layout.specs.Orders.{In, Ascending}
use Rattle.layout.specs.Map.{put, Keeps}
use Rattle.layout.specs.Cells.{Rule, Lawful, at, layout, records_of, Held, Holds}
use Rattle.layout.specs.Places.{Sound}
use Rattle.layout.proofs.Maps.{length_put_le, put_ascending, in_put_present}
use Rattle.layout.proofs.Unique.{once}
use Rattle.layout.proofs.Steps.{held_set, held_set_other, held_set_same, set_again}
use Rattle.layout.proofs.Laid.{is_layout}
use Rattle.layout.proofs.Records.{records_ascending, records_le, records_held}

module _ {R Key : Type 0} (K : Rule R Key) (L : Lawful K) where
  pub join_in_place : (c : List (Option R)) → Sound K c → (i : ℕ) (y r : R) (j : R → R → R) → Keeps K.order j → i < K.capacity → at c i ≡ Some y
      → K.order.key y ≡ K.order.key r
      → set c i (Some (j y r)) ≡ layout K (put K.order j r (records_of K.order c))
  join_in_place c sound i y r j keeps a is same =
      is_layout K L (set c i (Some (j y r))) (put K.order j r m) (put_ascending K.order L.ordered j r keeps m up)
      (omega (arith, length_put_le K.order L.ordered j r m, records_le K.order L.ordered c, sound.room)) (length-set c i (Some (j y r)) ∙ sound.size)
      (set_again K L c i y (j y r) l a sound.all is (same ∙ sym (keeps y r same))) (λ s. (to s, from s))
    where
      m : List R
      m = records_of K.order c

      up : Ascending K.order m
      up = records_ascending K.order L.ordered c

      hc : Holds K c m
      hc = records_held K L c sound.size sound.all

      l : i < length c
      l = omega (arith, sound.size)

      here : In y m
      here = (hc y).0 (i, a, is)

      to : (s : R) → Held K (set c i (Some (j y r))) s → In s (put K.order j r m)
      to s h = (in_put_present K.order L.ordered j r keeps m up y here same s).1 (elim (held_set K c i (Some (j y r)) s l h) [
        | inl e ↦ inl (cc)
        | inr (p, lp, n, e) ↦ inr ((hc s).0 (p, lp, e), λ w. n (once K L c sound.all p i s y lp a e is (w ∙ sym same)))
      ])

      from : (s : R) → In s (put K.order j r m) → Held K (set c i (Some (j y r))) s
      from s h = elim ((in_put_present K.order L.ordered j r keeps m up y here same s).0 h) [
        | inl e ↦ subst (Held K (set c i (Some (j y r)))) e (held_set_same K c i (j y r) l a)
        | inr (g, w) ↦ (let (p, lp, e) = (hc s).1 g in held_set_other K c i (Some (j y r)) s p lp (λ q. w (let e' : at c i ≡ Some s = rw q at e in let z : s ≡ y = cc in ap K.order.key z ∙ same)) e)
      ]
