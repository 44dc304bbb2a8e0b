-- the records of cells laid anew, one after the other, into cells of another capacity
use Rattle.std.proofs.Common.{◌≡◌, ℕ, zero, suc, ◌+◌, ◌<◌, ◌≤◌, ◌≢◌, ◌⊎◌, List, [], ◌∷◌, ◌++◌, length, take, replicate, Some, None, Option, ap, ◌∙◌, inl, inr, arith}
use Rattle.std.proofs.lemmas.Bool.{cases_eq}
use Rattle.std.proofs.lemmas.List.{take_more}
use Rattle.layout.specs.Orders.{In, Absent}
use Rattle.layout.specs.Map.{put, get, Keeps}
use Rattle.layout.specs.Cells.{Rule, Lawful, at, layout, records_of, filled, Held, Holds}
use Rattle.layout.specs.Places.{Sound}
use Rattle.layout.specs.Walks.{Gathered}
use Rattle.layout.proofs.Tests.{some_none}
use Rattle.layout.proofs.Maps.{in_put_absent, length_put_absent, put_ascending, get_out}
use Rattle.layout.proofs.Steps.{absent}
use Rattle.layout.proofs.Laid.{Stands, empty_stands, laid, is_layout}
use Rattle.layout.proofs.Records.{some_inside, Distinct, records_ascending, records_le, records_in, records_count, distinct, records_held}
use Rattle.layout.proofs.Lookups.{not_held}

pub filled_append : {R : Type 0} (xs ys : List (Option R)) → filled (xs ++ ys) ≡ filled xs + filled ys
filled_append [] ys = omega arith
filled_append (None ∷ xs) ys = filled_append xs ys
filled_append (Some r ∷ xs) ys = omega (arith, filled_append xs ys)

filled_take : {R : Type 0} (i : ℕ) (c : List (Option R)) → filled (take i c) ≤ filled c
filled_take zero c = omega arith
filled_take (suc i) [] = omega arith
filled_take (suc i) (None ∷ c) = filled_take i c
filled_take (suc i) (Some r ∷ c) = omega (arith, filled_take i c)

-- one more cell counted
pub filled_more : {R : Type 0} (i : ℕ) (c : List (Option R)) (o : Option R) → i < length c → at c i ≡ o
    → filled (take (i + 1) c) ≡ filled (take i c) + filled (o ∷ [])
filled_more i c o l e = rw (take_more c i None l, e) (filled_append (take i c) (o ∷ []))

module _ {R Key : Type 0} (K : Rule R Key) (L : Lawful K) where
  -- what the layout with one record more is like
  grown : (c : List (Option R)) (r : R) (j : R → R → R) → Keeps K.order j → Sound K c → get K.order (K.order.key r) (records_of K.order c) ≡ None
      → Stands K (layout K (put K.order j r (records_of K.order c))) (λ s. (r ≡ s) ⊎ Held K c s) (filled c + 1)
  grown c r j keeps sound absent =
      record { size = g.size; count = omega (arith, g.count, longer, counted); all = g.all; held = λ s. (to s, from s) }
    where
      m : List R
      m = records_of K.order c

      hc : Holds K c m
      hc = records_held K L c sound.size sound.all

      none : Absent K.order (K.order.key r) m
      none s i = not_held K L c sound (K.order.key r) absent s ((hc s).1 i)

      longer : length (put K.order j r m) ≡ length m + 1
      longer = length_put_absent K.order L.ordered j r m none

      counted : length m ≡ filled c
      counted = records_count K.order L.ordered c (distinct K L c sound.size sound.all)

      g : Stands K (layout K (put K.order j r m)) (λ s. In s (put K.order j r m)) (length (put K.order j r m))
      g = laid K L (put K.order j r m) (put_ascending K.order L.ordered j r keeps m (records_ascending K.order L.ordered c)) (omega (arith, longer, counted, sound.room))

      to : (s : R) → Held K (layout K (put K.order j r m)) s → (r ≡ s) ⊎ Held K c s
      to s h = elim ((in_put_absent K.order L.ordered j r m none s).0 ((g.held s).0 h)) [ inl e ↦ inl e | inr i ↦ inr ((hc s).1 i) ]

      from : (s : R) → (r ≡ s) ⊎ Held K c s → Held K (layout K (put K.order j r m)) s
      from s (inl e) = (g.held s).1 ((in_put_absent K.order L.ordered j r m none s).1 (inl e))
      from s (inr h) = (g.held s).1 ((in_put_absent K.order L.ordered j r m none s).1 (inr ((hc s).0 h)))

  -- from cells in which no key stands twice, and fewer of which are filled than there are new ones
  module _ (from : List (Option R)) (apart : Distinct K.order from) (room : filled from < K.capacity) where
    pub gather_start : (into : List (Option R)) → into ≡ replicate K.capacity None → Gathered K from 0 into
    gather_start into empty =
        let g : Stands K (replicate K.capacity None) (λ s. ⊥) 0 = empty_stands K in
        rw empty (record { size = g.size; all = g.all; count = g.count; held = λ s. ((λ h. absurd ((g.held s).0 h)), (λ (p, lp, e). absurd (omega arith))) })

    module _ (i : ℕ) (into : List (Option R)) (w : Gathered K from i into) where
      -- there is room for the next record
      pub gather_sound : Sound K into
      gather_sound = record { size = w.size; all = w.all; room = omega (arith, w.count, filled_take i from, room) }

      -- whose key is not there yet
      pub gather_absent : (r : R) → at from i ≡ Some r → get K.order (K.order.key r) (records_of K.order into) ≡ None
      gather_absent r is =
          get_out K.order L.ordered (K.order.key r) (records_of K.order into) (λ s h q.
          let (p, lp, e) = (w.held s).0 ((records_held K L into w.size w.all s).1 h) in let z : p ≡ i = apart p i s r e is q in omega arith)

      pub gather_skip : i < length from → at from i ≡ None → Gathered K from (i + 1) into
      gather_skip l none = record {
        size = w.size;
        all = w.all;
        count = omega (arith, w.count, filled_more i from None l none);
        held = λ s. (
          (λ h. let (p, lp, e) = (w.held s).0 h in (p, omega arith, e)),
          (λ (p, lp, e). (w.held s).1 (p, (let ne : p ≢ i = λ q. some_none (at from i) s (rw q at e) none in omega arith), e)),
        );
      }

      pub gather_add : i < length from → (r : R) → at from i ≡ Some r → (j : R → R → R) → Keeps K.order j → (d : List (Option R))
          → d ≡ layout K (put K.order j r (records_of K.order into)) → Gathered K from (i + 1) d
      gather_add l r is j keeps d d-is =
          let g : Stands K (layout K (put K.order j r (records_of K.order into))) (λ s. (r ≡ s) ⊎ Held K into s) (filled into + 1) =
          grown into r j keeps gather_sound (gather_absent r is) in
          rw d-is (record {
            size = g.size;
            all = g.all;
            count = omega (arith, g.count, w.count, filled_more i from (Some r) l is);
            held = λ s. ((λ h. to s ((g.held s).0 h)), (λ h. (g.held s).1 (back s h)));
          })
        where
          to : (s : R) → (r ≡ s) ⊎ Held K into s → (p : ℕ) × (p < i + 1) × (at from p ≡ Some s)
          to s (inl e) = (i, omega arith, is ∙ ap Some e)
          to s (inr h) = let (p, lp, e) = (w.held s).0 h in (p, omega arith, e)

          back : (s : R) → (p : ℕ) × (p < i + 1) × (at from p ≡ Some s) → (r ≡ s) ⊎ Held K into s
          back s (p, lp, e) = elim (cases_eq p i) [
            | inl q ↦ inl (let e' : at from i ≡ Some s = rw q at e in cc)
            | inr n ↦ inr ((w.held s).1 (p, omega arith, e))
          ]

      pub gather_end : length from ≤ i → into ≡ layout K (records_of K.order from)
      gather_end done =
          is_layout K L into (records_of K.order from) (records_ascending K.order L.ordered from)
          (omega (arith, records_le K.order L.ordered from, room)) w.size w.all
          (λ s. (
            (λ h. let (p, lp, e) = (w.held s).0 h in (records_in K.order L.ordered from apart s).1 (p, e)),
            (λ h. let (p, e) = (records_in K.order L.ordered from apart s).0 h in (w.held s).1 (p, omega (arith, some_inside from p s e, done), e)),
          ))
