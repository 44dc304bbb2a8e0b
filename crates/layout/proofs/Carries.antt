-- an insertion by carrying on ends in the layout of the map with the record put
use Rattle.std.proofs.Common.{◌≡◌, ℕ, ◌+◌, ◌<◌, ◌≤◌, true, false, ◌≢◌, ◌⊎◌, ◌↔◌, List, length, set, Some, None, Option, sym, refl, ◌∙◌, subst, inl, inr, arith}
use Rattle.std.proofs.lemmas.Bool.{cases_Bool}
use Rattle.std.proofs.lemmas.List.{get_or-set_other, length-set}
use Rattle.layout.specs.Orders.{In, Absent}
use Rattle.layout.specs.Map.{put, get, Keeps}
use Rattle.layout.specs.Cells.{Rule, Lawful, at, next, distance, layout, records_of, Held, Holds}
use Rattle.layout.specs.Places.{AllInPlace, Sound}
use Rattle.layout.specs.Walks.{Gap, Carry, steps_left}
use Rattle.layout.proofs.Orders.{irrefl}
use Rattle.layout.proofs.Tests.{some_none}
use Rattle.layout.proofs.Round.{distance_same, distance_lt, next_lt, distance_next, distance_self}
use Rattle.layout.proofs.Maps.{in_put_absent, length_put_absent, put_ascending}
use Rattle.layout.proofs.Unique.{once}
use Rattle.layout.proofs.Steps.{held_set, held_set_other, held_set_same, reach_home, reach_next, absent, set_empty, set_before, carried, carried_held}
use Rattle.layout.proofs.Laid.{vacancy, is_layout}
use Rattle.layout.proofs.Records.{records_ascending, records_le, records_held}
use Rattle.layout.proofs.Lookups.{not_held}

module _ {R Key : Type 0} (K : Rule R Key) (L : Lawful K) where
  -- cells all in place that hold one record more are the layout with that record put
  inserted : (c d : List (Option R)) (r : R) (j : R → R → R) → Keeps K.order j → Sound K c → ((s : R) → Held K c s → K.order.key s ≢ K.order.key r)
      → length d ≡ K.capacity → AllInPlace K d → ((s : R) → Held K d s ↔ (Held K c s ⊎ (r ≡ s))) → d ≡ layout K (put K.order j r (records_of K.order c))
  inserted c d r j keeps sound out ld ad held =
      is_layout K L d (put K.order j r m) (put_ascending K.order L.ordered j r keeps m (records_ascending K.order L.ordered c))
      (omega (arith, length_put_absent K.order L.ordered j r m none, records_le K.order L.ordered c, sound.room)) ld ad (λ s. (to s, from s))
    where
      m : List R
      m = records_of K.order c

      hc : Holds K c m
      hc = records_held K L c sound.size sound.all

      none : Absent K.order (K.order.key r) m
      none s i = out s ((hc s).1 i)

      to : (s : R) → Held K d s → In s (put K.order j r m)
      to s h = (in_put_absent K.order L.ordered j r m none s).1 (elim ((held s).0 h) [ inl g ↦ inr ((hc s).0 g) | inr e ↦ inl e ])

      from : (s : R) → In s (put K.order j r m) → Held K d s
      from s i = (held s).1 (elim ((in_put_absent K.order L.ordered j r m none s).0 i) [ inl e ↦ inr e | inr g ↦ inl ((hc s).1 g) ])

  -- one cell further on a walk from h, where cell i is filled: the gap lies ahead still
  pub gap_on : (c d : List (Option R)) (h i : ℕ) (y : R) → h < K.capacity → i < K.capacity → at c i ≡ Some y
      → ((e : ℕ) → distance K.capacity h i ≤ distance K.capacity h e → e ≢ i → at d e ≡ at c e) → Gap K c h i
      → Gap K d h (next K.capacity i) × (steps_left K.capacity h (next K.capacity i) < steps_left K.capacity h i)
      × (distance K.capacity h (next K.capacity i) ≡ distance K.capacity h i + 1) × (distance K.capacity h i + 1 < K.capacity)
  gap_on c d h i y lh li is same (e, le, none, far) =
      let ne : e ≢ i = λ q. some_none (at c i) y is (rw q at none) in
      let top : distance K.capacity h e < K.capacity = distance_lt K.capacity h e lh le in
      let apart : distance K.capacity h i ≢ distance K.capacity h e = λ q. ne (sym (distance_same K.capacity h i e lh li le q)) in
      let m : distance K.capacity h (next K.capacity i) ≡ distance K.capacity h i + 1 = distance_next K.capacity h i lh li (omega arith) in
      ((e, le, same e far ne ∙ none, omega arith), omega arith, m, omega arith)

  module _ (c₀ : List (Option R)) (r₀ : R) where
    pub carry_start : Sound K c₀ → get K.order (K.order.key r₀) (records_of K.order c₀) ≡ None → (i : ℕ) → i ≡ K.home (K.order.key r₀)
        → Carry K c₀ r₀ c₀ r₀ i
    carry_start s absent i at_home =
        let (e, le, none) = vacancy c₀ (omega (arith, s.size, s.room)) in
        rw at_home (record {
          size = s.size;
          inside = L.homes (K.order.key r₀);
          all = s.all;
          reach = reach_home K L c₀ (K.order.key r₀);
          fresh = not_held K L c₀ s (K.order.key r₀) absent;
          held = λ s. ((λ h. h), (λ h. h));
          gap = (e, omega (arith, le, s.size), none, omega (arith, distance_self K.capacity (K.home (K.order.key r₀))));
        })

    module _ (c : List (Option R)) (x : R) (i : ℕ) (w : Carry K c₀ r₀ c x i) where
      -- the walk goes on with x carried and the cells d
      abbrev pub CarriesOn : List (Option R) → R → ℕ → Type 0
      CarriesOn d x n = Carry K c₀ r₀ d x n × (steps_left K.capacity (K.home (K.order.key r₀)) n < steps_left K.capacity (K.home (K.order.key r₀)) i)

      on : (y : R) → at c i ≡ Some y → K.order.before (K.order.key y) (K.order.key x) ≡ true → CarriesOn c x (next K.capacity i)
      on y is lt =
          let g = gap_on c c (K.home (K.order.key r₀)) i y (L.homes (K.order.key r₀)) w.inside is (λ e f n. refl) w.gap in
          let (e, le, none, far) = w.gap in (
            record {
              size = w.size;
              inside = next_lt K.capacity i w.inside;
              all = w.all;
              reach = reach_next K L c (K.order.key x) i e w.inside le none w.reach (rw is lt);
              fresh = w.fresh;
              held = w.held;
              gap = g.0;
            },
            g.1,
          )

      swap : (y : R) → at c i ≡ Some y → K.order.before (K.order.key x) (K.order.key y) ≡ true → CarriesOn (set c i (Some x)) y (next K.capacity i)
      swap y is lt =
          let l : i < length c = omega (arith, w.size, w.inside) in
          let g = gap_on c (set c i (Some x)) (K.home (K.order.key r₀)) i y (L.homes (K.order.key r₀)) w.inside is (λ e f n. get_or-set_other c i e (Some x) None n) w.gap in
          let (e, le, none, far) = w.gap in (
            record {
              size = length-set c i (Some x) ∙ w.size;
              inside = next_lt K.capacity i w.inside;
              all = set_before K L c i y x l w.inside w.all is lt w.reach;
              reach = carried K L c i e y x l w.inside le none w.all is lt;
              fresh = λ s h q. (elim (held_set K c i (Some x) s l h) [
                | inl f ↦ (let z : x ≡ s = cc in irrefl K.order L.ordered (K.order.key y) (rw (z, q) at lt))
                | inr (p, lp, n, f) ↦ n (once K L c w.all p i s y lp w.inside f is q)
              ]);
              held = λ s. (let a = carried_held K L c i y x s l w.inside is in ((λ h. (w.held s).0 (a.1 h)), (λ h. a.0 ((w.held s).1 h))));
              gap = g.0;
            },
            g.1,
          )

      -- where x is not before what cell i holds, that is earlier, and stays
      pub carry_on : (y : R) → at c i ≡ Some y → K.order.before (K.order.key x) (K.order.key y) ≡ false → (n : ℕ) → n ≡ next K.capacity i
          → CarriesOn c x n
      carry_on y is f n e =
          rw e (elim (cases_Bool (K.order.before (K.order.key y) (K.order.key x))) [
            | inl t ↦ on y is t
            | inr g ↦ absurd (w.fresh y (i, w.inside, is) (L.ordered.total (K.order.key y) (K.order.key x) g f))
          ])

      -- where it is, x takes the cell, and what was there is carried on
      pub carry_swap : (y : R) → at c i ≡ Some y → K.order.before (K.order.key x) (K.order.key y) ≡ true → (n : ℕ) → n ≡ next K.capacity i
          → CarriesOn (set c i (Some x)) y n
      carry_swap y is t n e = rw e (swap y is t)

      -- the first empty cell takes what is carried
      pub carry_end : Sound K c₀ → get K.order (K.order.key r₀) (records_of K.order c₀) ≡ None → (j : R → R → R) → Keeps K.order j → at c i ≡ None
          → set c i (Some x) ≡ layout K (put K.order j r₀ (records_of K.order c₀))
      carry_end s₀ absent j keeps none =
          inserted c₀ (set c i (Some x)) r₀ j keeps s₀ (not_held K L c₀ s₀ (K.order.key r₀) absent) (length-set c i (Some x) ∙ w.size)
          (set_empty K L c i x l w.inside w.all none w.reach)
          (λ s. ((λ h. (w.held s).0 (to s h)), (λ h. from s ((w.held s).1 h))))
        where
          l : i < length c
          l = omega (arith, w.size, w.inside)

          to : (s : R) → Held K (set c i (Some x)) s → Held K c s ⊎ (x ≡ s)
          to s h = elim (held_set K c i (Some x) s l h) [ inl f ↦ inr (cc) | inr (p, lp, n, f) ↦ inl (p, lp, f) ]

          from : (s : R) → Held K c s ⊎ (x ≡ s) → Held K (set c i (Some x)) s
          from s (inl (p, lp, f)) = held_set_other K c i (Some x) s p lp (λ q. some_none (at c i) s (rw q at f) none) f
          from s (inr q) = subst (Held K (set c i (Some x))) q (held_set_same K c i x l w.inside)
