-- a removal by shifting back ends in the layout of the map without the key
use Rattle.std.proofs.Common.{◌≡◌, ℕ, ◌<◌, ◌≤◌, ◌≢◌, ◌↔◌, List, length, set, Some, None, Option, refl, ap, ◌∙◌, arith}
use Rattle.std.proofs.lemmas.List.{get_or-set_same, get_or-set_other, length-set}
use Rattle.layout.specs.Orders.{In, Ascending}
use Rattle.layout.specs.Map.{without}
use Rattle.layout.specs.Cells.{Rule, Lawful, at, next, distance, from_home, layout, records_of, Held, Holds}
use Rattle.layout.specs.Places.{AllInPlace, Sound}
use Rattle.layout.specs.Walks.{Shift, steps_left}
use Rattle.layout.proofs.Round.{next_lt, span_room, distance_self}
use Rattle.layout.proofs.Maps.{in_without, without_ascending, length_without}
use Rattle.layout.proofs.Laid.{vacancy, is_layout}
use Rattle.layout.proofs.Records.{records_ascending, records_le, records_held}
use Rattle.layout.proofs.Carries.{gap_on}
use Rattle.layout.proofs.Holes.{hole_start, passed_start, hole_stop, passed_next, hole_move, moved_held, removed_held}

module _ {R Key : Type 0} (K : Rule R Key) (L : Lawful K) where
  -- cells all in place that hold one key less are the layout without that key
  removed : (c d : List (Option R)) (k : Key) → Sound K c → length d ≡ K.capacity → AllInPlace K d
      → ((s : R) → Held K d s ↔ (Held K c s × (K.order.key s ≢ k))) → d ≡ layout K (without K.order k (records_of K.order c))
  removed c d k sound ld ad held =
      is_layout K L d (without K.order k m) (without_ascending K.order L.ordered k m up)
      (omega (arith, length_without K.order L.ordered k m, records_le K.order L.ordered c, sound.room)) ld ad
      (λ s. ((λ h. (kept s).1 ((hc s).0 ((held s).0 h).0, ((held s).0 h).1)), (λ i. (held s).1 ((hc s).1 ((kept s).0 i).0, ((kept s).0 i).1))))
    where
      m : List R
      m = records_of K.order c

      hc : Holds K c m
      hc = records_held K L c sound.size sound.all

      up : Ascending K.order m
      up = records_ascending K.order L.ordered c

      kept : (s : R) → In s (without K.order k m) ↔ (In s m × (K.order.key s ≢ k))
      kept = in_without K.order L.ordered k m up

  module _ (c₀ : List (Option R)) (sound : Sound K c₀) (start : ℕ) (x : R) (is : at c₀ start ≡ Some x) where
    -- cell start has been emptied
    pub shift_start : start < K.capacity → (j : ℕ) → j ≡ next K.capacity start → Shift K (set c₀ start None) start (set c₀ start None) start j
    shift_start a j next-is =
        let (e, le, none) = vacancy c₀ (omega (arith, sound.size, sound.room)) in
        let l : start < length c₀ = omega (arith, sound.size) in
        let (g, less, m, top) = gap_on K L c₀ (set c₀ start None) start start x a a is (λ e f n. get_or-set_other c₀ start e None None n)
        (e, omega (arith, le, sound.size), none, omega (arith, distance_self K.capacity start)) in
        let gone : at (set c₀ start None) start ≡ None = get_or-set_same c₀ start None None l in
        rw next-is (record {
          size = length-set c₀ start None ∙ sound.size;
          in_start = a;
          in_hole = a;
          in_j = next_lt K.capacity start a;
          none = gone;
          but = hole_start K L c₀ start l sound.all;
          passed = passed_start K L (set c₀ start None) start a (omega (arith, distance_self K.capacity start)) gone;
          held = λ s. ((λ h. h), (λ h. h));
          gap = g;
          behind = omega (arith, distance_self K.capacity start, m);
        })

  module _ (c₁ : List (Option R)) (start : ℕ) (c : List (Option R)) (hole j : ℕ) (w : Shift K c₁ start c hole j) where
    apart : j ≢ hole
    apart q = let z : distance K.capacity start j ≡ distance K.capacity start hole = ap (distance K.capacity start) q in omega (arith, w.behind)

    -- the walk goes on with the cells d and the hole
    abbrev pub ShiftsOn : List (Option R) → ℕ → ℕ → Type 0
    ShiftsOn d hole n = Shift K c₁ start d hole n × (steps_left K.capacity start n < steps_left K.capacity start j)

    -- a record whose way does not lead past the hole stays
    pub shift_stay : (y : R) → at c j ≡ Some y → from_home K (K.order.key y) j ≤ from_home K (K.order.key y) hole → (n : ℕ) → n ≡ next K.capacity j
        → ShiftsOn c hole n
    shift_stay y is stays n e =
        let (g, less, m, top) = gap_on K L c c start j y w.in_start w.in_j is (λ e f n. refl) w.gap in
        rw e (
          record {
            size = w.size;
            in_start = w.in_start;
            in_hole = w.in_hole;
            in_j = next_lt K.capacity j w.in_j;
            none = w.none;
            but = w.but;
            passed = passed_next K L c hole j y w.in_hole w.in_j (span_room K.capacity start hole j w.in_start w.in_hole w.in_j w.behind top) w.passed is (λ on. omega (arith, on, stays));
            held = w.held;
            gap = g;
            behind = omega (arith, w.behind, m);
          },
          less,
        )

    -- any other is moved into the hole, and leaves one behind it
    pub shift_move : (y : R) → at c j ≡ Some y → from_home K (K.order.key y) hole < from_home K (K.order.key y) j → (n : ℕ) → n ≡ next K.capacity j
        → ShiftsOn (set (set c hole (Some y)) j None) j n
    shift_move y is on n e =
        let d : List (Option R) = set (set c hole (Some y)) j None in
        let same : (e : ℕ) → distance K.capacity start j ≤ distance K.capacity start e → e ≢ j → at d e ≡ at c e =
        λ e f n. get_or-set_other (set c hole (Some y)) j e None None n
        ∙ get_or-set_other c hole e (Some y) None (λ q. let z : distance K.capacity start e ≡ distance K.capacity start hole = ap (distance K.capacity start) q in omega (arith, w.behind)) in
        let (g, less, m, top) = gap_on K L c d start j y w.in_start w.in_j is same w.gap in
        let long : length (set c hole (Some y)) ≡ K.capacity = length-set c hole (Some y) ∙ w.size in
        let gone : at d j ≡ None = get_or-set_same (set c hole (Some y)) j None None (omega (arith, w.in_j, long)) in
        rw e (
          record {
            size = length-set (set c hole (Some y)) j None ∙ long;
            in_start = w.in_start;
            in_hole = w.in_j;
            in_j = next_lt K.capacity j w.in_j;
            none = gone;
            but = hole_move K L c hole j y w.size w.in_hole w.in_j apart w.but w.passed is on;
            passed = passed_start K L d j w.in_j (omega (arith, top)) gone;
            held = λ s. (let a = moved_held K L c hole j y s w.size w.in_hole w.in_j apart w.none is in ((λ h. (w.held s).0 (a.1 h)), (λ h. a.0 ((w.held s).1 h))));
            gap = g;
            behind = omega (arith, m);
          },
          less,
        )

  -- the walk ends at an empty cell
  pub shift_end : (c₀ : List (Option R)) → Sound K c₀ → (start : ℕ) (x : R) → at c₀ start ≡ Some x → (c : List (Option R)) (hole j : ℕ)
      → Shift K (set c₀ start None) start c hole j → at c j ≡ None
      → c ≡ layout K (without K.order (K.order.key x) (records_of K.order c₀))
  shift_end c₀ sound start x is c hole j w none =
      removed c₀ c (K.order.key x) sound w.size
      (hole_stop K L c hole j w.in_hole w.in_j (apart (set c₀ start None) start c hole j w) w.but w.passed none)
      (λ s. let a = removed_held K L c₀ start x s (omega (arith, w.in_start, sound.size)) w.in_start sound.all is in ((λ h. a.0 ((w.held s).0 h)), (λ h. (w.held s).1 (a.1 h))))
