-- cells as layouts of maps: by any lawful rule, and at the capacity that a map's count demands
use Rattle.std.proofs.Common.{◌≡◌, ℕ, ◌^◌, ◌<◌, ◌≤◌, ◌↔◌, List, length, Option, sym, refl, ap, ◌∙◌, subst, arith}
use Rattle.layout.specs.Orders.{Order, Ordered, In, Ascending}
use Rattle.layout.specs.Capacity.{capacity}
use Rattle.layout.specs.Cells.{Rule, Lawful, hashed, layout, map_layout, records_of, filled}
use Rattle.layout.specs.Places.{AllInPlace, Sound}
use Rattle.layout.specs.Theorems.{LayoutLaws, IsLayout, MapLayoutLaws}
use Rattle.layout.proofs.Capacities.{capacity_range, capacity_room, hashed_lawful}
use Rattle.layout.proofs.Unique.{unique}
use Rattle.layout.proofs.Laid.{Stands, place_at, laid, is_layout}
use Rattle.layout.proofs.Records.{Distinct, records_ascending, records_le, records_count, distinct, records_held, layout_iff, records_layout}
use Rattle.layout.proofs.Places.{in_place_iff, first_out_none, first_out_some}

module _ {R Key : Type 0} (K : Rule R Key) (L : Lawful K) where
  -- the layout of a map that leaves room
  pub layout_sound : (m : List R) → Ascending K.order m → length m < K.capacity → Sound K (layout K m)
  layout_sound m up room =
      let g : Stands K (layout K m) (λ s. In s m) (length m) = laid K L m up (omega arith) in
      record { size = g.size; all = g.all; room = omega (arith, g.count, room) }

  -- and the map of such cells
  pub sound_layout : (c : List (Option R)) → Sound K c → c ≡ layout K (records_of K.order c)
  sound_layout c s = (layout_iff K L c s.size).0 s.all

  pub sound_count : (c : List (Option R)) → Sound K c → length (records_of K.order c) ≡ filled c
  sound_count c s = records_count K.order L.ordered c (distinct K L c s.size s.all)

  pub sound_distinct : (c : List (Option R)) → Sound K c → Distinct K.order c
  sound_distinct c s = distinct K L c s.size s.all

  pub layout_laws : LayoutLaws K
  layout_laws = record {
    first_free = place_at K L;
    size = λ m up room. (laid K L m up room).size;
    placed = λ m up room. (laid K L m up room).all;
    holds = λ m up room. (laid K L m up room).held;
    read_back = records_layout K L;
    one = λ c d m up lc ld ac ad hc hd. unique K L c d ac ad m hc hd up lc ld;
    ascends = records_ascending K.order L.ordered;
    own_holds = records_held K L;
    exactly = layout_iff K L;
    decides = in_place_iff K;
    none_out = first_out_none K;
    lowest_out = first_out_some K;
  }

module _ {R Key : Type 0} (O : Order R Key) (ordered : Ordered O) (hash : Key → ℕ) (small : (k : Key) → hash k < 2 ^ 32) where
  lawful_at : (count : ℕ) → Lawful (hashed O hash (capacity count))
  lawful_at count = hashed_lawful O ordered hash small (capacity count) (omega (arith, (capacity_range count).0))

  module _ (m : List R) (up : Ascending O m) (few : length m ≤ 768) where
    abbrev K : Rule R Key
    K = hashed O hash (capacity (length m))

    L : Lawful K
    L = lawful_at (length m)

    fits : length m ≤ capacity (length m)
    fits = omega (arith, capacity_room (length m) few)

    pub map_layout_good : Stands K (map_layout O hash m) (λ s. In s m) (length m)
    map_layout_good = laid K L m up fits

    -- the layout of a map of at most 768 records is sound
    pub map_layout_sound : Sound K (map_layout O hash m)
    map_layout_sound = layout_sound K L m up (capacity_room (length m) few)

    pub map_layout_records : records_of O (map_layout O hash m) ≡ m
    map_layout_records = records_layout K L m up fits

    map_layout_exactly : (cells : List (Option R)) → IsLayout O hash m cells ↔ (cells ≡ map_layout O hash m)
    map_layout_exactly cells = (
      (λ w. is_layout K L cells m up fits w.size w.placed w.holds),
      (λ e. subst (IsLayout O hash m) (sym e) (record { size = map_layout_good.size; placed = map_layout_good.all; holds = map_layout_good.held })),
    )

  map_layout_one : (l m : List R) → Ascending O l → Ascending O m → length l ≤ 768 → length m ≤ 768 → map_layout O hash l ≡ map_layout O hash m → l ≡ m
  map_layout_one l m ul um fl fm e = sym (map_layout_records l ul fl) ∙ ap (records_of O) e ∙ map_layout_records m um fm

  -- cells as many as their count demands, all in place, are the layout of their records
  pub own_layout : (c : List (Option R)) → filled c ≤ 768 → length c ≡ capacity (filled c) → AllInPlace (hashed O hash (length c)) c
      → c ≡ map_layout O hash (records_of O c)
  own_layout c few size all =
      let K : Rule R Key = hashed O hash (length c) in
      let L : Lawful K = hashed_lawful O ordered hash small (length c) (omega (arith, size, (capacity_range (filled c)).0)) in
      let count : length (records_of O c) ≡ filled c = records_count O ordered c (distinct K L c refl all) in
      (layout_iff K L c refl).0 all ∙ ap (λ n. layout (hashed O hash n) (records_of O c)) (size ∙ ap capacity (sym count))

  layout_own : (c : List (Option R)) → filled c ≤ 768 → length c ≡ capacity (filled c) → c ≡ map_layout O hash (records_of O c)
      → AllInPlace (hashed O hash (length c)) c
  layout_own c few size e =
      let up : Ascending O (records_of O c) = records_ascending O ordered c in
      let g = map_layout_good (records_of O c) up (omega (arith, records_le O ordered c, few)) in
      let n : length c ≡ capacity (length (records_of O c)) = ap length e ∙ g.size in
      subst (λ cap. AllInPlace (hashed O hash cap) c) (sym n) (subst (AllInPlace (hashed O hash (capacity (length (records_of O c))))) (sym e) g.all)

  pub map_layout_laws : MapLayoutLaws O hash 768
  map_layout_laws = record {
    exactly = map_layout_exactly;
    read_back = map_layout_records;
    count = λ m up few. (map_layout_good m up few).count;
    one_map = map_layout_one;
    own = λ c few size. (own_layout c few size, layout_own c few size);
  }
