-- the theorems on maps, capacities and layouts
use Rattle.std.specs.Prelude.{◌≡◌, ℕ, ◌+◌, ◌<◌, ◌≤◌, false, ◌≢◌, ◌↔◌, List, length, Some, None, Option, slice_set}
use Rattle.layout.specs.Orders.{Order, Ordered, In, Ascending, Absent}
use Rattle.layout.specs.Map.{put, without, get, joined, Keeps}
use Rattle.layout.specs.Capacity.{capacity, home_at, Demanded}
use Rattle.layout.specs.Cells.{Rule, Lawful, hashed, after, distance, place, layout, map_layout, records_of, filled, Holds}
use Rattle.layout.specs.Places.{FirstFree, InPlace, AllInPlace, out_of_place, first_out, Lowest}

-- what a map gives for a key after a put and after a removal, and how many records it then has
pub record MapLaws {R Key : Type 0} (O : Order R Key) : Type 0 where
  pub put_ascends : (join : R → R → R) → Keeps O join → (r : R) (m : List R) → Ascending O m → Ascending O (put O join r m)
  pub without_ascends : (k : Key) (m : List R) → Ascending O m → Ascending O (without O k m)
  -- what is found for a key is the map's record of that key
  pub get_is : (k : Key) (m : List R) → Ascending O m → (r : R) → (get O k m ≡ Some r) ↔ (In r m × (O.key r ≡ k))
  pub get_none : (k : Key) (m : List R) → Ascending O m → (get O k m ≡ None) ↔ Absent O k m
  -- the key that was put has the record, joined to what was there; every other key has what it had
  pub get_put : (join : R → R → R) → Keeps O join → (r : R) (m : List R) → Ascending O m
      → get O (O.key r) (put O join r m) ≡ Some (joined join (get O (O.key r) m) r)
  pub get_put_other : (join : R → R → R) → Keeps O join → (r : R) (m : List R) → Ascending O m → (k : Key) → k ≢ O.key r
      → get O k (put O join r m) ≡ get O k m
  -- the key that was removed has none; every other key has what it had
  pub get_without : (k : Key) (m : List R) → Ascending O m → get O k (without O k m) ≡ None
  pub get_without_other : (k : Key) (m : List R) → Ascending O m → (l : Key) → l ≢ k → get O l (without O k m) ≡ get O l m
  -- only a new key makes the map longer, and only a key that was there makes it shorter
  pub put_new : (join : R → R → R) (r : R) (m : List R) → Ascending O m → get O (O.key r) m ≡ None → length (put O join r m) ≡ length m + 1
  pub put_old : (join : R → R → R) (r old : R) (m : List R) → Ascending O m → get O (O.key r) m ≡ Some old → length (put O join r m) ≡ length m
  pub without_old : (k : Key) (old : R) (m : List R) → Ascending O m → get O k m ≡ Some old → length (without O k m) + 1 ≡ length m
  pub without_none : (k : Key) (m : List R) → Ascending O m → get O k m ≡ None → without O k m ≡ m
  -- maps that give the same for every key are equal
  pub one_map : (a b : List R) → Ascending O a → Ascending O b → ((k : Key) → get O k a ≡ get O k b) → a ≡ b

-- the capacity of up to so many records is the smallest power of two from 8 to 1024 with 4 × count ≤ 3 × capacity, that number alone;
-- and some cell stays empty
pub record CapacityLaws (most : ℕ) : Type 0 where
  pub demanded : (count : ℕ) → count ≤ most → Demanded count (capacity count)
  pub only : (count cap : ℕ) → Demanded count cap → cap ≡ capacity count
  pub room : (count : ℕ) → count ≤ most → count < capacity count

-- no larger count has such capacities
abbrev pub Largest : ℕ → Type 0
Largest most = (n : ℕ) → CapacityLaws n → n ≤ most

-- the home of a hash below the bound is one of the cells
abbrev pub HomeLaw : ℕ → Type 0
HomeLaw bound = (cap hash : ℕ) → 0 < cap → hash < bound → home_at cap hash < cap

-- from one cell to any other, distance counts the steps, less than once round
abbrev pub RoundLaw : Type 0
RoundLaw = (cap h i : ℕ) → h < cap → i < cap → (distance cap h i < cap) × (after cap (distance cap h i) h ≡ i)

-- the layout by any lawful rule, of any map that finds room
pub record LayoutLaws {R Key : Type 0} (K : Rule R Key) : Type 0 where
  -- where a cell is free, a record is put into the first from its home on
  pub first_free : (c : List (Option R)) (r : R) → length c ≡ K.capacity → filled c < K.capacity → (f : ℕ) × FirstFree K c (K.order.key r) f × (place K c r ≡ slice_set c f (Some r))
  -- the layout of a map has all in place and holds exactly the map
  pub size : (m : List R) → Ascending K.order m → length m ≤ K.capacity → length (layout K m) ≡ K.capacity
  pub placed : (m : List R) → Ascending K.order m → length m ≤ K.capacity → AllInPlace K (layout K m)
  pub holds : (m : List R) → Ascending K.order m → length m ≤ K.capacity → Holds K (layout K m) m
  -- read back in key order, the records of the layout are the map
  pub read_back : (m : List R) → Ascending K.order m → length m ≤ K.capacity → records_of K.order (layout K m) ≡ m
  -- cells that hold the same map, all in place, are equal
  pub one : (c d : List (Option R)) (m : List R) → Ascending K.order m → length c ≡ K.capacity → length d ≡ K.capacity
      → AllInPlace K c → AllInPlace K d → Holds K c m → Holds K d m → c ≡ d
  -- the records of cells all in place are a map, and all that they hold
  pub ascends : (c : List (Option R)) → Ascending K.order (records_of K.order c)
  pub own_holds : (c : List (Option R)) → length c ≡ K.capacity → AllInPlace K c → Holds K c (records_of K.order c)
  -- cells are the layout of their records exactly when all are in place
  pub exactly : (c : List (Option R)) → length c ≡ K.capacity → AllInPlace K c ↔ (c ≡ layout K (records_of K.order c))
  -- the test of a cell's place decides it, and the first cell that fails it is the lowest not in place
  pub decides : (c : List (Option R)) (i : ℕ) → (out_of_place K c i ≡ false) ↔ InPlace K c i
  pub none_out : (c : List (Option R)) → (first_out K c ≡ None) ↔ AllInPlace K c
  pub lowest_out : (c : List (Option R)) (i : ℕ) → (first_out K c ≡ Some i) ↔ Lowest K c i

-- the cells are as many as the map's count demands, all in place, and hold exactly the map
pub record IsLayout {R Key : Type 0} (O : Order R Key) (hash : Key → ℕ) (m : List R) (cells : List (Option R)) : Type 0 where
  pub size : length cells ≡ capacity (length m)
  pub placed : AllInPlace (hashed O hash (capacity (length m))) cells
  pub holds : Holds (hashed O hash (capacity (length m))) cells m

-- the layout under one hash of maps of up to so many records
pub record MapLayoutLaws {R Key : Type 0} (O : Order R Key) (hash : Key → ℕ) (most : ℕ) : Type 0 where
  -- a map has one layout
  pub exactly : (m : List R) → Ascending O m → length m ≤ most → (cells : List (Option R)) → IsLayout O hash m cells ↔ (cells ≡ map_layout O hash m)
  -- and a layout is of one map
  pub read_back : (m : List R) → Ascending O m → length m ≤ most → records_of O (map_layout O hash m) ≡ m
  pub count : (m : List R) → Ascending O m → length m ≤ most → filled (map_layout O hash m) ≡ length m
  pub one_map : (l m : List R) → Ascending O l → Ascending O m → length l ≤ most → length m ≤ most → map_layout O hash l ≡ map_layout O hash m → l ≡ m
  -- cells all in place, as many as their own count demands, are the layout of their records
  pub own : (cells : List (Option R)) → filled cells ≤ most → length cells ≡ capacity (filled cells)
      → AllInPlace (hashed O hash (length cells)) cells ↔ (cells ≡ map_layout O hash (records_of O cells))

-- all of it: for any records and keys, counts up to most and hashes below the bound
pub record Theorems (R Key : Type 0) (most bound : ℕ) : Type 0 where
  pub maps : (O : Order R Key) → Ordered O → MapLaws O
  pub capacities : CapacityLaws most
  pub homes : HomeLaw bound
  pub round : RoundLaw
  pub layouts : (K : Rule R Key) → Lawful K → LayoutLaws K
  pub map_layouts : (O : Order R Key) → Ordered O → (hash : Key → ℕ) → ((k : Key) → hash k < bound) → MapLayoutLaws O hash most
