-- the cells, numbered from 0, where 0 follows the last; and the layout of a map in them
use Rattle.std.specs.Prelude.{◌≡◌, ℕ, zero, suc, ◌+◌, ◌-◌, ◌<◌, cond, List, [], ◌∷◌, length, replicate, is_some, Some, None, Option, ◌==◌, nat_le, slice_index_or, slice_set}
use Rattle.layout.specs.Orders.{Order, Ordered, In}
use Rattle.layout.specs.Map.{put, newer}
use Rattle.layout.specs.Capacity.{capacity, home_at}

-- what a layout goes by: the order of the records, the number of cells, and the home of each key
pub record Rule (R Key : Type 0) : Type 0 where
  pub order : Order R Key
  pub capacity : ℕ
  pub home : Key → ℕ

pub record Lawful {R Key : Type 0} (K : Rule R Key) : Type 0 where
  pub ordered : Ordered K.order
  pub homes : (k : Key) → K.home k < K.capacity

-- the rule at a capacity where keys are hashed
abbrev pub hashed : {R Key : Type 0} → Order R Key → (Key → ℕ) → ℕ → Rule R Key
hashed O hash cap = record { order = O; capacity = cap; home = λ k. home_at cap (hash k) }

-- what cell i holds
abbrev pub at : {R : Type 0} → List (Option R) → ℕ → Option R
at cells i = slice_index_or cells i None

-- the cell after i
unfoldable pub next : ℕ → ℕ → ℕ
next cap i = cond (i + 1 == cap) 0 (i + 1)

-- the cell n steps after h
abbrev pub after : ℕ → ℕ → ℕ → ℕ
after cap zero h = h
after cap (suc n) h = next cap (after cap n h)

-- how many steps lead from cell h to cell i
unfoldable pub distance : ℕ → ℕ → ℕ → ℕ
distance cap h i = cond (nat_le h i) (i - h) (i + cap - h)

-- how many steps lead from the home of key k to cell i
abbrev pub from_home : {R Key : Type 0} → Rule R Key → Key → ℕ → ℕ
from_home K k i = distance K.capacity (K.home k) i

-- of n cells from i on, the first that is free
unfoldable pub free : {R : Type 0} → ℕ → List (Option R) → ℕ → ℕ → ℕ
free cap cells zero i = i
free cap cells (suc n) i = let later = free cap cells n (next cap i) in cond (is_some (at cells i)) later i

-- a record put into the first free cell from its home on
unfoldable pub place : {R Key : Type 0} → Rule R Key → List (Option R) → R → List (Option R)
place K cells r = slice_set cells (free K.capacity cells K.capacity (K.home (K.order.key r))) (Some r)

unfoldable pub places : {R Key : Type 0} → Rule R Key → List (Option R) → List R → List (Option R)
places K cells [] = cells
places K cells (r ∷ rs) = places K (place K cells r) rs

-- the layout of a map: its records in key order, each into the first free cell from its home on
unfoldable pub layout : {R Key : Type 0} → Rule R Key → List R → List (Option R)
layout K m = places K (replicate K.capacity None) m

-- the layout at the capacity that the count demands
abbrev pub map_layout : {R Key : Type 0} → Order R Key → (Key → ℕ) → List R → List (Option R)
map_layout O hash m = layout (hashed O hash (capacity (length m))) m

-- the map that cells hold: their records in key order
unfoldable pub records_of : {R Key : Type 0} → Order R Key → List (Option R) → List R
records_of O [] = []
records_of O (None ∷ c) = records_of O c
records_of O (Some r ∷ c) = put O newer r (records_of O c)

-- how many cells are filled
abbrev pub filled : {R : Type 0} → List (Option R) → ℕ
filled [] = 0
filled (None ∷ c) = filled c
filled (Some r ∷ c) = suc (filled c)

-- some cell holds the record
abbrev pub Held : {R Key : Type 0} → Rule R Key → List (Option R) → R → Type 0
Held K cells r = (i : ℕ) × (i < K.capacity) × (at cells i ≡ Some r)

-- the cells hold exactly the records of the map
abbrev pub Holds : {R Key : Type 0} → Rule R Key → List (Option R) → List R → Type 0
Holds {R} K cells m = (r : R) → (Held K cells r → In r m) × (In r m → Held K cells r)
