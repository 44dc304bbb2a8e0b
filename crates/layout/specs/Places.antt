-- when the record of a cell is in place: as a relation, and as a test that computes
use Rattle.std.specs.Prelude.{◌≡◌, ℕ, ◌<◌, Bool, true, false, not, ◌&&◌, List, length, is_some, Some, None, Option, nat_lt}
use Rattle.layout.specs.Tests.{lowest}
use Rattle.layout.specs.Cells.{Rule, at, from_home, filled}

-- the cell holds a key strictly earlier than k
abbrev pub earlier : {R Key : Type 0} → Rule R Key → Option R → Key → Bool
earlier K None k = false
earlier K (Some r) k = K.order.before (K.order.key r) k

-- every cell from the home of k up to the one before i holds a strictly earlier key
abbrev pub Reach : {R Key : Type 0} → Rule R Key → List (Option R) → Key → ℕ → Type 0
Reach K cells k i = (j : ℕ) → j < K.capacity → from_home K k j < from_home K k i → earlier K (at cells j) k ≡ true

-- what cell i holds, if anything, is in place
abbrev pub InPlace : {R Key : Type 0} → Rule R Key → List (Option R) → ℕ → Type 0
InPlace {R} K cells i = (r : R) → at cells i ≡ Some r → Reach K cells (K.order.key r) i

abbrev pub AllInPlace : {R Key : Type 0} → Rule R Key → List (Option R) → Type 0
AllInPlace {R} K cells = (i : ℕ) (r : R) → i < K.capacity → at cells i ≡ Some r → Reach K cells (K.order.key r) i

-- f is the first free cell from the home of k on
pub record FirstFree {R Key : Type 0} (K : Rule R Key) (cells : List (Option R)) (k : Key) (f : ℕ) : Type 0 where
  pub within : f < K.capacity
  pub none : at cells f ≡ None
  pub full : (j : ℕ) → j < K.capacity → from_home K k j < from_home K k f → is_some (at cells j) ≡ true

-- cells that are a layout, with an empty one among them
pub record Sound {R Key : Type 0} (K : Rule R Key) (cells : List (Option R)) : Type 0 where
  pub size : length cells ≡ K.capacity
  pub all : AllInPlace K cells
  pub room : filled cells < K.capacity

-- cell j lies on the way from the home of k up to the one before i, and holds no strictly earlier key
abbrev pub bars : {R Key : Type 0} → Rule R Key → List (Option R) → Key → ℕ → ℕ → Bool
bars K cells k i j = nat_lt (from_home K k j) (from_home K k i) && not (earlier K (at cells j) k)

-- some cell bars the way of key k to cell i
abbrev pub barred : {R Key : Type 0} → Rule R Key → List (Option R) → Key → ℕ → Bool
barred K cells k i = is_some (lowest (bars K cells k i) 0 K.capacity)

abbrev pub misplaced : {R Key : Type 0} → Rule R Key → List (Option R) → ℕ → Option R → Bool
misplaced K cells i None = false
misplaced K cells i (Some r) = barred K cells (K.order.key r) i

-- what cell i holds is not in place
unfoldable pub out_of_place : {R Key : Type 0} → Rule R Key → List (Option R) → ℕ → Bool
out_of_place K cells i = misplaced K cells i (at cells i)

-- the lowest cell not in place
abbrev pub first_out : {R Key : Type 0} → Rule R Key → List (Option R) → Option ℕ
first_out K cells = lowest (out_of_place K cells) 0 K.capacity

-- i is the lowest cell whose record is not in place
pub record Lowest {R Key : Type 0} (K : Rule R Key) (cells : List (Option R)) (i : ℕ) : Type 0 where
  pub within : i < K.capacity
  pub below : (j : ℕ) → j < i → InPlace K cells j
  pub out : InPlace K cells i → ⊥
