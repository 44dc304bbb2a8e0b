-- What a store shows and keeps: places, each a block of bytes or unreadable.
use Rattle.std.specs.Prelude.{◌≡◌, ℕ, List, map, length, Option}
use Rattle.std.specs.List.{range_with_len}

-- a block, or None for 'unreadable'
abbrev pub Place : Type 0
Place = Option (List ℕ)

-- n places, the k-th of them f k
abbrev pub places : ℕ → (ℕ → Place) → List Place
places n f = map f (range_with_len 0 n)

-- a place for each block, in what is shown and in what is kept
pub record Lengths (count : ℕ) (shown kept : List Place) : Type 0 where
  pub of_shown : length shown ≡ count
  pub of_kept : length kept ≡ count
