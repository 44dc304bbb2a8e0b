-- what the writer is given and leaves
use Rattle.std.specs.Prelude.{◌≡◌, ℕ, ◌≤◌, List, length, Option}
use Rattle.kinds.specs.declared.record.Record.{Record}
use Rattle.maps.specs.Maps.{Kinds, contents, Laid}
use Rattle.image.specs.Image.{image, image_length}

module _ {K Row V : Type 0} (x : Kinds K Row V) where
  -- the cells are the layout of the map under the seed, and its count is this
  pub record Holds (seed count : ℕ) (cells : List (Option (Record Row V))) (m : List (Record K V)) : Type 0 where
    pub laid : Laid x seed m cells
    pub counts : count ≡ length m

  -- the length of the image of the map that the cells hold
  abbrev pub LongAs : ℕ → List (Option (Record Row V)) → ℕ → Type 0
  LongAs count cells r = (seed : ℕ) (m : List (Record K V)) → Holds seed count cells m → r ≡ image_length x (contents seed m)

  -- the cells hold a map, whose image has room in n bytes
  abbrev pub HasRoom : ℕ → ℕ → List (Option (Record Row V)) → ℕ → Type 0
  HasRoom seed count cells n = (m : List (Record K V)) × Holds seed count cells m × (image_length x (contents seed m) ≤ n)

  -- the bytes are the image of the map that the cells hold, in n bytes
  abbrev pub ImageOf : ℕ → ℕ → List (Option (Record Row V)) → ℕ → List ℕ → Type 0
  ImageOf seed count cells n out = (m : List (Record K V)) → Holds seed count cells m → out ≡ image x n (contents seed m)
