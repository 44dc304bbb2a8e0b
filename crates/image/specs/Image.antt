-- The image of a seed and a map: the bytes by which a store keeps them.
use Rattle.std.specs.Prelude.{ℕ, ◌-◌, ◌/◌, ◌%◌, Bool, List, [], ◌∷◌, ◌++◌, length, replicate, is_some, Some, None, Option}
use Rattle.kinds.specs.Records.{record_code}
use Rattle.kinds.specs.declared.record.Record.{Record}
use Rattle.layout.specs.Capacity.{power, capacity}
use Rattle.layout.specs.Cells.{at}
use Rattle.maps.specs.Maps.{Kinds, Contents, cells_of}
use Rattle.image.specs.Bits.{bit_map}

-- numbers stand high byte first
abbrev pub two_bytes : ℕ → List ℕ
two_bytes n = n / 256 ∷ n % 256 ∷ []

abbrev pub four_bytes : ℕ → List ℕ
four_bytes n = n / 16777216 ∷ n / 65536 % 256 ∷ n / 256 % 256 ∷ n % 256 ∷ []

-- Block 0. Byte 0: the edition, 1; 1: the key kind; 2: the value kind; 3: the power of two of the capacity; 4 and 5: the count;
-- 6 and 7: zero; 8 to 11: the seed; 12 to 31: zero.
abbrev pub header : ℕ → ℕ → ℕ → ℕ → ℕ → List ℕ
header keys values p count seed = 1 ∷ keys ∷ values ∷ p ∷ two_bytes count ++ (0 ∷ 0 ∷ four_bytes seed ++ replicate 20 0)

-- cell c holds a record
abbrev pub held : {R : Type 0} → List (Option R) → ℕ → Bool
held cells c = is_some (at cells c)

-- the codes of the records, in cell order
abbrev pub codes : {R : Type 0} → (R → List ℕ) → List (Option R) → List ℕ
codes code [] = []
codes code (None ∷ cells) = codes code cells
codes code (Some r ∷ cells) = code r ++ codes code cells

module _ {K Row V : Type 0} (x : Kinds K Row V) where
  -- a record's code: the key's, then the value's
  abbrev pub code_of : Record K V → List ℕ
  code_of r = record_code x.key x.value r

  -- block 0, the bit map of the cells from byte 32 on, and only the cells whose bit stands
  unfoldable pub body : Contents K V → List ℕ
  body h =
      let count = length h.records in
      header x.key.number x.value.number (power count) count h.seed
      ++ (bit_map (held (cells_of x h)) (capacity count / 8) ++ codes code_of (cells_of x h))

  abbrev pub image_length : Contents K V → ℕ
  image_length h = length (body h)

  -- in a store of n bytes, with zeros to its end
  unfoldable pub image : ℕ → Contents K V → List ℕ
  image n h = body h ++ replicate (n - image_length h) 0
