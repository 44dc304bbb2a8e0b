-- What some bytes are the image of, or the first fault in them.
use Rattle.std.specs.Prelude.{ℕ, zero, suc, ◌+◌, ◌-◌, ◌*◌, ◌/◌, ◌%◌, ◌^◌, Bool, false, cond, not, ◌&&◌, ◌||◌, List, [], ◌∷◌, ◌++◌, length, drop, Some, None, Ok, Err, Option, Result, ◌==◌, nat_le, nat_lt, slice_index}
use Rattle.kinds.specs.Records.{record_front}
use Rattle.kinds.specs.declared.record.Record.{Record as Rec}
use Rattle.layout.specs.Tests.{lowest}
use Rattle.layout.specs.Capacity.{power}
use Rattle.layout.specs.Cells.{records_of}
use Rattle.layout.specs.Places.{first_out}
use Rattle.maps.specs.Maps.{Kinds, Contents, contents, record_order, rule}
use Rattle.image.specs.declared.fault.ImageFault.{ImageFault}
use Rattle.image.specs.declared.fault.ImageFault.TheVariants.{Header, Bits, Record, Layout, Tail}
use Rattle.image.specs.Bits.{ones}

-- a byte past the end counts as zero
abbrev pub byte : List ℕ → ℕ → ℕ
byte bs i = slice_index bs i

abbrev pub count_of : List ℕ → ℕ
count_of bs = byte bs 4 * 256 + byte bs 5

abbrev pub seed_of : List ℕ → ℕ
seed_of bs = byte bs 8 * 16777216 + byte bs 9 * 65536 + byte bs 10 * 256 + byte bs 11

abbrev pub capacity_of : List ℕ → ℕ
capacity_of bs = 2 ^ byte bs 3

-- the bit of cell c
unfoldable pub marked : List ℕ → ℕ → Bool
marked bs c = byte bs (32 + c / 8) / 2 ^ (c % 8) % 2 == 1

-- a place, if there is one, makes a fault
abbrev pub unless : {F : Type 0} → (ℕ → ImageFault F) → Option ℕ → Result Unit (ImageFault F)
unless f None = Ok tt
unless f (Some i) = Err (f i)

-- one after another, up to the first fault
abbrev pub then : {A B E : Type 0} → Result A E → (A → Result B E) → Result B E
then (Ok a) next = next a
then (Err e) next = Err e

-- a count above 768, or one that demands another capacity
abbrev pub wrong_count : ℕ → ℕ → Bool
wrong_count count p = nat_lt 768 count || not (power count == p)

-- byte i of block 0 breaks its rule
unfoldable pub breaks : {K Row V : Type 0} → Kinds K Row V → List ℕ → ℕ → Bool
breaks x bs i =
    cond (i == 0) (not (byte bs i == 1))
    (cond (i == 1) (not (byte bs i == x.key.number))
    (cond (i == 2) (not (byte bs i == x.value.number))
    (cond (i == 3) (nat_lt (byte bs i) 3 || nat_lt 10 (byte bs i))
    (cond (i == 4) (wrong_count (count_of bs) (byte bs 3))
    (cond (i == 5 || (nat_lt 7 i && nat_lt i 12)) false
    (not (byte bs i == 0)))))))

unfoldable pub header_check : {F K Row V : Type 0} → Kinds K Row V → List ℕ → Result Unit (ImageFault F)
header_check x bs = unless Header (lowest (breaks x bs) 0 32)

-- the bit map of so many cells ends within the bytes, and its ones are the count
unfoldable pub bits_check : {F : Type 0} → List ℕ → ℕ → Result Unit (ImageFault F)
bits_check bs cap = cond (nat_le (32 + cap / 8) (length bs) && ones (marked bs) 0 cap == count_of bs) (Ok tt) (Err Bits)

-- some cells, and the place behind their records
abbrev pub Cells : Type 0 → Type 0 → Type 0
Cells F R = Result (List (Option R) × ℕ) (ImageFault F)

-- more cells in front of those that were read
abbrev pub onto : {F R : Type 0} → List (Option R) → Cells F R → Cells F R
onto cells (Ok p) = Ok (cells ++ p.0, p.1)
onto cells (Err f) = Err f

-- what the front reads at place at, and what follows it
abbrev pub reading : {F R : Type 0} → ℕ → Option (R × ℕ) → (ℕ → Cells F R) → Cells F R
reading at None next = Err (Record at)
reading at (Some p) next = onto (Some p.0 ∷ []) (next (at + p.1))

-- the n cells from c on, whose records stand from place at on
unfoldable pub walk : {F R : Type 0} → (List ℕ → Option (R × ℕ)) → List ℕ → ℕ → ℕ → ℕ → Cells F R
walk front bs c zero at = Ok ([], at)
walk front bs c (suc n) at =
    cond (marked bs c) (reading at (front (drop at bs)) (λ e. walk front bs (c + 1) n e)) (onto (None ∷ []) (walk front bs (c + 1) n at))

module _ {K Row V : Type 0} (x : Kinds K Row V) where
  -- the record whose code stands at the front of some bytes, with the length of that code
  abbrev pub front_of : List ℕ → Option (Rec K V × ℕ)
  front_of bs = record_front x.key x.value bs

  -- the cells that the bit map and the records behind it give
  abbrev pub cells_in : {F : Type 0} → List ℕ → ℕ → Cells F (Rec K V)
  cells_in bs cap = walk front_of bs 0 cap (32 + cap / 8)

  unfoldable pub layout_check : {F : Type 0} → ℕ → List (Option (Rec K V)) → Result Unit (ImageFault F)
  layout_check seed cells = unless Layout (first_out (rule x seed (length cells)) cells)

-- byte i is not zero
abbrev pub not_zero : List ℕ → ℕ → Bool
not_zero bs i = not (byte bs i == 0)

unfoldable pub tail_check : {F : Type 0} → List ℕ → ℕ → Result Unit (ImageFault F)
tail_check bs end = unless Tail (lowest (not_zero bs) end (length bs - end))

unfoldable pub opened : {F K Row V : Type 0} → Kinds K Row V → List ℕ → Result (Contents K V) (ImageFault F)
opened x bs =
    then (header_check x bs) (λ _.
    then (bits_check bs (capacity_of bs)) (λ _.
    then (cells_in x bs (capacity_of bs)) (λ read.
    then (layout_check x (seed_of bs) read.0) (λ _.
    then (tail_check bs read.1) (λ _.
    Ok (contents (seed_of bs) (records_of (record_order x) read.0)))))))
