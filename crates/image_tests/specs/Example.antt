-- 1 with papers 3 and 9 with papers 4, under seed 0, in a store of two blocks
use Rattle.std.specs.Prelude.{◌≡◌, ℕ, List, [], ◌∷◌, ◌++◌, take, replicate, Err, slice_set}
use Rattle.std.proofs.Common.{lit<}
use Rattle.maps.specs.Maps.{Kinds, Contents, contents, kinds_of}
use Rattle.numbers.specs.Papers.{papers, papers_kind}
use Rattle.numbers.specs.Staff.{staff, staff_kind}
use Rattle.numbers.specs.declared.papers.Papers.{Papers}
use Rattle.numbers.specs.declared.staff.StaffNumber.{StaffNumber}
use Rattle.image.specs.declared.fault.ImageFault.{ImageFault}
use Rattle.image.specs.declared.fault.ImageFault.TheVariants.{Header, Bits, Record, Layout, Tail}
use Rattle.image.specs.Image.{image}
use Rattle.image.specs.Opened.{opened}

abbrev pub kinds : Kinds StaffNumber ℕ Papers
kinds = kinds_of staff_kind papers_kind

abbrev pub example : Contents StaffNumber Papers
example = contents 0 (
    record { key = staff 1 (lit< tt); value = papers 3 (lit< tt) }
    ∷ record { key = staff 9 (lit< tt); value = papers 4 (lit< tt) }
    ∷ [])

abbrev pub example_bytes : List ℕ
example_bytes = (1 ∷ 1 ∷ 1 ∷ 3 ∷ 0 ∷ 2 ∷ replicate 26 0) ++ (48 ∷ 0 ∷ 0 ∷ 0 ∷ 1 ∷ 0 ∷ 3 ∷ 0 ∷ 0 ∷ 0 ∷ 9 ∷ 0 ∷ 4 ∷ replicate 19 0)

abbrev pub ExampleImage : Type 0
ExampleImage = image kinds 64 example ≡ example_bytes

abbrev pub Refused : List ℕ → ImageFault ⊥ → Type 0
Refused bytes fault = opened kinds bytes ≡ Err fault

-- byte i turned to b
abbrev pub Spoilt : ℕ → ℕ → ImageFault ⊥ → Type 0
Spoilt i b fault = Refused (slice_set example_bytes i b) fault

abbrev pub ExampleRefusals : Type 0
ExampleRefusals =
    Spoilt 0 2 (Header 0) × Spoilt 3 4 (Header 4) × Spoilt 4 4 (Header 4) × Spoilt 31 7 (Header 31) × Spoilt 32 16 Bits
    × Refused (take 44 example_bytes) (Record 39) × Spoilt 36 9 (Layout 5) × Spoilt 32 17 (Layout 0) × Spoilt 63 1 (Tail 63)
