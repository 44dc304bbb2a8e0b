-- Worked examples, by the very definitions that the contracts use, under the seed 0: staff numbers and papers, images, sums and text keys.
use Rattle.std.specs.Prelude.{◌≡◌, ℕ, ◌^◌, ◌<◌, List, [], ◌∷◌, map, Some, None, Option, ◌-◌, ◌++◌, length, replicate, Ok, Result}
use Rattle.std.proofs.Common.{lit<}
use Rattle.kinds.specs.declared.record.Record.{Record}
use Rattle.layout.specs.Capacity.{home_at}
use Rattle.maps.specs.Commands.{with_pair, without_key}
use Rattle.maps.specs.Maps.{Kinds, kinds_of, contents, cells_of}
use Rattle.numbers.specs.Hours.{later}
use Rattle.numbers.specs.Papers.{papers, papers_kind}
use Rattle.numbers.specs.Staff.{staff, staff_kind}
use Rattle.numbers.specs.declared.hours.Hours.{Hours}
use Rattle.numbers.specs.declared.papers.Papers.{Papers}
use Rattle.numbers.specs.declared.staff.StaffNumber.{StaffNumber}
use Rattle.image.specs.Image.{image}
use Rattle.store.specs.Sums.{sums}
use Rattle.text.specs.Fnv.{fnv}
use Rattle.text.specs.Letters.{turned}
use Rattle.text.specs.Making.{Makes}
use Rattle.text.specs.declared.fault.TextFault.{TextFault}
use Rattle.text.specs.declared.key.TextKey.{TextKey}

abbrev pub staff_papers : Kinds StaffNumber ℕ Papers
staff_papers = kinds_of staff_kind papers_kind

-- the home of staff number n among 8 cells
abbrev pub home_of : (n : ℕ) → n < 2 ^ 32 → ℕ
home_of n h = home_at 8 (staff_kind.hash 0 (staff n h))

-- a member of staff with no papers
abbrev pub person : (n : ℕ) → n < 2 ^ 32 → Record StaffNumber Papers
person n h = record { key = staff n h; value = papers 0 (lit< tt) }

-- the staff number in each cell, 0 for an empty one
abbrev pub numbers_in : List (Option (Record StaffNumber Papers)) → List ℕ
numbers_in [] = []
numbers_in (None ∷ c) = 0 ∷ numbers_in c
numbers_in (Some r ∷ c) = r.key.number ∷ numbers_in c

abbrev pub laid_out : List (Record StaffNumber Papers) → List ℕ
laid_out m = numbers_in (cells_of staff_papers (contents 0 m))

abbrev pub one_to_six : List (Record StaffNumber Papers)
one_to_six = person 1 (lit< tt) ∷ person 2 (lit< tt) ∷ person 3 (lit< tt) ∷ person 4 (lit< tt) ∷ person 5 (lit< tt) ∷ person 6 (lit< tt) ∷ []

abbrev pub one_to_seven : List (Record StaffNumber Papers)
one_to_seven = with_pair staff_papers (staff 7 (lit< tt)) (papers 0 (lit< tt)) one_to_six

abbrev pub worked : (week quarters : ℕ) → week < 2 ^ 16 → quarters < 2 ^ 16 → Hours
worked w q h k = record { week = w; quarters = q; week_fits = h; quarters_fits = k }

abbrev pub hours_in : Hours → List ℕ
hours_in h = h.week ∷ h.quarters ∷ []

-- a member of staff with papers
abbrev pub person_with : (n p : ℕ) → n < 2 ^ 32 → p < 2 ^ 16 → Record StaffNumber Papers
person_with n p h k = record { key = staff n h; value = papers p k }

-- 1 with papers 3, and 9 with papers 4
abbrev pub one_and_nine : List (Record StaffNumber Papers)
one_and_nine = person_with 1 3 (lit< tt) (lit< tt) ∷ person_with 9 4 (lit< tt) (lit< tt) ∷ []

-- a block of 32 bytes: these, then zeros
abbrev pub block : List ℕ → List ℕ
block bytes = bytes ++ replicate (32 - length bytes) 0

-- the texts `ab` and `AB`
abbrev pub small_ab : List ℕ
small_ab = 97 ∷ 98 ∷ []

abbrev pub large_ab : List ℕ
large_ab = 65 ∷ 66 ∷ []

-- Each case: what the definitions give, and what it is to be, as numbers.
abbrev pub cases : List (List ℕ × List ℕ)
cases =
    -- homes of 1, 5, 6, 8, 9 and 16
    (home_of 1 (lit< tt) ∷ home_of 5 (lit< tt) ∷ home_of 6 (lit< tt) ∷ home_of 8 (lit< tt) ∷ home_of 9 (lit< tt) ∷ home_of 16 (lit< tt) ∷ [], 4 ∷ 0 ∷ 5 ∷ 7 ∷ 4 ∷ 7 ∷ [])
    -- 1 and 9 share a home
    ∷ (laid_out (person 1 (lit< tt) ∷ person 9 (lit< tt) ∷ []), 0 ∷ 0 ∷ 0 ∷ 0 ∷ 1 ∷ 9 ∷ 0 ∷ 0 ∷ [])
    -- 6 stands in its home, and 9 goes past it
    ∷ (laid_out (person 1 (lit< tt) ∷ person 6 (lit< tt) ∷ person 9 (lit< tt) ∷ []), 0 ∷ 0 ∷ 0 ∷ 0 ∷ 1 ∷ 6 ∷ 9 ∷ 0 ∷ [])
    -- without 1, 9 comes back to its home, past 6, which stays
    ∷ (laid_out (without_key staff_papers (staff 1 (lit< tt)) (person 1 (lit< tt) ∷ person 6 (lit< tt) ∷ person 9 (lit< tt) ∷ [])), 0 ∷ 0 ∷ 0 ∷ 0 ∷ 9 ∷ 6 ∷ 0 ∷ 0 ∷ [])
    -- 16 turns past the last cell
    ∷ (laid_out (person 8 (lit< tt) ∷ person 16 (lit< tt) ∷ []), 16 ∷ 0 ∷ 0 ∷ 0 ∷ 0 ∷ 0 ∷ 0 ∷ 8 ∷ [])
    -- and makes way for 5
    ∷ (laid_out (with_pair staff_papers (staff 5 (lit< tt)) (papers 0 (lit< tt)) (person 8 (lit< tt) ∷ person 16 (lit< tt) ∷ [])), 5 ∷ 16 ∷ 0 ∷ 0 ∷ 0 ∷ 0 ∷ 0 ∷ 8 ∷ [])
    -- the most that 8 cells hold
    ∷ (laid_out one_to_six, 5 ∷ 2 ∷ 0 ∷ 4 ∷ 1 ∷ 6 ∷ 3 ∷ 0 ∷ [])
    -- one more demands 16 cells, and dropped again it leaves what was
    ∷ (laid_out one_to_seven, 0 ∷ 5 ∷ 0 ∷ 2 ∷ 0 ∷ 7 ∷ 0 ∷ 4 ∷ 0 ∷ 1 ∷ 0 ∷ 6 ∷ 0 ∷ 3 ∷ 0 ∷ 0 ∷ [])
    ∷ (laid_out (without_key staff_papers (staff 7 (lit< tt)) one_to_seven), 5 ∷ 2 ∷ 0 ∷ 4 ∷ 1 ∷ 6 ∷ 3 ∷ 0 ∷ [])
    -- the later week is kept, though the hours are fewer
    ∷ (hours_in (later (worked 5 8 (lit< tt) (lit< tt)) (worked 4 90 (lit< tt) (lit< tt))), 5 ∷ 8 ∷ [])
    -- the image of two records, in two blocks: the header, then the bits of cells 4 and 5 and their codes
    ∷ (
      image staff_papers 64 (contents 0 one_and_nine),
      block (1 ∷ 1 ∷ 1 ∷ 3 ∷ 0 ∷ 2 ∷ []) ++ block (48 ∷ 0 ∷ 0 ∷ 0 ∷ 1 ∷ 0 ∷ 3 ∷ 0 ∷ 0 ∷ 0 ∷ 9 ∷ 0 ∷ 4 ∷ []),
    )
    -- the Fletcher sums of a block that begins with 1 and is zero behind it
    ∷ (sums (block (1 ∷ [])), 1 ∷ 32 ∷ [])
    -- `ab` and `AB` are both kept as `AB`
    ∷ (map turned small_ab, 65 ∷ 66 ∷ [])
    ∷ (map turned large_ab, 65 ∷ 66 ∷ [])
    -- FNV-1a of the byte `a`, not turned
    ∷ (fnv 0 (97 ∷ []) ∷ [], 3826002220 ∷ [])
    ∷ []

-- every case is as its row says
abbrev pub RowsHold : Type 0
RowsHold = map (λ c. c.0) cases ≡ map (λ c. c.1) cases

-- the bytes make the key k, and nothing else
abbrev pub MakesOnly : List ℕ → TextKey → Type 0
MakesOnly bytes k = Makes bytes (Ok k) × ((r : Result TextKey TextFault) → Makes bytes r → r ≡ Ok k)

-- there is one key that `ab` makes, and that `AB` makes
abbrev pub OneKey : Type 0
OneKey = (k : TextKey) × MakesOnly small_ab k × MakesOnly large_ab k

abbrev pub Examples : Type 0
Examples = RowsHold × OneKey
