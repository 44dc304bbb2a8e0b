-- What a sheet of commands does on lent cells, and when it is refused.
use Rattle.std.specs.Prelude.{◌≡◌, ℕ, Bool, true, false, ◌&&◌, List, ◌++◌, length, drop, replicate, is_some, None, Ok, Err, Option, Result, ◌==◌, nat_le}
use Rattle.std.specs.List.{list_all}
use Rattle.kinds.specs.declared.record.Record.{Record}
use Rattle.maps.specs.Commands.{row_of, answers_to, map_after_sheet}
use Rattle.maps.specs.Maps.{Kinds, Laid}
use Rattle.maps.specs.declared.Answer.{Answer}
use Rattle.maps.specs.declared.Command.{Command}
use Rattle.sheets.specs.Checks.{IsTable}
use Rattle.sheets.specs.declared.sheet.SheetFault.{SheetFault}
use Rattle.sheets.specs.declared.sheet.SheetFault.TheVariants.{Kind, Lent, Cells}

-- KIND, LENT and CELLS, each at place 0
abbrev pub fault_number : SheetFault → ℕ
fault_number Kind = 9
fault_number Lent = 2
fault_number Cells = 10

abbrev pub fault_place : SheetFault → ℕ
fault_place Kind = 0
fault_place Lent = 0
fault_place Cells = 0

-- the row of every command is a key's
abbrev pub all_rows_keyed : {K Row V : Type 0} → Kinds K Row V → List (Command Row V) → Bool
all_rows_keyed x sheet = list_all (λ c. is_some (x.key.key (row_of c))) sheet

-- 1024 cells and as many of scratch, at most 64 commands, and an answer for each
abbrev pub well_lent : ℕ → ℕ → ℕ → ℕ → Bool
well_lent cells scratch sheet answers = cells == 1024 && (scratch == 1024 && (nat_le sheet 64 && nat_le sheet answers))

-- each refusal comes exactly under its condition, the first wins
abbrev pub Refused : Bool → Bool → Type 0 → SheetFault → Type 0
Refused keyed lent table Kind = keyed ≡ false
Refused keyed lent table Lent = (keyed ≡ true) × (lent ≡ false)
Refused keyed lent table Cells = (keyed ≡ true) × (lent ≡ true) × (table → ⊥)

abbrev pub Judged : Bool → Bool → Type 0 → Result (Unit {0}) SheetFault → Type 0
Judged keyed lent table (Err fault) = Refused keyed lent table fault
Judged keyed lent table (Ok u) = (keyed ≡ true) × (lent ≡ true) × table

-- what the lent pieces hold after a sheet that was run on the cells of the map m: the layout of the map after it, empty cells,
-- and the answers in front of what was there
pub record Ran {K Row V : Type 0} (x : Kinds K Row V) (seed : ℕ) (sheet : List (Command Row V)) (m : List (Record K V)) (count : ℕ) (cells scratch : List (Option (Record Row V))) (before after : List (Answer V)) : Type 0 where
  pub laid : Laid x seed (map_after_sheet x sheet m) cells
  pub counted : count ≡ length (map_after_sheet x sheet m)
  pub emptied : scratch ≡ replicate (length scratch) None
  pub told : after ≡ answers_to x sheet m ++ drop (length sheet) before

-- whatever map of so many records the cells held
abbrev pub RunsAll : {K Row V : Type 0} → Kinds K Row V → ℕ → ℕ → List (Command Row V) → List (Option (Record Row V)) → List (Answer V) → ℕ → List (Option (Record Row V)) → List (Option (Record Row V)) → List (Answer V) → Type 0
RunsAll {K} {Row} {V} x seed count sheet held before left cells scratch after =
    (m : List (Record K V)) → Laid x seed m held → count ≡ length m → Ran x seed sheet m left cells scratch before after

-- the three pieces that a sheet is lent to write to
pub record Pieces (Row V : Type 0) : Type 0 where
  pub cells : List (Option (Record Row V))
  pub scratch : List (Option (Record Row V))
  pub answers : List (Answer V)

-- a sheet run on lent pieces: refused, it leaves all of them as they were; else the commands ran in turn
abbrev pub SheetRun : {K Row V : Type 0} → Kinds K Row V → ℕ → ℕ → ℕ → List (Command Row V) → Pieces Row V → Pieces Row V → Result ℕ SheetFault → Type 0
SheetRun x seed count cap sheet before after (Err fault) =
    Refused (all_rows_keyed x sheet) (well_lent (length before.cells) (length before.scratch) (length sheet) (length before.answers)) (IsTable x seed count cap before.cells) fault
    × (after ≡ before)
SheetRun {K} {Row} {V} x seed count cap sheet before after (Ok left) =
    Judged (all_rows_keyed x sheet) (well_lent (length before.cells) (length before.scratch) (length sheet) (length before.answers)) (IsTable x seed count cap before.cells) (Ok tt)
    × RunsAll x seed count sheet before.cells before.answers left after.cells after.scratch after.answers
