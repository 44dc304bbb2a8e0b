-- What lines are, in other words than the reader's.
use Rattle.std.specs.Prelude.{◌≡◌, ℕ, ◌^◌, ◌<◌, ◌≤◌, true, ◌⊎◌, List, [], ◌∷◌, ◌++◌, length, Some, Ok, Err, decimal, Result, ◌≢◌, slice_index}
use Rattle.std.specs.List.{list_all}
use Rattle.lines.specs.Input.{is_digit, value_from, line_in}
use Rattle.lines.specs.declared.input.Line.{Line}
use Rattle.lines.specs.declared.input.Line.TheVariants.{Put, Drop, Get, Seal}

-- the first line and the rest: up to a byte 10, which belongs to neither, or all, where there is none
pub record Cuts (bs line rest : List ℕ) : Type 0 where
  pub one_line : (i : ℕ) → i < length line → slice_index line i ≢ 10
  pub whole : (bs ≡ line ++ 10 ∷ rest) ⊎ ((bs ≡ line) × (rest ≡ []))

-- the digits write n: 1 to 10 of them, leading zeros too, and n below the limit
pub record Writes (limit n : ℕ) (ds : List ℕ) : Type 0 where
  pub some : 1 ≤ length ds
  pub few : length ds ≤ 10
  pub digits : list_all is_digit ds ≡ true
  pub value : value_from 0 ds ≡ n
  pub below : n < limit

-- the bytes are that line
abbrev pub Spells : Line → List ℕ → Type 0
Spells (Put k v) bs = (ks : List ℕ) × (vs : List ℕ) × Writes (2 ^ 32) k ks × Writes (2 ^ 16) v vs × (bs ≡ 43 ∷ (ks ++ 32 ∷ vs))
Spells (Drop k) bs = (ks : List ℕ) × Writes (2 ^ 32) k ks × (bs ≡ 45 ∷ ks)
Spells (Get k) bs = (ks : List ℕ) × Writes (2 ^ 32) k ks × (bs ≡ 63 ∷ ks)
Spells Seal bs = bs ≡ 61 ∷ []

-- a reader gives the line that the bytes are, and refuses exactly those that are none
abbrev pub Tells : {E : Type 0} → List ℕ → Result Line E → Type 0
Tells bs (Ok l) = Spells l bs
Tells bs (Err e) = (l : Line) → Spells l bs → ⊥

-- a line as it is written out in decimal
abbrev pub written : Line → List ℕ
written (Put k v) = 43 ∷ (decimal k ++ 32 ∷ decimal v)
written (Drop k) = 45 ∷ decimal k
written (Get k) = 63 ∷ decimal k
written Seal = 61 ∷ []

abbrev pub InRange : Line → Type 0
InRange (Put k v) = (k < 2 ^ 32) × (v < 2 ^ 16)
InRange (Drop k) = k < 2 ^ 32
InRange (Get k) = k < 2 ^ 32
InRange Seal = Unit {0}

-- each line that is written out is read back as itself
abbrev pub ReadsBack : Type 0
ReadsBack = (l : Line) → InRange l → line_in (written l) ≡ Some l
