-- bits, one for each cell, and the bytes that hold them
use Rattle.std.specs.Prelude.{ℕ, zero, suc, ◌+◌, ◌*◌, Bool, true, false, List, map}
use Rattle.std.specs.List.{range_with_len}

abbrev pub one : Bool → ℕ
one true = 1
one false = 0

-- how many of the n numbers from i on pass the test
abbrev pub ones : (ℕ → Bool) → ℕ → ℕ → ℕ
ones t i zero = 0
ones t i (suc n) = one (t i) + ones t (i + 1) n

-- the number with a bit for each of the n numbers from i on, the lowest bit for i
abbrev pub packed : (ℕ → Bool) → ℕ → ℕ → ℕ
packed t i zero = 0
packed t i (suc n) = one (t i) + 2 * packed t (i + 1) n

-- n bytes of eight bits each: number c is bit c mod 8, lowest first, of byte c / 8
abbrev pub bit_map : (ℕ → Bool) → ℕ → List ℕ
bit_map t n = map (λ j. packed t (8 * j) 8) (range_with_len 0 n)
