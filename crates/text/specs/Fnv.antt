-- FNV-1a, 32 bits.
use Rattle.std.specs.Prelude.{ℕ, ◌*◌, ◌%◌, List, bit_xor}
use Rattle.std.specs.List.{fold}

-- a byte is xored in, and then the sum multiplied
abbrev pub mixed : ℕ → ℕ → ℕ
mixed sum b = (bit_xor sum b * 16777619) % 4294967296

-- from the sum so far
abbrev pub fnv_from : ℕ → List ℕ → ℕ
fnv_from sum bs = fold mixed sum bs

abbrev pub fnv : ℕ → List ℕ → ℕ
fnv seed bs = fnv_from (bit_xor 2166136261 seed) bs
