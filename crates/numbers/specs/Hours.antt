-- Hours of a week: value kind 2.
use Rattle.std.specs.Prelude.{ℕ, ◌/◌, ◌%◌, ◌^◌, ◌<◌, cond, List, ◌++◌, nat_lt}
use Rattle.std.proofs.Common.{arith}
use Rattle.kinds.specs.Kinds.{ValueKind}
use Rattle.numbers.specs.Fixed.{bytes_of, fixed_front}
use Rattle.numbers.specs.declared.hours.Hours.{Hours}

-- the hours of which the number of 32 bits is made: the week above, the quarter hours below
abbrev pub hours : (n : ℕ) → n < 2 ^ 32 → Hours
hours n h = record { week = n / 65536; quarters = n % 65536; week_fits = omega arith; quarters_fits = omega arith }

-- the later week is kept, and within one week the larger hours
abbrev pub later : Hours → Hours → Hours
later x y = cond (nat_lt x.week y.week) y (cond (nat_lt y.week x.week) x (cond (nat_lt x.quarters y.quarters) y x))

-- the week in 2 bytes, then the quarter hours in 2 bytes
abbrev pub hours_code : Hours → List ℕ
hours_code h = bytes_of 2 h.week ++ bytes_of 2 h.quarters

abbrev pub hours_kind : ValueKind Hours
hours_kind = record { number = 2; code = hours_code; front = fixed_front 4 hours; join = later }
