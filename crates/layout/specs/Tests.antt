-- the first number that passes a test
use Rattle.std.specs.Prelude.{ℕ, zero, suc, ◌+◌, Bool, cond, Some, None, Option}

-- the first of the n numbers from i on that passes the test
abbrev pub lowest : (ℕ → Bool) → ℕ → ℕ → Option ℕ
lowest t i zero = None
lowest t i (suc n) = cond (t i) (Some i) (lowest t (i + 1) n)
