-- how many cells a count of records demands, and where a hash has its home among them
use Rattle.std.specs.Prelude.{◌≡◌, ℕ, ◌*◌, ◌/◌, ◌^◌, ◌≤◌, Bool, Some, None, Option, nat_le}
use Rattle.layout.specs.Tests.{lowest}

-- 2 ^ p cells are enough: at most three quarters of them get filled
abbrev pub enough : ℕ → ℕ → Bool
enough count p = nat_le (4 * count) (3 * 2 ^ p)

abbrev pub or_else : ℕ → Option ℕ → ℕ
or_else d None = d
or_else d (Some p) = p

-- the power of two of the capacity: the first from 3 on that is enough, and 10 at most
unfoldable pub power : ℕ → ℕ
power count = or_else 10 (lowest (enough count) 3 7)

unfoldable pub capacity : ℕ → ℕ
capacity count = 2 ^ power count

-- cap is the smallest power of two from 8 to 1024 with 4 × count ≤ 3 × cap
pub record Demanded (count cap : ℕ) : Type 0 where
  pub is_power : (p : ℕ) × (3 ≤ p) × (p ≤ 10) × (cap ≡ 2 ^ p)
  pub suffices : 4 * count ≤ 3 * cap
  pub smallest : (q : ℕ) → 3 ≤ q → 4 * count ≤ 3 * 2 ^ q → cap ≤ 2 ^ q

-- the home of a hash among cap cells: hash × cap / 2^32, rounded down
abbrev pub home_at : ℕ → ℕ → ℕ
home_at cap hash = hash * cap / 2 ^ 32
