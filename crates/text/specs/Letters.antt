-- The letter rule of text keys.
use Rattle.std.specs.Prelude.{ℕ, ◌-◌, Bool, cond, not, ◌&&◌, nat_le}

-- a byte that may be given
abbrev pub is_allowed : ℕ → Bool
is_allowed b = nat_le 32 b && nat_le b 126

-- a to z
abbrev pub is_small : ℕ → Bool
is_small b = nat_le 97 b && nat_le b 122

-- a to z become A to Z
abbrev pub turned : ℕ → ℕ
turned b = cond (is_small b) (b - 32) b

-- a byte that a key keeps
abbrev pub keeps : ℕ → Bool
keeps b = is_allowed b && not (is_small b)
