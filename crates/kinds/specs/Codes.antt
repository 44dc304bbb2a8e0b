-- Codes: the bytes by which an image writes a key or a value.
use Rattle.std.specs.Prelude.{◌≡◌, ℕ, ◌<◌, ◌≤◌, List, ◌++◌, length, drop, Some, Ok, Err, Option, Result, slice_index}

-- Every code has 1 to `most` bytes. `front` tells which code stands at the front of some bytes, and how long it is: it reads each code back,
-- whatever follows, and what it reads is a code. No code is the beginning of another's, so equal codes are of equal things.
pub record CodeLaws {A : Type 0} (most : ℕ) (code : A → List ℕ) (front : List ℕ → Option (A × ℕ)) : Type 0 where
  pub some : (x : A) → 1 ≤ length (code x)
  pub short : (x : A) → length (code x) ≤ most
  pub bytes : (x : A) (i : ℕ) → slice_index (code x) i < 256
  pub stands : (x : A) (rest : List ℕ) → front (code x ++ rest) ≡ Some (x, length (code x))
  pub only : (bs : List ℕ) (x : A) (n : ℕ) → front bs ≡ Some (x, n) → (bs ≡ code x ++ drop n bs) × (n ≡ length (code x))
  pub apart : (x y : A) (s t : List ℕ) → code x ++ s ≡ code y ++ t → x ≡ y

-- the code of x stands at the front of the bytes
abbrev pub Begins : {A : Type 0} → (A → List ℕ) → List ℕ → A → Type 0
Begins code bs x = (rest : List ℕ) × (bs ≡ code x ++ rest)

-- a reader gives what has its code at the front with the length of that code, and refuses exactly where no code stands there
abbrev pub Reads : {A E : Type 0} → (A → List ℕ) → List ℕ → Result (A × ℕ) E → Type 0
Reads code bs (Ok p) = Begins code bs p.0 × (p.1 ≡ length (code p.0))
Reads {A} code bs (Err e) = (x : A) → Begins code bs x → ⊥
