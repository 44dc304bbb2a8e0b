-- The lexical order, in its own words.
use Rattle.std.specs.Prelude.{◌≡◌, ℕ, ◌<◌, ◌⊎◌, List, ◌∷◌, ◌++◌}
use Rattle.std.specs.declared.cmp.Ordering.TheVariants.{Less, Equal, Greater}
use Rattle.std.specs.declared.cmp.Ordering.{Ordering}

-- ys goes on where xs ends
abbrev pub Continues : List ℕ → List ℕ → Type 0
Continues xs ys = (y : ℕ) × (rest : List ℕ) × (ys ≡ xs ++ y ∷ rest)

-- behind a common beginning xs has the smaller byte
abbrev pub SmallerAt : List ℕ → List ℕ → Type 0
SmallerAt xs ys = (both : List ℕ) × (x : ℕ) × (y : ℕ) × (s : List ℕ) × (t : List ℕ) × (xs ≡ both ++ x ∷ s) × (ys ≡ both ++ y ∷ t) × (x < y)

abbrev pub Earlier : List ℕ → List ℕ → Type 0
Earlier xs ys = Continues xs ys ⊎ SmallerAt xs ys

abbrev pub Lexical : List ℕ → List ℕ → Ordering → Type 0
Lexical xs ys Less = Earlier xs ys
Lexical xs ys Equal = xs ≡ ys
Lexical xs ys Greater = Earlier ys xs
