-- records with keys, the order of the keys, and ascending lists of records
use Rattle.std.specs.Prelude.{◌≡◌, Bool, true, false, ◌⊎◌, List, [], ◌∷◌, ◌≢◌}

-- the key of a record, and whether one key comes strictly before another
pub record Order (R Key : Type 0) : Type 0 where
  pub key : R → Key
  pub before : Key → Key → Bool

-- the laws of a strict total order: of two keys neither of which is before the other, both are the same
pub record Ordered {R Key : Type 0} (O : Order R Key) : Type 0 where
  pub irreflexive : (k : Key) → O.before k k ≡ false
  pub transitive : (a b c : Key) → O.before a b ≡ true → O.before b c ≡ true → O.before a c ≡ true
  pub total : (a b : Key) → O.before a b ≡ false → O.before b a ≡ false → a ≡ b

-- x is one of the list
abbrev pub In : {R : Type 0} → R → List R → Type 0
In x [] = ⊥
In x (y ∷ ys) = (y ≡ x) ⊎ In x ys

-- all of the list have the property
abbrev pub All : {R : Type 0} → (R → Type 0) → List R → Type 0
All P [] = Unit {0}
All P (x ∷ xs) = P x × All P xs

-- the key of x comes strictly before that of y
abbrev pub Precedes : {R Key : Type 0} → Order R Key → R → R → Type 0
Precedes O x y = O.before (O.key x) (O.key y) ≡ true

-- each key comes strictly before all that follow, so no key stands twice
abbrev pub Ascending : {R Key : Type 0} → Order R Key → List R → Type 0
Ascending O [] = Unit {0}
Ascending O (x ∷ xs) = All (Precedes O x) xs × Ascending O xs

-- no record of the list has the key
abbrev pub Absent : {R Key : Type 0} → Order R Key → Key → List R → Type 0
Absent {R} O k m = (s : R) → In s m → O.key s ≢ k
