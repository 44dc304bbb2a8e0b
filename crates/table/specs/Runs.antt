-- What a command does on lent cells that hold a map.
use Rattle.std.specs.Prelude.{◌≡◌, ℕ, List, length, Option}
use Rattle.std.specs.Borrow.{MutBor}
use Rattle.kinds.specs.declared.record.Record.{Record}
use Rattle.maps.specs.Maps.{Kinds, Laid}
use Rattle.maps.specs.declared.Answer.{Answer}

-- the cells hold some map of so many records
abbrev pub Stores : {K Row V : Type 0} → Kinds K Row V → ℕ → ℕ → List (Option (Record Row V)) → Type 0
Stores {K} {Row} {V} x seed count cells = (m : List (Record K V)) × Laid x seed m cells × (count ≡ length m)

-- whatever map of so many records the cells held, they now hold what became of it
abbrev pub Turns : {K Row V : Type 0} → Kinds K Row V → ℕ → ℕ → (List (Record K V) → List (Record K V)) → List (Option (Record Row V)) → List (Option (Record Row V)) → Type 0
Turns {K} {Row} {V} x seed count after cells cells' = (m : List (Record K V)) → Laid x seed m cells → count ≡ length m → Laid x seed (after m) cells'

-- and the answer is the map's, and so is the count
abbrev pub Does : {K Row V : Type 0} → Kinds K Row V → ℕ → ℕ → (List (Record K V) → List (Record K V)) → (List (Record K V) → Answer V) → List (Option (Record Row V)) → List (Option (Record Row V)) → Answer V × ℕ → Type 0
Does {K} {Row} {V} x seed count after answer cells cells' r =
    (m : List (Record K V)) → Laid x seed m cells → count ≡ length m → Laid x seed (after m) cells' × (r.0 ≡ answer m) × (r.1 ≡ length (after m))

-- what is answered where nothing changes
abbrev pub Tells : {K Row V : Type 0} → Kinds K Row V → ℕ → ℕ → (List (Record K V) → Answer V) → List (Option (Record Row V)) → Answer V → Type 0
Tells {K} {Row} {V} x seed count answer cells r = (m : List (Record K V)) → Laid x seed m cells → count ≡ length m → r ≡ answer m

-- a table stays on the same lent cells, under the same seed
abbrev pub Stays : {A : Type 0} → ℕ → MutBor A → ℕ → MutBor A → Type 0
Stays seed cells seed' cells' = (seed' ≡ seed) × (cells'.ghost_name ≡ cells.ghost_name)
