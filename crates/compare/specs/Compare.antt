-- When two tables hold one map.
use Rattle.std.specs.Prelude.{◌≡◌, ℕ, Bool, List, map, Some, Decides, Option}
use Rattle.kinds.specs.declared.record.Record.{Record}
use Rattle.layout.specs.Cells.{at}
use Rattle.layout.specs.Orders.{In}
use Rattle.maps.specs.Maps.{Kinds, Laid, lent}
use Rattle.table.specs.Runs.{Stores}

module _ {K Row V : Type 0} (x : Kinds K Row V) where
  -- the cells hold a map of so many records under some seed
  abbrev pub StoresBySome : ℕ → List (Option (Record Row V)) → Type 0
  StoresBySome count cells = (seed : ℕ) × Stores x seed count cells

  -- what stands in a cell is a record of the map
  abbrev pub Lends : List (Record K V) → Record Row V → Type 0
  Lends m s = In s (map (lent x) m)

  -- yes exactly when it is one of the map that the table holds
  abbrev pub Has : ℕ → List (Option (Record Row V)) → Record Row V → Bool → Type 0
  Has seed cells s r = (m : List (Record K V)) → Laid x seed m cells → Decides r (Lends m s)

  -- yes exactly when all that stands in some cells is
  abbrev pub HasAll : ℕ → List (Option (Record Row V)) → List (Option (Record Row V)) → Bool → Type 0
  HasAll seed cells rows r = (m : List (Record K V)) → Laid x seed m cells → Decides r ((i : ℕ) (s : Record Row V) → at rows i ≡ Some s → Lends m s)

  -- yes exactly when the maps are equal, whatever the seed of each
  abbrev pub Compares : List (Option (Record Row V)) → List (Option (Record Row V)) → Bool → Type 0
  Compares cells other r = (seed other_seed : ℕ) (m n : List (Record K V)) → Laid x seed m cells → Laid x other_seed n other → Decides r (m ≡ n)
