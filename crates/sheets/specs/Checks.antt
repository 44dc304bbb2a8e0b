-- What tells that lent cells are a layout.
use Rattle.std.specs.Prelude.{◌≡◌, ℕ, Bool, true, List, is_some, Some, None, Option}
use Rattle.kinds.specs.declared.record.Record.{Record}
use Rattle.layout.specs.Capacity.{capacity}
use Rattle.layout.specs.Cells.{at}
use Rattle.maps.specs.Maps.{Kinds}
use Rattle.cells.specs.Rows.{row_key}
use Rattle.table.specs.Runs.{Stores}

-- nothing stands in the cell, or the row of a key
abbrev pub cell_keyed : {K Row V : Type 0} → Kinds K Row V → Option (Record Row V) → Bool
cell_keyed x None = true
cell_keyed x (Some s) = is_some (row_key x s)

-- every record's row is a key's
abbrev pub Keyed : {K Row V : Type 0} → Kinds K Row V → List (Option (Record Row V)) → Type 0
Keyed {K} {Row} {V} x cells = (i : ℕ) (s : Record Row V) → at cells i ≡ Some s → is_some (row_key x s) ≡ true

-- the cells are the layout under the seed of some map of that count, at that capacity
abbrev pub IsTable : {K Row V : Type 0} → Kinds K Row V → ℕ → ℕ → ℕ → List (Option (Record Row V)) → Type 0
IsTable x seed count cap cells = Stores x seed count cells × (cap ≡ capacity count)
