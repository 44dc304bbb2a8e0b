-- What the walks over lent cells give and leave.
use Rattle.std.specs.Prelude.{◌≡◌, ℕ, ◌<◌, ◌≤◌, List, length, take, replicate, Some, None, Option}
use Rattle.cells.specs.Rows.{Cells, row_key, row_order, row_rule}
use Rattle.kinds.specs.declared.record.Record.{Record}
use Rattle.layout.specs.Cells.{at, filled, layout, records_of}
use Rattle.layout.specs.Map.{put, without, get}
use Rattle.maps.specs.Maps.{Kinds}

module _ {K Row V : Type 0} (x : Kinds K Row V) where
  -- the record of a key among the cells
  abbrev pub held_by : Option K → List (Option (Record Row V)) → Option (Record Row V)
  held_by k cells = get (row_order x) k (records_of (row_order x) cells)

  -- the old value joined with the given one
  abbrev pub row_merged : Record Row V → Record Row V → Record Row V
  row_merged old given = record { key = given.key; value = x.value.join old.value given.value }

  -- the layout of what cells hold with a record put, and without a key
  abbrev pub cells_with : ℕ → Record Row V → List (Option (Record Row V)) → List (Option (Record Row V))
  cells_with seed r cells = layout (row_rule x seed (length cells)) (put (row_order x) row_merged r (records_of (row_order x) cells))

  abbrev pub cells_without : ℕ → Option K → List (Option (Record Row V)) → List (Option (Record Row V))
  cells_without seed k cells = layout (row_rule x seed (length cells)) (without (row_order x) k (records_of (row_order x) cells))

-- a lookup gives the place of the key with its record, or tells that there is none
abbrev pub Finds : {K Row V : Type 0} → Kinds K Row V → List (Option (Record Row V)) → K → Option (ℕ × Record Row V) → Type 0
Finds x cells k None = held_by x (Some k) cells ≡ None
Finds x cells k (Some p) = (p.0 < length cells) × (at cells p.0 ≡ Some p.1) × (held_by x (Some k) cells ≡ Some p.1) × (row_key x p.1 ≡ Some k)

-- the records of the first `size` cells can be laid out anew in the first `wanted` ones, through scratch, which is empty
pub record Resizable {K Row V : Type 0} (x : Kinds K Row V) (seed : ℕ) (cells scratch : List (Option (Record Row V))) (size wanted : ℕ) : Type 0 where
  pub alike : length scratch ≡ length cells
  pub empty : scratch ≡ replicate (length scratch) None
  pub within : size ≤ length cells
  pub fits : wanted ≤ length cells
  pub few : wanted ≤ 1024
  pub sound : Cells x seed (take size cells)
  pub room : filled (take size cells) < wanted
