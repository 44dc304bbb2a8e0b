-- A map of records under two kinds, and the lent cells that hold it.
use Rattle.std.specs.Prelude.{◌≡◌, ℕ, ◌-◌, ◌^◌, ◌<◌, ◌≤◌, List, ◌++◌, map, length, replicate, None, Option}
use Rattle.std.specs.Ordering.{is_lt}
use Rattle.kinds.specs.Kinds.{KeyKind, ValueKind, KeyLaws, ValueLaws}
use Rattle.kinds.specs.declared.record.Record.{Record}
use Rattle.layout.specs.Capacity.{capacity}
use Rattle.layout.specs.Cells.{Rule, hashed, map_layout}
use Rattle.layout.specs.Orders.{Order, Ascending}
use Rattle.layout.specs.Views.{seen}

-- the kind of the keys and that of the values
pub record Kinds (K Row V : Type 0) : Type 0 where
  pub key : KeyKind K Row
  pub value : ValueKind V

pub record KindsLaws {K Row V : Type 0} (x : Kinds K Row V) : Type 0 where
  pub key : KeyLaws x.key
  pub value : ValueLaws x.value

abbrev pub kinds_of : {K Row V : Type 0} → KeyKind K Row → ValueKind V → Kinds K Row V
kinds_of k v = record { key = k; value = v }

-- records go by the order of their keys
abbrev pub record_order : {K Row V : Type 0} → Kinds K Row V → Order (Record K V) K
record_order x = record { key = λ r. r.key; before = λ j k. is_lt (x.key.order j k) }

-- a seed and a map: the ascending list of its records
pub record Contents (K V : Type 0) : Type 0 where
  pub seed : ℕ
  pub records : List (Record K V)

abbrev pub contents : {K V : Type 0} → ℕ → List (Record K V) → Contents K V
contents s m = record { seed = s; records = m }

-- the seed has 32 bits, and there are at most 768 records
pub record Lawful {K Row V : Type 0} (x : Kinds K Row V) (h : Contents K V) : Type 0 where
  pub seed : h.seed < 2 ^ 32
  pub ascending : Ascending (record_order x) h.records
  pub few : length h.records ≤ 768

-- the rule of a layout at a capacity and under a seed
abbrev pub rule : {K Row V : Type 0} → Kinds K Row V → ℕ → ℕ → Rule (Record K V) K
rule x seed cap = hashed (record_order x) (x.key.hash seed) cap

-- a record as lent memory holds it: its key as a plain row
abbrev pub lent : {K Row V : Type 0} → Kinds K Row V → Record K V → Record Row V
lent x r = record { key = x.key.row r.key; value = r.value }

abbrev pub cells_of : {K Row V : Type 0} → Kinds K Row V → Contents K V → List (Option (Record K V))
cells_of x h = map_layout (record_order x) (x.key.hash h.seed) h.records

-- the layout in 1024 lent cells, of which all beyond the capacity are empty
unfoldable pub laid : {K Row V : Type 0} → Kinds K Row V → Contents K V → List (Option (Record Row V))
laid x h = map (seen (lent x)) (cells_of x h) ++ replicate (1024 - capacity (length h.records)) None

-- lent cells are the layout of the map under the seed
pub record Laid {K Row V : Type 0} (x : Kinds K Row V) (seed : ℕ) (m : List (Record K V)) (cells : List (Option (Record Row V))) : Type 0 where
  pub lawful : Lawful x (contents seed m)
  pub is : cells ≡ laid x (contents seed m)
