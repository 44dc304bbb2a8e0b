-- Lent cells hold rows: what the layout's words say of them.
use Rattle.std.specs.Prelude.{ℕ, List, length, Option}
use Rattle.kinds.specs.declared.record.Record.{Record}
use Rattle.layout.specs.Cells.{Rule, hashed}
use Rattle.layout.specs.Orders.{Order}
use Rattle.layout.specs.Places.{Sound}
use Rattle.layout.specs.Views.{partly, hash_some}
use Rattle.maps.specs.Maps.{Kinds, record_order}

module _ {K Row V : Type 0} (x : Kinds K Row V) where
  -- the key of a record in a cell, if its row is one's
  abbrev pub row_key : Record Row V → Option K
  row_key s = x.key.key s.key

  -- records in cells go by the order of their keys, and those whose row is no key's come first
  abbrev pub row_order : Order (Record Row V) (Option K)
  row_order = partly (record_order x) row_key

  abbrev pub row_rule : ℕ → ℕ → Rule (Record Row V) (Option K)
  row_rule seed cap = hashed row_order (hash_some (x.key.hash seed)) cap

  -- the cells are a layout of their records at their own number, with an empty one among them
  abbrev pub Cells : ℕ → List (Option (Record Row V)) → Type 0
  Cells seed cells = Sound (row_rule seed (length cells)) cells
