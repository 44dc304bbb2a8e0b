-- lent cells, which hold the plain rows of keys
use Rattle.std.specs.Prelude.{List, map, Some, None, Option}
use Rattle.kinds.specs.declared.record.Record.{Record}
use Rattle.maps.specs.Maps.{Kinds}

-- a key with its value, if it is there
abbrev pub with_key : {K V : Type 0} → V → Option K → Option (Record K V)
with_key v None = None
with_key v (Some k) = Some (record { key = k; value = v })

-- the record in a lent cell; a row that is no key's counts as none
abbrev pub keyed : {K Row V : Type 0} → Kinds K Row V → Option (Record Row V) → Option (Record K V)
keyed x None = None
keyed x (Some r) = with_key r.value (x.key.key r.key)

abbrev pub keyed_cells : {K Row V : Type 0} → Kinds K Row V → List (Option (Record Row V)) → List (Option (Record K V))
keyed_cells x cells = map (keyed x) cells
