-- What the register's own types say, in the words of the calls' steps.
use Rattle.std.specs.Prelude.{◌≡◌, ℕ, List, Ok, Err, Option, Result}
use Rattle.kinds.specs.declared.record.Record.{Record}
use Rattle.layout.specs.Capacity.{capacity}
use Rattle.maps.specs.Maps.{Kinds}
use Rattle.model.specs.Faults.{Fault}
use Rattle.model.specs.Worlds.{Batch, Phase, World, Call, Lent, Outcome, Event, no_piece}
use Rattle.sheets.specs.Checks.{IsTable}
use Rattle.store.specs.declared.fault.BlockFault.{Ghosts as FaultWords}
use Rattle.store.specs.declared.store.Store.{Ghosts as StoreWords}
use Rattle.contents.specs.Faults.{told}
use Rattle.contents.specs.Setups.{meaning}
use Rattle.contents.specs.declared.fault.RegisterFault.{RegisterFault}
use Rattle.contents.specs.declared.fault.RegisterFault.TheVariants.{Cells}
use Rattle.register.specs.declared.batch.Closed.{Closed}
use Rattle.register.specs.declared.batch.Open.{Open}
use Rattle.register.specs.declared.batch.Token.{Token}

abbrev pub closed_world : {S F Row V : Type 0} → StoreWords S F → Closed S → List (Option (Record Row V)) → World Row V
closed_world d c cells = record { store = meaning d c.store; phase = Phase.closed; cells = cells }

abbrev pub batch_in : {S : Type 0} → Open S → Batch
batch_in o = record { key_kind = o.key_kind; value_kind = o.value_kind; seed = o.shape.seed; count = o.shape.count; capacity = o.shape.capacity }

-- a batch of so many records under the seed
abbrev pub batch_under : {K Row V : Type 0} → Kinds K Row V → ℕ → ℕ → Batch
batch_under x seed count = record { key_kind = x.key.number; value_kind = x.value.number; seed = seed; count = count; capacity = capacity count }

abbrev pub open_world : {S F Row V : Type 0} → StoreWords S F → Open S → List (Option (Record Row V)) → World Row V
open_world d o cells = record { store = meaning d o.store; phase = Phase.opened (batch_in o); cells = cells }

-- the look at the cells: they are the layout of the batch's count, capacity and seed, or CELLS
abbrev pub CellsSeen : {S F K Row V : Type 0} → Kinds K Row V → Open S → List (Option (Record Row V)) → Result Unit (RegisterFault F) → Type 0
CellsSeen x o cells (Ok u) = IsTable x o.shape.seed o.shape.count o.shape.capacity cells
CellsSeen x o cells (Err f) = (f ≡ Cells) × (IsTable x o.shape.seed o.shape.count o.shape.capacity cells → ⊥)

-- a call to which no other piece is lent
abbrev pub plain_event : {Row V : Type 0} → Call Row V → Outcome Row V → World Row V → Event Row V
plain_event c o w = record { call = c; lent = no_piece; outcome = o; after = w; back = no_piece }

-- a call that is refused, with everything as it was
abbrev pub refused_event : {Row V : Type 0} → Call Row V → Lent Row V → Fault → World Row V → Event Row V
refused_event c l f w = record { call = c; lent = l; outcome = Outcome.refused f; after = w; back = l }

-- what start and begin answer: the batch and its token, or the closed register and the fault
abbrev pub OpeningOf : Type 0 → Type 0 → Type 0
OpeningOf S F = Result (Open S × Token) (Closed S × RegisterFault F)

-- the outcome, and the world that they leave
abbrev pub opening_outcome : {S F Row V : Type 0} → FaultWords F → OpeningOf S F → Outcome Row V
opening_outcome w (Ok opened) = Outcome.accepted
opening_outcome w (Err back) = Outcome.refused (told w back.1)

abbrev pub opening_world : {S F Row V : Type 0} → StoreWords S F → OpeningOf S F → List (Option (Record Row V)) → World Row V
opening_world d (Ok opened) cells = open_world d opened.0 cells
opening_world d (Err back) cells = closed_world d back.0 cells

abbrev pub opening_event : {S F Row V : Type 0} → Call Row V → Lent Row V → FaultWords F → StoreWords S F → OpeningOf S F → List (Option (Record Row V)) → Lent Row V → Event Row V
opening_event c l w d r cells back = record { call = c; lent = l; outcome = opening_outcome w r; after = opening_world d r cells; back = back }
