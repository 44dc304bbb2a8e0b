-- Sealing a batch, as an event.
use Rattle.std.specs.Prelude.{◌≡◌, ℕ, List, length, None, Ok, Err, Option, Result}
use Rattle.image.specs.Image.{image_length}
use Rattle.kinds.specs.Kinds.{KeyKind, ValueKind}
use Rattle.kinds.specs.declared.record.Record.{Record}
use Rattle.maps.specs.Maps.{Kinds, kinds_of, contents}
use Rattle.model.specs.Refusals.{other_kinds, seal_refusal, write_refusal}
use Rattle.model.specs.Steps.{Step}
use Rattle.model.specs.Worlds.{Store, World, Call, Outcome, Event, work_piece}
use Rattle.sheets.specs.Checks.{IsTable}
use Rattle.store.specs.declared.fault.BlockFault.{Ghosts as FaultWords}
use Rattle.store.specs.declared.store.Store.{Ghosts as StoreWords}
use Rattle.contents.specs.Faults.{told}
use Rattle.contents.specs.Setups.{setup, meaning}
use Rattle.contents.specs.declared.fault.RegisterFault.{RegisterFault}
use Rattle.register.specs.Worlds.{batch_in, closed_world, open_world, refused_event}
use Rattle.register.specs.declared.batch.Closed.{Closed}
use Rattle.register.specs.declared.batch.Open.{Open}
use Rattle.register.specs.declared.batch.Token.{Token}

-- no look finds a reason to refuse: before the cells, at the cells, and behind them
pub record MaySeal {S K Row V : Type 0} (x : Kinds K Row V) (s : Store) (o : Open S) (cells : List (Option (Record Row V))) (work : List ℕ) : Type 0 where
  pub free : None ≡ seal_refusal (other_kinds x (batch_in o)) (length cells) s.count (length work)
  pub table : IsTable x o.shape.seed o.shape.count o.shape.capacity cells
  pub fits : None ≡ write_refusal (image_length x (contents o.shape.seed table.0.0)) s.count s.protected

-- the looks before a seal writes: it may, or it is refused with everything as it was
abbrev pub SealSeen : {S F K Row V : Type 0} → KeyKind K Row → ValueKind V → FaultWords F → StoreWords S F → Open S → List (Option (Record Row V)) → List ℕ → Result Unit (RegisterFault F) → Type 0
SealSeen k v w d o cells work (Ok u) = MaySeal (kinds_of k v) (meaning d o.store) o cells work
SealSeen k v w d o cells work (Err f) =
    Step (setup k v) (open_world d o cells) (refused_event Call.seal (work_piece work) (told w f) (open_world d o cells))

-- what seal answers: the closed register, or the batch, its token and the fault
abbrev pub SealingOf : Type 0 → Type 0 → Type 0
SealingOf S F = Result (Closed S) (Open S × Token × RegisterFault F)

abbrev pub sealing_outcome : {S F Row V : Type 0} → FaultWords F → SealingOf S F → Outcome Row V
sealing_outcome w (Ok c) = Outcome.accepted
sealing_outcome w (Err back) = Outcome.refused (told w back.2)

abbrev pub sealing_world : {S F Row V : Type 0} → StoreWords S F → SealingOf S F → List (Option (Record Row V)) → World Row V
sealing_world d (Ok c) cells = closed_world d c cells
sealing_world d (Err back) cells = open_world d back.0 cells

abbrev pub seal_event : {S F Row V : Type 0} → FaultWords F → StoreWords S F → List ℕ → SealingOf S F → List (Option (Record Row V)) → List ℕ → Event Row V
seal_event w d work r cells work' = record {
  call = Call.seal;
  lent = work_piece work;
  outcome = sealing_outcome w r;
  after = sealing_world d r cells;
  back = work_piece work';
}
