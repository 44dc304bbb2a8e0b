-- Entering a sheet, and listing the records, as events.
use Rattle.std.specs.Prelude.{ℕ, List, length, take, Ok, Err, Option, Result}
use Rattle.kinds.specs.declared.record.Record.{Record}
use Rattle.maps.specs.declared.Answer.{Answer}
use Rattle.maps.specs.declared.Command.{Command}
use Rattle.model.specs.Steps.{in_cells}
use Rattle.model.specs.Worlds.{World, Call, Outcome, Event, sheet_pieces, output_piece}
use Rattle.store.specs.declared.fault.BlockFault.{Ghosts as FaultWords}
use Rattle.contents.specs.Faults.{told}
use Rattle.contents.specs.declared.fault.RegisterFault.{RegisterFault}

-- the answers stand at the first places
abbrev pub enter_outcome : {F Row V : Type 0} → FaultWords F → Result Unit (RegisterFault F) → List (Answer V) → Outcome Row V
enter_outcome w (Ok u) given = Outcome.entered given
enter_outcome w (Err f) given = Outcome.refused (told w f)

abbrev pub enter_event : {F Row V : Type 0} → FaultWords F → List (Command Row V) → List (Option (Record Row V)) → List (Answer V) → Result Unit (RegisterFault F) → World Row V → List (Option (Record Row V)) → List (Answer V) → Event Row V
enter_event w sheet scratch answers r after scratch' answers' = record {
  call = Call.enter sheet;
  lent = sheet_pieces scratch answers;
  outcome = enter_outcome w r (take (length sheet) answers');
  after = after;
  back = sheet_pieces scratch' answers';
}

-- the records are those at the first places of the output
abbrev pub list_outcome : {F Row V : Type 0} → FaultWords F → Result ℕ (RegisterFault F) → List (Option (Record Row V)) → Outcome Row V
list_outcome w (Ok n) output = Outcome.listed n (in_cells (take n output))
list_outcome w (Err f) output = Outcome.refused (told w f)

abbrev pub list_event : {F Row V : Type 0} → FaultWords F → List (Option (Record Row V)) → Result ℕ (RegisterFault F) → World Row V → List (Option (Record Row V)) → Event Row V
list_event w output r after output' = record {
  call = Call.list;
  lent = output_piece output;
  outcome = list_outcome w r output';
  after = after;
  back = output_piece output';
}
