-- What start rests on, over plain values.
use Rattle.std.proofs.Common.{◌≡◌, ℕ, ◌^◌, ◌<◌, List, length, replicate, None, Ok, Option, refl, ap}
use Rattle.kinds.specs.Kinds.{KeyKind, ValueKind}
use Rattle.kinds.specs.declared.record.Record.{Record}
use Rattle.maps.specs.Maps.{kinds_of}
use Rattle.model.specs.Refusals.{start_refusal}
use Rattle.model.specs.Steps.{Step}
use Rattle.model.specs.Worlds.{Phase, Call, no_piece}
use Rattle.model.proofs.Refusals.{not_refused}
use Rattle.store.specs.declared.fault.BlockFault.{Ghosts as FaultWords}
use Rattle.store.specs.declared.store.Store.{Ghosts as StoreWords}
use Rattle.contents.specs.Setups.{setup}
use Rattle.register.specs.Worlds.{batch_in, batch_under, closed_world, opening_event}
use Rattle.register.specs.declared.batch.Closed.{Closed}
use Rattle.register.specs.declared.batch.Open.{Open}
use Rattle.register.specs.declared.batch.Token.{Token}

module _ {S F K Row V : Type 0} (k : KeyKind K Row) (v : ValueKind V) (w : FaultWords F) (d : StoreWords S F) (c : Closed S) (cells cells' : List (Option (Record Row V))) where
  pub started_step : (seed : ℕ) (opened : Open S × Token) → opened.0.store ≡ c.store → batch_in opened.0 ≡ batch_under (kinds_of k v) seed 0
      → seed < 2 ^ 32 → None ≡ start_refusal (d.count c.store) (length cells) → cells' ≡ replicate (length cells) None
      → Step (setup k v) (closed_world d c cells) (opening_event {F = F} (Call.start seed) no_piece w d (Ok opened) cells' no_piece)
  started_step seed opened store batch small free empty = record {
    does = (
      small,
      not_refused _ _ free (record {
        outcome = refl;
        phase = ap Phase.opened batch;
        count = ap d.count store;
        protected = ap d.protected store;
        shown = ap d.shown store;
        cells = empty;
        lent = refl;
      }),
    );
  }
