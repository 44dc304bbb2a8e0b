-- What a list rests on, over plain values.
use Rattle.std.proofs.Common.{◌≡◌, ◌≤◌, List, [], map, length, take, Some, None, Ok, Err, Option, sym, refl, ap, ◌∙◌, inl, inr, arith}
use Rattle.kinds.specs.Kinds.{KeyKind, ValueKind, KeyLaws}
use Rattle.kinds.specs.declared.record.Record.{Record}
use Rattle.layout.specs.Capacity.{capacity}
use Rattle.maps.specs.Maps.{kinds_of, contents}
use Rattle.model.specs.Refusals.{other_kinds, list_refusal}
use Rattle.model.specs.Steps.{Step, LaidFor, in_cells, listing, over_first}
use Rattle.model.specs.Worlds.{Outcome}
use Rattle.model.proofs.Layouts.{listing_laws}
use Rattle.model.proofs.Pieces.{listed_front}
use Rattle.model.proofs.Refusals.{not_refused, list_taken}
use Rattle.sheets.specs.Checks.{IsTable}
use Rattle.register.specs.Sheets.{list_event}
use Rattle.store.specs.declared.fault.BlockFault.{Ghosts as FaultWords}
use Rattle.store.specs.declared.store.Store.{Ghosts as StoreWords}
use Rattle.contents.specs.Setups.{setup}
use Rattle.register.specs.Worlds.{batch_in, open_world}
use Rattle.register.specs.declared.batch.Open.{Open}
use Rattle.contents.specs.declared.fault.RegisterFault.TheVariants.{Cells}

module _ {S F K Row V : Type 0} (k : KeyKind K Row) (v : ValueKind V) (w : FaultWords F) (d : StoreWords S F) (o : Open S) (cells : List (Option (Record Row V))) where
  -- what the check of the cells tells, as the steps have it
  pub laid_for : (t : IsTable (kinds_of k v) o.shape.seed o.shape.count o.shape.capacity cells) → LaidFor (kinds_of k v) (batch_in o) t.0.0 cells
  laid_for t = record { laid = t.0.1; count = t.0.2; room = t.1 ∙ ap capacity t.0.2 }

  pub table_of : (m : List (Record K V)) → LaidFor (kinds_of k v) (batch_in o) m cells → IsTable (kinds_of k v) o.shape.seed o.shape.count o.shape.capacity cells
  table_of m l = ((m, l.laid, l.count), l.room ∙ ap capacity (sym l.count))

  module _ (laws : KeyLaws k) (output : List (Option (Record Row V))) (free : None ≡ list_refusal (other_kinds (kinds_of k v) (batch_in o)) (length cells) o.shape.count (length output)) where
    pub no_cells_step : (IsTable (kinds_of k v) o.shape.seed o.shape.count o.shape.capacity cells → ⊥)
        → Step (setup k v) (open_world d o cells) (list_event {F = F} w output (Err Cells) (open_world d o cells) output)
    no_cells_step none = record {
      does = not_refused _ _ free (inr (
        (λ m l. none (table_of m l)),
        record { outcome = refl; phase = refl; count = refl; protected = refl; shown = refl; cells = refl; lent = refl },
      ));
    }

    module _ (t : IsTable (kinds_of k v) o.shape.seed o.shape.count o.shape.capacity cells) where
      abbrev m : List (Record K V)
      m = t.0.0

      same_listing : in_cells cells ≡ listing (kinds_of k v) (contents o.shape.seed m)
      same_listing = ap in_cells t.0.1.is

      size : o.shape.count ≡ length (listing (kinds_of k v) (contents o.shape.seed m))
      size = t.0.2 ∙ sym ((listing_laws (kinds_of k v) laws).count (contents o.shape.seed m) t.0.1.lawful)

      pub listing_fits : length (in_cells cells) ≤ length output
      listing_fits = omega (arith, ap length same_listing, size, (list_taken (other_kinds (kinds_of k v) (batch_in o)) (length cells) o.shape.count (length output) (sym free)).2)

      pub listed_step : (output' : List (Option (Record Row V))) → output' ≡ over_first (map Some (in_cells cells)) output
          → Step (setup k v) (open_world d o cells) (list_event {F = F} w output (Ok o.shape.count) (open_world d o cells) output')
      listed_step output' e =
          let rs = listing (kinds_of k v) (contents o.shape.seed m) in
          let q : output' ≡ over_first (map Some rs) output = e ∙ ap (λ xs. over_first (map Some xs) output) same_listing in
          let n = t.0.2 in
          let r : in_cells (take o.shape.count output') ≡ rs = ap (λ i. in_cells (take i output')) size ∙ ap (λ u. in_cells (take (length rs) u)) q ∙ listed_front rs output in
          record {
            does = not_refused _ _ free (inl (
              m,
              laid_for t,
              record {
                outcome = λ i. Outcome.listed (n i) (r i);
                phase = refl;
                count = refl;
                protected = refl;
                shown = refl;
                cells = refl;
                lent = λ i. record { work = []; scratch = []; answers = []; output = q i };
              },
            ));
          }
