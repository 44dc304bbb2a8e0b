-- What entering a sheet rests on, over plain values.
use Rattle.std.proofs.Common.{◌≡◌, ℕ, Bool, true, false, not, ◌&&◌, ◌||◌, List, [], ◌∷◌, ◌++◌, length, take, drop, replicate, is_some, None, Ok, Err, Option, Result, sym, refl, ap, ◌∙◌, subst, ap₂, inl, inr, arith}
use Rattle.std.proofs.lemmas.List.{take_at}
use Rattle.std.proofs.lemmas.Bool.Decides.{nat_tests}
use Rattle.kinds.specs.Kinds.{KeyKind, ValueKind}
use Rattle.kinds.specs.declared.record.Record.{Record}
use Rattle.cells.specs.declared.shape.Shape.{Shape}
use Rattle.layout.specs.Capacity.{capacity}
use Rattle.maps.specs.Commands.{row_of, answers_to}
use Rattle.maps.specs.Maps.{Kinds, kinds_of}
use Rattle.maps.specs.declared.Answer.{Answer}
use Rattle.maps.specs.declared.Command.{Command}
use Rattle.model.specs.Faults.{Fault, kind_fault, lent_fault}
use Rattle.model.specs.Refusals.{first, other_kinds, all_keys, wrong_lengths, enter_refusal}
use Rattle.model.specs.Steps.{Step}
use Rattle.model.specs.Worlds.{Phase, Outcome, sheet_pieces}
use Rattle.model.proofs.Refusals.{refused_with, not_refused, same_numbers}
use Rattle.model.proofs.Sheets.{answers_length}
use Rattle.sheets.specs.Checks.{IsTable}
use Rattle.sheets.specs.Sheets.{all_rows_keyed, well_lent, Refused, Pieces, SheetRun}
use Rattle.sheets.specs.declared.sheet.SheetFault.{SheetFault}
use Rattle.sheets.specs.declared.sheet.SheetFault.TheVariants as Why
use Rattle.contents.specs.Faults.{of_sheet}
use Rattle.register.specs.Sheets.{enter_event}
use Rattle.store.specs.declared.fault.BlockFault.{Ghosts as FaultWords}
use Rattle.store.specs.declared.store.Store.{Ghosts as StoreWords}
use Rattle.contents.specs.Setups.{setup}
use Rattle.register.specs.Worlds.{batch_in, open_world}
use Rattle.register.specs.declared.batch.Open.{Open}
use Rattle.contents.specs.declared.fault.RegisterFault.{RegisterFault}

same_keys : {K Row V : Type 0} (x : Kinds K Row V) (sheet : List (Command Row V)) → all_rows_keyed x sheet ≡ all_keys x sheet
same_keys x [] = refl
same_keys x (c ∷ cs) = ap (λ t. is_some (x.key.key (row_of c)) && t) (same_keys x cs)

right_lengths : (a b c d : ℕ) → wrong_lengths a b c d ≡ not (well_lent a b c d)
right_lengths a b c d = grind (arith, nat_tests)

module _ {K Row V : Type 0} (x : Kinds K Row V) (other : Bool) (room : ℕ) (sheet : List (Command Row V)) (scratch : List (Option (Record Row V))) (answers : List (Answer V)) where
  -- by what was found of the sheet and the lengths
  refusal_is : (keyed lent : Bool) → other ≡ false → all_rows_keyed x sheet ≡ keyed → well_lent room (length scratch) (length sheet) (length answers) ≡ lent
      → first ((not keyed, kind_fault) ∷ (not lent, lent_fault) ∷ []) ≡ enter_refusal x other room sheet (sheet_pieces scratch answers)
  refusal_is keyed lent o k l =
      sym (ap₂ (λ p q. first ((p, kind_fault) ∷ (q, lent_fault) ∷ []))
      (ap₂ (λ p q. p || not q) o (sym (same_keys x sheet) ∙ k))
      (right_lengths room (length scratch) (length sheet) (length answers) ∙ ap not l))

-- the kinds were looked at, and are the batch's
pub own : (other : Bool) (f : Fault) → None ≡ first ((other, f) ∷ []) → other ≡ false
own true f e = let z : ◌≡◌ {A = ℕ} 0 1 = cc in absurd (omega arith)
own false f e = refl

module _ {S F K Row V : Type 0} (k : KeyKind K Row) (v : ValueKind V) (w : FaultWords F) (d : StoreWords S F) (o : Open S)
    (cells : List (Option (Record Row V))) (scratch : List (Option (Record Row V))) (sheet : List (Command Row V)) (answers : List (Answer V))
    (same : other_kinds (kinds_of k v) (batch_in o) ≡ false) where
  abbrev before : Pieces Row V
  before = record { cells = cells; scratch = scratch; answers = answers }

  -- refused, everything is as it was
  pub refused_step : (f : SheetFault) (after : Pieces Row V) (told : Result Unit (RegisterFault F)) → told ≡ Err (of_sheet f) → SheetRun (kinds_of k v) o.shape.seed o.shape.count o.shape.capacity sheet before after (Err f)
      → Step (setup k v) (open_world d o cells) (enter_event w sheet scratch answers told (open_world d o after.cells) after.scratch after.answers)
  refused_step f after told e r =
      subst (λ (q : Result Unit (RegisterFault F)). Step (setup k v) (open_world d o cells) (enter_event w sheet scratch answers q (open_world d o after.cells) after.scratch after.answers)) (sym e)
      (subst (λ (p : Pieces Row V). Step (setup k v) (open_world d o cells) (enter_event w sheet scratch answers (Err (of_sheet f)) (open_world d o p.cells) p.scratch p.answers))
      (sym r.1) (by f r.0))
    where
      by : (f : SheetFault) → Refused (all_rows_keyed (kinds_of k v) sheet) (well_lent (length cells) (length scratch) (length sheet) (length answers)) (IsTable (kinds_of k v) o.shape.seed o.shape.count o.shape.capacity cells) f
          → Step (setup k v) (open_world d o cells) (enter_event w sheet scratch answers (Err (of_sheet f)) (open_world d o cells) scratch answers)
      by Why.Kind h = record {
        does = refused_with _ _ (refusal_is (kinds_of k v) _ (length cells) sheet scratch answers false _ same h refl)
            (record { outcome = refl; phase = refl; count = refl; protected = refl; shown = refl; cells = refl; lent = refl });
      }
      by Why.Lent h = record {
        does = refused_with _ _ (refusal_is (kinds_of k v) _ (length cells) sheet scratch answers true false same h.0 h.1)
            (record { outcome = refl; phase = refl; count = refl; protected = refl; shown = refl; cells = refl; lent = refl });
      }
      by Why.Cells h = record {
        does = not_refused _ _ (refusal_is (kinds_of k v) _ (length cells) sheet scratch answers true true same h.0 h.1)
            (inr (
              (λ m l. h.2 ((m, l.laid, l.count), l.room ∙ ap capacity (sym l.count))),
              record { outcome = refl; phase = refl; count = refl; protected = refl; shown = refl; cells = refl; lent = refl },
            ));
      }

  pub entered_step : (left : ℕ) (shape : Shape) (after : Pieces Row V) → shape ≡ record { seed = o.shape.seed; count = left; capacity = capacity left } → length after.scratch ≡ length scratch → SheetRun (kinds_of k v) o.shape.seed o.shape.count o.shape.capacity sheet before after (Ok left)
      → Step (setup k v) (open_world d o cells)
      (enter_event {F = F} w sheet scratch answers (Ok tt) (open_world d (record { store = o.store; key_kind = o.key_kind; value_kind = o.value_kind; shape = shape }) after.cells) after.scratch after.answers)
  entered_step left shape after c l r =
      let x = kinds_of k v in
      let judged = r.0 in
      let m = judged.2.0.0 in
      let h = judged.2.0.1 in
      let n = judged.2.0.2 in
      let ran = r.1 m h n in
      let numbers = same_numbers x (batch_in o) same in
      let p = numbers.0 in
      let q = numbers.1 in
      let e = ran.counted in
      let f : shape ≡ record { seed = o.shape.seed; count = _; capacity = capacity _ } = c ∙ ap (λ n. record { seed = o.shape.seed; count = n; capacity = capacity n }) e in
      let size = answers_length x sheet m in
      let told = ran.told ∙ ap (λ i. answers_to x sheet m ++ drop i answers) (sym size) in
      let front : take (length sheet) after.answers ≡ answers_to x sheet m = ap (take (length sheet)) ran.told ∙ take_at (answers_to x sheet m) (drop (length sheet) answers) (length sheet) size in
      let spare = ran.emptied ∙ ap (λ n. replicate n None) l in
      record {
        does = not_refused _ _ (refusal_is x _ (length cells) sheet scratch answers true true same judged.0 judged.1)
            (inl (
              m,
              record { laid = h; count = n; room = judged.2.1 ∙ ap capacity n },
              record {
                outcome = ap Outcome.entered front;
                phase = λ i. Phase.opened (record { key_kind = p i; value_kind = q i; seed = (f i).seed; count = (f i).count; capacity = (f i).capacity });
                count = refl;
                protected = refl;
                shown = refl;
                cells = ran.laid.is;
                lent = λ i. record { work = []; scratch = spare i; answers = told i; output = [] };
              },
            ));
      }
