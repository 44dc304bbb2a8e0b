-- What begin rests on: a reading of the store, as the step of a call.
use Rattle.std.proofs.Common.{◌≡◌, ℕ, List, [], length, Ok, Err, Option, Result, sym, refl, ap, ap₂, ◌∙◌, inl, inr, arith}
use Rattle.kinds.specs.Kinds.{KeyKind, ValueKind}
use Rattle.kinds.specs.declared.record.Record.{Record}
use Rattle.maps.specs.Maps.{kinds_of}
use Rattle.model.specs.Faults.{Fault}
use Rattle.model.specs.Refusals.{begin_refusal}
use Rattle.model.specs.Steps.{Step, Refuses, Reads}
use Rattle.model.specs.Worlds.{Phase, Call, Outcome, Event, work_piece}
use Rattle.model.proofs.Refusals.{unless_as}
use Rattle.contents.specs.Faults.{told}
use Rattle.contents.specs.Finds.{Finds, Tried, Reading, reading, not_tried, laid_out}
use Rattle.store.specs.declared.fault.BlockFault.{Ghosts as FaultWords}
use Rattle.store.specs.declared.store.Store.{Ghosts as StoreWords}
use Rattle.contents.specs.Setups.{setup, meaning}
use Rattle.contents.specs.declared.fault.RegisterFault.{RegisterFault}
use Rattle.register.specs.Worlds.{OpeningOf, batch_in, batch_under, closed_world, opening_event}
use Rattle.register.specs.declared.batch.Closed.{Closed}
use Rattle.register.specs.declared.batch.Open.{Open}
use Rattle.register.specs.declared.batch.Token.{Token}

-- what an answer gives, and what it refuses with
abbrev given : Result (ℕ × ℕ) Fault → ℕ × ℕ
given (Ok p) = p
given (Err f) = (0, 0)

abbrev fault_or : Fault → Result (ℕ × ℕ) Fault → Fault
fault_or g (Ok p) = g
fault_or g (Err f) = f

not_both : {A : Type 0} (p : ℕ × ℕ) (f : Fault) → ◌≡◌ {A = Result (ℕ × ℕ) Fault} (Ok p) (Err f) → A
not_both p f e = let z : ◌≡◌ {A = ℕ} 0 1 = cc in absurd (omega arith)

module _ {S F K Row V : Type 0} (k : KeyKind K Row) (v : ValueKind V) (w : FaultWords F) (d : StoreWords S F) (c : Closed S)
    (cells cells' : List (Option (Record Row V))) (work work' : List ℕ) where
  abbrev begins : OpeningOf S F → Event Row V
  begins r = opening_event {F = F} Call.begin (work_piece work) w d r cells' (work_piece work')

  abbrev read : Result (ℕ × ℕ) (RegisterFault F) → Reading (ℕ × ℕ) Row V
  read r = reading w r cells' work'

  answer_of : {a b : Reading (ℕ × ℕ) Row V} → a ≡ b → a.answer ≡ b.answer
  answer_of e = ap (λ (q : Reading (ℕ × ℕ) Row V). q.answer) e

  cells_of : {a b : Reading (ℕ × ℕ) Row V} → a ≡ b → a.cells ≡ b.cells
  cells_of e = ap (λ (q : Reading (ℕ × ℕ) Row V). q.cells) e

  work_of : {a b : Reading (ℕ × ℕ) Row V} → a ≡ b → a.work ≡ b.work
  work_of e = ap (λ (q : Reading (ℕ × ℕ) Row V). q.work) e

  module _ (seed count : ℕ) (opened : Open S × Token) (store : opened.0.store ≡ c.store) (batch : batch_in opened.0 ≡ batch_under (kinds_of k v) seed count) where
    tried : Tried (setup k v) (meaning d c.store) cells work (laid_out (setup k v) work) (read (Ok (seed, count))) → Reads (setup k v) (closed_world d c cells) (begins (Ok opened))
    tried (inr (f, wrong, e)) = not_both (seed, count) f (answer_of e)
    tried (inl (h, shows, e)) =
        let pair = ap given (answer_of e) in
        let s : seed ≡ h.seed = ap (λ (z : ℕ × ℕ). z.0) pair in
        let n : count ≡ length h.records = ap (λ (z : ℕ × ℕ). z.1) pair in
        let cleared = work_of e in
        inl (
          h,
          shows,
          record {
            outcome = refl;
            phase = ap Phase.opened (batch ∙ ap₂ (batch_under (kinds_of k v)) s n);
            count = ap d.count store;
            protected = ap d.protected store;
            shown = ap d.shown store;
            cells = cells_of e;
            lent = λ i. record { work = cleared i; scratch = []; answers = []; output = [] };
          },
        )

    pub begun_step : Finds (setup k v) (meaning d c.store) cells work (read (Ok (seed, count))) → Step (setup k v) (closed_world d c cells) (begins (Ok opened))
    begun_step r = record {
      does = unless_as (begin_refusal (d.count c.store) (length cells) (length work)) (λ f. read (Ok (seed, count)) ≡ not_tried cells work f)
          (Refuses (closed_world d c cells) (begins (Ok opened)))
          (Tried (setup k v) (meaning d c.store) cells work (laid_out (setup k v) work) (read (Ok (seed, count)))) (Reads (setup k v) (closed_world d c cells) (begins (Ok opened)))
          (λ f e. not_both (seed, count) f (answer_of e)) tried r;
    }

  module _ (f : RegisterFault F) where
    -- refused with everything as it was, or with the cells emptied and the work bytes zero
    refuses : (g : Fault) → read (Err f) ≡ not_tried cells work g → Refuses (closed_world d c cells) (begins (Err (c, f))) g
    refuses g e =
        let told_is = ap (fault_or g) (answer_of e) in
        let same = work_of e in
        record {
          outcome = λ i. Outcome.refused (told_is i);
          phase = refl;
          count = refl;
          protected = refl;
          shown = refl;
          cells = cells_of e;
          lent = λ i. record { work = same i; scratch = []; answers = []; output = [] };
        }

    not_found : Tried (setup k v) (meaning d c.store) cells work (laid_out (setup k v) work) (read (Err f)) → Reads (setup k v) (closed_world d c cells) (begins (Err (c, f)))
    not_found (inl (h, shows, e)) = not_both (h.seed, length h.records) (told w f) (sym (answer_of e))
    not_found (inr (g, wrong, e)) =
        let told_is = ap (fault_or g) (answer_of e) in
        let cleared = work_of e in
        inr (
          g,
          wrong,
          record {
            outcome = λ i. Outcome.refused (told_is i);
            phase = refl;
            count = refl;
            protected = refl;
            shown = refl;
            cells = cells_of e;
            lent = λ i. record { work = cleared i; scratch = []; answers = []; output = [] };
          },
        )

    pub not_begun_step : Finds (setup k v) (meaning d c.store) cells work (read (Err f)) → Step (setup k v) (closed_world d c cells) (begins (Err (c, f)))
    not_begun_step r = record {
      does = unless_as (begin_refusal (d.count c.store) (length cells) (length work)) (λ g. read (Err f) ≡ not_tried cells work g)
          (Refuses (closed_world d c cells) (begins (Err (c, f))))
          (Tried (setup k v) (meaning d c.store) cells work (laid_out (setup k v) work) (read (Err f))) (Reads (setup k v) (closed_world d c cells) (begins (Err (c, f))))
          refuses not_found r;
    }
