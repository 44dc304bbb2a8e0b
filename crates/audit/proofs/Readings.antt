-- A reading in other words: what is answered and left of accepted contents is turned, and refusals stay as they are.
use Rattle.std.proofs.Common.{◌≡◌, ℕ, List, length, Ok, Err, Option, Result, refl, ap, ◌∙◌, inl, inr}
use Rattle.contents.specs.Finds.{Reading, Tried, ReadsAs, Finds, not_tried, not_read, laid_out}
use Rattle.kinds.specs.declared.record.Record.{Record}
use Rattle.maps.specs.Maps.{Contents}
use Rattle.model.specs.Faults.{Fault}
use Rattle.model.specs.Refusals.{begin_refusal}
use Rattle.model.specs.Setups.{Setup}
use Rattle.model.specs.Steps.{empty}
use Rattle.model.specs.Worlds.{Store}
use Rattle.model.proofs.Refusals.{unless_as}
use Rattle.audit.specs.Audits.{Audits, Examines, audited, examined}

module _ {K Row V : Type 0} (x : Setup K Row V) (s : Store) (cells : List (Option (Record Row V))) (work : List ℕ) where
  -- a turn of readings that leaves refusals alone
  through : {A B : Type 0} (turn : Reading A Row V → Reading B Row V) (given : Contents K V → Reading A Row V) (gives : Contents K V → Reading B Row V)
      → ((h : Contents K V) → turn (given h) ≡ gives h)
      → ((f : Fault) → turn (not_tried cells work f) ≡ not_tried cells work f)
      → ((f : Fault) → turn (not_read cells work f) ≡ not_read cells work f)
      → (r : Reading A Row V) → ReadsAs x s cells work given r → ReadsAs x s cells work gives (turn r)
  through {A} {B} turn given gives accepts untried unread r p =
      unless_as (begin_refusal s.count (length cells) (length work)) (λ f. r ≡ not_tried cells work f) (λ f. turn r ≡ not_tried cells work f)
      (Tried x s cells work given r) (Tried x s cells work gives (turn r)) (λ f e. ap turn e ∙ untried f) tried p
    where
      tried : Tried x s cells work given r → Tried x s cells work gives (turn r)
      tried (inl (h, shows, e)) = inl (h, shows, ap turn e ∙ accepts h)
      tried (inr (f, wrong, e)) = inr (f, wrong, ap turn e ∙ unread f)

  -- the pair the other way round
  abbrev swapped : Result (ℕ × ℕ) Fault → Result (ℕ × ℕ) Fault
  swapped (Ok p) = Ok (p.1, p.0)
  swapped (Err f) = Err f

  abbrev swap : Reading (ℕ × ℕ) Row V → Reading (ℕ × ℕ) Row V
  swap r = record { answer = swapped r.answer; cells = r.cells; work = r.work }

  pub examines : (r : Reading (ℕ × ℕ) Row V) → Finds x s cells work r → Examines x s cells work (swap r)
  examines r = through swap (laid_out x work) (examined x work) (λ h. refl) (λ f. refl) (λ f. refl) r

  -- the cells of an accepted reading emptied
  abbrev emptied : Result (ℕ × ℕ) Fault → List (Option (Record Row V)) → List (Option (Record Row V))
  emptied (Ok p) held = empty (length cells)
  emptied (Err f) held = held

  abbrev pub clear : Reading (ℕ × ℕ) Row V → Reading (ℕ × ℕ) Row V
  clear r = record { answer = r.answer; cells = emptied r.answer r.cells; work = r.work }

  pub audits : (r : Reading (ℕ × ℕ) Row V) → Examines x s cells work r → Audits x s cells work (clear r)
  audits r = through clear (examined x work) (audited cells work) (λ h. refl) (λ f. refl) (λ f. refl) r
