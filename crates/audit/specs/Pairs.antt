-- What an audit of two stores answers and leaves, by the audits of each.
use Rattle.std.specs.Prelude.{◌≡◌, ℕ, Bool, true, ◌↔◌, List, length, None, Ok, Err, Decides, Option, Result}
use Rattle.store.specs.declared.fault.BlockFault.{Ghosts as FaultWords}
use Rattle.contents.specs.Faults.{told}
use Rattle.contents.specs.Finds.{Reading}
use Rattle.kinds.specs.declared.record.Record.{Record}
use Rattle.maps.specs.Maps.{Contents}
use Rattle.model.specs.Faults.{Fault}
use Rattle.model.specs.Refusals.{begin_refusal}
use Rattle.model.specs.Setups.{Setup, Shows}
use Rattle.model.specs.Worlds.{Store}
use Rattle.audit.specs.Audits.{Audits}
use Rattle.audit.specs.declared.fault.AuditFault.{AuditFault}
use Rattle.audit.specs.declared.fault.AuditFault.TheVariants.{First, Second}

-- the side that is refused, 1 or 2, with the number and the place
pub record SideFault : Type 0 where
  pub side : ℕ
  pub fault : Fault

abbrev pub at_side : ℕ → Fault → SideFault
at_side n f = record { side = n; fault = f }

-- by what is known of the first store's fault, then of the second's
abbrev pub told_side : {F G : Type 0} → FaultWords F → FaultWords G → AuditFault F G → SideFault
told_side w other (First f) = at_side 1 (told w f)
told_side w other (Second f) = at_side 2 (told other f)

abbrev pub answered_two : {F G : Type 0} → FaultWords F → FaultWords G → Result Bool (AuditFault F G) → Result Bool SideFault
answered_two w other (Ok b) = Ok b
answered_two w other (Err f) = Err (told_side w other f)

-- an answer, and what the cells of each side and the work bytes hold behind it
pub record Comparison (Row V : Type 0) : Type 0 where
  pub answer : Result Bool SideFault
  pub first : List (Option (Record Row V))
  pub second : List (Option (Record Row V))
  pub work : List ℕ

abbrev pub comparison : {F G Row V : Type 0} → FaultWords F → FaultWords G → Result Bool (AuditFault F G) → List (Option (Record Row V)) → List (Option (Record Row V)) → List ℕ → Comparison Row V
comparison w other r first second work =
    record { answer = answered_two w other r; first = first; second = second; work = work }

-- yes exactly when the maps of the two images are equal; the seeds may differ
abbrev pub SameMaps : {K Row V : Type 0} → Setup K Row V → Store → Store → Bool → Type 0
SameMaps {K} {Row} {V} x s t same =
    (g h : Contents K V) → Shows x s.count s.shown g → Shows x t.count t.shown h → Decides same (g.records ≡ h.records)

-- behind the audit a of the first and b of the second: what b left, and its refusal or the answer
abbrev pub BothTold : {K Row V : Type 0} → Setup K Row V → Store → Store → Reading (ℕ × ℕ) Row V → Reading (ℕ × ℕ) Row V → Result (ℕ × ℕ) Fault → Comparison Row V → Type 0
BothTold x s t a b (Err f) r = r ≡ record { answer = Err (at_side 2 f); first = a.cells; second = b.cells; work = b.work }
BothTold x s t a b (Ok q) r = (same : Bool) × SameMaps x s t same × (r ≡ record { answer = Ok same; first = a.cells; second = b.cells; work = b.work })

-- behind the audit a of the first: its refusal ends it, with the second's cells as they were; else the second is audited, with the work bytes that a left
abbrev pub FirstTold : {K Row V : Type 0} → Setup K Row V → Store → Store → List (Option (Record Row V)) → Reading (ℕ × ℕ) Row V → Result (ℕ × ℕ) Fault → Comparison Row V → Type 0
FirstTold x s t other a (Err f) r = r ≡ record { answer = Err (at_side 1 f); first = a.cells; second = other; work = a.work }
FirstTold {K} {Row} {V} x s t other a (Ok p) r = (b : Reading (ℕ × ℕ) Row V) × Audits x t other a.work b × BothTold x s t a b b.answer r

abbrev pub AuditsTwo : {K Row V : Type 0} → Setup K Row V → Store → Store → List (Option (Record Row V)) → List (Option (Record Row V)) → List ℕ → Comparison Row V → Type 0
AuditsTwo {K} {Row} {V} x s t cells other work r = (a : Reading (ℕ × ℕ) Row V) × Audits x s cells work a × FirstTold x s t other a a.answer r

-- neither SIZE nor LENT
abbrev pub Room : {A : Type 0} → Store → List A → List ℕ → Type 0
Room s cells work = begin_refusal s.count (length cells) (length work) ≡ None

-- both show images, and of one map
abbrev pub OneMap : {K Row V : Type 0} → Setup K Row V → Store → Store → Type 0
OneMap {K} {Row} {V} x s t =
    (g : Contents K V) × (h : Contents K V) × Shows x s.count s.shown g × Shows x t.count t.shown h × (g.records ≡ h.records)

-- Yes is said exactly when the lengths are right and both stores show images of one map.
abbrev pub YesExactly : {K Row V : Type 0} → Setup K Row V → Store → Store → List (Option (Record Row V)) → List (Option (Record Row V)) → List ℕ → Result Bool SideFault → Type 0
YesExactly x s t cells other work answer = (answer ≡ Ok true) ↔ (Room s cells work × Room t other work × OneMap x s t)

-- Equal images give yes.
abbrev pub EqualImages : {K Row V : Type 0} → Setup K Row V → Store → Store → List (Option (Record Row V)) → List (Option (Record Row V)) → List ℕ → Result Bool SideFault → Type 0
EqualImages {K} {Row} {V} x s t cells other work answer =
    Room s cells work → Room t other work → s.shown ≡ t.shown → (h : Contents K V) → Shows x s.count s.shown h → answer ≡ Ok true
