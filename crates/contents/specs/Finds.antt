-- What a reading of a store answers and leaves: begin's and audit's refusals in their order, or the contents whose image the store shows.
use Rattle.std.specs.Prelude.{◌≡◌, ℕ, ◌⊎◌, List, length, replicate, Some, Ok, Err, Option, Result}
use Rattle.kinds.specs.declared.record.Record.{Record}
use Rattle.maps.specs.Maps.{Contents, laid}
use Rattle.model.specs.Faults.{Fault}
use Rattle.model.specs.Refusals.{begin_refusal}
use Rattle.model.specs.Setups.{Setup, Shows}
use Rattle.model.specs.Steps.{Unless, empty}
use Rattle.model.specs.Worlds.{Store}
use Rattle.store.specs.declared.fault.BlockFault.{Ghosts as FaultWords}
use Rattle.contents.specs.Faults.{told}
use Rattle.contents.specs.declared.fault.RegisterFault.{RegisterFault}

-- an answer, and what the lent cells and work bytes hold behind it
pub record Reading (A Row V : Type 0) : Type 0 where
  pub answer : Result A Fault
  pub cells : List (Option (Record Row V))
  pub work : List ℕ

-- a result, its fault by number and place
abbrev pub answered : {A F : Type 0} → FaultWords F → Result A (RegisterFault F) → Result A Fault
answered w (Ok a) = Ok a
answered w (Err f) = Err (told w f)

abbrev pub reading : {A F Row V : Type 0} → FaultWords F → Result A (RegisterFault F) → List (Option (Record Row V)) → List ℕ → Reading A Row V
reading w r cells work = record { answer = answered w r; cells = cells; work = work }

-- SIZE or LENT: everything as it was
abbrev pub not_tried : {A Row V : Type 0} → List (Option (Record Row V)) → List ℕ → Fault → Reading A Row V
not_tried cells work f = record { answer = Err f; cells = cells; work = work }

abbrev pub zeros : List ℕ → List ℕ
zeros work = replicate (length work) 0

-- what the store shows is no image: the cells empty, the work bytes zero
abbrev pub not_read : {A Row V : Type 0} → List (Option (Record Row V)) → List ℕ → Fault → Reading A Row V
not_read cells work f = record { answer = Err f; cells = empty (length cells); work = zeros work }

-- The store is read: accepted with the contents whose image it shows, or refused with what is wrong. `accepted` says what is answered and left
-- of contents that were read.
abbrev pub Tried : {A K Row V : Type 0} → Setup K Row V → Store → List (Option (Record Row V)) → List ℕ → (Contents K V → Reading A Row V) → Reading A Row V → Type 0
Tried {A} {K} {Row} {V} x s cells work accepted r =
    ((h : Contents K V) × Shows x s.count s.shown h × (r ≡ accepted h))
    ⊎ ((f : Fault) × (x.codec.wrong s.shown ≡ Some f) × (r ≡ not_read cells work f))

abbrev pub ReadsAs : {A K Row V : Type 0} → Setup K Row V → Store → List (Option (Record Row V)) → List ℕ → (Contents K V → Reading A Row V) → Reading A Row V → Type 0
ReadsAs x s cells work accepted r =
    Unless (begin_refusal s.count (length cells) (length work)) (λ f. r ≡ not_tried cells work f) (Tried x s cells work accepted r)

-- the seed and the count are given, and the cells are left with the layout
abbrev pub laid_out : {K Row V : Type 0} → Setup K Row V → List ℕ → Contents K V → Reading (ℕ × ℕ) Row V
laid_out x work h = record { answer = Ok (h.seed, length h.records); cells = laid x.kinds h; work = zeros work }

abbrev pub Finds : {K Row V : Type 0} → Setup K Row V → Store → List (Option (Record Row V)) → List ℕ → Reading (ℕ × ℕ) Row V → Type 0
Finds x s cells work r = ReadsAs x s cells work (laid_out x work) r
