-- The theorems over lists of calls.
use Rattle.std.specs.Prelude.{◌≡◌, ℕ, ◌^◌, ◌<◌, ◌↔◌, List, [], ◌∷◌, ◌++◌, map, length, Some, None, Option}
use Rattle.kinds.specs.declared.record.Record.{Record}
use Rattle.layout.specs.Orders.{In}
use Rattle.maps.specs.Maps.{Kinds, KindsLaws, Contents, Lawful, laid}
use Rattle.maps.specs.declared.Answer.{Answer}
use Rattle.maps.specs.declared.Answer.TheVariants.{Full}
use Rattle.maps.specs.declared.Command.{Command}
use Rattle.maps.specs.declared.Command.TheVariants.{Put}
use Rattle.model.specs.Faults.{Fault}
use Rattle.model.specs.Machines.{Machine, Setting, reply, next}
use Rattle.model.specs.Runs.{Run}
use Rattle.model.specs.Setups.{Place, Setup, SetupLaws, Found, Proper}
use Rattle.model.specs.Sheets.{CommandLaws, SheetLaws, ListingLaws}
use Rattle.model.specs.Steps.{batch_of, Step}
use Rattle.model.specs.Worlds.{Phase, World, Call, Lent, Outcome, Event}

abbrev pub setting : {Row V : Type 0} → World Row V → Setting
setting w = record { count = w.store.count; protected = w.store.protected; room = length w.cells; found = w.store.shown }

-- the state and the cells that go with what the machine has open
abbrev pub OpenStands : {K Row V : Type 0} → Setup K Row V → Option (Contents K V) → Phase → List (Option (Record Row V)) → Type 0
OpenStands x None Phase.closed cells = Unit {0}
OpenStands x None (Phase.opened b) cells = ⊥
OpenStands x (Some h) Phase.closed cells = ⊥
OpenStands x (Some h) (Phase.opened b) cells = Lawful x.kinds h × (b ≡ batch_of x.kinds h) × (cells ≡ laid x.kinds h)

-- The world is as the machine has it: the store shows the image of what is saved, or while nothing is, what it first showed;
-- and the cells are the layout of what is open.
pub record Stands {K Row V : Type 0} (x : Setup K Row V) (s : Setting) (m : Machine K V) (w : World Row V) : Type 0 where
  pub count : w.store.count ≡ s.count
  pub protected : w.store.protected ≡ s.protected
  pub room : length w.cells ≡ s.room
  pub saved : Found x s.count w.store.shown m.saved
  pub found : m.saved ≡ None → w.store.shown ≡ s.found
  pub opened : OpenStands x m.opened w.phase w.cells

-- the blocks are the image of these contents, and of some
abbrev pub ImageOf : {K Row V : Type 0} → Setup K Row V → ℕ → List Place → Option (Contents K V) → Type 0
ImageOf x count blocks None = ⊥
ImageOf x count blocks (Some h) = blocks ≡ x.codec.image count h

-- behind an accepted seal the store keeps the image of what the machine has saved
abbrev pub SealKeeps : {K Row V : Type 0} → Setup K Row V → Setting → Event Row V → Machine K V → Type 0
SealKeeps x s e m = e.call ≡ Call.seal → e.outcome ≡ Outcome.accepted → ImageOf x s.count e.after.store.kept m.saved

-- call by call: the outcome is the machine's reply, an accepted seal keeps its image, and the world is then as the machine has it
abbrev pub Agrees : {K Row V : Type 0} → Setup K Row V → Setting → Machine K V → List (Event Row V) → Type 0
Agrees x s m [] = Unit {0}
Agrees x s m (e ∷ es) =
    (Some e.outcome ≡ reply x s m e.call e.lent)
    × SealKeeps x s e (next x s m e.call e.lent)
    × Stands x s (next x s m e.call e.lent) e.after
    × Agrees x s (next x s m e.call e.lent) es

-- the machine after the calls
abbrev pub machine_after : {K Row V : Type 0} → Setup K Row V → Setting → Machine K V → List (Event Row V) → Machine K V
machine_after x s m [] = m
machine_after x s m (e ∷ es) = machine_after x s (next x s m e.call e.lent) es

-- a closed register over any store and any cells, and the machine that it begins as
pub record BeginsAs {K Row V : Type 0} (x : Setup K Row V) (w : World Row V) (m : Machine K V) : Type 0 where
  pub phase : w.phase ≡ Phase.closed
  pub saved : Found x w.store.count w.store.shown m.saved
  pub opened : m.opened ≡ None

-- Claim 1: every closed register has a machine that it begins as,
abbrev pub HasMachine : {K Row V : Type 0} → Setup K Row V → Type 0
HasMachine {K} {Row} {V} x = (w : World Row V) → w.phase ≡ Phase.closed → (m : Machine K V) × BeginsAs x w m

-- which has nothing saved exactly where something is wrong with what the store shows.
abbrev pub TellsWrong : {K Row V : Type 0} → Setup K Row V → Type 0
TellsWrong {K} {Row} {V} x = (w : World Row V) (m : Machine K V) → BeginsAs x w m → Proper w.store.count w.store.shown
    → (m.saved ≡ None) ↔ ((f : Fault) × (x.codec.wrong w.store.shown ≡ Some f))

-- Claim 2: every run goes as the machine has it.
abbrev pub RunsAgree : {K Row V : Type 0} → Setup K Row V → Type 0
RunsAgree {K} {Row} {V} x = (w : World Row V) (m : Machine K V) (es : List (Event Row V)) → BeginsAs x w m → Run x w es → Agrees x (setting w) m es

-- a run from a closed register to an accepted seal: es, and then the seal e
pub record Sealing {K Row V : Type 0} (x : Setup K Row V) (w : World Row V) (m : Machine K V) (es : List (Event Row V)) (e : Event Row V) : Type 0 where
  pub begins : BeginsAs x w m
  pub run : Run x w (es ++ (e ∷ []))
  pub seal : e.call ≡ Call.seal
  pub accepted : e.outcome ≡ Outcome.accepted

-- what the machine then has saved
abbrev pub saved_by : {K Row V : Type 0} → Setup K Row V → World Row V → Machine K V → List (Event Row V) → Event Row V → Option (Contents K V)
saved_by x w m es e = (machine_after x (setting w) m (es ++ (e ∷ []))).saved

-- Claim 3: two such runs over stores of one block count keep the same blocks exactly where their machines have saved the same seed and map.
abbrev pub SameKept : {K Row V : Type 0} → Setup K Row V → Type 0
SameKept {K} {Row} {V} x =
    (w₁ w₂ : World Row V) (m₁ m₂ : Machine K V) (es₁ es₂ : List (Event Row V)) (e₁ e₂ : Event Row V)
    → w₁.store.count ≡ w₂.store.count → Sealing x w₁ m₁ es₁ e₁ → Sealing x w₂ m₂ es₂ e₂
    → (e₁.after.store.kept ≡ e₂.after.store.kept) ↔ (saved_by x w₁ m₁ es₁ e₁ ≡ saved_by x w₂ m₂ es₂ e₂)

abbrev pub put_of : {Row V : Type 0} → Record Row V → Command Row V
put_of r = Put r.key r.value

-- what one call puts: an accepted sheet of puts, none answered FULL, its pairs; a list or a refused call, none
pub data Puts {Row V : Type 0} (e : Event Row V) (ps : List (Record Row V)) : Type 0 where
  a_sheet : (answers : List (Answer V)) → e.call ≡ Call.enter (map put_of ps) → e.outcome ≡ Outcome.entered answers → (In Full answers → ⊥) → Puts e ps
  a_list : e.call ≡ Call.list → ps ≡ [] → Puts e ps
  a_refusal : (f : Fault) → e.outcome ≡ Outcome.refused f → ps ≡ [] → Puts e ps

-- the calls put just these pairs, in this order
abbrev pub AllPut : {Row V : Type 0} → List (Event Row V) → List (Record Row V) → Type 0
AllPut [] ps = ps ≡ []
AllPut {Row} {V} (e ∷ es) ps = (qs : List (Record Row V)) × (rest : List (Record Row V)) × Puts e qs × AllPut es rest × (ps ≡ qs ++ rest)

-- the same pairs, in any order and however often
abbrev pub SamePairs : {A : Type 0} → List A → List A → Type 0
SamePairs {A} ps qs = (p : A) → In p ps ↔ In p qs

-- a run up to the open contents h, the pairs put, and an accepted seal
pub record Putting {K Row V : Type 0} (x : Setup K Row V) (h : Contents K V) (ps : List (Record Row V)) (w : World Row V) (m : Machine K V)
    (before puts : List (Event Row V)) (e : Event Row V) : Type 0 where
  pub sealing : Sealing x w m (before ++ puts) e
  pub from : (machine_after x (setting w) m before).opened ≡ Some h
  pub put : AllPut puts ps

-- Claim 4: puts of the same pairs from one open seed and map keep the same blocks.
abbrev pub OrderFree : {K Row V : Type 0} → Setup K Row V → Type 0
OrderFree {K} {Row} {V} x =
    (w₁ w₂ : World Row V) (m₁ m₂ : Machine K V) (es₁ es₂ fs₁ fs₂ : List (Event Row V)) (e₁ e₂ : Event Row V)
    → (h : Contents K V) (ps₁ ps₂ : List (Record Row V))
    → w₁.store.count ≡ w₂.store.count → Putting x h ps₁ w₁ m₁ es₁ fs₁ e₁ → Putting x h ps₂ w₂ m₂ es₂ fs₂ e₂
    → SamePairs ps₁ ps₂ → e₁.after.store.kept ≡ e₂.after.store.kept

-- two events end alike; in what the store keeps, behind an accepted seal
pub record SameEnd {Row V : Type 0} (e f : Event Row V) : Type 0 where
  pub outcome : e.outcome ≡ f.outcome
  pub phase : e.after.phase ≡ f.after.phase
  pub count : e.after.store.count ≡ f.after.store.count
  pub protected : e.after.store.protected ≡ f.after.store.protected
  pub shown : e.after.store.shown ≡ f.after.store.shown
  pub kept : e.call ≡ Call.seal → e.outcome ≡ Outcome.accepted → e.after.store.kept ≡ f.after.store.kept
  pub cells : e.after.cells ≡ f.after.cells
  pub back : e.back ≡ f.back

-- Claim 5: one call with the same lent pieces, found at one world, has one end, so a step leaves nothing open;
abbrev pub OneEnd : {K Row V : Type 0} → Setup K Row V → Type 0
OneEnd {K} {Row} {V} x = (w : World Row V) (e f : Event Row V) → e.call ≡ f.call → e.lent ≡ f.lent → Step x w e → Step x w f → SameEnd e f

-- a start's seed has 32 bits
abbrev pub SeedFits : {Row V : Type 0} → Call Row V → Type 0
SeedFits (Call.start seed) = seed < 2 ^ 32
SeedFits Call.begin = Unit {0}
SeedFits (Call.enter sheet) = Unit {0}
SeedFits Call.list = Unit {0}
SeedFits Call.seal = Unit {0}
SeedFits Call.abandon = Unit {0}

-- and where the world is as the machine has it, each call that the machine has a reply to has an end, with that outcome,
-- so steps demand nothing that cannot be.
abbrev pub HasEnd : {K Row V : Type 0} → Setup K Row V → Type 0
HasEnd {K} {Row} {V} x =
    (s : Setting) (m : Machine K V) (w : World Row V) (c : Call Row V) (l : Lent Row V) (o : Outcome Row V)
    → Stands x s m w → Proper w.store.count w.store.shown → SeedFits c → reply x s m c l ≡ Some o
    → (e : Event Row V) × (e.call ≡ c) × (e.lent ≡ l) × (e.outcome ≡ o) × Step x w e

-- A batch opens over so many cells and no other number, and every layout takes just as many.
pub record LentCells (K Row V : Type 0) (n : ℕ) : Type 0 where
  pub opens : (x : Setup K Row V) (w : World Row V) (e : Event Row V) → w.phase ≡ Phase.closed → Step x w e → e.outcome ≡ Outcome.accepted
      → length w.cells ≡ n
  pub takes : (x : Kinds K Row V) → KindsLaws x → (h : Contents K V) → Lawful x h → length (laid x h) ≡ n

-- all together
pub record ListsOfCalls {K Row V : Type 0} (x : Setup K Row V) : Type 0 where
  pub has_machine : HasMachine x
  pub tells_wrong : TellsWrong x
  pub agree : RunsAgree x
  pub same_kept : SameKept x
  pub order_free : OrderFree x
  pub one_end : OneEnd x
  pub has_end : HasEnd x
  -- what the machine does to a map, in the map's words
  pub commands : CommandLaws x.kinds
  pub sheets : SheetLaws x.kinds
  pub listings : ListingLaws x.kinds

-- for every lawful kind of key and of value, and every lawful image
abbrev pub AllListsOfCalls : Type 0 → Type 0 → Type 0 → Type 0
AllListsOfCalls K Row V = (x : Setup K Row V) → SetupLaws x → ListsOfCalls x
