-- What one call does: the relation that each public call's contract states. It says for all input what is answered, what the store then
-- shows, and what the cells and every other lent piece then hold. What the store keeps is told only behind a flush.
use Rattle.std.specs.Prelude.{◌≡◌, ℕ, ◌^◌, ◌<◌, ◌⊎◌, List, [], ◌∷◌, ◌++◌, map, length, drop, replicate, Some, None, Option}
use Rattle.kinds.specs.declared.record.Record.{Record}
use Rattle.layout.specs.Capacity.{capacity}
use Rattle.maps.specs.Commands.{answers_to, map_after_sheet}
use Rattle.maps.specs.Maps.{Kinds, Contents, contents, laid, Laid}
use Rattle.maps.specs.declared.Command.{Command}
use Rattle.model.specs.Faults.{Fault, cells_fault}
use Rattle.model.specs.Refusals.{start_refusal, begin_refusal, other_kinds, enter_refusal, list_refusal, seal_refusal, write_refusal}
use Rattle.model.specs.Setups.{Place, Setup, Shows}
use Rattle.model.specs.Worlds.{Batch, Phase, World, Call, Lent, Outcome, Event}

-- what a call answers and leaves; of the store, what it shows
pub record Left (Row V : Type 0) : Type 0 where
  pub outcome : Outcome Row V
  pub phase : Phase
  pub shown : List Place
  pub cells : List (Option (Record Row V))
  pub lent : Lent Row V

-- the event leaves that; block count and protection stay as they were
pub record Leaves {Row V : Type 0} (w : World Row V) (e : Event Row V) (o : Left Row V) : Type 0 where
  pub outcome : e.outcome ≡ o.outcome
  pub phase : e.after.phase ≡ o.phase
  pub count : e.after.store.count ≡ w.store.count
  pub protected : e.after.store.protected ≡ w.store.protected
  pub shown : e.after.store.shown ≡ o.shown
  pub cells : e.after.cells ≡ o.cells
  pub lent : e.back ≡ o.lent

-- what a batch of the contents knows of itself
abbrev pub batch_of : {K Row V : Type 0} → Kinds K Row V → Contents K V → Batch
batch_of x h = record {
  key_kind = x.key.number;
  value_kind = x.value.number;
  seed = h.seed;
  count = length h.records;
  capacity = capacity (length h.records);
}

abbrev pub empty : {A : Type 0} → ℕ → List (Option A)
empty n = replicate n None

-- the work bytes all zero
abbrev pub zeroed : {Row V : Type 0} → Lent Row V → Lent Row V
zeroed l = record { work = replicate (length l.work) 0; scratch = l.scratch; answers = l.answers; output = l.output }

-- the first places hold what is given, the others what they held
abbrev pub over_first : {A : Type 0} → List A → List A → List A
over_first given places = given ++ drop (length given) places

-- refused, with everything as it was
abbrev pub untouched : {Row V : Type 0} → World Row V → Lent Row V → Fault → Left Row V
untouched w l f = record { outcome = Outcome.refused f; phase = w.phase; shown = w.store.shown; cells = w.cells; lent = l }

abbrev pub Refuses : {Row V : Type 0} → World Row V → Event Row V → Fault → Type 0
Refuses w e f = Leaves w e (untouched w e.lent f)

-- what is the case where a call is refused, and where not
abbrev pub Unless : Option Fault → (Fault → Type 0) → Type 0 → Type 0
Unless (Some f) R A = R f
Unless None R A = A

-- Start: an empty map, and all cells empty.
abbrev pub started : {K Row V : Type 0} → Setup K Row V → World Row V → Lent Row V → ℕ → Left Row V
started x w l seed = record {
  outcome = Outcome.accepted;
  phase = Phase.opened (batch_of x.kinds (contents seed []));
  shown = w.store.shown;
  cells = empty (length w.cells);
  lent = l;
}

abbrev pub Starts : {K Row V : Type 0} → Setup K Row V → World Row V → Event Row V → ℕ → Type 0
Starts x w e seed = (seed < 2 ^ 32) × Unless (start_refusal w.store.count (length w.cells)) (Refuses w e) (Leaves w e (started x w e.lent seed))

-- Begin: the contents whose image the store shows, laid out in the cells; or what is wrong, and the cells empty. The work bytes end zero.
abbrev pub begun : {K Row V : Type 0} → Setup K Row V → World Row V → Lent Row V → Contents K V → Left Row V
begun x w l h = record {
  outcome = Outcome.accepted;
  phase = Phase.opened (batch_of x.kinds h);
  shown = w.store.shown;
  cells = laid x.kinds h;
  lent = zeroed l;
}

abbrev pub not_begun : {Row V : Type 0} → World Row V → Lent Row V → Fault → Left Row V
not_begun w l f = record {
  outcome = Outcome.refused f;
  phase = Phase.closed;
  shown = w.store.shown;
  cells = empty (length w.cells);
  lent = zeroed l;
}

abbrev pub Reads : {K Row V : Type 0} → Setup K Row V → World Row V → Event Row V → Type 0
Reads {K} {Row} {V} x w e =
    ((h : Contents K V) × Shows x w.store.count w.store.shown h × Leaves w e (begun x w e.lent h)) ⊎
    ((f : Fault) × (x.codec.wrong w.store.shown ≡ Some f) × Leaves w e (not_begun w e.lent f))

abbrev pub Begins : {K Row V : Type 0} → Setup K Row V → World Row V → Event Row V → Type 0
Begins x w e = Unless (begin_refusal w.store.count (length w.cells) (length e.lent.work)) (Refuses w e) (Reads x w e)

-- the cells are the layout of the map, of the batch's count, capacity and seed
pub record LaidFor {K Row V : Type 0} (x : Kinds K Row V) (b : Batch) (m : List (Record K V)) (cells : List (Option (Record Row V))) : Type 0 where
  pub laid : Laid x b.seed m cells
  pub count : b.count ≡ length m
  pub room : b.capacity ≡ capacity (length m)

-- what is the case of the map that the cells are the layout of; where they are of none, CELLS
abbrev pub Over : {K Row V : Type 0} → Setup K Row V → Batch → World Row V → Event Row V → (List (Record K V) → Type 0) → Type 0
Over {K} {Row} {V} x b w e P =
    ((m : List (Record K V)) × LaidFor x.kinds b m w.cells × P m) ⊎
    (((m : List (Record K V)) → LaidFor x.kinds b m w.cells → ⊥) × Refuses w e cells_fault)

-- Enter: the commands in turn; the cells hold the new layout, scratch ends empty, and answers beyond the sheet stay.
abbrev pub entered : {K Row V : Type 0} → Setup K Row V → World Row V → Lent Row V → ℕ → List (Command Row V) → List (Record K V) → Left Row V
entered x w l seed sheet m = record {
  outcome = Outcome.entered (answers_to x.kinds sheet m);
  phase = Phase.opened (batch_of x.kinds (contents seed (map_after_sheet x.kinds sheet m)));
  shown = w.store.shown;
  cells = laid x.kinds (contents seed (map_after_sheet x.kinds sheet m));
  lent = record {
    work = l.work;
    scratch = empty (length l.scratch);
    answers = over_first (answers_to x.kinds sheet m) l.answers;
    output = l.output;
  };
}

abbrev pub Enters : {K Row V : Type 0} → Setup K Row V → Batch → World Row V → Event Row V → List (Command Row V) → Type 0
Enters x b w e sheet = Unless (enter_refusal x.kinds (other_kinds x.kinds b) (length w.cells) sheet e.lent) (Refuses w e)
    (Over x b w e (λ m. Leaves w e (entered x w e.lent b.seed sheet m)))

-- what cells hold, in cell order
abbrev pub in_cells : {A : Type 0} → List (Option A) → List A
in_cells [] = []
in_cells (None ∷ cells) = in_cells cells
in_cells (Some r ∷ cells) = r ∷ in_cells cells

-- the records, in the cell order of the layout
abbrev pub listing : {K Row V : Type 0} → Kinds K Row V → Contents K V → List (Record Row V)
listing x h = in_cells (laid x h)

-- List: the count and the records; only the first count places of the output change.
abbrev pub listed : {K Row V : Type 0} → Setup K Row V → World Row V → Lent Row V → ℕ → List (Record K V) → Left Row V
listed x w l seed m = record {
  outcome = Outcome.listed (length m) (listing x.kinds (contents seed m));
  phase = w.phase;
  shown = w.store.shown;
  cells = w.cells;
  lent = record {
    work = l.work;
    scratch = l.scratch;
    answers = l.answers;
    output = over_first (map Some (listing x.kinds (contents seed m))) l.output;
  };
}

abbrev pub Lists : {K Row V : Type 0} → Setup K Row V → Batch → World Row V → Event Row V → Type 0
Lists x b w e = Unless (list_refusal (other_kinds x.kinds b) (length w.cells) b.count (length e.lent.output)) (Refuses w e)
    (Over x b w e (λ m. Leaves w e (listed x w e.lent b.seed m)))

-- Seal: the image in every block, and flushed, so that kept is shown; the cells empty, the work bytes zero.
abbrev pub sealed : {K Row V : Type 0} → Setup K Row V → World Row V → Lent Row V → Contents K V → Left Row V
sealed x w l h = record {
  outcome = Outcome.accepted;
  phase = Phase.closed;
  shown = x.codec.image w.store.count h;
  cells = empty (length w.cells);
  lent = zeroed l;
}

abbrev pub Flushed : {Row V : Type 0} → Event Row V → Type 0
Flushed e = e.after.store.kept ≡ e.after.store.shown

abbrev pub Writes : {K Row V : Type 0} → Setup K Row V → World Row V → Event Row V → Contents K V → Type 0
Writes x w e h = Unless (write_refusal (x.codec.image_length h) w.store.count w.store.protected) (Refuses w e)
    (Leaves w e (sealed x w e.lent h) × Flushed e)

abbrev pub Seals : {K Row V : Type 0} → Setup K Row V → Batch → World Row V → Event Row V → Type 0
Seals x b w e = Unless (seal_refusal (other_kinds x.kinds b) (length w.cells) w.store.count (length e.lent.work)) (Refuses w e)
    (Over x b w e (λ m. Writes x w e (contents b.seed m)))

-- Abandon: never refused, with cells of any number; all of them empty.
abbrev pub abandoned : {Row V : Type 0} → World Row V → Lent Row V → Left Row V
abandoned w l = record {
  outcome = Outcome.accepted;
  phase = Phase.closed;
  shown = w.store.shown;
  cells = empty (length w.cells);
  lent = l;
}

-- start and begin are called on a closed register, the others on an open batch
abbrev pub StepAt : {K Row V : Type 0} → Setup K Row V → World Row V → Event Row V → Phase → Call Row V → Type 0
StepAt x w e Phase.closed (Call.start seed) = Starts x w e seed
StepAt x w e Phase.closed Call.begin = Begins x w e
StepAt x w e Phase.closed (Call.enter sheet) = ⊥
StepAt x w e Phase.closed Call.list = ⊥
StepAt x w e Phase.closed Call.seal = ⊥
StepAt x w e Phase.closed Call.abandon = ⊥
StepAt x w e (Phase.opened b) (Call.start seed) = ⊥
StepAt x w e (Phase.opened b) Call.begin = ⊥
StepAt x w e (Phase.opened b) (Call.enter sheet) = Enters x b w e sheet
StepAt x w e (Phase.opened b) Call.list = Lists x b w e
StepAt x w e (Phase.opened b) Call.seal = Seals x b w e
StepAt x w e (Phase.opened b) Call.abandon = Leaves w e (abandoned w e.lent)

-- the call is one that the world's state allows, and does what the event says
pub record Step {K Row V : Type 0} (x : Setup K Row V) (w : World Row V) (e : Event Row V) : Type 0 where
  pub does : StepAt x w e w.phase e.call
