-- What a call finds and leaves, what is asked, and what comes of it.
use Rattle.std.specs.Prelude.{ℕ, Bool, List, [], Option}
use Rattle.kinds.specs.declared.record.Record.{Record}
use Rattle.maps.specs.declared.Answer.{Answer}
use Rattle.maps.specs.declared.Command.{Command}
use Rattle.model.specs.Faults.{Fault}
use Rattle.model.specs.Setups.{Place}

-- a store's meaning
pub record Store : Type 0 where
  pub count : ℕ
  pub protected : Bool
  pub shown : List Place
  pub kept : List Place

-- what an open batch knows of itself
pub record Batch : Type 0 where
  pub key_kind : ℕ
  pub value_kind : ℕ
  pub seed : ℕ
  pub count : ℕ
  pub capacity : ℕ

-- the register's state
pub data Phase : Type 0 where
  closed : Phase
  opened : Batch → Phase

-- the store that the register holds, its state, and the cells lent to it
pub record World (Row V : Type 0) : Type 0 where
  pub store : Store
  pub phase : Phase
  pub cells : List (Option (Record Row V))

pub data Call (Row V : Type 0) : Type 0 where
  -- with a seed
  start : ℕ → Call Row V
  begin : Call Row V
  -- with a sheet
  enter : List (Command Row V) → Call Row V
  list : Call Row V
  seal : Call Row V
  abandon : Call Row V

-- the lent pieces besides cells and sheet; to a call that takes no such piece an empty one is lent
pub record Lent (Row V : Type 0) : Type 0 where
  pub work : List ℕ
  pub scratch : List (Option (Record Row V))
  pub answers : List (Answer V)
  pub output : List (Option (Record Row V))

abbrev pub no_piece : {Row V : Type 0} → Lent Row V
no_piece = record { work = []; scratch = []; answers = []; output = [] }

abbrev pub work_piece : {Row V : Type 0} → List ℕ → Lent Row V
work_piece work = record { work = work; scratch = []; answers = []; output = [] }

abbrev pub sheet_pieces : {Row V : Type 0} → List (Option (Record Row V)) → List (Answer V) → Lent Row V
sheet_pieces scratch answers = record { work = []; scratch = scratch; answers = answers; output = [] }

abbrev pub output_piece : {Row V : Type 0} → List (Option (Record Row V)) → Lent Row V
output_piece output = record { work = []; scratch = []; answers = []; output = output }

-- what a call answers: a sheet its answers, a list the count and the records
pub data Outcome (Row V : Type 0) : Type 0 where
  accepted : Outcome Row V
  refused : Fault → Outcome Row V
  entered : List (Answer V) → Outcome Row V
  listed : ℕ → List (Record Row V) → Outcome Row V

-- one call: what is asked, the pieces lent to it, what it answers, the world after it, and what the pieces then hold
pub record Event (Row V : Type 0) : Type 0 where
  pub call : Call Row V
  pub lent : Lent Row V
  pub outcome : Outcome Row V
  pub after : World Row V
  pub back : Lent Row V
