-- Which call is refused, with which number and place.
use Rattle.std.specs.Prelude.{ℕ, ◌*◌, Bool, true, cond, not, ◌&&◌, ◌||◌, List, [], ◌∷◌, length, is_some, Some, None, Option, ◌==◌, nat_lt}
use Rattle.maps.specs.Commands.{row_of}
use Rattle.maps.specs.Maps.{Kinds}
use Rattle.maps.specs.declared.Command.{Command}
use Rattle.model.specs.Faults.{Fault, size_fault, lent_fault, kind_fault, short_fault, protected_fault}
use Rattle.model.specs.Worlds.{Batch, Lent}

-- conditions in their order, each with its fault: the first that holds wins
abbrev pub first : List (Bool × Fault) → Option Fault
first [] = None
first (c ∷ cs) = cond c.0 (Some c.1) (first cs)

abbrev pub wrong_size : ℕ → Bool
wrong_size count = count == 0 || nat_lt 2048 count

abbrev pub not_1024 : ℕ → Bool
not_1024 room = not (room == 1024)

-- the work bytes are to be as many as the store's
abbrev pub short_work : ℕ → ℕ → Bool
short_work work count = nat_lt work (32 * count)

-- by the store's block count, the number of cells and, below, that of the work bytes
abbrev pub start_refusal : ℕ → ℕ → Option Fault
start_refusal count room = first ((wrong_size count, size_fault) ∷ (not_1024 room, lent_fault) ∷ [])

-- before the store is read
abbrev pub begin_refusal : ℕ → ℕ → ℕ → Option Fault
begin_refusal count room work = first ((wrong_size count, size_fault) ∷ (not_1024 room || short_work work count, lent_fault) ∷ [])

-- the batch was opened under other kinds
abbrev pub other_kinds : {K Row V : Type 0} → Kinds K Row V → Batch → Bool
other_kinds x b = not (b.key_kind == x.key.number && b.value_kind == x.value.number)

-- every row of the sheet is a key's
abbrev pub all_keys : {K Row V : Type 0} → Kinds K Row V → List (Command Row V) → Bool
all_keys x [] = true
all_keys x (c ∷ cs) = is_some (x.key.key (row_of c)) && all_keys x cs

-- a sheet has at most 64 commands, and there is room for their answers
abbrev pub wrong_lengths : ℕ → ℕ → ℕ → ℕ → Bool
wrong_lengths room scratch sheet answers = not_1024 room || (not_1024 scratch || (nat_lt 64 sheet || nat_lt answers sheet))

-- before the look at the cells; `other`: the kinds are not the batch's
abbrev pub enter_refusal : {K Row V : Type 0} → Kinds K Row V → Bool → ℕ → List (Command Row V) → Lent Row V → Option Fault
enter_refusal x other room sheet l = first (
    (other || not (all_keys x sheet), kind_fault) ∷
    (wrong_lengths room (length l.scratch) (length sheet) (length l.answers), lent_fault) ∷ [])

abbrev pub list_refusal : Bool → ℕ → ℕ → ℕ → Option Fault
list_refusal other room count output = first ((other, kind_fault) ∷ (not_1024 room || nat_lt output count, lent_fault) ∷ [])

-- a seal's before the look at the cells, and behind it
abbrev pub seal_refusal : Bool → ℕ → ℕ → ℕ → Option Fault
seal_refusal other room count work = first ((other, kind_fault) ∷ (not_1024 room || short_work work count, lent_fault) ∷ [])

abbrev pub write_refusal : ℕ → ℕ → Bool → Option Fault
write_refusal long count protected = first ((nat_lt (32 * count) long, short_fault) ∷ (protected, protected_fault) ∷ [])
