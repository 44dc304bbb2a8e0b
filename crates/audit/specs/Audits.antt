-- What an audit of a store answers and leaves.
use Rattle.std.specs.Prelude.{ℕ, List, length, Ok, Option}
use Rattle.contents.specs.Finds.{Reading, ReadsAs, zeros}
use Rattle.kinds.specs.declared.record.Record.{Record}
use Rattle.maps.specs.Maps.{Contents, laid}
use Rattle.model.specs.Setups.{Setup}
use Rattle.model.specs.Steps.{empty}
use Rattle.model.specs.Worlds.{Store}

-- the count and the seed are given, and all cells are left empty
abbrev pub audited : {K Row V : Type 0} → List (Option (Record Row V)) → List ℕ → Contents K V → Reading (ℕ × ℕ) Row V
audited cells work h = record { answer = Ok (length h.records, h.seed); cells = empty (length cells); work = zeros work }

-- begin's refusals, or the count and the seed of the contents whose image the store shows
abbrev pub Audits : {K Row V : Type 0} → Setup K Row V → Store → List (Option (Record Row V)) → List ℕ → Reading (ℕ × ℕ) Row V → Type 0
Audits x s cells work r = ReadsAs x s cells work (audited cells work) r

-- the same, but the cells are left with the layout
abbrev pub examined : {K Row V : Type 0} → Setup K Row V → List ℕ → Contents K V → Reading (ℕ × ℕ) Row V
examined x work h = record { answer = Ok (length h.records, h.seed); cells = laid x.kinds h; work = zeros work }

abbrev pub Examines : {K Row V : Type 0} → Setup K Row V → Store → List (Option (Record Row V)) → List ℕ → Reading (ℕ × ℕ) Row V → Type 0
Examines x s cells work r = ReadsAs x s cells work (examined x work) r
