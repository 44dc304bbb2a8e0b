-- The plain machine: a saved seed and map, and an open one. It has no cells, no blocks, and no memory of what was entered.
use Rattle.std.specs.Prelude.{ℕ, Bool, false, List, [], length, Some, None, Option}
use Rattle.maps.specs.Commands.{answers_to, map_after_sheet}
use Rattle.maps.specs.Maps.{Kinds, Contents, contents}
use Rattle.maps.specs.declared.Command.{Command}
use Rattle.model.specs.Faults.{Fault}
use Rattle.model.specs.Refusals.{start_refusal, begin_refusal, enter_refusal, list_refusal, seal_refusal, write_refusal}
use Rattle.model.specs.Setups.{Place, Setup}
use Rattle.model.specs.Steps.{listing}
use Rattle.model.specs.Worlds.{Call, Lent, Outcome}

pub record Machine (K V : Type 0) : Type 0 where
  pub saved : Option (Contents K V)
  pub opened : Option (Contents K V)

abbrev pub machine : {K V : Type 0} → Option (Contents K V) → Option (Contents K V) → Machine K V
machine saved opened = record { saved = saved; opened = opened }

-- what stays the same over a list of calls: block count, protection, number of cells, and what the store first showed
pub record Setting : Type 0 where
  pub count : ℕ
  pub protected : Bool
  pub room : ℕ
  pub found : List Place

-- the refusal, or else the outcome
abbrev pub or_refused : {Row V : Type 0} → Option Fault → Outcome Row V → Outcome Row V
or_refused (Some f) o = Outcome.refused f
or_refused None o = o

-- what is saved opens; where nothing is, the store first found tells why, since something is wrong with what is no image
abbrev pub begin_reply : {K Row V : Type 0} → Setup K Row V → Setting → Option (Contents K V) → Outcome Row V
begin_reply x s (Some h) = Outcome.accepted
begin_reply x s None = or_refused (x.codec.wrong s.found) Outcome.accepted

-- while closed, by what is saved; a call that only an open batch takes has no reply
abbrev pub closed_reply : {K Row V : Type 0} → Setup K Row V → Setting → Option (Contents K V) → Call Row V → Lent Row V → Option (Outcome Row V)
closed_reply x s v (Call.start seed) l = Some (or_refused (start_refusal s.count s.room) Outcome.accepted)
closed_reply x s v Call.begin l = Some (or_refused (begin_refusal s.count s.room (length l.work)) (begin_reply x s v))
closed_reply x s v (Call.enter sheet) l = None
closed_reply x s v Call.list l = None
closed_reply x s v Call.seal l = None
closed_reply x s v Call.abandon l = None

-- while open, by the open contents; a call that only a closed register takes has no reply
abbrev pub open_reply : {K Row V : Type 0} → Setup K Row V → Setting → Contents K V → Call Row V → Lent Row V → Option (Outcome Row V)
open_reply x s h (Call.start seed) l = None
open_reply x s h Call.begin l = None
open_reply x s h (Call.enter sheet) l =
    Some (or_refused (enter_refusal x.kinds false s.room sheet l) (Outcome.entered (answers_to x.kinds sheet h.records)))
open_reply x s h Call.list l =
    Some (or_refused (list_refusal false s.room (length h.records) (length l.output)) (Outcome.listed (length h.records) (listing x.kinds h)))
open_reply x s h Call.seal l =
    Some (or_refused (seal_refusal false s.room s.count (length l.work))
    (or_refused (write_refusal (x.codec.image_length h) s.count s.protected) Outcome.accepted))
open_reply x s h Call.abandon l = Some Outcome.accepted

-- by what is saved and what is open
abbrev pub reply_of : {K Row V : Type 0} → Setup K Row V → Setting → Option (Contents K V) → Option (Contents K V) → Call Row V → Lent Row V
    → Option (Outcome Row V)
reply_of x s v None c l = closed_reply x s v c l
reply_of x s v (Some h) c l = open_reply x s h c l

-- what the machine replies to a call with these lent pieces
abbrev pub reply : {K Row V : Type 0} → Setup K Row V → Setting → Machine K V → Call Row V → Lent Row V → Option (Outcome Row V)
reply x s m c l = reply_of x s m.saved m.opened c l

abbrev pub contents_after : {K Row V : Type 0} → Kinds K Row V → List (Command Row V) → Option (Contents K V) → Option (Contents K V)
contents_after x sheet None = None
contents_after x sheet (Some h) = Some (contents h.seed (map_after_sheet x sheet h.records))

-- what an accepted call does
abbrev pub act : {K Row V : Type 0} → Setup K Row V → Machine K V → Call Row V → Machine K V
act x m (Call.start seed) = machine m.saved (Some (contents seed []))
act x m Call.begin = machine m.saved m.saved
act x m (Call.enter sheet) = machine m.saved (contents_after x.kinds sheet m.opened)
act x m Call.list = m
act x m Call.seal = machine m.opened None
act x m Call.abandon = machine m.saved None

-- a refusal changes nothing
abbrev pub unless_refused : {K Row V : Type 0} → Outcome Row V → Machine K V → Machine K V → Machine K V
unless_refused Outcome.accepted m n = n
unless_refused (Outcome.refused f) m n = m
unless_refused (Outcome.entered answers) m n = n
unless_refused (Outcome.listed count records) m n = n

abbrev pub after_reply : {K Row V : Type 0} → Option (Outcome Row V) → Machine K V → Machine K V → Machine K V
after_reply None m n = m
after_reply (Some o) m n = unless_refused o m n

-- the machine after a call
abbrev pub next : {K Row V : Type 0} → Setup K Row V → Setting → Machine K V → Call Row V → Lent Row V → Machine K V
next x s m c l = after_reply (reply x s m c l) m (act x m c)
