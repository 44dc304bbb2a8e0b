-- What is known where a call is not refused.
use Rattle.std.proofs.Common.{◌≡◌, ℕ, ◌*◌, ◌≤◌, Bool, true, false, not, ◌&&◌, ◌||◌, eqb, ltb, List, [], ◌∷◌, length, Some, None, Option, refl, subst, arith}
use Rattle.std.proofs.lemmas.Bool.{eqb-true, ltb-false, eq-eqb, not-false, or_parts, and_parts}
use Rattle.maps.specs.Maps.{Kinds, Contents}
use Rattle.maps.specs.declared.Command.{Command}
use Rattle.model.specs.Faults.{Fault, size_fault, lent_fault, kind_fault, short_fault, protected_fault}
use Rattle.model.specs.Refusals.{first, wrong_size, not_1024, short_work, start_refusal, begin_refusal, other_kinds, all_keys, wrong_lengths, enter_refusal, list_refusal, seal_refusal, write_refusal}
use Rattle.model.specs.Steps.{batch_of, Unless}
use Rattle.model.specs.Worlds.{Batch, Lent}

-- of two conditions neither holds
two_none : (b c : Bool) (f g : Fault) → first ((b, f) ∷ (c, g) ∷ []) ≡ None → (b ≡ false) × (c ≡ false)
two_none true c f g e = let z : ◌≡◌ {A = ℕ} 0 1 = cc in absurd (omega arith)
two_none false true f g e = let z : ◌≡◌ {A = ℕ} 0 1 = cc in absurd (omega arith)
two_none false false f g e = (refl, refl)

is_1024 : (room : ℕ) → not_1024 room ≡ false → room ≡ 1024
is_1024 room e = eqb-true room 1024 (not-false (eqb room 1024) e)

-- the cells are 1024, and what else the call takes is long enough
room_and : (room : ℕ) (other : Bool) → (not_1024 room || other) ≡ false → (room ≡ 1024) × (other ≡ false)
room_and room other e = let t = or_parts (not_1024 room) other e in (is_1024 room t.0, t.1)

pub start_taken : (count room : ℕ) → start_refusal count room ≡ None → (wrong_size count ≡ false) × (room ≡ 1024)
start_taken count room e = let t = two_none (wrong_size count) (not_1024 room) size_fault lent_fault e in (t.0, is_1024 room t.1)

pub begin_taken : (count room work : ℕ) → begin_refusal count room work ≡ None → (wrong_size count ≡ false) × (room ≡ 1024) × (32 * count ≤ work)
begin_taken count room work e =
    let t = two_none (wrong_size count) (not_1024 room || short_work work count) size_fault lent_fault e in
    let u = room_and room (short_work work count) t.1 in
    (t.0, u.0, ltb-false work (32 * count) u.1)

pub list_taken : (other : Bool) (room count output : ℕ) → list_refusal other room count output ≡ None → (other ≡ false) × (room ≡ 1024) × (count ≤ output)
list_taken other room count output e =
    let t = two_none other (not_1024 room || ltb output count) kind_fault lent_fault e in
    let u = room_and room (ltb output count) t.1 in
    (t.0, u.0, ltb-false output count u.1)

pub seal_taken : (other : Bool) (room count work : ℕ) → seal_refusal other room count work ≡ None → (other ≡ false) × (room ≡ 1024) × (32 * count ≤ work)
seal_taken other room count work e =
    let t = two_none other (not_1024 room || short_work work count) kind_fault lent_fault e in
    let u = room_and room (short_work work count) t.1 in
    (t.0, u.0, ltb-false work (32 * count) u.1)

pub write_taken : (long count : ℕ) (protected : Bool) → write_refusal long count protected ≡ None → (long ≤ 32 * count) × (protected ≡ false)
write_taken long count protected e =
    let t = two_none (ltb (32 * count) long) protected short_fault protected_fault e in
    (ltb-false (32 * count) long t.0, t.1)

-- an accepted sheet, before the look at the cells
pub record SheetTaken {K Row V : Type 0} (x : Kinds K Row V) (other : Bool) (room : ℕ) (sheet : List (Command Row V)) (l : Lent Row V) : Type 0 where
  pub same_kinds : other ≡ false
  pub keys : all_keys x sheet ≡ true
  pub room_is : room ≡ 1024
  pub scratch_is : length l.scratch ≡ 1024
  pub few : length sheet ≤ 64
  pub answers_fit : length sheet ≤ length l.answers

pub enter_taken : {K Row V : Type 0} (x : Kinds K Row V) (other : Bool) (room : ℕ) (sheet : List (Command Row V)) (l : Lent Row V)
    → enter_refusal x other room sheet l ≡ None → SheetTaken x other room sheet l
enter_taken x other room sheet l e =
    let scratch = length l.scratch in
    let n = length sheet in
    let answers = length l.answers in
    let t = two_none (other || not (all_keys x sheet)) (wrong_lengths room scratch n answers) kind_fault lent_fault e in
    let k = or_parts other (not (all_keys x sheet)) t.0 in
    let u = room_and room (not_1024 scratch || (ltb 64 n || ltb answers n)) t.1 in
    let v = room_and scratch (ltb 64 n || ltb answers n) u.1 in
    let w = or_parts (ltb 64 n) (ltb answers n) v.1 in
    record {
      same_kinds = k.0;
      keys = not-false (all_keys x sheet) k.1;
      room_is = u.0;
      scratch_is = v.0;
      few = ltb-false 64 n w.0;
      answers_fit = ltb-false answers n w.1;
    }

-- a batch is of the kinds that it was opened under
pub own_kinds : {K Row V : Type 0} (x : Kinds K Row V) (h : Contents K V) → other_kinds x (batch_of x h) ≡ false
own_kinds x h = rw (eq-eqb x.key.number x.key.number refl, eq-eqb x.value.number x.value.number refl)

pub same_numbers : {K Row V : Type 0} (x : Kinds K Row V) (b : Batch) → other_kinds x b ≡ false → (b.key_kind ≡ x.key.number) × (b.value_kind ≡ x.value.number)
same_numbers x b e =
    let keys = eqb b.key_kind x.key.number in
    let values = eqb b.value_kind x.value.number in
    let t = and_parts keys values (not-false (keys && values) e) in
    (eqb-true b.key_kind x.key.number t.0, eqb-true b.value_kind x.value.number t.1)

-- what is the case, by another way to say which refusal there is
pub moved : {r q : Option Fault} (R : Fault → Type 0) (A : Type 0) → r ≡ q → Unless r R A → Unless q R A
moved R A p h = subst (λ (o : Option Fault). Unless o R A) p h

-- for a call's proof, where it refuses with f and where it does not
pub refused_with : {r : Option Fault} {f : Fault} (R : Fault → Type 0) (A : Type 0) → Some f ≡ r → R f → Unless r R A
refused_with R A e h = moved R A e h

pub not_refused : {r : Option Fault} (R : Fault → Type 0) (A : Type 0) → None ≡ r → A → Unless r R A
not_refused R A e h = moved R A e h

-- what is the case in other words, refused or not
pub unless_as : (o : Option Fault) (R Q : Fault → Type 0) (A B : Type 0) → ((f : Fault) → R f → Q f) → (A → B) → Unless o R A → Unless o Q B
unless_as (Some f) R Q A B r a u = r f u
unless_as None R Q A B r a u = a u
