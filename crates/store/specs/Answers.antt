-- What a store answers, and what it shows after a write.
use Rattle.std.specs.Prelude.{ℕ, Bool, cond, List, Some, None, Ok, Err, Result, nat_lt, slice_index_or, slice_set}
use Rattle.store.specs.Places.{Place}

-- something given, or a refusal by its number and the block that was asked for
pub data Answer (A : Type 0) : Type 0 where
  given : A → Answer A
  refused : ℕ → ℕ → Answer A

-- what a result tells, where a fault is known by its number and its block alone
abbrev pub told : {A F : Type 0} → (F → ℕ) → (F → ℕ) → Result A F → Answer A
told number block (Ok a) = Answer.given a
told number block (Err f) = Answer.refused (number f) (block f)

abbrev pub out_of_range : {A : Type 0} → ℕ → Answer A
out_of_range i = Answer.refused 13 i

abbrev pub unreadable : {A : Type 0} → ℕ → Answer A
unreadable i = Answer.refused 3 i

abbrev pub write_protected : {A : Type 0} → ℕ → Answer A
write_protected i = Answer.refused 12 i

abbrev pub place_answer : ℕ → Place → Answer (List ℕ)
place_answer i (Some b) = Answer.given b
place_answer i None = unreadable i

-- a read of block i
abbrev pub read_answer : ℕ → List Place → ℕ → Answer (List ℕ)
read_answer count shown i = cond (nat_lt i count) (place_answer i (slice_index_or shown i None)) (out_of_range i)

-- whether there is a block i
abbrev pub range_answer : ℕ → ℕ → Answer (Unit {0})
range_answer count i = cond (nat_lt i count) (Answer.given tt) (out_of_range i)

-- a write of block i
abbrev pub write_answer : ℕ → Bool → ℕ → Answer (Unit {0})
write_answer count protected i = cond (nat_lt i count) (cond protected (write_protected i) (Answer.given tt)) (out_of_range i)

-- something that a write of block i makes new where it is taken, and leaves as it was where it is refused
abbrev pub after_write : {X : Type 0} → ℕ → Bool → ℕ → X → X → X
after_write count protected i was becomes = cond (nat_lt i count) (cond protected was becomes) was

-- what is shown after a write of the block b at i
abbrev pub shown_after : ℕ → Bool → List Place → ℕ → List ℕ → List Place
shown_after count protected shown i b = after_write count protected i shown (slice_set shown i (Some b))

-- what comes of a block that is written, flushed and read again
abbrev pub back_answer : ℕ → Bool → ℕ → List ℕ → Answer (List ℕ)
back_answer count protected i b = cond (nat_lt i count) (cond protected (write_protected i) (Answer.given b)) (out_of_range i)
