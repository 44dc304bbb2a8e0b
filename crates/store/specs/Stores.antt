-- What is said of any store, by the members of its trait.
use Rattle.std.specs.Prelude.{◌≡◌, ℕ, List}
use Rattle.store.specs.Answers.{Answer, read_answer, write_answer, back_answer, after_write, shown_after}
use Rattle.store.specs.declared.store.Store.{Ghosts}

-- what a read of block i tells, and a write, and a block written, flushed and read again
abbrev pub read_told : {S F : Type 0} → Ghosts S F → S → ℕ → Answer (List ℕ)
read_told store s i = read_answer (store.count s) (store.shown s) i

abbrev pub write_told : {S F : Type 0} → Ghosts S F → S → ℕ → Answer (Unit {0})
write_told store s i = write_answer (store.count s) (store.protected s) i

abbrev pub back_told : {S F : Type 0} → Ghosts S F → S → ℕ → List ℕ → Answer (List ℕ)
back_told store s i b = back_answer (store.count s) (store.protected s) i b

-- something that a write of block i makes new where the store takes it, and leaves as it was where it is refused
abbrev pub once_written : {S F X : Type 0} → Ghosts S F → S → ℕ → X → X → X
once_written store s i was becomes = after_write (store.count s) (store.protected s) i was becomes

-- neither the count of a store nor whether it is protected changes
abbrev pub Fixed : {S F : Type 0} → Ghosts S F → S → S → Type 0
Fixed store was becomes = (store.count becomes ≡ store.count was) × (store.protected becomes ≡ store.protected was)

-- a write of the block b at i, taken or refused
abbrev pub Writes : {S F : Type 0} → Ghosts S F → ℕ → List ℕ → S → S → Type 0
Writes store i b was becomes =
    Fixed store was becomes
    × (store.shown becomes ≡ shown_after (store.count was) (store.protected was) (store.shown was) i b)

-- a flush: what is shown stays, and is kept
abbrev pub Flushes : {S F : Type 0} → Ghosts S F → S → S → Type 0
Flushes store was becomes =
    Fixed store was becomes
    × (store.shown becomes ≡ store.shown was)
    × (store.kept becomes ≡ store.shown was)
