-- Written blocks that are held back, the longest held first.
use Rattle.std.specs.Prelude.{ℕ, ◌-◌, Bool, true, false, cond, not, ◌&&◌, ◌||◌, List, [], ◌∷◌, ◌++◌, length, take, drop, Some, None, filter, Option, ◌==◌}
use Rattle.store.specs.Places.{Place}
use Rattle.writeback.specs.declared.slot.Slot.{Slot}

-- is a block held for place i
abbrev pub is_held : ℕ → List Slot → Bool
is_held i [] = false
is_held i (s ∷ ss) = s.at == i || is_held i ss

-- no place is held for twice
abbrev pub apart : List Slot → Bool
apart [] = true
apart (s ∷ ss) = not (is_held s.at ss) && apart ss

abbrev pub oldest : List Slot → Option Slot
oldest [] = None
oldest (s ∷ ss) = Some s

-- the block last written to i, or else p
abbrev pub latest_from : Place → ℕ → List Slot → Place
latest_from p i [] = p
latest_from p i (s ∷ ss) = latest_from (cond (s.at == i) (Some s.block) p) i ss

abbrev pub latest : ℕ → List Slot → Place
latest i ss = latest_from None i ss

-- the block held for i, if the store below would take it
abbrev pub held_place : Bool → ℕ → List Slot → Place
held_place locked i ss = cond locked None (latest i ss)

-- those that are for another place than i
abbrev pub without : ℕ → List Slot → List Slot
without i ss = filter (λ s. not (s.at == i)) ss

-- a block written: it is the newest, and what was held for its place is gone
abbrev pub renewed : List Slot → Slot → List Slot
renewed ss s = without s.at ss ++ s ∷ []

-- what stays held of them, and what has to make way
abbrev pub newest_four : List Slot → List Slot
newest_four ss = drop (length ss - 4) ss

abbrev pub beyond_four : List Slot → List Slot
beyond_four ss = take (length ss - 4) ss
