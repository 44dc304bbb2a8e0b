-- What shows once held blocks were written below.
use Rattle.std.specs.Prelude.{◌≡◌, ℕ, Bool, true, false, cond, List, [], ◌∷◌, length, Some, nat_lt, slice_set, refl}
use Rattle.std.proofs.Common.{◌∙◌}
use Rattle.std.proofs.lemmas.List.{length-set}
use Rattle.store.specs.Answers.{shown_after}
use Rattle.store.specs.Places.{Place, Lengths}
use Rattle.writeback.specs.declared.slot.Slot.{Slot}

-- each held block, the longest held first, written to a store of n blocks that shows `below`: one that the store
-- would not take changes nothing
abbrev pub overlay : ℕ → Bool → List Place → List Slot → List Place
overlay n locked below [] = below
overlay n locked below (s ∷ ss) = overlay n locked (shown_after n locked below s.at s.block) ss

both_ways : (t locked : Bool) (xs ys : List Place) → length ys ≡ length xs → length (cond t (cond locked xs ys) xs) ≡ length xs
both_ways true true xs ys e = refl
both_ways true false xs ys e = e
both_ways false locked xs ys e = refl

-- a write keeps the number of places
pub length_after : (n : ℕ) (locked : Bool) (xs : List Place) (i : ℕ) (b : List ℕ) → length (shown_after n locked xs i b) ≡ length xs
length_after n locked xs i b = both_ways (nat_lt i n) locked xs (slice_set xs i (Some b)) (length-set xs i (Some b))

length_overlay : (n : ℕ) (locked : Bool) (xs : List Place) (ss : List Slot) → length (overlay n locked xs ss) ≡ length xs
length_overlay n locked xs [] = refl
length_overlay n locked xs (s ∷ ss) = length_overlay n locked (shown_after n locked xs s.at s.block) ss ∙ length_after n locked xs s.at s.block

pub overlay_lengths : (n : ℕ) (locked : Bool) (shown kept : List Place) (ss : List Slot) → Lengths n shown kept → Lengths n (overlay n locked shown ss) kept
overlay_lengths n locked shown kept ss l = record { of_shown = length_overlay n locked shown ss ∙ l.of_shown; of_kept = l.of_kept }
