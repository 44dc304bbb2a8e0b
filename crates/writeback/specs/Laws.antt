-- The rules of held blocks, above the definitions that the contracts cite.
use Rattle.std.specs.Prelude.{◌≡◌, ℕ, ◌<◌, ◌≤◌, Bool, true, false, List, length, Some, None, slice_index_or}
use Rattle.store.specs.Places.{Place}
use Rattle.writeback.specs.Overlays.{overlay}
use Rattle.writeback.specs.Slots.{apart, latest, renewed, newest_four}
use Rattle.writeback.specs.declared.slot.Slot.{Slot}

pub record Laws : Type 0 where
  -- a block that is held, and that the store below would take, shows
  pub held : (n : ℕ) (xs : List Place) (ss : List Slot) (i : ℕ) (b : List ℕ) → i < n → length xs ≡ n → latest i ss ≡ Some b → slice_index_or (overlay n false xs ss) i None ≡ Some b
  -- where none is held, what is shown below shows
  pub bare : (n : ℕ) (locked : Bool) (xs : List Place) (ss : List Slot) (i : ℕ) → i < n → length xs ≡ n → latest i ss ≡ None → slice_index_or (overlay n locked xs ss) i None ≡ slice_index_or xs i None
  -- a protected store below shows as it is
  pub shut : (n : ℕ) (xs : List Place) (ss : List Slot) → overlay n true xs ss ≡ xs
  -- a block written again is held once
  pub once : (ss : List Slot) (s : Slot) → apart ss ≡ true → apart (renewed ss s) ≡ true
  -- never more than four stay
  pub few : (ss : List Slot) → length (newest_four ss) ≤ 4
