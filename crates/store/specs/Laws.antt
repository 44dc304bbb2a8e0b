-- The rules of stores, above the definitions that the contracts cite.
use Rattle.std.specs.Prelude.{◌≡◌, ℕ, ◌<◌, ◌≤◌, Bool, true, false, ◌≢◌, List, length, take, drop, Some, None, slice_index_or}
use Rattle.store.specs.Answers.{shown_after}
use Rattle.store.specs.Lent.{block_at}
use Rattle.store.specs.Places.{Place}
use Rattle.store.specs.Sums.{sums, checked_place}

pub record Laws : Type 0 where
  -- a taken write shows at its place
  pub shows : (n : ℕ) (xs : List Place) (i : ℕ) (b : List ℕ) → length xs ≡ n → i < n → slice_index_or (shown_after n false xs i b) i None ≡ Some b
  -- no write, taken or refused, shows at another place
  pub alone : (n : ℕ) (locked : Bool) (xs : List Place) (i k : ℕ) (b : List ℕ) → k ≢ i → slice_index_or (shown_after n locked xs i b) k None ≡ slice_index_or xs k None
  -- a refused write shows nowhere
  pub beyond : (n : ℕ) (locked : Bool) (xs : List Place) (i : ℕ) (b : List ℕ) → n ≤ i → shown_after n locked xs i b ≡ xs
  pub shut : (n : ℕ) (xs : List Place) (i : ℕ) (b : List ℕ) → shown_after n true xs i b ≡ xs
  -- 34 bytes show a block exactly when it is the first 32 and the last two are its sums
  pub summed : (part b : List ℕ) → checked_place part ≡ Some b → (b ≡ block_at part 0) × (take 2 (drop 32 part) ≡ sums b)
  pub readable : (part b : List ℕ) → b ≡ block_at part 0 → take 2 (drop 32 part) ≡ sums b → checked_place part ≡ Some b
