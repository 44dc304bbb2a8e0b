-- Blocks that lie in lent bytes, each in a part of its own.
use Rattle.std.specs.Prelude.{ℕ, ◌+◌, ◌*◌, ◌/◌, List, ◌++◌, length, take, drop, Some}
use Rattle.std.proofs.lemmas.List.FromFn.{length-map-range_with_len}
use Rattle.store.specs.Places.{Place, places, Lengths}

-- the 32 bytes from a start on
abbrev pub block_at : List ℕ → ℕ → List ℕ
block_at bytes start = take 32 (drop start bytes)

-- bytes, with others written over them from a start on
abbrev pub overwritten : List ℕ → ℕ → List ℕ → List ℕ
overwritten bytes start new = take start bytes ++ (new ++ drop (start + length new) bytes)

-- parts of so many bytes, one behind the other, each of which shows a place
abbrev pub lent_count : ℕ → List ℕ → ℕ
lent_count width bytes = length bytes / width

abbrev pub lent_places : ℕ → (List ℕ → Place) → List ℕ → List Place
lent_places width place bytes = places (lent_count width bytes) (λ k. place (take width (drop (k * width) bytes)))

pub lent_lengths : (width : ℕ) (place : List ℕ → Place) (bytes : List ℕ)
    → Lengths (lent_count width bytes) (lent_places width place bytes) (lent_places width place bytes)
lent_lengths width place bytes = record { of_shown = length-map-range_with_len _ 0 _; of_kept = length-map-range_with_len _ 0 _ }

abbrev pub plain_count : List ℕ → ℕ
plain_count bytes = length bytes / 32

abbrev pub plain_places : List ℕ → List Place
plain_places bytes = places (plain_count bytes) (λ k. Some (block_at bytes (k * 32)))
