-- Blocks in lent bytes, each with its Fletcher sums.
use Rattle.std.specs.Prelude.{ℕ, ◌+◌, ◌*◌, ◌/◌, ◌%◌, cond, List, [], ◌∷◌, length, take, drop, Some, None}
use Rattle.std.specs.Str.{bytes_eq}
use Rattle.store.specs.Lent.{block_at}
use Rattle.store.specs.Places.{Place, places}

-- both sums once the byte x has gone in: into the first, and that into the second, mod 255
abbrev pub sums_more : ℕ → ℕ → ℕ → ℕ × ℕ
sums_more s1 s2 x = ((s1 + x) % 255, (s2 + (s1 + x) % 255) % 255)

-- the sums of some bytes, from those of the bytes before them
abbrev pub sums_from : ℕ → ℕ → List ℕ → List ℕ
sums_from s1 s2 [] = s1 ∷ s2 ∷ []
sums_from s1 s2 (x ∷ xs) = sums_from (sums_more s1 s2 x).0 (sums_more s1 s2 x).1 xs

abbrev pub sums : List ℕ → List ℕ
sums bytes = sums_from 0 0 bytes

-- what a part of 34 bytes shows: its first 32, if the last two are their sums
abbrev pub checked_place : List ℕ → Place
checked_place part = cond (bytes_eq (take 2 (drop 32 part)) (sums (block_at part 0))) (Some (block_at part 0)) None

abbrev pub checked_count : List ℕ → ℕ
checked_count bytes = length bytes / 34

abbrev pub checked_places : List ℕ → List Place
checked_places bytes = places (checked_count bytes) (λ k. checked_place (take 34 (drop (k * 34) bytes)))
