-- What layers show of the stores below them.
use Rattle.std.specs.Prelude.{ℕ, ◌+◌, ◌-◌, min, cond, List, Some, None, Ok, Err, Option, Result, nat_lt, slice_index_or}
use Rattle.std.proofs.lemmas.List.FromFn.{length-map-range_with_len}
use Rattle.std.specs.Str.{bytes_eq}
use Rattle.store.specs.Places.{Place, places, Lengths}

-- of n blocks below, as many as wished from the first on, or as many as remain
abbrev pub offset_count : ℕ → ℕ → ℕ → ℕ
offset_count first wished n = min wished (n - first)

abbrev pub offset_places : ℕ → ℕ → ℕ → List Place → List Place
offset_places first wished n below = places (offset_count first wished n) (λ k. slice_index_or below (first + k) None)

-- where block i lies below, if there is one
abbrev pub offset_place : ℕ → ℕ → ℕ → ℕ → Option ℕ
offset_place first wished n i = cond (nat_lt i (offset_count first wished n)) (Some (first + i)) None

pub offset_lengths : (first wished n : ℕ) (shown kept : List Place)
    → Lengths (offset_count first wished n) (offset_places first wished n shown) (offset_places first wished n kept)
offset_lengths first wished n shown kept = record { of_shown = length-map-range_with_len _ 0 _; of_kept = length-map-range_with_len _ 0 _ }

-- what a read tells of a place that there is
abbrev pub place_of : {F : Type 0} → Result (List ℕ) F → Place
place_of (Ok b) = Some b
place_of (Err f) = None

-- what two halves show together: what both do, or what the only readable one does
abbrev pub agreed : Place → Place → Place
agreed (Some x) (Some y) = cond (bytes_eq x y) (Some x) None
agreed (Some x) None = Some x
agreed None (Some y) = Some y
agreed None None = None

-- as many places as the half with fewer has
abbrev pub mirror_places : ℕ → ℕ → List Place → List Place → List Place
mirror_places l r left right = places (min l r) (λ k. agreed (slice_index_or left k None) (slice_index_or right k None))

pub mirror_lengths : (l r : ℕ) (left right left_kept right_kept : List Place)
    → Lengths (min l r) (mirror_places l r left right) (mirror_places l r left_kept right_kept)
mirror_lengths l r left right left_kept right_kept = record { of_shown = length-map-range_with_len _ 0 _; of_kept = length-map-range_with_len _ 0 _ }
