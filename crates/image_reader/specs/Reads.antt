-- what a reader of images answers and leaves
use Rattle.std.specs.Prelude.{◌≡◌, ℕ, List, length, replicate, None, Ok, Err, Option, Result, ◌≢◌}
use Rattle.image.specs.Image.{image}
use Rattle.kinds.specs.declared.record.Record.{Record}
use Rattle.maps.specs.Maps.{Kinds, Contents, contents, Lawful, laid, Laid}

abbrev pub seed_and_count : {E K V : Type 0} → Result (Contents K V) E → Result (ℕ × ℕ) E
seed_and_count (Ok h) = Ok (h.seed, length h.records)
seed_and_count (Err f) = Err f

-- n lent cells: the layout in 1024, or all empty
abbrev pub cells_after : {E K Row V : Type 0} → Kinds K Row V → ℕ → Result (Contents K V) E → List (Option (Record Row V))
cells_after x n (Ok h) = laid x h
cells_after x n (Err f) = replicate n None

-- The bytes are accepted exactly when they are the image of a seed and a map, and then with that seed and that map, whose layout the cells are.
abbrev pub ReadsImage : {E K Row V : Type 0} → Kinds K Row V → List ℕ → Result (ℕ × ℕ) E → List (Option (Record Row V)) → Type 0
ReadsImage {K = K} {V = V} x bs (Ok p) cells =
    (m : List (Record K V)) × Laid x p.0 m cells × (p.1 ≡ length m) × (bs ≡ image x (length bs) (contents p.0 m))
ReadsImage {K = K} {V = V} x bs (Err f) cells =
    ((h : Contents K V) → Lawful x h → bs ≢ image x (length bs) h) × (cells ≡ replicate (length cells) None)
