-- what is read of the blocks that a store shows
use Rattle.std.specs.Prelude.{◌≡◌, ℕ, ◌*◌, Bool, not, List, [], ◌∷◌, ◌++◌, length, take, replicate, is_some, Some, None, Ok, Err, Option, Result, ◌≢◌, slice_index_or}
use Rattle.kinds.specs.declared.record.Record.{Record}
use Rattle.layout.specs.Tests.{lowest}
use Rattle.maps.specs.Maps.{Kinds, Contents, contents, Lawful, laid, Laid}
use Rattle.store.specs.Answers.{Answer, given, refused, told, unreadable}
use Rattle.store.specs.Places.{Place}
use Rattle.store.specs.declared.fault.BlockFault.{Ghosts}
use Rattle.image.specs.Faults.{fault_number, fault_place}
use Rattle.image.specs.Image.{image}
use Rattle.image.specs.Opened.{opened}

-- the bytes of the blocks, one behind the other
abbrev pub bytes_of : List Place → List ℕ
bytes_of [] = []
bytes_of (None ∷ places) = bytes_of places
bytes_of (Some block ∷ places) = block ++ bytes_of places

abbrev pub lost : List Place → ℕ → Bool
lost shown i = not (is_some (slice_index_or shown i None))

-- the lowest unreadable block
abbrev pub first_lost : List Place → Option ℕ
first_lost shown = lowest (lost shown) 0 (length shown)

-- a block that can't be read comes before all that the bytes say
abbrev pub unless_lost : {A : Type 0} → Option ℕ → Answer A → Answer A
unless_lost (Some i) rest = unreadable i
unless_lost None rest = rest

abbrev pub load_answer : List Place → Answer (Unit {0})
load_answer shown = unless_lost (first_lost shown) (given tt)

-- every place is a block of 32 bytes
abbrev pub Whole : List Place → Type 0
Whole [] = Unit {0}
Whole (None ∷ places) = ⊥
Whole (Some block ∷ places) = (length block ≡ 32) × Whole places

-- every block was readable, and its bytes stand at the front of the work bytes
abbrev pub Loaded : {E : Type 0} → List Place → ℕ → List ℕ → Result Unit E → Type 0
Loaded shown count work (Ok u) = (first_lost shown ≡ None) × (take (32 * count) work ≡ bytes_of shown) × Whole shown
Loaded shown count work (Err f) = Unit {0}

module _ {K Row V : Type 0} (x : Kinds K Row V) where
  -- what the store is opened to, a fault by its number and its place
  abbrev pub store_opened : {F : Type 0} → (F → ℕ) → (F → ℕ) → List Place → Answer (Contents K V)
  store_opened {F} number block shown = unless_lost (first_lost shown) (told (fault_number number) (fault_place block) (opened {F = F} x (bytes_of shown)))

  -- the same, by the members of the trait of the store's fault
  abbrev pub opened_by : {F : Type 0} → Ghosts F → List Place → Answer (Contents K V)
  opened_by fault shown = store_opened fault.number fault.block shown

  abbrev pub seed_and_count_told : Answer (Contents K V) → Answer (ℕ × ℕ)
  seed_and_count_told (given h) = given (h.seed, length h.records)
  seed_and_count_told (refused number place) = refused number place

  -- n lent cells: the layout in 1024, or all empty
  abbrev pub cells_left : ℕ → Answer (Contents K V) → List (Option (Record Row V))
  cells_left n (given h) = laid x h
  cells_left n (refused number place) = replicate n None

  -- The store is accepted exactly when it is readable and its bytes are the image of a seed and a map, and then with that seed and that map.
  abbrev pub ReadsStore : {E : Type 0} → List Place → Result (ℕ × ℕ) E → List (Option (Record Row V)) → Type 0
  ReadsStore shown (Ok p) cells =
      (first_lost shown ≡ None)
      × Whole shown
      × ((m : List (Record K V)) × Laid x p.0 m cells × (p.1 ≡ length m) × (bytes_of shown ≡ image x (length (bytes_of shown)) (contents p.0 m)))
  ReadsStore shown (Err f) cells =
      (first_lost shown ≡ None → (h : Contents K V) → Lawful x h → bytes_of shown ≢ image x (length (bytes_of shown)) h) × (cells ≡ replicate (length cells) None)
