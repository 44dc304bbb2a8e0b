-- what the parts of the reader answer
use Rattle.std.specs.Prelude.{◌≡◌, ℕ, List, ◌++◌, map, length, drop, Some, None, Ok, Err, Option, Result}
use Rattle.image.specs.declared.fault.ImageFault.{ImageFault}
use Rattle.image.specs.declared.fault.ImageFault.TheVariants.{Record}
use Rattle.image.specs.Opened.{Cells}
use Rattle.kinds.specs.declared.record.Record.{Record as Rec}
use Rattle.layout.specs.Capacity.{capacity}
use Rattle.layout.specs.Views.{seen}
use Rattle.maps.specs.Maps.{Kinds, Contents, lent, cells_of}

-- what stands at a place, or the fault that nothing does
abbrev pub record_or : {F X : Type 0} → ℕ → Option X → Result X (ImageFault F)
record_or at None = Err (Record at)
record_or at (Some x) = Ok x

-- the place behind the cells that were read
abbrev pub place_of : {F R : Type 0} → Cells F R → Result ℕ (ImageFault F)
place_of (Ok p) = Ok p.1
place_of (Err f) = Err f

-- the cells hold what was read, as rows
abbrev pub Filled : {F K Row V : Type 0} → Kinds K Row V → Cells F (Rec K V) → List (Option (Rec Row V)) → Type 0
Filled x (Ok p) new = new ≡ map (seen (lent x)) p.0
Filled x (Err f) new = Unit {0}

-- the first cells are the layout, and the others are as they were
abbrev pub Kept : {E K Row V : Type 0} → Kinds K Row V → Result (Contents K V) E → List (Option (Rec Row V)) → List (Option (Rec Row V)) → Type 0
Kept x (Ok h) old new = new ≡ map (seen (lent x)) (cells_of x h) ++ drop (capacity (length h.records)) old
Kept x (Err f) old new = Unit {0}
