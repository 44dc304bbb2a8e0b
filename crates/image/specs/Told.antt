-- What a result with a fault of an image tells.
use Rattle.std.specs.Prelude.{Result}
use Rattle.store.specs.Answers.{Answer, told}
use Rattle.store.specs.declared.fault.BlockFault.{Ghosts}
use Rattle.image.specs.declared.fault.ImageFault.{ImageFault}
use Rattle.image.specs.Faults.{fault_number, fault_place}

-- the number and the place of the fault, by the members of the trait of the store's own
abbrev pub tells : {A F : Type 0} → Ghosts F → Result A (ImageFault F) → Answer A
tells fault result = told (fault_number fault.number) (fault_place fault.block) result
