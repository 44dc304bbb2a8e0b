-- What a store's result tells.
use Rattle.std.specs.Prelude.{Result}
use Rattle.store.specs.Answers.{Answer, told}
use Rattle.store.specs.declared.fault.BlockFault.{Ghosts}

-- what it tells by the members of its fault's trait
abbrev pub tells : {A F : Type 0} → Ghosts F → Result A F → Answer A
tells fault result = told fault.number fault.block result
