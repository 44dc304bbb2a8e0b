use Rattle.writeback.proofs.Ruled.{laws}
use Rattle.writeback.proofs.laws.held_laws_stand.Goals as goal

pub returns : goal.returns
returns c = laws
