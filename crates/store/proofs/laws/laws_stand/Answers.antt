use Rattle.store.proofs.Ruled.{laws}
use Rattle.store.proofs.laws.laws_stand.Goals as goal

pub returns : goal.returns
returns c = laws
