use Rattle.layers.proofs.Ruled.{laws}
use Rattle.layers.proofs.laws.layer_laws_stand.Goals as goal

pub returns : goal.returns
returns c = laws
