use Rattle.model.proofs.Claims.{lists_of_calls}
use Rattle.contents.proofs.Setups.{setup_laws}
use Rattle.contents.specs.Setups.{setup}
use Rattle.register.proofs.batch.seals.seal.Goals as goal

pub returns-clause-lists : goal.returns-clause-lists
returns-clause-lists g c = lists_of_calls (setup g.K.Key.kind g.V.Value.kind) (setup_laws g.K.Key.kind g.V.Value.kind g.met.K.Key.lawful g.met.V.Value.lawful)
