use Rattle.store.proofs.Summed.{summed_is}
use Rattle.store.proofs.checked.CheckedFrame.put.Goals as goal

pub returns : goal.returns
returns c = summed_is _ _ _ _ _ c.requires c.told-block c.fletcher.ensures c.overwrite.ensures c.overwrite-2.ensures
