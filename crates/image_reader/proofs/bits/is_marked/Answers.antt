use Rattle.image.specs.Opened.{marked}
use Rattle.image_reader.proofs.bits.is_marked.Goals as goal

pub returns : goal.returns
unfolding marked
returns c = let is = c.byte_at.ensures in cc
