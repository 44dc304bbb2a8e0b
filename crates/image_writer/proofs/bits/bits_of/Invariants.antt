use Rattle.std.proofs.Common.{◌≡◌}
use Rattle.image.specs.Bits.{packed}
use Rattle.image.specs.Image.{held}
use Rattle.image_writer.proofs.bits.bits_of.Given as goal

abbrev pub invariant-loop-k : goal.invariant-loop-k
invariant-loop-k g l = l.bits ≡ packed (held l.eight) 0 l.k
