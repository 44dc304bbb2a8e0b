use Rattle.std.proofs.Common.{arith}
use Rattle.std.proofs.lemmas.Bool.Decides.{nat_tests}
use Rattle.image.specs.Opened.{bits_check}
use Rattle.image_reader.proofs.bits.check_bits.Goals.{else-cap-bytes-via-then-cap-bytes+else-count_marked-count_at, else-cap-bytes-via-else-cap-bytes}
use Rattle.image_reader.proofs.bits.check_bits.Goals as goal

pub returns-then-count_marked-count_at : goal.returns-then-count_marked-count_at
unfolding bits_check
returns-then-count_marked-count_at g c = grind (arith, nat_tests)

pub returns-else-cap-bytes : goal.returns-else-cap-bytes
unfolding bits_check
returns-else-cap-bytes g c = grind (arith, nat_tests)
