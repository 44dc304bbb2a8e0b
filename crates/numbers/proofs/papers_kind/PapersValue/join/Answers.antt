use Rattle.std.proofs.Common.{◌∙◌, ap₂}
use lib.Bits.{bit_or}
use Rattle.numbers.specs.PapersLaws.{same_papers}
use Rattle.numbers.proofs.papers_kind.PapersValue.join.Goals as goal

pub returns : goal.returns
returns c = same_papers _ _ (c.new.ensures ∙ ap₂ bit_or c.bits.ensures c.bits-2.ensures)
