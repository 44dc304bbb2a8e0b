use Rattle.std.proofs.Common.{Some, ap, ◌∙◌, arith}
use Rattle.std.proofs.lemmas.List.{take_all}
use Rattle.store.proofs.plain.PlainFrame.take.Goals as goal

pub returns : goal.returns
returns c = ap Some (c.block_at.ensures ∙ take_all 32 c.args.part.now (omega (arith, c.requires)))
