use Rattle.std.proofs.Common.{[]}
use Rattle.lines.proofs.Cutting.{cuts, cut_found, cut_none}
use Rattle.lines.proofs.input.split_line.Goals as goal

pub returns-in-Some-clause-exact : goal.returns-in-Some-clause-exact
returns-in-Some-clause-exact c = let bs = c.args.bytes.now in cuts bs _ _ (cut_found bs c.in-Some.i c.in-Some.ensures)

pub returns-in-None-clause-exact : goal.returns-in-None-clause-exact
returns-in-None-clause-exact c = let bs = c.args.bytes.now in cuts bs bs [] (cut_none bs c.in-None.ensures)
