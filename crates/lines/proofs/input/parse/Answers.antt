use Rattle.std.proofs.Common.{sym, ap, ◌∙◌, rules}
use Rattle.lines.specs.Input.{or_bad}
use Rattle.lines.proofs.Parsing.{tells, plus_rest}
use Rattle.lines.proofs.input.parse.Goals as goal

pub returns-in-43-clause-exact : goal.returns-in-43-clause-exact
returns-in-43-clause-exact c =
    let bs = c.args.line.now in
    tells bs c.read_put.result (c.read_put.ensures ∙ sym (ap or_bad (plus_rest bs (search rules) (search rules))))
