use Rattle.std.proofs.Common.{◌∙◌, rules}
use Rattle.writeback.proofs.Stacked.{stack_keeps, stack_same}
use Rattle.writeback.proofs.stack.stack.Goals as goal

pub returns-clause-shows : goal.returns-clause-shows
returns-clause-shows c =
    stack_same c.new-3.result c.new-3.ensures.held
    ∙ stack_keeps c.new-3.result c.args.first c.args.wished c.args.plain.now c.args.checked.now (search rules) (search rules) (search rules)
