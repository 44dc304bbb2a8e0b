use Rattle.std.proofs.Common.{length, ap, ◌∙◌, arith}
use Rattle.model.specs.Refusals.{start_refusal}
use Rattle.contents.proofs.Found.{none_cloned}
use Rattle.register.proofs.Openings.{started_step}
use Rattle.register.proofs.batch.opens.start.Goals as goal

pub returns : goal.returns
returns g c =
    let d = g.S.Store in
    let free = c.in_default.ensures ∙ ap (λ n. start_refusal n (length c.args.cells.now)) c.count.ensures in
    started_step g.K.Key.kind g.V.Value.kind g.S.Fault.BlockFault d c.args.closed c.args.cells.now c.fill.new.self c.args.seed
    c.open.result c.open.ensures.store c.open.ensures.batch (omega arith) free (c.fill.ensures.after (none_cloned _ (λ a e. e)))
