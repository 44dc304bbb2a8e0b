use Rattle.std.proofs.Common.{Err, ap, ◌∙◌}
use Rattle.std.proofs.lemmas.Result.{err_from_is_err_and}
use Rattle.register.proofs.Entering.{own, refused_step, entered_step}
use Rattle.register.proofs.batch.enters.enter.Goals as goal

pub returns-in_err-count : goal.returns-in_err-count
returns-in_err-count g c =
    let d = g.S.Store in
    let r = c.from_residual-in_err-count.result in
    let p = err_from_is_err_and r c.from_residual-in_err-count.ensures.1 in
    refused_step g.K.Key.kind g.V.Value.kind g.S.Fault.BlockFault d c.args.batch.now c.args.cells.now c.args.scratch.now c.args.sheet.now c.args.answers.now
    (own _ _ c.in_ok-check_kinds.ensures)
    c.in_err-count.field-0.0 (record { cells = c.run_sheet.new.cells; scratch = c.run_sheet.new.scratch; answers = c.run_sheet.new.answers })
    r (p.1 ∙ ap Err p.2) c.in_err-count.ensures

pub returns : goal.returns
returns g c =
    let d = g.S.Store in
    entered_step g.K.Key.kind g.V.Value.kind g.S.Fault.BlockFault d c.args.batch.now c.args.cells.now c.args.scratch.now c.args.sheet.now c.args.answers.now
    (own _ _ c.in_ok-check_kinds.ensures)
    c.in_ok-count.count c.new-batch.result (record { cells = c.run_sheet.new.cells; scratch = c.run_sheet.new.scratch; answers = c.run_sheet.new.answers })
    c.new-batch.ensures c.run_sheet.auto.scratch c.in_ok-count.ensures
