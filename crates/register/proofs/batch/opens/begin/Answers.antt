use Rattle.register.proofs.Begun.{begun_step, not_begun_step}
use Rattle.register.proofs.batch.opens.begin.Goals as goal

pub returns-in-Ok : goal.returns-in-Ok
returns-in-Ok g c =
    let d = g.S.Store in
    begun_step g.K.Key.kind g.V.Value.kind g.S.Fault.BlockFault d c.args.closed
    c.args.cells.now c.find_contents.new.cells c.args.work.now c.find_contents.new.work
    c.in-Ok.seed c.in-Ok.count c.open.result c.open.ensures.store c.open.ensures.batch c.in-Ok.ensures

pub returns-in-Err : goal.returns-in-Err
returns-in-Err g c =
    let d = g.S.Store in
    not_begun_step g.K.Key.kind g.V.Value.kind g.S.Fault.BlockFault d c.args.closed
    c.args.cells.now c.find_contents.new.cells c.args.work.now c.find_contents.new.work c.in-Err.fault c.in-Err.ensures
