use Rattle.register.proofs.Listed.{listing_fits, listed_step}
use Rattle.register.proofs.batch.enters.list.Goals as goal

pub copy_filled-requires : goal.copy_filled-requires
copy_filled-requires g c =
    let d = g.S.Store in
    listing_fits g.K.Key.kind g.V.Value.kind g.S.Fault.BlockFault d c.args.batch.now c.args.cells.now g.met.K.Key.lawful c.args.output.now
    c.in_ok-check_lent.ensures c.in_ok-check_cells.ensures

pub returns : goal.returns
returns g c =
    let d = g.S.Store in
    listed_step g.K.Key.kind g.V.Value.kind g.S.Fault.BlockFault d c.args.batch.now c.args.cells.now g.met.K.Key.lawful c.args.output.now
    c.in_ok-check_lent.ensures c.in_ok-check_cells.ensures c.copy_filled.new.output c.copy_filled.ensures
