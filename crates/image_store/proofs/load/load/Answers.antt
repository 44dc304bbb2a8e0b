use Rattle.std.proofs.Common.{◌<◌, arith, rules}
use Rattle.std.proofs.lemmas.Result.{err_from_is_err_and}
use Rattle.image_store.proofs.Blocks.{copies, stops}
use Rattle.image_store.proofs.load.load.Goals as goal

pub returns-in_err-read : goal.returns-in_err-read
returns-in_err-read g c =
    let s = c.args.store.now in
    let l : c.loop-i.i < g.S.Store.count s = omega (arith, c.loop-i-test.true, c.count-i-end.ensures) in
    let a = stops (g.S.Store.shown s) (g.S.Store.count s) (g.S.Store.lengths s).of_shown c.loop-i.i c.loop-i.work c.loop-i.invariant
    g.S.Fault.BlockFault.number g.S.Fault.BlockFault.block c.in_err-read.field-0.0 c.from_residual.result l c.in_err-read.ensures
    (err_from_is_err_and c.from_residual.result c.from_residual.ensures.1) in
    record { answer = a.0; bytes = a.1 }

pub loop-i-preserved : goal.loop-i-preserved
loop-i-preserved g c =
    let s = c.args.store.now in
    let l : c.loop-i.i < g.S.Store.count s = omega (arith, c.loop-i-test.true, c.count-i-end.ensures) in
    copies (g.S.Store.shown s) (g.S.Store.count s) (g.S.Store.lengths s).of_shown c.loop-i.i c.loop-i.work c.loop-i.invariant
    c.in_ok-read.field-0 _ l (omega (arith, c.requires, c.loop-i.auto.work)) c.in_ok-read.ensures (search rules) c.overwrite.ensures
