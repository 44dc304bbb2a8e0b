use Rattle.maps.specs.Maps.{kinds_of}
use Rattle.contents.proofs.Found.{none_cloned}
use Rattle.contents.specs.Setups.{meaning}
use Rattle.register.proofs.Sealed.{suffices, may_write, sealed_step}
use Rattle.register.proofs.batch.seals.seal_batch.Goals as goal

pub save_image-requires : goal.save_image-requires
save_image-requires g c =
    let d = g.S.Store in
    let o = c.args.batch in
    let x = kinds_of g.K.Key.kind g.V.Value.kind in
    let may = may_write x (meaning d o.store) o c.args.cells.now c.args.work.now c.in_default.ensures in
    record { «open» = may.1; suffice = suffices x (meaning d o.store) o c.args.cells.now c.args.work.now c.in_default.ensures; room = may.0 }

pub returns : goal.returns
returns g c =
    let d = g.S.Store in
    let w = c.save_image.ensures in
    sealed_step g.K.Key.kind g.V.Value.kind g.S.Fault.BlockFault d c.args.batch c.args.cells.now c.args.work.now c.in_default.ensures
    c.save_image.new.store c.close.result c.fill.new.self c.save_image.new.work c.close.ensures
    w.rewritten.count w.rewritten.protect w.shows w.rewritten.keeps (c.fill.ensures.after (none_cloned _ (λ a e. e))) w.work
