use Rattle.std.proofs.Common.{sym, ◌∙◌}
use Rattle.maps.specs.Maps.{kinds_of}
use Rattle.contents.specs.Setups.{meaning}
use Rattle.register.proofs.Sealed.{may_seal}
use Rattle.register.proofs.batch.seals.check_seal.Goals as goal

pub returns : goal.returns
returns g c =
    let d = g.S.Store in
    let o = c.args.batch.now in
    may_seal (kinds_of g.K.Key.kind g.V.Value.kind) (meaning d o.store) o c.args.cells.now c.args.work.now c.image_len-long.result c.count-blocks.result c.protected.result
    c.count-blocks.ensures c.in_ok-check_lent.ensures c.in_ok-check_cells.ensures c.image_len-long.ensures (sym c.more.ensures ∙ c.if-more.false) c.protected.ensures c.if-protected.false
