use Rattle.std.proofs.Common.{rules}
use Rattle.layers.proofs.Offsets.{offset_after}
use Rattle.layers.proofs.offset.Offset.write_at.Goals as goal

pub returns-clause-writes : goal.returns-clause-writes
returns-clause-writes g c =
    let s = c.args.self.now in
    let m = g.S.Store in
    let w = c.write.ensures in
    ((search rules, search rules), offset_after s.window.first s.window.wished (m.count s.below) c.args.i (m.shown s.below) c.args.at c.requires c.args.block.now _ (m.protected s.below) w.shows _ (m.lengths s.below).of_shown w.count)
