use Rattle.std.proofs.Common.{◌<◌, rules}
use Rattle.layers.proofs.Mirrors.{mirror_read, place_read}
use Rattle.layers.proofs.mirror.Mirror.read_both.Goals as goal

pub returns : goal.returns
returns g c =
    let s = c.args.self.now in
    let l = g.L.Store in
    let r = g.R.Store in
    let i = c.args.i in
    let in_left : i < l.count s.left = search rules in
    let in_right : i < r.count s.right = search rules in
    mirror_read _ _ i (l.shown s.left) (r.shown s.right) c.requires _ _ _
    (place_read _ c.read.result _ (l.shown s.left) i in_left c.read.ensures)
    (place_read _ c.read-2.result _ (r.shown s.right) i in_right c.read-2.ensures)
    c.agree.ensures
