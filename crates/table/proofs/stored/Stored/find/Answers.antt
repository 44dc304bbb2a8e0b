use Rattle.std.proofs.Common.{sym, arith}
use Rattle.maps.specs.Maps.{kinds_of}
use Rattle.table.proofs.Held.{held}
use Rattle.table.proofs.Maps.{opened}
use Rattle.table.proofs.stored.Stored.find.Goals as goal

pub slice_bounds-lookup-end : goal.slice_bounds-lookup-end
slice_bounds-lookup-end g c =
    let x = kinds_of g.K.Key.kind g.V.Value.kind in
    let s = c.args.self.now in
    let (m, h, n) = held x g.met.K.Key.lawful s.seed s.count s.cells.now s.stored in
    let o = opened x g.met.K.Key.lawful s.seed c.capacity_of.result s.count m s.cells.now h c.capacity_of.ensures n in
    sym o.long

pub lookup-requires : goal.lookup-requires
lookup-requires g c =
    let x = kinds_of g.K.Key.kind g.V.Value.kind in
    let s = c.args.self.now in
    let (m, h, n) = held x g.met.K.Key.lawful s.seed s.count s.cells.now s.stored in
    let o = opened x g.met.K.Key.lawful s.seed c.capacity_of.result s.count m s.cells.now h c.capacity_of.ensures n in
    record { few = omega (arith, o.long, o.most); sound = o.sound }
