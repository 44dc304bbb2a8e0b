use Rattle.std.proofs.Common.{refl, arith}
use Rattle.layout.specs.Capacity.{capacity}
use Rattle.maps.specs.Maps.{kinds_of}
use Rattle.table.proofs.Edits.{drop_takes, drop_finds_none}
use Rattle.table.proofs.commands.Table.drop_key.Goals as goal

pub returns-in-Some-clause-done : goal.returns-in-Some-clause-done
returns-in-Some-clause-done g c =
    let x = kinds_of g.K.Key.kind g.V.Value.kind in
    let s = c.args.self.now in
    λ m h n. (let d = drop_takes x g.met.K.Key.lawful s.seed s.count m s.cells.now h n c.args.key (capacity s.count) refl c.in-Some.place c.in-Some.old c.in-Some.ensures in
    (c.take_out.ensures.cells m h n, d.1, omega (arith, c.take_out.ensures.count, d.2)))

pub returns-in-None-clause-done : goal.returns-in-None-clause-done
returns-in-None-clause-done g c =
    let x = kinds_of g.K.Key.kind g.V.Value.kind in
    let s = c.args.self.now in
    λ m h n. drop_finds_none x g.met.K.Key.lawful s.seed s.count m s.cells.now h n c.args.key (capacity s.count) refl c.in-None.ensures
