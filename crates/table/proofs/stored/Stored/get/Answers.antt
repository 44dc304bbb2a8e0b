use Rattle.std.proofs.Common.{refl}
use Rattle.layout.specs.Capacity.{capacity}
use Rattle.maps.specs.Maps.{kinds_of}
use Rattle.table.proofs.Edits.{get_finds, get_finds_none}
use Rattle.table.proofs.stored.Stored.get.Goals as goal

pub returns-in-Some : goal.returns-in-Some
returns-in-Some g c =
    let s = c.args.self.now in
    λ m h n. get_finds (kinds_of g.K.Key.kind g.V.Value.kind) g.met.K.Key.lawful s.seed s.count m s.cells.now h n c.args.key (capacity s.count) refl _ c.in-Some.old c.in-Some.ensures

pub returns-in-None : goal.returns-in-None
returns-in-None g c =
    let s = c.args.self.now in
    λ m h n. get_finds_none (kinds_of g.K.Key.kind g.V.Value.kind) g.met.K.Key.lawful s.seed s.count m s.cells.now h n c.args.key (capacity s.count) refl c.in-None.ensures
