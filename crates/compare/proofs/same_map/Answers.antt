use Rattle.std.proofs.Common.{sym, subst}
use Rattle.maps.specs.Maps.{kinds_of}
use Rattle.table.proofs.Held.{held}
use Rattle.table.specs.Runs.{Stores}
use Rattle.compare.proofs.Same.{all_tell, counts_tell}
use Rattle.compare.proofs.same_map.Goals as goal

pub returns-then-count : goal.returns-then-count
returns-then-count g c =
    let x = kinds_of g.K.Key.kind g.V.Value.kind in
    let t = c.args.other.now in
    all_tell x g.met.K.Key.lawful c.args.count c.count.result t.seed c.args.cells.now t.cells.now c.requires
    (subst (λ n. Stores x t.seed n t.cells.now) (sym c.count.ensures) (held x g.met.K.Key.lawful t.seed t.count t.cells.now t.stored))
    c.if-count.true c.has_all.result c.has_all.ensures

pub returns-else-count : goal.returns-else-count
returns-else-count g c =
    let x = kinds_of g.K.Key.kind g.V.Value.kind in
    let t = c.args.other.now in
    counts_tell x g.met.K.Key.lawful c.args.count c.count.result t.seed c.args.cells.now t.cells.now c.requires
    (subst (λ n. Stores x t.seed n t.cells.now) (sym c.count.ensures) (held x g.met.K.Key.lawful t.seed t.count t.cells.now t.stored)) c.if-count.false
