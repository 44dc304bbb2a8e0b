use Rattle.std.proofs.Common.{refl, ◌∙◌, arith}
use Rattle.layout.specs.Capacity.{capacity}
use Rattle.layout.proofs.Capacities.{capacity_range}
use Rattle.maps.specs.Maps.{kinds_of}
use Rattle.sheets.proofs.Checking.{no}
use Rattle.table.proofs.Maps.{opened}
use Rattle.sheets.proofs.check.is_layout.Goals as goal

pub returns-then-cells-ne1024 : goal.returns-then-cells-ne1024
returns-then-cells-ne1024 g c =
    let x = kinds_of g.K.Key.kind g.V.Value.kind in
    no (λ (s, e). let (m, h, n) = s in c.if-cells-ne1024.true (opened x g.met.K.Key.lawful c.args.shape.seed (capacity c.args.shape.count) c.args.shape.count m c.args.cells.now h refl n).size)

pub returns-then-shape-gt-MOST_RECORDS : goal.returns-then-shape-gt-MOST_RECORDS
returns-then-shape-gt-MOST_RECORDS g c = no (λ (s, e). let (m, h, n) = s in omega (arith, h.lawful.few, n, c.if-shape-gt-MOST_RECORDS.true))

pub holds_layout-requires : goal.holds_layout-requires
holds_layout-requires g c =
    let e = c.if-shape-capacity_of.false ∙ c.capacity_of.ensures in
    record { all = c.if-cells-ne1024.false; few = c.if-shape-gt-MOST_RECORDS.false; wanted = e; within = omega (arith, e, (capacity_range c.args.shape.count).1, c.if-cells-ne1024.false) }

pub returns : goal.returns
returns g c = ((λ t. (c.holds_layout.ensures.0 t, c.if-shape-capacity_of.false ∙ c.capacity_of.ensures)), (λ p. c.holds_layout.ensures.1 p.0))
