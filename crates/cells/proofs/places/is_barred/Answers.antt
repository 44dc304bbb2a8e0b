use Rattle.std.proofs.Common.{ℕ, true, false, length, Some, None, sym, ◌∙◌, subst, arith}
use Rattle.layout.specs.Walks.{Way}
use Rattle.layout.proofs.Places.{way_start, way_on, way_end, way_empty, way_later}
use Rattle.maps.specs.Maps.{kinds_of}
use Rattle.cells.specs.Rows.{row_order, row_rule}
use Rattle.cells.proofs.Rules.{read_at, none_of, told, lawful_at}
use Rattle.cells.proofs.places.is_barred.Goals as goal

pub way-init : goal.way-init
way-init g c =
    let x = kinds_of g.K.Key.kind g.V.Value.kind in
    let L = lawful_at x g.met.K.Key.lawful c.args.seed (length c.args.cells.now) (omega (arith, c.requires.within)) in
    way_start _ L c.args.cells.now c.args.key c.args.i c.requires.within c.home-j.result c.home-j.ensures

pub returns-in_default : goal.returns-in_default
returns-in_default g c =
    let x = kinds_of g.K.Key.kind g.V.Value.kind in
    let L = lawful_at x g.met.K.Key.lawful c.args.seed (length c.args.cells.now) (omega (arith, c.requires.within)) in
    sym (way_empty _ L c.args.cells.now c.args.key c.args.i c.requires.within c.way.j c.way-test.true c.way.invariant
    (read_at c.args.cells.now c.way.j c.index-cells-j.result None c.way.invariant.0 c.index-cells-j.is (none_of c.index-cells-j.result c.in_default.not-Some)))

pub returns-then-not-is_before : goal.returns-then-not-is_before
returns-then-not-is_before g c =
    let x = kinds_of g.K.Key.kind g.V.Value.kind in
    let L = lawful_at x g.met.K.Key.lawful c.args.seed (length c.args.cells.now) (omega (arith, c.requires.within)) in
    sym (way_later _ L c.args.cells.now c.args.key c.args.i c.requires.within c.way.j c.way-test.true c.way.invariant c.in-Some.record
    (read_at c.args.cells.now c.way.j c.index-cells-j.result (Some c.in-Some.record) c.way.invariant.0 c.index-cells-j.is c.in-Some.is)
    (told (λ o. (row_order x).before o c.args.key) c.from_row.result (x.key.key c.in-Some.record.key) false (sym c.if-not-is_before.true ∙ c.is_before.ensures) c.from_row.ensures))

pub way-smaller : goal.way-smaller
way-smaller g c =
    let x = kinds_of g.K.Key.kind g.V.Value.kind in
    let L = lawful_at x g.met.K.Key.lawful c.args.seed (length c.args.cells.now) (omega (arith, c.requires.within)) in
    (way_on _ L c.args.cells.now c.args.key c.args.i c.requires.within c.way.j c.way-test.true c.way.invariant c.in-Some.record
    (read_at c.args.cells.now c.way.j c.index-cells-j.result (Some c.in-Some.record) c.way.invariant.0 c.index-cells-j.is c.in-Some.is)
    (told (λ o. (row_order x).before o c.args.key) c.from_row.result (x.key.key c.in-Some.record.key) true (sym c.if-not-is_before.false ∙ c.is_before.ensures) c.from_row.ensures)
    c.step-j.result c.step-j.ensures).1

pub way-preserved : goal.way-preserved
way-preserved g c =
    let x = kinds_of g.K.Key.kind g.V.Value.kind in
    let L = lawful_at x g.met.K.Key.lawful c.args.seed (length c.args.cells.now) (omega (arith, c.requires.within)) in
    (way_on _ L c.args.cells.now c.args.key c.args.i c.requires.within c.way.j c.way-test.true c.way.invariant c.in-Some.record
    (read_at c.args.cells.now c.way.j c.index-cells-j.result (Some c.in-Some.record) c.way.invariant.0 c.index-cells-j.is c.in-Some.is)
    (told (λ o. (row_order x).before o c.args.key) c.from_row.result (x.key.key c.in-Some.record.key) true (sym c.if-not-is_before.false ∙ c.is_before.ensures) c.from_row.ensures)
    c.step-j.result c.step-j.ensures).0

pub returns : goal.returns
returns g c =
    let x = kinds_of g.K.Key.kind g.V.Value.kind in
    let L = lawful_at x g.met.K.Key.lawful c.args.seed (length c.args.cells.now) (omega (arith, c.requires.within)) in
    sym (way_end _ L c.args.cells.now c.args.key c.args.i c.requires.within (subst (λ (j : ℕ). Way (row_rule x c.args.seed (length c.args.cells.now)) c.args.cells.now c.args.key c.args.i j) c.way-test.false c.way.invariant))
