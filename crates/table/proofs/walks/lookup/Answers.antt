use Rattle.std.proofs.Common.{true, false, Some, None, sym, ◌∙◌}
use Rattle.layout.proofs.Lookups.{look_start, look_on, look_here, look_empty, look_later}
use Rattle.maps.specs.Maps.{kinds_of}
use Rattle.cells.specs.Rows.{row_order}
use Rattle.cells.proofs.Rules.{read_at, told, lawful}
use Rattle.table.proofs.walks.lookup.Goals as goal

pub probe-init : goal.probe-init
probe-init g c =
    let x = kinds_of g.K.Key.kind g.V.Value.kind in
    let L = lawful x g.met.K.Key.lawful c.args.seed c.args.cells.now c.requires.sound in
    look_start _ L c.args.cells.now c.requires.sound (Some c.args.key) c.home-i.result c.home-i.ensures

pub returns-in-None : goal.returns-in-None
returns-in-None g c =
    let x = kinds_of g.K.Key.kind g.V.Value.kind in
    let L = lawful x g.met.K.Key.lawful c.args.seed c.args.cells.now c.requires.sound in
    look_empty _ L c.args.cells.now c.requires.sound (Some c.args.key) c.probe.i c.probe.invariant.0 c.probe.invariant.1
    (read_at c.args.cells.now c.probe.i c.index-cells-i.result None c.probe.invariant.0 c.index-cells-i.is c.in-None.is)

pub probe-smaller : goal.probe-smaller
probe-smaller g c =
    let x = kinds_of g.K.Key.kind g.V.Value.kind in
    let L = lawful x g.met.K.Key.lawful c.args.seed c.args.cells.now c.requires.sound in
    (look_on _ L c.args.cells.now c.requires.sound (Some c.args.key) c.probe.i c.probe.invariant.0 c.probe.invariant.1 c.in-Some.record
    (read_at c.args.cells.now c.probe.i c.index-cells-i.result (Some c.in-Some.record) c.probe.invariant.0 c.index-cells-i.is c.in-Some.is)
    (told (λ o. (row_order x).before o (Some c.args.key)) c.from_row-found.result (x.key.key c.in-Some.record.key) true (sym c.if-is_before.true ∙ c.is_before.ensures) c.from_row-found.ensures)
    c.step-i.result c.step-i.ensures).2

pub probe-preserved : goal.probe-preserved
probe-preserved g c =
    let x = kinds_of g.K.Key.kind g.V.Value.kind in
    let L = lawful x g.met.K.Key.lawful c.args.seed c.args.cells.now c.requires.sound in
    let h = look_on _ L c.args.cells.now c.requires.sound (Some c.args.key) c.probe.i c.probe.invariant.0 c.probe.invariant.1 c.in-Some.record
    (read_at c.args.cells.now c.probe.i c.index-cells-i.result (Some c.in-Some.record) c.probe.invariant.0 c.index-cells-i.is c.in-Some.is)
    (told (λ o. (row_order x).before o (Some c.args.key)) c.from_row-found.result (x.key.key c.in-Some.record.key) true (sym c.if-is_before.true ∙ c.is_before.ensures) c.from_row-found.ensures)
    c.step-i.result c.step-i.ensures in
    (h.0, h.1)

pub returns-then-is_before-2 : goal.returns-then-is_before-2
returns-then-is_before-2 g c =
    let x = kinds_of g.K.Key.kind g.V.Value.kind in
    let L = lawful x g.met.K.Key.lawful c.args.seed c.args.cells.now c.requires.sound in
    look_later _ L c.args.cells.now c.requires.sound (Some c.args.key) c.probe.i c.probe.invariant.0 c.probe.invariant.1 c.in-Some.record
    (read_at c.args.cells.now c.probe.i c.index-cells-i.result (Some c.in-Some.record) c.probe.invariant.0 c.index-cells-i.is c.in-Some.is)
    (told (λ o. (row_order x).before (Some c.args.key) o) c.from_row-found.result (x.key.key c.in-Some.record.key) true (sym c.if-is_before-2.true ∙ c.is_before-else-is_before.ensures) c.from_row-found.ensures)

pub returns-else-is_before-2 : goal.returns-else-is_before-2
returns-else-is_before-2 g c =
    let x = kinds_of g.K.Key.kind g.V.Value.kind in
    let L = lawful x g.met.K.Key.lawful c.args.seed c.args.cells.now c.requires.sound in
    let is = read_at c.args.cells.now c.probe.i c.index-cells-i.result (Some c.in-Some.record) c.probe.invariant.0 c.index-cells-i.is c.in-Some.is in
    let h = look_here _ L c.args.cells.now c.requires.sound (Some c.args.key) c.probe.i c.probe.invariant.0 c.in-Some.record is
    (told (λ o. (row_order x).before o (Some c.args.key)) c.from_row-found.result (x.key.key c.in-Some.record.key) false (sym c.if-is_before.false ∙ c.is_before.ensures) c.from_row-found.ensures)
    (told (λ o. (row_order x).before (Some c.args.key) o) c.from_row-found.result (x.key.key c.in-Some.record.key) false (sym c.if-is_before-2.false ∙ c.is_before-else-is_before.ensures) c.from_row-found.ensures) in
    (c.probe.invariant.0, is, h.1, h.0)
