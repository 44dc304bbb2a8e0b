use Rattle.std.proofs.Common.{sym, ◌∙◌}
use Rattle.maps.specs.Maps.{kinds_of}
use Rattle.cells.proofs.Rules.{none_of}
use Rattle.table.proofs.Held.{held}
use Rattle.compare.proofs.Same.{no, no_key, counted, value_tells, none_tells}
use Rattle.compare.proofs.has_record.Goals as goal

pub returns-in_default : goal.returns-in_default
returns-in_default g c =
    let x = kinds_of g.K.Key.kind g.V.Value.kind in
    λ m h. no (no_key x g.met.K.Key.lawful m h.lawful.ascending c.args.wanted (sym c.from_row.ensures ∙ none_of c.from_row.result c.in_default.not-Some))

pub returns-in-Found : goal.returns-in-Found
returns-in-Found g c =
    let x = kinds_of g.K.Key.kind g.V.Value.kind in
    λ m h. value_tells x g.met.K.Key.lawful m h.lawful.ascending c.args.wanted c.in-Some.key (sym c.from_row.ensures ∙ c.in-Some.is) c.get.result
    (c.get.ensures m h (counted x g.met.K.Key.lawful c.args.table.now.seed c.args.table.now.seed c.args.table.now.count m c.args.table.now.cells.now (held x g.met.K.Key.lawful c.args.table.now.seed c.args.table.now.count c.args.table.now.cells.now c.args.table.now.stored) h)) c.in-Found.value c.in-Found.is c.same_value.result c.same_value.ensures

pub returns-in_default-get : goal.returns-in_default-get
returns-in_default-get g c =
    let x = kinds_of g.K.Key.kind g.V.Value.kind in
    λ m h. none_tells x g.met.K.Key.lawful m h.lawful.ascending c.args.wanted c.in-Some.key (sym c.from_row.ensures ∙ c.in-Some.is) c.get.result
    (c.get.ensures m h (counted x g.met.K.Key.lawful c.args.table.now.seed c.args.table.now.seed c.args.table.now.count m c.args.table.now.cells.now (held x g.met.K.Key.lawful c.args.table.now.seed c.args.table.now.count c.args.table.now.cells.now c.args.table.now.stored) h)) c.in_default-get.not-Found
