use Rattle.std.proofs.Common.{◌-◌, length, take, drop, not, is_some, sym, ap, ◌∙◌, arith}
use Rattle.std.proofs.lemmas.List.{take_rest, length-take-le}
use Rattle.std.proofs.lemmas.Bool.{both_ways, not-false}
use Rattle.layout.specs.Cells.{filled}
use Rattle.layout.proofs.Tests.{is_some_false}
use Rattle.maps.specs.Maps.{kinds_of}
use Rattle.sheets.proofs.Checking.{no, filled_by, keyed_by, passes, stored}
use Rattle.sheets.proofs.check.holds_layout.Goals as goal

pub returns-then-count_filled-count : goal.returns-then-count_filled-count
returns-then-count_filled-count g c =
    let x = kinds_of g.K.Key.kind g.V.Value.kind in
    no (λ s. c.if-count_filled-count.true (c.count_filled.ensures ∙ filled_by (take c.args.size c.args.cells.now) ∙ (passes x g.met.K.Key.lawful c.args.seed c.args.count c.args.size c.args.cells.now c.requires.wanted s).front))

pub returns-then-count_filled-ne0 : goal.returns-then-count_filled-ne0
returns-then-count_filled-ne0 g c =
    let x = kinds_of g.K.Key.kind g.V.Value.kind in
    no (λ s. c.if-count_filled-ne0.true (c.count_filled-2.ensures ∙ filled_by (take (length c.args.cells.now - c.args.size) (drop c.args.size c.args.cells.now)) ∙ ap filled (take_rest c.args.cells.now c.args.size) ∙ (passes x g.met.K.Key.lawful c.args.seed c.args.count c.args.size c.args.cells.now c.requires.wanted s).rest))

pub returns-then-not-all_keyed : goal.returns-then-not-all_keyed
returns-then-not-all_keyed g c =
    let x = kinds_of g.K.Key.kind g.V.Value.kind in
    no (λ s. both_ways c.all_keyed.result c.if-not-all_keyed.true ((keyed_by x (take c.args.size c.args.cells.now) c.all_keyed.result c.all_keyed.ensures).1 (passes x g.met.K.Key.lawful c.args.seed c.args.count c.args.size c.args.cells.now c.requires.wanted s).keyed))

pub first_out_of_place-requires : goal.first_out_of_place-requires
first_out_of_place-requires g c = omega (arith, length-take-le c.args.size c.args.cells.now c.requires.within, c.requires.within, c.requires.all)

pub returns : goal.returns
returns g c =
    let x = kinds_of g.K.Key.kind g.V.Value.kind in (
      (λ e. stored x g.met.K.Key.lawful c.args.seed c.args.count c.args.size c.args.cells.now c.requires.wanted c.requires.all c.requires.few (omega arith) (record {
        front = sym (c.count_filled.ensures ∙ filled_by (take c.args.size c.args.cells.now)) ∙ c.if-count_filled-count.false;
        rest = ap filled (sym (take_rest c.args.cells.now c.args.size)) ∙ sym (c.count_filled-2.ensures ∙ filled_by (take (length c.args.cells.now - c.args.size) (drop c.args.size c.args.cells.now))) ∙ c.if-count_filled-ne0.false;
        keyed = (keyed_by x (take c.args.size c.args.cells.now) c.all_keyed.result c.all_keyed.ensures).0 c.if-not-all_keyed.false;
        placed = sym c.first_out_of_place.ensures ∙ is_some_false c.first_out_of_place.result (c.is_none.ensures ∙ ap not e);
      })),
      (λ s. not-false c.is_none.result (sym c.is_none.ensures ∙ ap is_some (c.first_out_of_place.ensures ∙ (passes x g.met.K.Key.lawful c.args.seed c.args.count c.args.size c.args.cells.now c.requires.wanted s).placed))),
    )
