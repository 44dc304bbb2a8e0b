use Rattle.std.proofs.Common.{◌≡◌, ◌<◌, length, get_or, Some, set, sym, ap, ap₂, ◌∙◌, arith, rules}
use borrow.Author.Rules.{scaled_Fits}
use Rattle.std.proofs.lemmas.Iterator.{YieldsList-from_slice}
use Rattle.std.proofs.lemmas.Iterator.Consumers.{YieldsList-at}
use Rattle.std.proofs.lemmas.List.{length_push}
use Rattle.model.specs.Steps.{in_cells}
use Rattle.register.proofs.Copies.{records_of, turn, all_yielded, copied, copied_more, copied_all}
use Rattle.register.proofs.listing.copy_filled.Goals as goal

-- this turn's record, and that its place is the next one
this_turn : (g : Rattle.register.proofs.listing.copy_filled.Given.Over) (c : goal.After-output-1 g)
    → (length c.loop-place.yielded < length (in_cells c.args.cells.now)) × (c.in-Some.place ≡ length c.loop-place.yielded)
    × (c.in-Some.record.now ≡ get_or (in_cells c.args.cells.now) (length c.loop-place.yielded) c.in-Some.record.now)
this_turn g c =
    let road = YieldsList-at c.into_iter-place-iterator.ensures.into_iter_gives (records_of c.args.cells.now (YieldsList-from_slice c.args.cells.now (cc)) (cc) (cc) (cc) (cc)) in
    turn (in_cells c.args.cells.now) road c.loop-place.yielded c.loop-place.place-iterator c.loop-place.yielded_by c.next.result c.next.new.self
    (c.in-Some.place, c.in-Some.record) c.in-Some.is c.next.ensures.steps

pub offset_bounds-output-place : goal.offset_bounds-output-place
offset_bounds-output-place g c =
    let t = this_turn g c in
    let lt : c.in-Some.place < length c.args.output.now = omega (arith, t.0, t.1, c.requires) in
    scaled_Fits c.in-Some.place (length c.args.output.now) _ lt (search rules)

pub bounds-output-place : goal.bounds-output-place
bounds-output-place g c = let t = this_turn g c in omega (arith, t.0, t.1, c.requires, c.loop-place.auto.output)

pub loop-place-preserved : goal.loop-place-preserved
loop-place-preserved g c =
    let t = this_turn g c in
    let rs = in_cells c.args.cells.now in
    let n = length c.loop-place.yielded in
    ap₂ (λ o i. set o i (Some c.in-Some.record.now)) c.loop-place.invariant t.1
    ∙ copied_more rs c.args.output.now n c.in-Some.record.now t.0 c.requires t.2
    ∙ ap (copied rs c.args.output.now) (sym (length_push c.loop-place.yielded (c.in-Some.place, c.in-Some.record)))

pub returns : goal.returns
returns g c =
    let rs = in_cells c.args.cells.now in
    let road = YieldsList-at c.into_iter-place-iterator.ensures.into_iter_gives (records_of c.args.cells.now (YieldsList-from_slice c.args.cells.now (cc)) (cc) (cc) (cc) (cc)) in
    c.loop-place.invariant ∙ copied_all rs c.args.output.now (length c.loop-place.yielded)
    (all_yielded rs road c.loop-place.yielded c.loop-place.place-iterator c.loop-place.yielded_by c.next.result c.next.new.self c.in-None.is c.next.ensures.steps)
