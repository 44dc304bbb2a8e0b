use Rattle.std.proofs.Common.{◌≡◌, ℕ, not, eqb, drop, sym, ap, ◌∙◌, rules, tests}
use Rattle.std.specs.List.{position}
use Rattle.std.proofs.lemmas.Iterator.{YieldsList-from_slice}
use Rattle.std.proofs.lemmas.Iterator.Adapters.{YieldsList-from_skip}
use Rattle.std.proofs.lemmas.Iterator.Consumers.{YieldsList-at}
use Rattle.std.proofs.lemmas.Iterator.Search.{position_from_yields_List}
use Rattle.image.specs.declared.fault.ImageFault.TheVariants.{Tail}
use Rattle.image.specs.Opened.{tail_check, unless}
use Rattle.image_reader.proofs.Tails.{on, tail_place}
use Rattle.image_reader.proofs.reader.check_tail.Goals as goal

pub returns-in-Some : goal.returns-in-Some
unfolding tail_check
returns-in-Some g c =
    let bs = c.args.bytes.now in
    let test = λ (b : ℕ). not (eqb b 0) in
    let p : c.position.result ≡ position test (drop c.args.end bs) =
    position_from_yields_List test _ _ c.position.result c.position.ensures.ran
    (YieldsList-from_skip c.args.end (YieldsList-at c.skip.ensures.source (YieldsList-from_slice bs cc)) c.skip.ensures.count) (λ x b q k. search (rules, tests)) in
    sym (ap (unless Tail) (sym (tail_place bs c.args.end) ∙ ap (on c.args.end) (sym p ∙ c.in-Some.is)))

pub returns-in-None : goal.returns-in-None
unfolding tail_check
returns-in-None g c =
    let bs = c.args.bytes.now in
    let test = λ (b : ℕ). not (eqb b 0) in
    let p : c.position.result ≡ position test (drop c.args.end bs) =
    position_from_yields_List test _ _ c.position.result c.position.ensures.ran
    (YieldsList-from_skip c.args.end (YieldsList-at c.skip.ensures.source (YieldsList-from_slice bs cc)) c.skip.ensures.count) (λ x b q k. search (rules, tests)) in
    sym (ap (unless Tail) (sym (tail_place bs c.args.end) ∙ ap (on c.args.end) (sym p ∙ c.in-None.is)))
