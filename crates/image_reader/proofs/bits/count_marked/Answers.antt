use Rattle.std.proofs.Common.{◌∙◌, refl, arith, rules, tests}
use Rattle.std.proofs.lemmas.Iterator.{YieldsList-from_range}
use Rattle.std.proofs.lemmas.Iterator.Consumers.{YieldsList-from_filter, YieldsList-at, count_from_yields_List}
use Rattle.image.specs.Opened.{marked}
use Rattle.image.proofs.Loops.{counted_ones}
use Rattle.image_reader.proofs.bits.count_marked.Goals as goal

pub returns : goal.returns
returns c =
    let t = marked c.args.bytes.now in
    let cap = c.args.cap in
    count_from_yields_List c.filter.result _ c.count.ensures.ran
    (YieldsList-from_filter _ t (YieldsList-at c.filter.ensures.source (YieldsList-from_range 0 cap cap refl (omega arith))) c.filter.ensures.closure (λ x b q k. search (rules, tests)))
    ∙ counted_ones t 0 cap
