use Rattle.std.proofs.Common.{◌≡◌, not, ltb, ◌||◌, ◌∙◌, arith, tests}
use Rattle.std.proofs.lemmas.Bool.Decides.{nat_tests}
use Rattle.maps.specs.Maps.{kinds_of}
use Rattle.image_reader.proofs.Rules.{edition_rule, key_rule, value_rule, power_rule, count_rule, free_rule, zero_rule}
use Rattle.image_reader.proofs.header.is_broken.Goals as goal

pub returns-in-0 : goal.returns-in-0
returns-in-0 g c = edition_rule _ _ _ _ c.byte_at-b.ensures c.in-0.is

pub returns-in-1 : goal.returns-in-1
returns-in-1 g c = key_rule _ _ _ _ c.byte_at-b.ensures _ c.kind_number.ensures c.in-1.is

pub returns-in-2 : goal.returns-in-2
returns-in-2 g c = value_rule _ _ _ _ c.byte_at-b.ensures _ c.kind_number-in-2.ensures c.in-2.is

pub returns-in-3 : goal.returns-in-3
returns-in-3 g c = let v : not c.contains.result ≡ (ltb c.byte_at-b.result 3 || ltb 10 c.byte_at-b.result) = grind (arith, tests, nat_tests) in v ∙ power_rule _ _ _ _ c.byte_at-b.ensures c.in-3.is

pub returns-in-4 : goal.returns-in-4
returns-in-4 g c =
    c.is_wrong_count.ensures ∙ count_rule (kinds_of g.K.Key.kind g.V.Value.kind) c.args.bytes.now c.args.i _ c.byte_at-b.ensures _ _ c.count_at.ensures c.byte_at.ensures c.in-4.is

pub returns-in_default : goal.returns-in_default
returns-in_default g c = zero_rule (kinds_of g.K.Key.kind g.V.Value.kind) c.args.bytes.now c.args.i _ c.byte_at-b.ensures (omega arith) (grind (arith, nat_tests))

pub returns-in-5 : goal.returns-in-5
returns-in-5 g c = free_rule (kinds_of g.K.Key.kind g.V.Value.kind) c.args.bytes.now c.args.i _ c.byte_at-b.ensures (omega arith) (grind (arith, nat_tests))

pub returns-in-5-2 : goal.returns-in-5-2
returns-in-5-2 g c = free_rule (kinds_of g.K.Key.kind g.V.Value.kind) c.args.bytes.now c.args.i _ c.byte_at-b.ensures (omega arith) (grind (arith, nat_tests))
