use Rattle.std.proofs.Common.{◌++◌, ◌∷◌, [], sym, ◌∙◌, ap₂, arith}
use Rattle.std.proofs.lemmas.List.{take_more_set, take_more}
use Rattle.kinds.specs.Records.{record_code}
use Rattle.kinds.proofs.record.Record.fill.Goals as goal

pub loop-i-preserved : goal.loop-i-preserved
loop-i-preserved g c =
    let bs = record_code g.K.Key.kind g.V.Value.kind c.args.self.now in
    take_more_set c.loop-i.out c.loop-i.i c.code_at.result (omega arith) ∙ ap₂ (λ xs x. xs ++ (x ∷ [])) c.loop-i.invariant c.code_at.ensures
    ∙ sym (take_more bs c.loop-i.i 0 (omega arith))
