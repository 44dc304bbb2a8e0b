use Rattle.std.proofs.Common.{sym, refl, ◌∙◌, arith}
use Rattle.compare.proofs.Same.{same_code}
use Rattle.compare.proofs.same_value.Goals as goal

pub returns : goal.returns
returns g c =
    ((λ e. same_code g.V.Value.kind g.met.V.Value.lawful c.args.left.now c.args.right.now (sym c.code_len-len.ensures ∙ sym c.if-code_len-len.false ∙ c.code_len.ensures) (λ i l. c.loop-i.invariant i (omega (arith, c.code_len-len.ensures)))), (λ e. refl))
