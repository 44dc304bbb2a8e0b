use Rattle.std.proofs.Common.{◌≡◌, ◌-◌, ◌*◌, ◌%◌, ◌^◌, true, false, nat_le, ◌∙◌, arith, rules}
use Rattle.std.proofs.lemmas.Bool.{leb-true, leb-false, le-leb, lt-leb}
use Rattle.std.proofs.lemmas.Iterator.{first_from_Range}
use Rattle.cells.proofs.Powers.{Enough, TooFew, quarters, power_found}
use Rattle.cells.proofs.ring.power_of.Goals as goal

pub returns : goal.returns
returns c =
    let count = c.args.count in
    c.unwrap_or.ensures
    ∙ power_found count c.find.result (first_from_Range _ _ _ _ (Enough count) (TooFew count) c.find.ensures.ran
    (λ p q k lo hi. let e : nat_le count ((3 * 2 ^ (p - 2)) % 2 ^ 64) ≡ true = search rules in le-leb _ _ (omega (arith, leb-true _ _ e, quarters p lo hi)))
    (λ p q k. (search rules, λ lo hi. let e : nat_le count ((3 * 2 ^ (p - 2)) % 2 ^ 64) ≡ false = search rules in lt-leb _ _ (omega (arith, leb-false _ _ e, quarters p lo hi)))))
