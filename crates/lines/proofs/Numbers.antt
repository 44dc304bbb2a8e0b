-- The number that digits write.
use Rattle.std.proofs.Common.{◌≡◌, ℕ, zero, suc, ◌^◌, ◌<◌, ◌≤◌, true, leb, List, [], ◌∷◌, length, get_or, Some, decimal, arith, rules}
use Rattle.std.proofs.lemmas.Fmt.{decimal_nonempty, length-decimal-le, digits_decimal, digits_value-decimal}
use Rattle.std.proofs.lemmas.Str.Parse.{IsNumeralModel, numerals_by_fold}
use Rattle.std.proofs.lemmas.Grind.{common_steps}
use Rattle.std.proofs.lemmas.Bool.{leb-true, and_parts}
use Rattle.std.specs.List.{list_all}
use Rattle.lines.specs.Input.{is_digit, value_from, number_in}
use Rattle.lines.specs.Laws.{Writes}

digit_least : (b : ℕ) → is_digit b ≡ true → (48 ≤ b) × (b ≤ 57)
digit_least b e = let p = and_parts (leb 48 b) (leb b 57) e in (leb-true 48 b p.0, leb-true b 57 p.1)

-- a number that is read is one that the digits write, and each such is read
pub number_writes : (limit n : ℕ) (ds : List ℕ) → number_in limit ds ≡ Some n → Writes limit n ds
number_writes limit n ds e = record {
  some = grind (arith, common_steps);
  few = grind (arith, common_steps);
  digits = grind (arith, common_steps);
  value = grind (arith, common_steps);
  below = grind (arith, common_steps);
}

pub writes_number : (limit n : ℕ) (ds : List ℕ) → Writes limit n ds → number_in limit ds ≡ Some n
writes_number limit n ds w = grind (arith, common_steps, w.some, w.few, w.digits, w.value, w.below)

own : IsNumeralModel (λ ds. list_all is_digit ds ≡ true) (value_from 0)
own = numerals_by_fold _ (search rules) value_from (search rules)

-- the decimal digits of a number of at most 32 bits write it
pub decimal_writes : (limit n : ℕ) → limit ≤ 2 ^ 32 → n < limit → Writes limit n (decimal n)
decimal_writes limit n l h =
    let s : n < 2 ^ 64 = omega arith in
    record {
      some = decimal_nonempty n s;
      few = length-decimal-le 10 n (omega arith) (omega arith) s;
      digits = digits_decimal own n s;
      value = digits_value-decimal own n s;
      below = h;
    }

-- no digit is a blank
pub digits_no_blank : (ds : List ℕ) → list_all is_digit ds ≡ true → (j : ℕ) → j < length ds → get_or ds j 0 ≡ 32 → ⊥
digits_no_blank [] h j l e = omega arith
digits_no_blank (d ∷ ds) h zero l e = let p = digit_least d (and_parts (is_digit d) (list_all is_digit ds) h).0 in omega arith
digits_no_blank (d ∷ ds) h (suc j) l e = digits_no_blank ds (and_parts (is_digit d) (list_all is_digit ds) h).1 j (omega arith) e
