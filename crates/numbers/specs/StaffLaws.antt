-- Staff numbers are a lawful kind of key.
use Rattle.std.specs.Prelude.{◌≡◌, ℕ, ◌^◌, ◌<◌, Some, nat_lt, refl}
use Rattle.std.proofs.Common.{sym, ap, ◌∙◌, arith}
use mathlib.Core.HLevel.{is_prop→PathP}
use Rattle.std.proofs.Math.Bridge.{le_prop}
use Rattle.std.proofs.lemmas.Bool.{lt-ltb}
use Rattle.std.proofs.lemmas.Cmp.{tied_itself}
use Rattle.std.proofs.lemmas.Map.Lookups.{exact_unsigned}
use Rattle.std.specs.Cmp.{nat_cmp_total}
use Rattle.kinds.specs.Kinds.{KeyLaws}
use Rattle.kinds.proofs.Checks.{checked_some, checked_from}
use Rattle.numbers.specs.Staff.{staff, staff_kind}
use Rattle.numbers.specs.declared.staff.StaffNumber.{StaffNumber}
use Rattle.numbers.specs.FixedLaws.{Numbered, fixed_laws}

pub same_staff : (j k : StaffNumber) → j.number ≡ k.number → j ≡ k
same_staff j k e = λ i. record {
  number = e i;
  fits = is_prop→PathP (λ i. e i < 2 ^ 32) (λ i. le_prop) j.fits k.fits i;
}

pub staff_numbered : Numbered 4 (λ k. k.number) staff
staff_numbered = record { fits = λ k. k.fits; made = λ n h. refl; same = same_staff }

pub staff_of_row : (n : ℕ) (k : StaffNumber) → k.number ≡ n → n < 2 ^ 32 → staff_kind.key n ≡ Some k
staff_of_row n k e h = checked_some (nat_lt n (2 ^ 32)) _ (lt-ltb n (2 ^ 32) h) ∙ ap Some (same_staff _ k (sym e))

pub staff_laws : KeyLaws staff_kind
staff_laws = record {
  number = omega arith;
  codes = fixed_laws 4 (λ k. k.number) staff staff_numbered 25 (omega arith) (omega arith);
  orders = record {
    same = λ k. tied_itself nat_cmp_total k.number;
    equal = λ j k h. same_staff j k (exact_unsigned j.number k.number h);
    turned = λ j k. nat_cmp_total.antisymm k.number j.number;
    chain = λ i j k. nat_cmp_total.trans i.number j.number k.number;
  };
  hash = λ s k. omega arith;
  rows = record {
    back = λ k. staff_of_row k.number k refl k.fits;
    only = λ r k h. let p = checked_from (nat_lt r (2 ^ 32)) _ k h in ap (λ (x : StaffNumber). x.number) (sym p.1);
  };
}
