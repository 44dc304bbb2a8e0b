-- Hours are a lawful kind of value.
use Rattle.std.specs.Prelude.{◌≡◌, ℕ, ◌+◌, ◌*◌, ◌/◌, ◌%◌, ◌^◌, ◌<◌, max, List}
use Rattle.std.proofs.Common.{subst, arith}
use mathlib.Core.HLevel.{is_prop→PathP}
use Rattle.std.proofs.Math.Bridge.{le_prop}
use Rattle.std.proofs.lemmas.Bool.Decides.{nat_tests}
use Rattle.kinds.specs.Codes.{CodeLaws}
use Rattle.kinds.specs.Kinds.{ValueLaws}
use Rattle.numbers.specs.Fixed.{bytes_of, fixed_front}
use Rattle.numbers.specs.Hours.{hours, later, hours_code, hours_kind}
use Rattle.numbers.specs.declared.hours.Hours.{Hours}
use Rattle.numbers.specs.FixedLaws.{Numbered, fixed_laws}

-- week and hours as one number: it is the larger, the later the week, and within a week the more hours
abbrev pub stamp : Hours → ℕ
stamp h = h.week * 65536 + h.quarters

pub same_hours : (x y : Hours) → x.week ≡ y.week → x.quarters ≡ y.quarters → x ≡ y
same_hours x y e f = λ i. record {
  week = e i;
  quarters = f i;
  week_fits = is_prop→PathP (λ i. e i < 2 ^ 16) (λ i. le_prop) x.week_fits y.week_fits i;
  quarters_fits = is_prop→PathP (λ i. f i < 2 ^ 16) (λ i. le_prop) x.quarters_fits y.quarters_fits i;
}

same_stamp : (x y : Hours) → stamp x ≡ stamp y → x ≡ y
same_stamp x y e =
    let a = x.quarters_fits in
    let b = y.quarters_fits in
    same_hours x y (omega arith) (omega arith)

pub hours_numbered : Numbered 4 stamp hours
hours_numbered = record {
  fits = λ x. omega (arith, x.week_fits, x.quarters_fits);
  made = λ n h. omega arith;
  same = same_stamp;
}

code_is : (x : Hours) → bytes_of 4 (stamp x) ≡ hours_code x
code_is x =
    let n = stamp x in
    let a = x.week_fits in
    let b = x.quarters_fits in
    let e : n / 256 / 256 / 256 % 256 ≡ x.week / 256 % 256 = omega arith in
    let f : n / 256 / 256 % 256 ≡ x.week % 256 = omega arith in
    let g : n / 256 % 256 ≡ x.quarters / 256 % 256 = omega arith in
    let h : n % 256 ≡ x.quarters % 256 = omega arith in
    cc

hours_codes : CodeLaws 10 hours_code (fixed_front 4 hours)
hours_codes = subst (λ (code : Hours → List ℕ). CodeLaws 10 code (fixed_front 4 hours)) (λ i x. code_is x i) (fixed_laws 4 stamp hours hours_numbered 10 (omega arith) (omega arith))

later_most : (x y : Hours) → stamp (later x y) ≡ max (stamp x) (stamp y)
later_most x y =
    let a = x.quarters_fits in
    let b = y.quarters_fits in
    grind (arith, nat_tests)

pub hours_laws : ValueLaws hours_kind
hours_laws = record {
  number = omega arith;
  codes = hours_codes;
  joins = record {
    assoc = λ x y z. same_stamp _ _ (omega (arith, later_most (later x y) z, later_most x y, later_most x (later y z), later_most y z));
    comm = λ x y. same_stamp _ _ (omega (arith, later_most x y, later_most y x));
    idem = λ x. same_stamp _ _ (omega (arith, later_most x x));
  };
}
