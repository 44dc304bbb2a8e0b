-- Papers held are a lawful kind of value.
use Rattle.std.specs.Prelude.{◌≡◌, ℕ, ◌/◌, ◌^◌, ◌<◌, bit_or, refl}
use Rattle.std.proofs.Common.{ap, arith}
use mathlib.Core.HLevel.{is_prop→PathP}
use Rattle.std.proofs.Math.Bridge.{le_prop}
use Rattle.std.proofs.Math.Arith.{bin_ind}
use Rattle.std.specs.Int.Bits.{or_step, or_self}
use Rattle.std.proofs.lemmas.Nat.{or_comm}
use Rattle.kinds.specs.Kinds.{ValueLaws}
use Rattle.numbers.specs.Papers.{papers, papers_kind}
use Rattle.numbers.specs.declared.papers.Papers.{Papers}
use Rattle.numbers.specs.FixedLaws.{Numbered, fixed_laws}

pub same_papers : (p q : Papers) → p.bits ≡ q.bits → p ≡ q
same_papers p q e = λ i. record {
  bits = e i;
  fits = is_prop→PathP (λ i. e i < 2 ^ 16) (λ i. le_prop) p.fits q.fits i;
}

pub papers_numbered : Numbered 2 (λ p. p.bits) papers
papers_numbered = record { fits = λ p. p.fits; made = λ n h. refl; same = same_papers }

-- bit by bit
or_assoc : (a b c : ℕ) → bit_or (bit_or a b) c ≡ bit_or a (bit_or b c)
or_assoc = bin_ind (λ (n : ℕ). (b c : ℕ) → bit_or (bit_or n b) c ≡ bit_or n (bit_or b c)) (λ b c. refl) (λ n ih b c.
    let halves : (x y : ℕ) → bit_or x y / 2 ≡ bit_or (x / 2) (y / 2) = λ x y. omega (arith, or_step x y) in
    let left : bit_or (bit_or n b / 2) (c / 2) ≡ bit_or (bit_or (n / 2) (b / 2)) (c / 2) = ap (λ (x : ℕ). bit_or x (c / 2)) (halves n b) in
    let right : bit_or (n / 2) (bit_or b c / 2) ≡ bit_or (n / 2) (bit_or (b / 2) (c / 2)) = ap (bit_or (n / 2)) (halves b c) in
    omega (arith, or_step (bit_or n b) c, or_step n b, or_step n (bit_or b c), or_step b c, ih (b / 2) (c / 2)))

pub papers_laws : ValueLaws papers_kind
papers_laws = record {
  number = omega arith;
  codes = fixed_laws 2 (λ p. p.bits) papers papers_numbered 10 (omega arith) (omega arith);
  joins = record {
    assoc = λ x y z. same_papers _ _ (or_assoc x.bits y.bits z.bits);
    comm = λ x y. same_papers _ _ (or_comm x.bits y.bits);
    idem = λ x. same_papers _ _ (or_self x.bits);
  };
}
