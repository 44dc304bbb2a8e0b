-- Papers held: value kind 1.
use Rattle.std.specs.Prelude.{ℕ, ◌^◌, ◌<◌, bit_or}
use Rattle.std.proofs.lemmas.Nat.{or_lt}
use Rattle.kinds.specs.Kinds.{ValueKind}
use Rattle.numbers.specs.Fixed.{bytes_of, fixed_front}
use Rattle.numbers.specs.declared.papers.Papers.{Papers}

abbrev pub papers : (n : ℕ) → n < 2 ^ 16 → Papers
papers n h = record { bits = n; fits = h }

-- 16 bits, one for each paper, in 2 bytes; the join holds the papers of both
abbrev pub papers_kind : ValueKind Papers
papers_kind = record {
  number = 1;
  code = λ p. bytes_of 2 p.bits;
  front = fixed_front 2 papers;
  join = λ p q. papers (bit_or p.bits q.bits) (or_lt 16 p.bits q.bits p.fits q.fits);
}
