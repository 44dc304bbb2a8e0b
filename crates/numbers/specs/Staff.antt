-- Staff numbers: key kind 1.
use Rattle.std.specs.Prelude.{ℕ, ◌+◌, ◌*◌, ◌%◌, ◌^◌, ◌<◌, nat_lt}
use Rattle.std.specs.Ordering.{nat_cmp}
use Rattle.std.proofs.lemmas.Bool.{ltb-true}
use Rattle.kinds.specs.Checked.{checked}
use Rattle.kinds.specs.Kinds.{KeyKind}
use Rattle.numbers.specs.Fixed.{bytes_of, fixed_front}
use Rattle.numbers.specs.declared.staff.StaffNumber.{StaffNumber}

abbrev pub staff : (n : ℕ) → n < 2 ^ 32 → StaffNumber
staff n h = record { number = n; fits = h }

-- 32 bits in 4 bytes, the smaller first; a row is the number itself
abbrev pub staff_kind : KeyKind StaffNumber ℕ
staff_kind = record {
  number = 1;
  code = λ k. bytes_of 4 k.number;
  front = fixed_front 4 staff;
  order = λ j k. nat_cmp j.number k.number;
  hash = λ seed k. (k.number * 2654435769 + seed) % 2 ^ 32;
  row = λ k. k.number;
  key = λ n. checked (nat_lt n (2 ^ 32)) (λ e. staff n (ltb-true n (2 ^ 32) e));
}
