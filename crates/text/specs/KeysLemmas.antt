-- Text keys are a type of text keys.
use Rattle.std.specs.Prelude.{◌≡◌, ℕ, ◌<◌, true, length, refl}
use Rattle.std.proofs.Math.Bool.{Bool-set}
use mathlib.Core.HLevel.{is_prop→PathP}
use Rattle.std.proofs.Common.{arith}
use Rattle.std.proofs.lemmas.Bool.Decides.{nat_tests}
use Rattle.kinds.specs.Kinds.{KeyLaws}
use Rattle.text.specs.Keys.{text, text_row, text_type, text_kind}
use Rattle.text.specs.Letters.{keeps}
use Rattle.text.specs.Rows.{row_kept}
use Rattle.text.specs.Texts.{TextTypeLaws}
use Rattle.text.specs.declared.key.TextKey.{TextKey}
use Rattle.text.specs.Packing.{Kept, text_length}
use Rattle.text.specs.Fronts.{kept}
use Rattle.text.specs.TextLaws.{kind_laws}

keeps_byte : (b : ℕ) → keeps b ≡ true → b < 256
keeps_byte b h = grind (arith, nat_tests)

pub same_row : (j k : TextKey) → text_row j ≡ text_row k → j ≡ k
same_row j k e = λ i. record {
  row = e i;
  kept = is_prop→PathP (λ i. row_kept keeps (e i) ≡ true) (λ i. Bool-set (row_kept keeps (e i)) true) j.kept k.kept i;
}

pub text_type_laws : TextTypeLaws text_type
text_type_laws = record {
  number = omega arith;
  byte = keeps_byte;
  kept = λ k. k.kept;
  made = λ r e. refl;
  same = same_row;
}

pub text_laws : KeyLaws text_kind
text_laws = kind_laws text_type text_type_laws

pub key_kept : (k : TextKey) → Kept keeps (text_row k)
key_kept k = kept text_type text_type_laws k

pub key_length : (k : TextKey) → length (text k) ≡ k.row.len
key_length k = text_length (text_row k) (key_kept k).few
