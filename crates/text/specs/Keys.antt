-- Text keys.
use Rattle.std.specs.Prelude.{◌≡◌, ℕ, true, List}
use Rattle.kinds.specs.Kinds.{KeyKind}
use Rattle.text.specs.Letters.{keeps}
use Rattle.text.specs.Rows.{row_text, row_kept}
use Rattle.text.specs.Texts.{TextType, kind_of}
use Rattle.text.specs.declared.key.TextKey.{TextKey}
use Rattle.text.specs.declared.row.TextRow.{TextRow}

abbrev pub text_row : TextKey → TextRow
text_row k = k.row

abbrev pub key_from : (r : TextRow) → row_kept keeps r ≡ true → TextKey
key_from r e = record { row = r; kept = e }

abbrev pub text_type : TextType TextKey
text_type = record { number = 2; keeps = keeps; row = text_row; make = key_from }

abbrev pub text_kind : KeyKind TextKey TextRow
text_kind = kind_of text_type

-- the bytes of a key
abbrev pub text : TextKey → List ℕ
text k = row_text (text_row k)
