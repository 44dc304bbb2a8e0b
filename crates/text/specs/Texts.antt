-- Kinds of text, whatever bytes their keys keep.
use Rattle.std.specs.Prelude.{◌≡◌, ℕ, ◌+◌, ◌<◌, Bool, true, cond, ◌&&◌, List, Some, None, Option, slice_index}
use Rattle.std.specs.List.{list_all}
use Rattle.kinds.specs.Checked.{checked}
use Rattle.kinds.specs.Kinds.{KeyKind}
use Rattle.text.specs.Rows.{row_kept, row_code, row_order, row_hash, behind, stands_whole}
use Rattle.text.specs.Words.{packed}
use Rattle.text.specs.declared.row.TextRow.{TextRow}

-- A type of keys that hold a text in a row: which bytes they keep, the row of a key, and the key of a row that passed.
pub record TextType (K : Type 0) : Type 0 where
  pub number : ℕ
  pub keeps : ℕ → Bool
  pub row : K → TextRow
  pub make : (r : TextRow) → row_kept keeps r ≡ true → K

-- What it has to show, to be a lawful kind of key.
pub record TextTypeLaws {K : Type 0} (t : TextType K) : Type 0 where
  pub number : t.number < 256
  pub byte : (b : ℕ) → t.keeps b ≡ true → b < 256
  pub kept : (k : K) → row_kept t.keeps (t.row k) ≡ true
  pub made : (r : TextRow) (e : row_kept t.keeps r ≡ true) → t.row (t.make r e) ≡ r
  pub same : (j k : K) → t.row j ≡ t.row k → j ≡ k

module _ {K : Type 0} (t : TextType K) where
  abbrev pub key_of : TextRow → Option K
  key_of r = checked (row_kept t.keeps r) (t.make r)

  -- a length byte of 1 to 24, as many bytes behind it, and each one that a key keeps
  abbrev pub code_stands : List ℕ → Bool
  code_stands bs = stands_whole bs && list_all t.keeps (behind bs)

  abbrev pub sized : ℕ → Option K → Option (K × ℕ)
  sized n (Some k) = Some (k, n)
  sized n None = None

  abbrev pub text_front : List ℕ → Option (K × ℕ)
  text_front bs = cond (code_stands bs) (sized (slice_index bs 0 + 1) (key_of (packed (behind bs)))) None

  abbrev pub kind_of : KeyKind K TextRow
  kind_of = record {
    number = t.number;
    code = λ k. row_code (t.row k);
    front = text_front;
    order = λ j k. row_order (t.row j) (t.row k);
    hash = λ seed k. row_hash seed (t.row k);
    row = t.row;
    key = key_of;
  }
