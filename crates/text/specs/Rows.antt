-- What rows of texts say, whatever bytes a kind of text keeps: code, order, hash, and which rows are a key's.
use Rattle.std.specs.Prelude.{ℕ, Bool, cond, ◌&&◌, List, ◌∷◌, length, take, drop, Some, None, Option, ◌==◌, nat_le, nat_lt, slice_index}
use Rattle.std.specs.declared.cmp.Ordering.{Ordering}
use Rattle.std.specs.Cmp.Lexicographic.{slice_cmp}
use Rattle.std.specs.Ordering.{nat_cmp}
use Rattle.std.specs.List.{list_all}
use Rattle.text.specs.Fnv.{fnv}
use Rattle.text.specs.Words.{unpacked, packed}
use Rattle.text.specs.declared.row.TextRow.{TextRow}

-- a text has 1 to 24 bytes
abbrev pub right_length : ℕ → Bool
right_length n = nat_le 1 n && nat_le n 24

abbrev pub row_text : TextRow → List ℕ
row_text r = take r.len (unpacked r)

-- a length byte, then the bytes
abbrev pub row_code : TextRow → List ℕ
row_code r = r.len ∷ row_text r

-- byte by byte, a beginning before its continuation
abbrev pub lex : List ℕ → List ℕ → Ordering
lex xs ys = slice_cmp nat_cmp xs ys

abbrev pub row_order : TextRow → TextRow → Ordering
row_order r s = lex (row_text r) (row_text s)

-- over the bytes without the length
abbrev pub row_hash : ℕ → TextRow → ℕ
row_hash seed r = fnv seed (row_text r)

abbrev pub is_zero : ℕ → Bool
is_zero b = b == 0

-- the words are words: 64 bits
abbrev pub is_word : ℕ → Bool
is_word w = nat_lt w 18446744073709551616

abbrev pub words_fit : TextRow → Bool
words_fit r = is_word r.head && (is_word r.middle && is_word r.tail)

-- Which rows are a key's, where a kind of text keeps the bytes that pass the test: 1 to 24 bytes, each of which passes, and zeros behind the end.
unfoldable pub row_kept : (ℕ → Bool) → TextRow → Bool
row_kept keeps r = right_length r.len && (words_fit r && (list_all keeps (row_text r) && list_all is_zero (drop r.len (unpacked r))))

-- the bytes behind a length byte, as many as it says
abbrev pub behind : List ℕ → List ℕ
behind bs = take (slice_index bs 0) (drop 1 bs)

-- the length byte is that of a text, and so many bytes follow it
abbrev pub stands_whole : List ℕ → Bool
stands_whole bs = right_length (slice_index bs 0) && nat_lt (slice_index bs 0) (length bs)

abbrev pub row_front : List ℕ → Option TextRow
row_front bs = cond (stands_whole bs) (Some (packed (behind bs))) None
