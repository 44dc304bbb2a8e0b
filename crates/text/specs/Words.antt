-- The row of a text: its length, and 24 bytes in three words, of each word the highest byte first.
use Rattle.std.specs.Prelude.{ℕ, ◌+◌, ◌*◌, ◌/◌, ◌%◌, List, [], ◌∷◌, ◌++◌, length, slice_index}
use Rattle.text.specs.declared.row.TextRow.{TextRow}

abbrev pub row_of : (len head middle tail : ℕ) → TextRow
row_of n a b c = record { len = n; head = a; middle = b; tail = c }

-- the eight bytes of a word
abbrev pub eight : ℕ → List ℕ
eight w = (w / 72057594037927936 % 256) ∷ (w / 281474976710656 % 256) ∷ (w / 1099511627776 % 256) ∷ (w / 4294967296 % 256) ∷ (w / 16777216 % 256) ∷ (w / 65536 % 256) ∷ (w / 256 % 256) ∷ (w % 256) ∷ []

-- the 24 bytes of a row
unfoldable pub unpacked : TextRow → List ℕ
unpacked r = eight r.head ++ (eight r.middle ++ eight r.tail)

-- the word of the eight bytes from a place on, zeros behind the end
unfoldable pub word_at : List ℕ → ℕ → ℕ
word_at xs i = slice_index xs i * 72057594037927936 + slice_index xs (i + 1) * 281474976710656 + slice_index xs (i + 2) * 1099511627776 + slice_index xs (i + 3) * 4294967296 + slice_index xs (i + 4) * 16777216 + slice_index xs (i + 5) * 65536 + slice_index xs (i + 6) * 256 + slice_index xs (i + 7)

-- the row of a text, zeros behind its end
abbrev pub packed : List ℕ → TextRow
packed xs = row_of (length xs) (word_at xs 0) (word_at xs 8) (word_at xs 16)
