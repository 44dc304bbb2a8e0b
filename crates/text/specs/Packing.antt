-- Texts and the rows that they are packed into, whatever bytes a kind of text keeps.
use Rattle.std.specs.Prelude.{◌≡◌, ℕ, zero, suc, ◌+◌, ◌-◌, ◌/◌, ◌%◌, ◌<◌, ◌≤◌, Bool, true, false, ◌⊎◌, List, [], ◌∷◌, ◌++◌, length, take, drop, replicate, nat_le, slice_index, slice_index_or, refl}
use Rattle.std.proofs.Math.Path.{sym, ap₂}
use Rattle.std.proofs.Common.{ap, ◌∙◌, inl, inr, length-take, length-drop}
use native.Mathlib.Omega.{arith}
use Rattle.std.proofs.lemmas.List.{get_or-take, get_or_past, take_at, drop_at, take_all}
use Rattle.std.proofs.lemmas.Bool.{and_parts, and_left, and_right, leb-true, ltb-true, eqb-true, le-leb, lt-leb, lt-ltb, cases_lt}
use Rattle.std.specs.List.{list_all}
use Rattle.text.specs.Rows.{right_length, row_text, row_kept, is_zero, is_word, words_fit}
use Rattle.text.specs.Words.{row_of, eight, unpacked, word_at, packed}
use Rattle.text.specs.declared.row.TextRow.{TextRow}

pub unpacked_length : (r : TextRow) → length (unpacked r) ≡ 24
unfolding unpacked
unpacked_length r = refl

-- the bytes of the three words, one by one
pub unpacked_from : (r : TextRow) (a b c : List ℕ) → a ≡ eight r.head → b ≡ eight r.middle → c ≡ eight r.tail
    → slice_index a 0 ∷ slice_index a 1 ∷ slice_index a 2 ∷ slice_index a 3 ∷ slice_index a 4 ∷ slice_index a 5 ∷ slice_index a 6 ∷ slice_index a 7
    ∷ slice_index b 0 ∷ slice_index b 1 ∷ slice_index b 2 ∷ slice_index b 3 ∷ slice_index b 4 ∷ slice_index b 5 ∷ slice_index b 6 ∷ slice_index b 7
    ∷ slice_index c 0 ∷ slice_index c 1 ∷ slice_index c 2 ∷ slice_index c 3 ∷ slice_index c 4 ∷ slice_index c 5 ∷ slice_index c 6 ∷ slice_index c 7 ∷ [] ≡ unpacked r
unfolding unpacked
unpacked_from r a b c ea eb ec = λ i.
    slice_index (ea i) 0 ∷ slice_index (ea i) 1 ∷ slice_index (ea i) 2 ∷ slice_index (ea i) 3 ∷ slice_index (ea i) 4 ∷ slice_index (ea i) 5 ∷ slice_index (ea i) 6 ∷ slice_index (ea i) 7
    ∷ slice_index (eb i) 0 ∷ slice_index (eb i) 1 ∷ slice_index (eb i) 2 ∷ slice_index (eb i) 3 ∷ slice_index (eb i) 4 ∷ slice_index (eb i) 5 ∷ slice_index (eb i) 6 ∷ slice_index (eb i) 7
    ∷ slice_index (ec i) 0 ∷ slice_index (ec i) 1 ∷ slice_index (ec i) 2 ∷ slice_index (ec i) 3 ∷ slice_index (ec i) 4 ∷ slice_index (ec i) 5 ∷ slice_index (ec i) 6 ∷ slice_index (ec i) 7 ∷ []

pub text_at : (r : TextRow) (i : ℕ) → i < r.len → slice_index (unpacked r) i ≡ slice_index (row_text r) i
text_at r i h = sym (get_or-take r.len (unpacked r) i 0 h)

pub text_length : (r : TextRow) → r.len ≤ 24 → length (row_text r) ≡ r.len
text_length r h = length-take r.len (unpacked r) ∙ omega (arith, unpacked_length r)

-- the bytes behind the end, as a slice of the 24
pub rest_of : (r : TextRow) (u : List ℕ) → u ≡ unpacked r → take (24 - r.len) (drop r.len u) ≡ drop r.len (unpacked r)
rest_of r u e =
    ap (λ x. take (24 - r.len) (drop r.len x)) e
    ∙ take_all (24 - r.len) (drop r.len (unpacked r)) (omega (arith, length-drop r.len (unpacked r), unpacked_length r))

-- what a row says that is a key's
pub record Kept (keeps : ℕ → Bool) (r : TextRow) : Type 0 where
  pub some : 1 ≤ r.len
  pub few : r.len ≤ 24
  pub passes : list_all keeps (row_text r) ≡ true
  pub zeros : list_all is_zero (drop r.len (unpacked r)) ≡ true
  pub head : r.head < 18446744073709551616
  pub middle : r.middle < 18446744073709551616
  pub tail : r.tail < 18446744073709551616

pub kept_parts : (keeps : ℕ → Bool) (r : TextRow) → row_kept keeps r ≡ true → Kept keeps r
unfolding row_kept
kept_parts keeps r h =
    let p = and_parts (right_length r.len) _ h in
    let n = and_parts (nat_le 1 r.len) (nat_le r.len 24) p.0 in
    let q = and_parts (words_fit r) _ p.1 in
    let a = and_parts (is_word r.head) _ q.0 in
    let b = and_parts (is_word r.middle) (is_word r.tail) a.1 in
    let z = and_parts (list_all keeps (row_text r)) (list_all is_zero (drop r.len (unpacked r))) q.1 in
    record {
      some = leb-true 1 r.len n.0;
      few = leb-true r.len 24 n.1;
      passes = z.0;
      zeros = z.1;
      head = ltb-true r.head 18446744073709551616 a.0;
      middle = ltb-true r.middle 18446744073709551616 b.0;
      tail = ltb-true r.tail 18446744073709551616 b.1;
    }

pub not_right : (n : ℕ) → (1 ≤ n → n ≤ 24 → ⊥) → right_length n ≡ false
not_right n h = from (cases_lt n 1) (cases_lt 24 n)
  where
    from : (n < 1) ⊎ (1 ≤ n) → (24 < n) ⊎ (n ≤ 24) → right_length n ≡ false
    from (inl l) q = and_left _ _ (lt-leb 1 n l)
    from (inr l) (inl g) = and_right _ _ (lt-leb n 24 g)
    from (inr l) (inr g) = absurd (h l g)

-- ---- the test of a row, step by step
module _ (keeps : ℕ → Bool) (r : TextRow) where
  pub length_fails : (1 ≤ r.len → r.len ≤ 24 → ⊥) → false ≡ row_kept keeps r
  unfolding row_kept
  length_fails h = sym (and_left (right_length r.len) _ (not_right r.len h))

  pub bytes_fail : list_all keeps (row_text r) ≡ false → false ≡ row_kept keeps r
  unfolding row_kept
  bytes_fail h = sym (and_right (right_length r.len) _ (and_right (words_fit r) _ (and_left _ _ h)))

  module _ (some : 1 ≤ r.len) (few : r.len ≤ 24) (head : r.head < 18446744073709551616) (middle : r.middle < 18446744073709551616) (tail : r.tail < 18446744073709551616) where
    pub zeros_tell : list_all keeps (row_text r) ≡ true → list_all is_zero (drop r.len (unpacked r)) ≡ row_kept keeps r
    unfolding row_kept
    zeros_tell h =
        sym (rw (le-leb 1 r.len some, le-leb r.len 24 few, lt-ltb r.head 18446744073709551616 head, lt-ltb r.middle 18446744073709551616 middle, lt-ltb r.tail 18446744073709551616 tail, h))

-- ---- a text, packed, gives its bytes back with zeros behind them
-- n bytes from i on, zeros behind the end
abbrev bytes_from : List ℕ → ℕ → ℕ → List ℕ
bytes_from xs i zero = []
bytes_from xs i (suc n) = slice_index xs i ∷ bytes_from xs (suc i) n

bytes_from_past : (xs : List ℕ) (n i : ℕ) → length xs ≤ i → bytes_from xs i n ≡ replicate n 0
bytes_from_past xs zero i h = refl
bytes_from_past xs (suc n) i h = ap₂ (λ y ys. y ∷ ys) (get_or_past xs i 0 h) (bytes_from_past xs n (suc i) (omega arith))

bytes_from_rest : (xs : List ℕ) (n : ℕ) → length xs ≤ n → bytes_from xs 0 n ≡ xs ++ replicate (n - length xs) 0
bytes_from_rest [] n h = bytes_from_past [] n 0 (omega arith) ∙ ap (λ k. replicate k 0) (omega arith)
bytes_from_rest (x ∷ xs) zero h = absurd (omega arith)
bytes_from_rest (x ∷ xs) (suc n) h = ap (λ ys. x ∷ ys) (shift n 0 ∙ bytes_from_rest xs n (omega arith) ∙ ap (λ k. xs ++ replicate k 0) (omega arith))
  where
    shift : (n i : ℕ) → bytes_from (x ∷ xs) (suc i) n ≡ bytes_from xs i n
    shift zero i = refl
    shift (suc n) i = ap (λ ys. slice_index xs i ∷ ys) (shift n (suc i))

module _ (xs : List ℕ) (small : (i : ℕ) → slice_index xs i < 256) where
  eight_word : (i : ℕ) → eight (word_at xs i)
      ≡ slice_index xs i ∷ slice_index xs (i + 1) ∷ slice_index xs (i + 2) ∷ slice_index xs (i + 3) ∷ slice_index xs (i + 4) ∷ slice_index xs (i + 5) ∷ slice_index xs (i + 6) ∷ slice_index xs (i + 7) ∷ []
  unfolding word_at
  eight_word i =
      let b0 = small i in
      let b1 = small (i + 1) in
      let b2 = small (i + 2) in
      let b3 = small (i + 3) in
      let b4 = small (i + 4) in
      let b5 = small (i + 5) in
      let b6 = small (i + 6) in
      let b7 = small (i + 7) in
      let w = word_at xs i in
      let e0 : w / 72057594037927936 % 256 ≡ slice_index_or xs i 0 = omega arith in
      let e1 : w / 281474976710656 % 256 ≡ slice_index_or xs (i + 1) 0 = omega arith in
      let e2 : w / 1099511627776 % 256 ≡ slice_index_or xs (i + 2) 0 = omega arith in
      let e3 : w / 4294967296 % 256 ≡ slice_index_or xs (i + 3) 0 = omega arith in
      let e4 : w / 16777216 % 256 ≡ slice_index_or xs (i + 4) 0 = omega arith in
      let e5 : w / 65536 % 256 ≡ slice_index_or xs (i + 5) 0 = omega arith in
      let e6 : w / 256 % 256 ≡ slice_index_or xs (i + 6) 0 = omega arith in
      let e7 : w % 256 ≡ slice_index_or xs (i + 7) 0 = omega arith in
      cc

  word_small : (i : ℕ) → word_at xs i < 18446744073709551616
  unfolding word_at
  word_small i = omega (arith, small i, small (i + 1), small (i + 2), small (i + 3), small (i + 4), small (i + 5), small (i + 6), small (i + 7))

  module _ (few : length xs ≤ 24) where
    pub packed_bytes : unpacked (packed xs) ≡ xs ++ replicate (24 - length xs) 0
    unfolding unpacked
    packed_bytes =
        ap₂ (λ x y. x ++ y) (eight_word 0) (ap₂ (λ x y. x ++ y) (eight_word 8) (eight_word 16)) ∙ bytes_from_rest xs 24 few

    pub packed_text : row_text (packed xs) ≡ xs
    packed_text = ap (take (length xs)) packed_bytes ∙ take_at xs _ (length xs) refl

    -- the row of a text is a key's where the text's bytes pass
    pub packed_kept : (keeps : ℕ → Bool) → 1 ≤ length xs → list_all keeps xs ≡ true → row_kept keeps (packed xs) ≡ true
    packed_kept keeps some passes =
        let z : drop (length xs) (unpacked (packed xs)) ≡ replicate (24 - length xs) 0 = ap (drop (length xs)) packed_bytes ∙ drop_at xs _ (length xs) refl in
        sym (zeros_tell keeps (packed xs) some few (word_small 0) (word_small 8) (word_small 16) (ap (list_all keeps) packed_text ∙ passes))
        ∙ ap (list_all is_zero) z ∙ all_zeros (24 - length xs)
      where
        all_zeros : (n : ℕ) → list_all is_zero (replicate n 0) ≡ true
        all_zeros zero = refl
        all_zeros (suc n) = all_zeros n

-- ---- a row that is a key's is the row of its text
zeros_are : (xs : List ℕ) → list_all is_zero xs ≡ true → (i : ℕ) → slice_index xs i ≡ 0
zeros_are [] h i = refl
zeros_are (x ∷ xs) h zero = eqb-true x 0 (and_parts (is_zero x) _ h).0
zeros_are (x ∷ xs) h (suc i) = zeros_are xs (and_parts (is_zero x) _ h).1 i

front_of : (n : ℕ) (xs : List ℕ) → ((i : ℕ) → slice_index (drop n xs) i ≡ 0) → (i : ℕ) → slice_index (take n xs) i ≡ slice_index xs i
front_of zero xs z i = sym (z i)
front_of (suc n) [] z i = refl
front_of (suc n) (x ∷ xs) z zero = refl
front_of (suc n) (x ∷ xs) z (suc i) = front_of n xs z i

module _ (keeps : ℕ → Bool) (r : TextRow) (kept : Kept keeps r) where
  word_same : (i : ℕ) → word_at (row_text r) i ≡ word_at (unpacked r) i
  unfolding word_at
  word_same i =
      let e = front_of r.len (unpacked r) (zeros_are (drop r.len (unpacked r)) kept.zeros) in
      rw (e i, e (i + 1), e (i + 2), e (i + 3), e (i + 4), e (i + 5), e (i + 6), e (i + 7))

  words_back : (word_at (unpacked r) 0 ≡ r.head) × (word_at (unpacked r) 8 ≡ r.middle) × (word_at (unpacked r) 16 ≡ r.tail)
  unfolding unpacked word_at
  words_back = (omega (arith, kept.head), omega (arith, kept.middle), omega (arith, kept.tail))

  pub repacked : packed (row_text r) ≡ r
  repacked =
      let l = text_length r kept.few in
      let a : word_at (row_text r) 0 ≡ r.head = word_same 0 ∙ words_back.0 in
      let b : word_at (row_text r) 8 ≡ r.middle = word_same 8 ∙ words_back.1 in
      let c : word_at (row_text r) 16 ≡ r.tail = word_same 16 ∙ words_back.2 in
      λ i. row_of (l i) (a i) (b i) (c i)
