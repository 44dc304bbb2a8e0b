-- The row of a text, from its bytes with zeros behind them, and the text of a row.
use Rattle.std.proofs.Common.{◌≡◌, ℕ, zero, suc, ◌+◌, ◌/◌, ◌<◌, List, [], ◌∷◌, ◌++◌, length, get_or, take, drop, replicate, refl, ap, ap₂, ◌∙◌, arith, length-take}
use Rattle.std.proofs.lemmas.List.{get_or-take, get_or-drop, drop-drop, take_min}
use Rattle.std.specs.Int.{from_be_bytes, w64}
use Rattle.std.specs.Simd.{first_chunks}
use Rattle.text.specs.Rows.{row_text}
use Rattle.text.specs.Words.{row_of, word_at, unpacked, packed}
use Rattle.text.specs.declared.row.TextRow.{TextRow}

zero_at : (n i : ℕ) → ◌≡◌ {A = ℕ} (get_or (replicate n 0) i 0) 0
zero_at zero i = refl
zero_at (suc n) zero = refl
zero_at (suc n) (suc i) = zero_at n i

pub padded_at : (xs : List ℕ) (n k i : ℕ) → get_or (xs ++ drop k (replicate n 0)) i 0 ≡ get_or xs i 0
padded_at [] n k i = get_or-drop k (replicate n 0) i 0 ∙ zero_at n (k + i)
padded_at (x ∷ xs) n k zero = refl
padded_at (x ∷ xs) n k (suc i) = padded_at xs n k i

module _ (xs bytes : List ℕ) (same : (i : ℕ) → get_or bytes i 0 ≡ get_or xs i 0) where
  word_from : (at : ℕ) → from_be_bytes w64 (take 8 (drop at bytes)) ≡ word_at xs at
  unfolding word_at
  word_from at =
      let here : (i : ℕ) → i < 8 → get_or (take 8 (drop at bytes)) i 0 ≡ get_or xs (at + i) 0 =
      λ i l. get_or-take 8 (drop at bytes) i 0 l ∙ get_or-drop at bytes i 0 ∙ same (at + i) in
      let first : get_or (take 8 (drop at bytes)) 0 0 ≡ get_or xs at 0 =
      let e : at + 0 ≡ at = omega arith in here 0 (omega arith) ∙ ap (λ k. get_or xs k 0) e in
      omega (
        arith,
        first,
        here 1 (omega arith),
        here 2 (omega arith),
        here 3 (omega arith),
        here 4 (omega arith),
        here 5 (omega arith),
        here 6 (omega arith),
        here 7 (omega arith),
      )

  -- the three words of which the bytes are made
  pub packed_from : (chunks : List (List ℕ)) → length bytes ≡ 24 → chunks ≡ first_chunks 8 (length bytes / 8) bytes
      → (head middle tail : ℕ) → head ≡ from_be_bytes w64 (get_or chunks 0 []) → middle ≡ from_be_bytes w64 (get_or chunks 1 []) → tail ≡ from_be_bytes w64 (get_or chunks 2 [])
      → row_of (length xs) head middle tail ≡ packed xs
  packed_from chunks long are head middle tail h m t =
      let three : length bytes / 8 ≡ 3 = omega (arith, long) in
      let cut : chunks ≡ first_chunks 8 3 bytes = are ∙ ap (λ n. first_chunks 8 n bytes) three in
      let word : (k : ℕ) → from_be_bytes w64 (get_or chunks k []) ≡ from_be_bytes w64 (get_or (first_chunks 8 3 bytes) k []) = λ k. ap (λ c. from_be_bytes w64 (get_or c k [])) cut in
      let a : head ≡ word_at xs 0 = h ∙ word 0 ∙ word_from 0 in
      let b : middle ≡ word_at xs 8 = m ∙ word 1 ∙ word_from 8 in
      let c : tail ≡ word_at xs 16 = t ∙ word 2 ∙ ap (λ bs. from_be_bytes w64 (take 8 bs)) (drop-drop 8 8 bytes) ∙ word_from 16 in
      λ i. row_of (length xs) (a i) (b i) (c i)

pub text_taken : (r : TextRow) (n : ℕ) (bytes : List ℕ) → n ≡ length (row_text r) → bytes ≡ unpacked r → take n bytes ≡ row_text r
text_taken r n bytes e is = ap₂ take e is ∙ ap (λ k. take k (unpacked r)) (length-take r.len (unpacked r)) ∙ take_min r.len (unpacked r)
