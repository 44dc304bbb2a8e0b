-- Blocks written one by one.
use Rattle.std.proofs.Common.{◌≡◌, ℕ, zero, suc, ◌+◌, ◌*◌, ◌<◌, Bool, false, cond, List, [], ◌∷◌, ◌++◌, length, get_or, take, drop, set, Some, None, sym, refl, ap, ◌∙◌, ap₂, add-one, arith}
use Rattle.std.proofs.lemmas.List.{set_at, drop_more, drop-drop, append_assoc}
use Rattle.std.proofs.lemmas.Bool.{lt-ltb}
use Rattle.std.specs.Simd.{first_chunks}
use Rattle.model.specs.Blocks.{blocks_of}
use Rattle.model.specs.Setups.{Place}
use Rattle.model.proofs.Blocks.{length_blocks}
use Rattle.store.specs.Answers.{shown_after}

-- after the first i blocks
abbrev pub partly_written : List Place → List ℕ → ℕ → List Place
partly_written shown bs i = blocks_of i bs ++ drop i shown

one_more_block : (i : ℕ) (bs : List ℕ) → blocks_of (suc i) bs ≡ blocks_of i bs ++ Some (take 32 (drop (32 * i) bs)) ∷ []
one_more_block zero bs = refl
one_more_block (suc i) bs =
    let n : 32 + 32 * i ≡ 32 * suc i = omega arith in
    ap (λ x. Some (take 32 bs) ∷ x) (one_more_block i (drop 32 bs))
    ∙ ap (λ x. Some (take 32 bs) ∷ (blocks_of i (drop 32 bs) ++ Some (take 32 x) ∷ [])) (drop-drop (32 * i) 32 bs ∙ ap (λ k. drop k bs) n)

-- the chunks of the bytes are their blocks
pub chunk_is : (k i : ℕ) (bs d : List ℕ) → i < k → get_or (first_chunks 32 k bs) i d ≡ take 32 (drop (32 * i) bs)
chunk_is zero i bs d h = absurd (omega (arith, h))
chunk_is (suc k) zero bs d h = refl
chunk_is (suc k) (suc i) bs d h =
    let n : 32 + 32 * i ≡ 32 * suc i = omega arith in
    chunk_is k i (drop 32 bs) d (omega (arith, h)) ∙ ap (take 32) (drop-drop (32 * i) 32 bs ∙ ap (λ k. drop k bs) n)

pub more_written : (shown now : List Place) (bs block : List ℕ) (count i : ℕ) (protected : Bool) → length shown ≡ count → i < count → protected ≡ false
    → now ≡ partly_written shown bs i → block ≡ take 32 (drop (32 * i) bs) → shown_after count protected now i block ≡ partly_written shown bs (i + 1)
more_written shown now bs block count i protected l h p e b =
    let y = Some (take 32 (drop (32 * i) bs)) in
    let d : drop i shown ≡ get_or shown i None ∷ drop (i + 1) shown = drop_more shown i None (omega arith) in
    ap₂ (λ t q. cond t (cond q now (set now i (Some block))) now) (lt-ltb i count h) p
    ∙ ap₂ (λ s q. set s i (Some q)) (e ∙ ap (λ t. blocks_of i bs ++ t) d) b
    ∙ set_at (blocks_of i bs) (get_or shown i None) (drop (i + 1) shown) y i (length_blocks i bs)
    ∙ sym (append_assoc (blocks_of i bs) (y ∷ []) (drop (i + 1) shown))
    ∙ ap (λ t. t ++ drop (i + 1) shown) (sym (one_more_block i bs) ∙ ap (λ k. blocks_of k bs) (sym (add-one i)))
