-- Blocks with their sums.
use Rattle.std.proofs.Common.{◌≡◌, ℕ, ◌+◌, List, [], ◌++◌, length, drop, ap, ◌∙◌, arith}
use Rattle.std.proofs.lemmas.List.{take_at, drop_all, append-nil, length-append, length-drop}
use Rattle.store.specs.Lent.{overwritten}
use Rattle.store.specs.Sums.{sums}
use Rattle.store.specs.Summed.{length_sums}

-- a block and its sums, written into 34 bytes
pub summed_is : (zs b s p q : List ℕ) → length zs ≡ 34 → length b ≡ 32 → s ≡ sums b → p ≡ overwritten zs 0 b → q ≡ overwritten p 32 s → q ≡ b ++ sums b
summed_is zs b s p q lz lb es ep eq =
    let rest : List ℕ = drop (0 + length b) zs in
    let ls : length s ≡ 2 = ap length es ∙ length_sums b in
    let end : drop (32 + length s) (b ++ rest) ≡ [] = drop_all (32 + length s) (b ++ rest) (simp (length-append, length-drop) (omega arith)) in
    eq ∙ ap (λ v. overwritten v 32 s) ep
    ∙ ap (λ v. v ++ (s ++ drop (32 + length s) (b ++ rest))) (take_at b rest 32 lb) ∙ ap (λ v. b ++ (s ++ v)) end ∙ ap (λ v. b ++ v) (append-nil s ∙ es)
