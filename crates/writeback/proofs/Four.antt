-- Up to four held blocks, and one written more.
use Rattle.std.proofs.Common.{◌≡◌, ℕ, ◌+◌, ◌-◌, ◌<◌, List, [], ◌∷◌, ◌++◌, length, take, drop, Some, None, sym, ap, ◌∙◌, arith}
use Rattle.std.proofs.lemmas.List.{length-append}
use Rattle.std.specs.List.{slice_get, remove}
use Rattle.std.specs.Prelude.{Option, OnSome}
use Rattle.std.specs.Option.{option_to_list}
use Rattle.writeback.specs.Slots.{newest_four, beyond_four}
use Rattle.writeback.specs.declared.slot.Slot.{Slot}

-- where four others are held, the longest held of them makes way
pub full : (others : List Slot) (s : Slot) (out : Option Slot) (rest : List Slot) → length others ≡ 4 → out ≡ slice_get others 0 → OnSome out (rest ≡ remove others 0)
    → (option_to_list out ≡ beyond_four (others ++ s ∷ [])) × (rest ++ s ∷ [] ≡ newest_four (others ++ s ∷ []))
full [] s out rest l e h = absurd (omega arith)
full (x ∷ r) s None rest l e h = let z : ◌≡◌ {A = ℕ} 0 1 = cc in absurd (omega arith)
full (x ∷ r) s (Some y) rest l e h =
    let all : List Slot = x ∷ (r ++ s ∷ []) in
    let longer : length (r ++ s ∷ []) ≡ length r + 1 = length-append r (s ∷ []) in
    let one : length all - 4 ≡ 1 = omega arith in
    let same : y ≡ x = cc in
    (ap (λ v. v ∷ []) same ∙ sym (ap (λ k. take k all) one), ap (λ v. v ++ s ∷ []) h ∙ sym (ap (λ k. drop k all) one))

-- where there is room, none does
pub room : (others : List Slot) (s : Slot) → length others < 4 → ([] ≡ beyond_four (others ++ s ∷ [])) × (others ++ s ∷ [] ≡ newest_four (others ++ s ∷ []))
room others s h =
    let all : List Slot = others ++ s ∷ [] in
    let longer : length all ≡ length others + 1 = length-append others (s ∷ []) in
    let none : length all - 4 ≡ 0 = omega arith in
    (sym (ap (λ k. take k all) none), sym (ap (λ k. drop k all) none))
