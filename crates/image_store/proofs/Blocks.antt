-- one block after another
use Rattle.std.proofs.Common.{◌≡◌, ℕ, ◌+◌, ◌-◌, ◌*◌, ◌<◌, ◌≤◌, not, List, [], ◌∷◌, ◌++◌, length, get_or, take, drop, is_some, Some, None, Err, Option, Result, sym, refl, ap, ◌∙◌, subst, ap₂, append_assoc, arith, length-append, length-take}
use Rattle.std.proofs.lemmas.List.{take_at, take_more, take_all, append-nil}
use Rattle.kinds.specs.Records.{written}
use Rattle.layout.specs.Tests.{lowest}
use Rattle.image.specs.declared.fault.ImageFault.{ImageFault}
use Rattle.image.specs.declared.fault.ImageFault.TheVariants.{Store}
use Rattle.image.specs.Faults.{fault_number, fault_place}
use Rattle.image.proofs.Loops.{found, onward, missing}
use Rattle.store.specs.Answers.{Answer, given, refused, told, read_answer}
use Rattle.store.specs.Places.{Place}
use Rattle.store.proofs.Told.{read_block, read_fault, gives_fault}
use Rattle.image_store.specs.Loads.{bytes_of, lost, first_lost, unless_lost, load_answer, Whole, Loaded}

take_written : (work : List ℕ) (at : ℕ) (b : List ℕ) → at + length b ≤ length work → take (at + length b) (written work at b) ≡ take at work ++ b
take_written work at b l =
    ap (take (at + length b)) (sym (append_assoc (take at work) b (drop (at + length b) work)))
    ∙ take_at (take at work ++ b) (drop (at + length b) work) (at + length b) (length-append (take at work) b ∙ omega (arith, length-take at work))

bytes_append : (xs ys : List Place) → bytes_of (xs ++ ys) ≡ bytes_of xs ++ bytes_of ys
bytes_append [] ys = refl
bytes_append (None ∷ xs) ys = bytes_append xs ys
bytes_append (Some b ∷ xs) ys = ap (λ y. b ++ y) (bytes_append xs ys) ∙ sym (append_assoc b (bytes_of xs) (bytes_of ys))

bytes_more : (shown : List Place) (i : ℕ) (b : List ℕ) → i < length shown → get_or shown i None ≡ Some b → bytes_of (take (i + 1) shown) ≡ bytes_of (take i shown) ++ b
bytes_more shown i b l e =
    ap bytes_of (take_more shown i None l) ∙ bytes_append (take i shown) (get_or shown i None ∷ [])
    ∙ ap (λ p. bytes_of (take i shown) ++ bytes_of (p ∷ [])) e ∙ ap (λ y. bytes_of (take i shown) ++ y) (append-nil b)

whole_push : (xs : List Place) (b : List ℕ) → Whole xs → length b ≡ 32 → Whole (xs ++ Some b ∷ [])
whole_push [] b w l = (l, tt)
whole_push (None ∷ xs) b w l = w
whole_push (Some y ∷ xs) b w l = (w.0, whole_push xs b w.1 l)

-- the first i blocks are copied, and none of them is unreadable
abbrev pub Copied : List Place → ℕ → List ℕ → Type 0
Copied shown i work = (take (32 * i) work ≡ bytes_of (take i shown)) × (first_lost shown ≡ lowest (lost shown) i (length shown - i)) × Whole (take i shown)

module _ (shown : List Place) (count : ℕ) (size : length shown ≡ count) (i : ℕ) (work : List ℕ) (inv : Copied shown i work) where
  pub copies : (b work' : List ℕ) → i < count → 32 * count ≤ length work → given b ≡ read_answer count shown i → length b ≡ 32 → work' ≡ written work (32 * i) b → Copied shown (i + 1) work'
  copies b work' l room e lb w =
      let here : get_or shown i None ≡ Some b = read_block count shown i l b e in
      let li : i < length shown = omega arith in
      let n : 32 * (i + 1) ≡ 32 * i + length b = omega arith in (
        ap (λ k. take k work') n ∙ ap (take (32 * i + length b)) w ∙ take_written work (32 * i) b (omega arith) ∙ ap (λ y. y ++ b) inv.0 ∙ sym (bytes_more shown i b li here),
        onward (lost shown) i (length shown) inv.1 li (ap (λ o. not (is_some o)) here),
        subst Whole (sym (take_more shown i None li ∙ ap (λ p. take i shown ++ p ∷ []) here)) (whole_push (take i shown) b inv.2 lb),
      )

  pub stops : {F : Type 0} (number block : F → ℕ) (f : F) (r : Result (Unit {0}) (ImageFault F)) → i < count → refused (number f) (block f) ≡ read_answer count shown i
      → (y : ImageFault F) × (r ≡ Err y) × (y ≡ Store f)
      → (told (fault_number number) (fault_place block) r ≡ load_answer shown) × Loaded shown count work r
  stops number block f r l e p =
      let here : get_or shown i None ≡ None = read_fault count shown i l _ _ e in
      let li : i < length shown = omega arith in
      let r-is : r ≡ Err (Store f) = p.1 ∙ ap Err p.2 in
      let q : ◌≡◌ {A = Answer (List ℕ)} (refused (number f) (block f)) (refused 3 i) = e ∙ sym (gives_fault count shown i l here) in
      let a : number f ≡ 3 = cc in
      let b : block f ≡ i = cc in (
        ap (told (fault_number number) (fault_place block)) r-is ∙ ap₂ refused a b
            ∙ sym (ap (λ (o : Option ℕ). unless_lost o (given tt)) (found (lost shown) i (length shown) inv.1 li (ap (λ o. not (is_some o)) here))),
        subst (Loaded shown count work) (sym r-is) tt,
      )

  pub ends : i ≡ count → (given tt ≡ load_answer shown) × ((first_lost shown ≡ None) × (take (32 * count) work ≡ bytes_of shown) × Whole shown)
  ends e =
      let none : first_lost shown ≡ None = missing (lost shown) i (length shown) inv.1 (omega arith) in (
        sym (ap (λ o. unless_lost o (given tt)) none),
        (none, ap (λ k. take (32 * k) work) (sym e) ∙ inv.0 ∙ ap bytes_of (take_all i shown (omega arith)), subst Whole (take_all i shown (omega arith)) inv.2),
      )
