-- The first place of a byte.
use Rattle.std.proofs.Common.{◌≡◌, ℕ, ◌+◌, ◌<◌, ◌≤◌, eqb, ltb, List, ◌∷◌, ◌++◌, length, get_or, take, drop, Some, None, cond, sym, refl, ap, ◌∙◌, arith, length-append}
use Rattle.std.proofs.lemmas.Bool.{cond-true, lt-ltb, eq-eqb, ne_eqb, eqb-true, eqb-false}
use Rattle.std.proofs.lemmas.Grind.{common_steps}
use Rattle.std.proofs.lemmas.List.{drop_more, length-take-le, get_or-take, get_or_at, get_or_append_left, take-append-drop}
use Rattle.std.proofs.lemmas.List.Quantifiers.{position-Some}
use Rattle.std.proofs.lemmas.List.Sums.{fails_before_first, position_or_len_is}
use Rattle.std.specs.List.{position_or_len}
use Rattle.lines.specs.Input.{first_place}

-- what stands before and behind the place that was found
pub record Split (b : ℕ) (bs : List ℕ) (i : ℕ) : Type 0 where
  pub within : i < length bs
  pub parts : bs ≡ take i bs ++ b ∷ drop (i + 1) bs
  pub none : (j : ℕ) → j < length (take i bs) → get_or (take i bs) j 0 ≡ b → ⊥

pub split_at : (b : ℕ) (bs : List ℕ) (i : ℕ) → first_place b bs ≡ Some i → Split b bs i
split_at b bs i e =
    let s = position-Some (λ x. eqb x b) bs i 0 e in
    let long = length-take-le i bs (omega (arith, s.0)) in
    record {
      within = s.0;
      parts = sym (take-append-drop i bs) ∙ ap (λ y. take i bs ++ y) (drop_more bs i 0 s.0 ∙ ap (λ y. y ∷ drop (i + 1) bs) (eqb-true (get_or bs i 0) b s.1));
      none = λ j l h. eqb-false (get_or bs j 0) b (s.2 j (omega (arith, l, long))) (sym (get_or-take i bs j 0 (omega (arith, l, long))) ∙ h);
    }

pub none_at : (b : ℕ) (bs : List ℕ) → first_place b bs ≡ None → (j : ℕ) → j < length bs → get_or bs j 0 ≡ b → ⊥
none_at b bs e j l h =
    let all : length bs ≤ position_or_len (λ x. eqb x b) bs = grind (arith, common_steps) in
    eqb-false (get_or bs j 0) b (fails_before_first (λ x. eqb x b) bs j 0 (omega (arith, all, l))) h

-- the first place of b is behind a list that has none
pub place_behind : (b : ℕ) (xs ys : List ℕ) → ((j : ℕ) → j < length xs → get_or xs j 0 ≡ b → ⊥) → first_place b (xs ++ b ∷ ys) ≡ Some (length xs)
place_behind b xs ys h =
    let zs = xs ++ b ∷ ys in
    let long = length-append xs (b ∷ ys) in
    let at : position_or_len (λ x. eqb x b) zs ≡ length xs =
    position_or_len_is (λ x. eqb x b) zs (length xs) 0 (omega (arith, long))
    (λ k l. ne_eqb (get_or zs k 0) b (λ e. h k l (sym (get_or_append_left xs (b ∷ ys) 0 k l) ∙ e)))
    (λ l. eq-eqb (get_or zs (length xs) 0) b (get_or_at xs b ys 0 (length xs) refl)) in
    ap (λ n. cond (ltb n (length zs)) (Some n) None) at ∙ cond-true _ _ _ (lt-ltb (length xs) (length zs) (omega (arith, long)))
