-- the first number that passes a test
use Rattle.std.proofs.Common.{◌≡◌, ℕ, zero, suc, ◌+◌, ◌-◌, ◌<◌, ◌≤◌, Bool, true, false, cond, is_some, Some, None, Option, sym, refl, ap, ◌∙◌, inl, inr, arith}
use Rattle.std.proofs.lemmas.Bool.{cases_eq, cases_Bool, both_ways, cond-true, cond-false}
use Rattle.layout.specs.Tests.{lowest}

pub some_none : {R : Type 0} (o : Option R) (r : R) → o ≡ Some r → o ≡ None → ⊥
some_none o r e f = let z : ◌≡◌ {A = ℕ} 0 1 = cc in omega arith

pub is_some_false : {R : Type 0} (o : Option R) → is_some o ≡ false → o ≡ None
is_some_false None e = refl
is_some_false (Some x) e = absurd (both_ways true e refl)

pub is_some_true : {R : Type 0} (o : Option R) → is_some o ≡ true → (r : R) × (o ≡ Some r)
is_some_true None e = absurd (both_ways false refl e)
is_some_true (Some r) e = (r, refl)

-- none passes
pub lowest_all : (t : ℕ → Bool) (i n : ℕ) → lowest t i n ≡ None → (j : ℕ) → i ≤ j → j < i + n → t j ≡ false
lowest_all t i zero e j a b = absurd (omega arith)
lowest_all t i (suc n) e j a b =
    elim (cases_Bool (t i)) [
      | inl y ↦ absurd (some_none (Some i) i refl (sym (cond-true (t i) (Some i) (lowest t (i + 1) n) y) ∙ e))
      | inr y ↦ elim (cases_eq i j) [
        | inl s ↦ ap t (sym s) ∙ y
        | inr d ↦ lowest_all t (i + 1) n (sym (cond-false (t i) (Some i) (lowest t (i + 1) n) y) ∙ e) j (omega (arith, d)) (omega arith)
      ]
    ]

pub all_lowest : (t : ℕ → Bool) (i n : ℕ) → ((j : ℕ) → i ≤ j → j < i + n → t j ≡ false) → lowest t i n ≡ None
all_lowest t i zero h = refl
all_lowest t i (suc n) h =
    cond-false (t i) (Some i) (lowest t (i + 1) n) (h i (omega arith) (omega arith)) ∙ all_lowest t (i + 1) n (λ j a b. h j (omega arith) (omega arith))

-- what passes, where it lies, and that none before it passes
pub lowest_some : (t : ℕ → Bool) (i n p : ℕ) → lowest t i n ≡ Some p → (i ≤ p) × (p < i + n) × (t p ≡ true) × ((j : ℕ) → i ≤ j → j < p → t j ≡ false)
lowest_some t i zero p e = absurd (some_none None p e refl)
lowest_some t i (suc n) p e =
    elim (cases_Bool (t i)) [
      | inl y ↦ let s : i ≡ p = (let q : Some i ≡ Some p = sym (cond-true (t i) (Some i) (lowest t (i + 1) n) y) ∙ e in cc) in (omega arith, omega arith, ap t (sym s) ∙ y, λ j a b. absurd (omega arith))
      | inr y ↦ let r = lowest_some t (i + 1) n p (sym (cond-false (t i) (Some i) (lowest t (i + 1) n) y) ∙ e) in
          (omega (arith, r.0), omega (arith, r.1), r.2, λ j a b. elim (cases_eq i j) [ inl s ↦ ap t (sym s) ∙ y | inr d ↦ r.3 j (omega (arith, d)) b ])
    ]

pub some_lowest : (t : ℕ → Bool) (i n p : ℕ) → i ≤ p → p < i + n → t p ≡ true → ((j : ℕ) → i ≤ j → j < p → t j ≡ false) → lowest t i n ≡ Some p
some_lowest t i zero p a b y h = absurd (omega arith)
some_lowest t i (suc n) p a b y h =
    elim (cases_eq i p) [
      | inl s ↦ cond-true (t i) (Some i) (lowest t (i + 1) n) (ap t s ∙ y) ∙ ap Some s
      | inr d ↦ cond-false (t i) (Some i) (lowest t (i + 1) n) (h i (omega arith) (omega (arith, d))) ∙ some_lowest t (i + 1) n p (omega (arith, d)) (omega arith) y (λ j c e. h j (omega arith) e)
    ]

-- one turn of a loop that looks for it, and the loop's end
pub lowest_more : (t : ℕ → Bool) (i n : ℕ) → i < n → lowest t i (n - i) ≡ cond (t i) (Some i) (lowest t (i + 1) (n - (i + 1)))
lowest_more t i n l = let e : n - i ≡ suc (n - (i + 1)) = omega arith in ap (lowest t i) e

pub lowest_end : (t : ℕ → Bool) (i n : ℕ) → n ≤ i → lowest t i (n - i) ≡ None
lowest_end t i n l = let e : n - i ≡ 0 = omega arith in ap (lowest t i) e
