-- The lexical order.
use Rattle.std.specs.Prelude.{◌≡◌, ℕ, ◌<◌, ◌⊎◌, List, [], ◌∷◌, refl}
use Rattle.std.specs.declared.cmp.Ordering.TheVariants.{Less, Equal, Greater}
use Rattle.std.specs.declared.cmp.Ordering.{Ordering}
use Rattle.std.proofs.Common.{sym, ap, subst, inl, inr, arith}
use Rattle.std.proofs.lemmas.Bool.{cases_order}
use Rattle.std.proofs.lemmas.Cmp.{tied_itself}
use Rattle.std.proofs.lemmas.Map.Lookups.{exact_bytes}
use Rattle.std.proofs.lemmas.Bool.Decides.{nat_tests}
use Rattle.std.specs.Cmp.Lexicographic.{slice_cmp, nat_list_cmp_total}
use Rattle.std.specs.Ordering.{ordering_reverse, nat_cmp}
use Rattle.text.specs.Lexical.{Earlier, Lexical}
use Rattle.text.specs.Rows.{lex}

pub lex_same : (xs : List ℕ) → lex xs xs ≡ Equal
lex_same xs = tied_itself nat_list_cmp_total xs

pub lex_equal : (xs ys : List ℕ) → lex xs ys ≡ Equal → xs ≡ ys
lex_equal = exact_bytes

pub lex_turned : (xs ys : List ℕ) → lex ys xs ≡ ordering_reverse (lex xs ys)
lex_turned xs ys = nat_list_cmp_total.antisymm ys xs

pub lex_chain : (xs ys zs : List ℕ) → lex xs ys ≡ Less → lex ys zs ≡ Less → lex xs zs ≡ Less
lex_chain = nat_list_cmp_total.trans

-- what `cmp` of two slices answers
pub lex_from_cmp : (xs ys : List ℕ) (o : Ordering) → o ≡ slice_cmp nat_cmp xs ys → o ≡ lex xs ys
lex_from_cmp xs ys o h = h

-- ---- that order in its own words
with_front : (x : ℕ) (xs ys : List ℕ) → Earlier xs ys → Earlier (x ∷ xs) (x ∷ ys)
with_front x xs ys (inl h) = inl (h.0, h.1, ap (λ l. x ∷ l) h.2)
with_front x xs ys (inr h) = inr (x ∷ h.0, h.1, h.2, h.3, h.4, ap (λ l. x ∷ l) h.5, ap (λ l. x ∷ l) h.6, h.7)

with_front_all : (x : ℕ) (xs ys : List ℕ) (o : Ordering) → Lexical xs ys o → Lexical (x ∷ xs) (x ∷ ys) o
with_front_all x xs ys Less h = with_front x xs ys h
with_front_all x xs ys Equal h = ap (λ l. x ∷ l) h
with_front_all x xs ys Greater h = with_front x ys xs h

lexical_first : (x y : ℕ) (xs ys : List ℕ) → Lexical xs ys (lex xs ys) → (x ≡ y) ⊎ ((x < y) ⊎ (y < x)) → Lexical (x ∷ xs) (y ∷ ys) (lex (x ∷ xs) (y ∷ ys))
lexical_first x y xs ys h (inl e) =
    let o : lex xs ys ≡ lex (x ∷ xs) (y ∷ ys) = grind (arith, nat_tests) in
    subst (λ z. Lexical (x ∷ xs) (z ∷ ys) (lex (x ∷ xs) (y ∷ ys))) e
    (subst (λ r. Lexical (x ∷ xs) (x ∷ ys) r) o (with_front_all x xs ys (lex xs ys) h))
lexical_first x y xs ys h (inr (inl l)) =
    let o : Less ≡ lex (x ∷ xs) (y ∷ ys) = grind (arith, nat_tests) in
    subst (λ r. Lexical (x ∷ xs) (y ∷ ys) r) o (inr ([], x, y, xs, ys, refl, refl, l))
lexical_first x y xs ys h (inr (inr l)) =
    let o : Greater ≡ lex (x ∷ xs) (y ∷ ys) = grind (arith, nat_tests) in
    subst (λ r. Lexical (x ∷ xs) (y ∷ ys) r) o (inr ([], y, x, ys, xs, refl, refl, l))

lexical_lex : (xs ys : List ℕ) → Lexical xs ys (lex xs ys)
lexical_lex [] [] = refl
lexical_lex [] (y ∷ ys) = inl (y, ys, refl)
lexical_lex (x ∷ xs) [] = inl (x, xs, refl)
lexical_lex (x ∷ xs) (y ∷ ys) = lexical_first x y xs ys (lexical_lex xs ys) (cases_order x y)

pub lexical_by : (xs ys : List ℕ) (o : Ordering) → o ≡ lex xs ys → Lexical xs ys o
lexical_by xs ys o e = subst (λ r. Lexical xs ys r) (sym e) (lexical_lex xs ys)
