-- A line is read as what it is.
use Rattle.std.proofs.Common.{◌≡◌, ℕ, ◌+◌, ◌-◌, ◌^◌, ◌≤◌, false, eqb, List, [], ◌∷◌, ◌++◌, length, get_or, take, drop, Some, None, decimal, Option, Result, sym, refl, ap, ◌∙◌, subst, ap₂, inl, inr, arith}
use Rattle.std.proofs.lemmas.List.{take_at, take_rest}
use Rattle.std.proofs.lemmas.Grind.{common_steps}
use Rattle.std.proofs.lemmas.Bool.{cases_Bool, eqb-true}
use Rattle.lines.specs.Input.{first_place, key_in, value_in, with_key, with_both, put_at, put_in, seal_in, line_in, or_bad}
use Rattle.lines.specs.Laws.{Spells, Tells, ReadsBack}
use Rattle.lines.specs.declared.input.BadLine.{BadLine}
use Rattle.lines.specs.declared.input.Line.{Line}
use Rattle.lines.specs.declared.input.Line.TheVariants.{Put, Drop, Get, Seal}
use Rattle.lines.proofs.Numbers.{number_writes, writes_number, decimal_writes, digits_no_blank}
use Rattle.lines.proofs.Places.{split_at, place_behind}

-- the command character says how the rest is read
module _ (c : ℕ) (bs : List ℕ) where
  plus_line : c ≡ 43 → line_in (c ∷ bs) ≡ put_in bs
  plus_line e = grind (arith, common_steps)

  minus_line : c ≡ 45 → line_in (c ∷ bs) ≡ with_key Drop (key_in bs)
  minus_line e = grind (arith, common_steps)

  ask_line : c ≡ 63 → line_in (c ∷ bs) ≡ with_key Get (key_in bs)
  ask_line e = grind (arith, common_steps)

  seal_line : c ≡ 61 → line_in (c ∷ bs) ≡ seal_in bs
  seal_line e = grind (arith, common_steps)

-- with the rest of the bytes as the program's match gives it
pub plus_rest : (bs : List ℕ) → 1 ≤ length bs → get_or bs 0 0 ≡ 43 → line_in bs ≡ put_in (take (length bs - 1) (drop 1 bs))
plus_rest [] l e = absurd (omega arith)
plus_rest (c ∷ bs) l e = plus_line c bs e ∙ ap put_in (sym (take_rest (c ∷ bs) 1))

with_key_from : (make : ℕ → Line) (o : Option ℕ) (l : Line) → with_key make o ≡ Some l → (k : ℕ) × (o ≡ Some k) × (make k ≡ l)
with_key_from make (Some k) l e = (k, refl, cc)
with_key_from make None l e = grind (arith, common_steps)

with_both_from : (o p : Option ℕ) (l : Line) → with_both o p ≡ Some l → (k : ℕ) × (v : ℕ) × (o ≡ Some k) × (p ≡ Some v) × (Put k v ≡ l)
with_both_from (Some k) p l e = let f = with_key_from (Put k) p l e in (k, f.0, refl, f.1, f.2)
with_both_from None p l e = grind (arith, common_steps)

put_spells : (bs : List ℕ) (o : Option ℕ) (l : Line) → first_place 32 bs ≡ o → put_at bs o ≡ Some l → Spells l (43 ∷ bs)
put_spells bs (Some i) l f e =
    let b = with_both_from (key_in (take i bs)) (value_in (drop (i + 1) bs)) l e in
    let s = split_at 32 bs i f in
    subst (λ (x : Line). Spells x (43 ∷ bs)) b.4
    (take i bs, drop (i + 1) bs, number_writes (2 ^ 32) b.0 (take i bs) b.2, number_writes (2 ^ 16) b.1 (drop (i + 1) bs) b.3, ap (λ x. 43 ∷ x) s.parts)
put_spells bs None l f e = grind (arith, common_steps)

seal_spells : (bs : List ℕ) (l : Line) → seal_in bs ≡ Some l → Spells l (61 ∷ bs)
seal_spells [] l e = let seal_is : Seal ≡ l = cc in subst (λ (x : Line). Spells x (61 ∷ [])) seal_is refl
seal_spells (b ∷ bs) l e = grind (arith, common_steps)

-- what is read is what the bytes spell
line_spells : (bs : List ℕ) (l : Line) → line_in bs ≡ Some l → Spells l bs
line_spells [] l e = grind (arith, common_steps)
line_spells (c ∷ bs) l e = elim (cases_Bool (eqb c 43)) [
  | inl t ↦ plus (eqb-true c 43 t)
  | inr f ↦ elim (cases_Bool (eqb c 45)) [
    | inl t ↦ minus (eqb-true c 45 t)
    | inr g ↦ elim (cases_Bool (eqb c 63)) [
      | inl t ↦ ask (eqb-true c 63 t)
      | inr h ↦ elim (cases_Bool (eqb c 61)) [ inl t ↦ seal (eqb-true c 61 t) | inr i ↦ absurd (other f g h i) ]
    ]
  ]
]
  where
    plus : c ≡ 43 → Spells l (c ∷ bs)
    plus t = subst (λ x. Spells l (x ∷ bs)) (sym t) (put_spells bs (first_place 32 bs) l refl (sym (plus_line c bs t) ∙ e))

    minus : c ≡ 45 → Spells l (c ∷ bs)
    minus t =
        let k = with_key_from Drop (key_in bs) l (sym (minus_line c bs t) ∙ e) in
        subst (λ (x : Line). Spells x (c ∷ bs)) k.2 (bs, number_writes (2 ^ 32) k.0 bs k.1, ap (λ x. x ∷ bs) t)

    ask : c ≡ 63 → Spells l (c ∷ bs)
    ask t =
        let k = with_key_from Get (key_in bs) l (sym (ask_line c bs t) ∙ e) in
        subst (λ (x : Line). Spells x (c ∷ bs)) k.2 (bs, number_writes (2 ^ 32) k.0 bs k.1, ap (λ x. x ∷ bs) t)

    seal : c ≡ 61 → Spells l (c ∷ bs)
    seal t = subst (λ x. Spells l (x ∷ bs)) (sym t) (seal_spells bs l (sym (seal_line c bs t) ∙ e))

    other : eqb c 43 ≡ false → eqb c 45 ≡ false → eqb c 63 ≡ false → eqb c 61 ≡ false → ⊥
    other f g h i = grind (arith, common_steps)

-- and what they spell is read
spells_line : (l : Line) (bs : List ℕ) → Spells l bs → line_in bs ≡ Some l
spells_line (Put k v) bs s =
    let ks = s.0 in
    let vs = s.1 in
    let n = length ks in
    let f : first_place 32 (ks ++ 32 ∷ vs) ≡ Some n = place_behind 32 ks vs (digits_no_blank ks s.2.digits) in
    let t : take n (ks ++ 32 ∷ vs) ≡ ks = take_at ks (32 ∷ vs) n refl in
    let d : drop (n + 1) (ks ++ 32 ∷ vs) ≡ vs = drop_behind ks 32 vs in
    ap line_in s.4 ∙ ap (put_at (ks ++ 32 ∷ vs)) f
    ∙ ap₂ with_both (ap key_in t ∙ writes_number (2 ^ 32) k ks s.2) (ap value_in d ∙ writes_number (2 ^ 16) v vs s.3)
  where
    drop_behind : (xs : List ℕ) (y : ℕ) (ys : List ℕ) → drop (length xs + 1) (xs ++ y ∷ ys) ≡ ys
    drop_behind [] y ys = refl
    drop_behind (x ∷ xs) y ys = grind (arith, common_steps, drop_behind xs y ys)
spells_line (Drop k) bs s = ap line_in s.2 ∙ ap (with_key Drop) (writes_number (2 ^ 32) k s.0 s.1)
spells_line (Get k) bs s = ap line_in s.2 ∙ ap (with_key Get) (writes_number (2 ^ 32) k s.0 s.1)
spells_line Seal bs s = ap line_in s

tells_by : (bs : List ℕ) (o : Option Line) → line_in bs ≡ o → Tells bs (or_bad o)
tells_by bs (Some l) e = line_spells bs l e
tells_by bs None e = λ l s. let m : Some l ≡ None = sym (spells_line l bs s) ∙ e in grind (arith, common_steps)

pub tells : (bs : List ℕ) (r : Result Line BadLine) → r ≡ or_bad (line_in bs) → Tells bs r
tells bs r e = subst (λ (x : Result Line BadLine). Tells bs x) (sym e) (tells_by bs (line_in bs) refl)

pub reads_back : ReadsBack
reads_back (Put k v) h = spells_line (Put k v) _ (decimal k, decimal v, decimal_writes (2 ^ 32) k (omega arith) h.0, decimal_writes (2 ^ 16) v (omega arith) h.1, refl)
reads_back (Drop k) h = spells_line (Drop k) _ (decimal k, decimal_writes (2 ^ 32) k (omega arith) h, refl)
reads_back (Get k) h = spells_line (Get k) _ (decimal k, decimal_writes (2 ^ 32) k (omega arith) h, refl)
reads_back Seal h = spells_line Seal _ refl
