-- A line is cut off at its byte 10, or at the end.
use Rattle.std.proofs.Common.{◌≡◌, ℕ, ◌+◌, ◌-◌, ◌<◌, List, [], ◌∷◌, length, take, drop, Some, None, Option, sym, refl, ap, ◌∙◌, subst, inl, inr, ⊎_elim, arith, length-append}
use Rattle.std.proofs.lemmas.List.{take_rest}
use Rattle.lines.specs.Input.{first_place, cut_at, cut}
use Rattle.lines.specs.Laws.{Cuts}
use Rattle.lines.proofs.Places.{split_at, none_at}

cuts_by : (bs : List ℕ) (o : Option ℕ) → first_place 10 bs ≡ o → Cuts bs (cut_at bs o).0 (cut_at bs o).1
cuts_by bs (Some i) e = let s = split_at 10 bs i e in record { one_line = s.none; whole = inl s.parts }
cuts_by bs None e = record { one_line = none_at 10 bs e; whole = inr (refl, refl) }

-- what is cut off is the first line
pub cuts : (bs line rest : List ℕ) → (line, rest) ≡ cut bs → Cuts bs line rest
cuts bs line rest e =
    subst (λ (p : List ℕ × List ℕ). Cuts bs p.0 p.1) (sym e) (cuts_by bs (first_place 10 bs) refl)

-- with the parts as the program cuts them
pub cut_found : (bs : List ℕ) (i : ℕ) → Some i ≡ first_place 10 bs → (take i bs, take (length bs - (i + 1)) (drop (i + 1) bs)) ≡ cut bs
cut_found bs i e = ap (λ y. (take i bs, y)) (take_rest bs (i + 1)) ∙ ap (cut_at bs) e

pub cut_none : (bs : List ℕ) → None ≡ first_place 10 bs → (bs, []) ≡ cut bs
cut_none bs e = ap (cut_at bs) e

-- what is left is shorter
pub rest_shorter : (bs line rest : List ℕ) → 0 < length bs → Cuts bs line rest → length rest < length bs
rest_shorter bs line rest some c =
    ⊎_elim (λ e. omega (arith, ap length e, length-append line (10 ∷ rest))) (λ e. omega (arith, ap length e.1)) c.whole
