-- The rules of layers.
use Rattle.std.proofs.Common.{◌≡◌, ℕ, cond, List, Some, None, sym, refl, ap, ◌∙◌, inl, inr, arith}
use Rattle.std.proofs.lemmas.Slice.Eq.{bytes_eq-Decides}
use Rattle.std.specs.Str.{bytes_eq}
use Rattle.store.specs.Places.{Place}
use Rattle.store.proofs.Ruled.{chosen}
use Rattle.layers.specs.Laws.{Laws, Backed}
use Rattle.layers.specs.Layers.{agreed}

same_chosen : (x y b : List ℕ) → x ≡ b → y ≡ b → cond (bytes_eq x y) (Some x) None ≡ Some b
same_chosen x y b ex ey = ap (λ t. cond t (Some x) None) ((bytes_eq-Decides x y).1 (ex ∙ sym ey)) ∙ ap Some ex

never : (b : List ℕ) → ◌≡◌ {A = Place} None (Some b) → ⊥
never b e = let z : ◌≡◌ {A = ℕ} 0 1 = cc in omega arith

backed_by : (x y : Place) (b : List ℕ) → agreed x y ≡ Some b → Backed x y b
backed_by (Some x) (Some y) b e =
    let t = chosen (bytes_eq x y) x b e in
    inl (ap Some t.1, inl (ap Some (sym ((bytes_eq-Decides x y).0 t.0) ∙ t.1)))
backed_by (Some x) None b e = inl (e, inr refl)
backed_by None (Some y) b e = inr (refl, e)
backed_by None None b e = absurd (never b e)

told_same : (x b : List ℕ) → ◌≡◌ {A = Place} (Some x) (Some b) → x ≡ b
told_same x b e = cc

agreed_by : (x y : Place) (b : List ℕ) → Backed x y b → agreed x y ≡ Some b
agreed_by (Some x) (Some y) b (inl (ex, inl ey)) = same_chosen x y b (told_same x b ex) (told_same y b ey)
agreed_by (Some x) (Some y) b (inl (ex, inr ey)) = absurd (never y (sym ey))
agreed_by (Some x) (Some y) b (inr (ex, ey)) = absurd (never x (sym ex))
agreed_by (Some x) None b (inl (ex, h)) = ex
agreed_by (Some x) None b (inr (ex, ey)) = absurd (never x (sym ex))
agreed_by None (Some y) b (inl (ex, h)) = absurd (never b ex)
agreed_by None (Some y) b (inr (ex, ey)) = ey
agreed_by None None b (inl (ex, h)) = absurd (never b ex)
agreed_by None None b (inr (ex, ey)) = ey

pub laws : Laws
laws = record { backed = backed_by; agrees = agreed_by }
