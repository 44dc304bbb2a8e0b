-- chains of checks, each up to its first fault
use Rattle.std.proofs.Common.{◌≡◌, ℕ, zero, suc, ◌+◌, ◌<◌, ◌≤◌, Bool, true, false, cond, List, ◌∷◌, length, get_or, drop, replicate, Some, None, Ok, Err, Option, Result, refl, ap, ◌∙◌, arith}
use Rattle.std.proofs.lemmas.List.{drop_more, drop_all}
use Rattle.image.specs.declared.fault.ImageFault.{ImageFault}
use Rattle.image.specs.Opened.{unless, then}

ok_err : {A E : Type 0} (a : A) (f : E) → ◌≡◌ {A = Result A E} (Err f) (Ok a) → ⊥
ok_err a f e = let z : ◌≡◌ {A = ℕ} 0 1 = cc in omega arith

pub ok_same : {A E : Type 0} (a b : A) → ◌≡◌ {A = Result A E} (Ok a) (Ok b) → a ≡ b
ok_same a b e = cc

pub unless_ok : {F : Type 0} (f : ℕ → ImageFault F) (o : Option ℕ) (u : Unit {0}) → unless f o ≡ Ok u → o ≡ None
unless_ok f None u e = refl
unless_ok f (Some i) u e = absurd (ok_err u (f i) e)

pub then_at : {A B E : Type 0} (a b : Result A E) (f : A → Result B E) → a ≡ b → then a f ≡ then b f
then_at a b f e = ap (λ r. then r f) e

pub then_ok : {A B E : Type 0} (a : Result A E) (f : A → Result B E) (b : B) → then a f ≡ Ok b → (x : A) × (a ≡ Ok x) × (f x ≡ Ok b)
then_ok (Ok x) f b e = (x, refl, e)
then_ok (Err g) f b e = absurd (ok_err b g e)

pub cond_ok : {E : Type 0} (t : Bool) (f : E) (u : Unit {0}) → cond t (Ok tt) (Err f) ≡ Ok u → t ≡ true
cond_ok true f u e = refl
cond_ok false f u e = absurd (ok_err u f e)

-- all that is left is zero
pub zeros_left : (bs : List ℕ) (e n : ℕ) → e + n ≡ length bs → ((j : ℕ) → e ≤ j → j < e + n → get_or bs j 0 ≡ 0) → drop e bs ≡ replicate n 0
zeros_left bs e zero l h = drop_all e bs (omega arith)
zeros_left bs e (suc n) l h =
    drop_more bs e 0 (omega arith) ∙ ap (λ x. x ∷ drop (e + 1) bs) (h e (omega arith) (omega arith))
    ∙ ap (λ xs. 0 ∷ xs) (zeros_left bs (e + 1) n (omega arith) (λ j a b. h j (omega arith) (omega arith)))
