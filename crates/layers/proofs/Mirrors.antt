-- A mirror's answers from those of its halves.
use Rattle.std.proofs.Common.{◌≡◌, ℕ, ◌<◌, min, cond, List, length, get_or, set, Some, None, Ok, Err, Result, sym, refl, ap, ◌∙◌, arith}
use Rattle.std.proofs.lemmas.Slice.Eq.{bytes_eq-Decides}
use Rattle.std.proofs.lemmas.List.{get_or-set_same, get_or-set_other}
use Rattle.store.specs.Places.{Place}
use Rattle.layers.specs.Layers.{place_of, agreed, mirror_places}
use Rattle.store.specs.Answers.{Answer, read_answer, place_answer}
use Rattle.store.specs.Told.{tells}
use Rattle.store.specs.declared.fault.BlockFault.{Ghosts}
use Rattle.store.proofs.Rows.{get_or_places, set_places}
use Rattle.store.proofs.Told.{within_read, read_block, read_fault}

-- what a read of a block that there is tells of its place
pub place_read : {F : Type 0} (fault : Ghosts F) (r : Result (List ℕ) F) (n : ℕ) (xs : List Place) (i : ℕ) → i < n
    → tells fault r ≡ read_answer n xs i → place_of r ≡ get_or xs i None
place_read fault (Ok b) n xs i lt e = sym (read_block n xs i lt b e)
place_read fault (Err f) n xs i lt e = sym (read_fault n xs i lt _ _ e)

agreed_same : (b : List ℕ) → agreed (Some b) (Some b) ≡ Some b
agreed_same b = ap (λ t. cond t (Some b) None) ((bytes_eq-Decides b b).1 refl)

module _ (l r i : ℕ) (xs ys : List Place) (lt : i < min l r) where
  pub mirror_read : (p q : Place) (a : Answer (List ℕ)) → p ≡ get_or xs i None → q ≡ get_or ys i None → a ≡ place_answer i (agreed p q)
      → a ≡ read_answer (min l r) (mirror_places l r xs ys) i
  mirror_read p q a ep eq ea =
      ea ∙ ap (λ v. place_answer i (agreed v q)) ep ∙ ap (λ v. place_answer i (agreed (get_or xs i None) v)) eq
      ∙ ap (place_answer i) (sym (get_or_places _ _ i None lt)) ∙ sym (within_read _ _ i lt)

-- What the halves show after a write of block i that both take.
pub mirror_after : (l r i : ℕ) (xs ys : List Place) (b : List ℕ) → i < min l r → length xs ≡ l → length ys ≡ r
    → (l' r' : ℕ) (xs' ys' : List Place) → l' ≡ l → r' ≡ r → xs' ≡ set xs i (Some b) → ys' ≡ set ys i (Some b)
    → mirror_places l' r' xs' ys' ≡ set (mirror_places l r xs ys) i (Some b)
mirror_after l r i xs ys b lt sx sy l' r' xs' ys' cl cr ex ey =
    let p : Place = Some b in
    ap (λ v. mirror_places v r' xs' ys') cl ∙ ap (λ v. mirror_places l v xs' ys') cr
    ∙ ap (λ v. mirror_places l r v ys') ex ∙ ap (λ v. mirror_places l r (set xs i p) v) ey
    ∙ set_places _ _ (λ k. agreed (get_or xs k None) (get_or ys k None)) (λ k. agreed (get_or (set xs i p) k None) (get_or (set ys i p) k None)) i p refl lt
    (ap (λ q. agreed q (get_or (set ys i p) i None)) (get_or-set_same xs i p None (omega arith)) ∙ ap (agreed p) (get_or-set_same ys i p None (omega arith)) ∙ agreed_same b)
    (λ k h ne. ap (λ q. agreed q (get_or (set ys i p) k None)) (get_or-set_other xs i k p None ne) ∙ ap (agreed (get_or xs k None)) (get_or-set_other ys i k p None ne))
