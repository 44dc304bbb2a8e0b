-- The rules of stores.
use Rattle.std.proofs.Common.{◌≡◌, ℕ, Bool, true, false, cond, ltb, ◌≢◌, List, get_or, take, drop, set, Some, None, sym, refl, ap, ◌∙◌, arith}
use Rattle.std.proofs.lemmas.Slice.Eq.{bytes_eq-Decides}
use Rattle.std.proofs.lemmas.List.{get_or-set_same, get_or-set_other}
use Rattle.std.proofs.lemmas.Bool.{le-ltb}
use Rattle.std.specs.Str.{bytes_eq}
use Rattle.store.specs.Laws.{Laws}
use Rattle.store.specs.Lent.{block_at}
use Rattle.store.specs.Places.{Place}
use Rattle.store.specs.Sums.{sums}
use Rattle.store.proofs.Told.{taken}

either_way : (t locked : Bool) (xs : List Place) (i k : ℕ) (p : Place) → k ≢ i → get_or (cond t (cond locked xs (set xs i p)) xs) k None ≡ get_or xs k None
either_way true true xs i k p ne = refl
either_way true false xs i k p ne = get_or-set_other xs i k p None ne
either_way false locked xs i k p ne = refl

no_way : (t : Bool) (xs ys : List Place) → cond t (cond true xs ys) xs ≡ xs
no_way true xs ys = refl
no_way false xs ys = refl

-- a test that chose a block came out true
pub chosen : (t : Bool) (x b : List ℕ) → cond t (Some x) None ≡ Some b → (t ≡ true) × (x ≡ b)
chosen true x b e = (refl, cc)
chosen false x b e = let z : ◌≡◌ {A = ℕ} 0 1 = cc in absurd (omega arith)

pub laws : Laws
laws = record {
  shows = λ n xs i b sized lt. ap (λ v. get_or v i None) (taken n false i lt xs (set xs i (Some b)) refl) ∙ get_or-set_same xs i (Some b) None (omega arith);
  alone = λ n locked xs i k b ne. either_way (ltb i n) locked xs i k (Some b) ne;
  beyond = λ n locked xs i b le. ap (λ t. cond t (cond locked xs (set xs i (Some b))) xs) (le-ltb i n le);
  shut = λ n xs i b. no_way (ltb i n) xs (set xs i (Some b));
  summed = λ part b e.
      let t = chosen (bytes_eq (take 2 (drop 32 part)) (sums (block_at part 0))) (block_at part 0) b e in
      (sym t.1, (bytes_eq-Decides (take 2 (drop 32 part)) (sums (block_at part 0))).0 t.0 ∙ ap sums t.1);
  readable = λ part b eb es. ap (λ t. cond t (Some (block_at part 0)) None) ((bytes_eq-Decides (take 2 (drop 32 part)) (sums (block_at part 0))).1 (es ∙ ap sums eb)) ∙ ap Some (sym eb);
}
