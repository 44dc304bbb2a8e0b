-- lent cells: rows of keys are read back as those keys
use Rattle.std.proofs.Common.{◌≡◌, ℕ, zero, suc, List, [], ◌∷◌, map, is_some, Some, None, Option, sym, refl, ap, ◌∙◌, ap₂}
use mathlib.Core.Path.{fun_ext}
use Rattle.kinds.specs.declared.record.Record.{Record}
use Rattle.layout.specs.Cells.{at}
use Rattle.layout.specs.Views.{seen}
use Rattle.maps.specs.Maps.{Kinds, KindsLaws, lent}
use Rattle.image.specs.Image.{held}
use Rattle.image.specs.Rows.{with_key, keyed, keyed_cells}

pub at_map : {A B : Type 0} (f : Option A → Option B) → f None ≡ None → (cells : List (Option A)) (i : ℕ) → at (map f cells) i ≡ f (at cells i)
at_map f none [] i = sym none
at_map f none (o ∷ cells) zero = refl
at_map f none (o ∷ cells) (suc i) = at_map f none cells i

seen_held : {A B : Type 0} (f : A → B) (o : Option A) → is_some (seen f o) ≡ is_some o
seen_held f None = refl
seen_held f (Some a) = refl

module _ {K Row V : Type 0} (x : Kinds K Row V) where
  -- the same cells hold a record
  pub held_lent : (cells : List (Option (Record K V))) → held (map (seen (lent x)) cells) ≡ held cells
  held_lent cells = fun_ext (λ i. ap is_some (at_map (seen (lent x)) refl cells i) ∙ seen_held (lent x) (at cells i))

  pub at_keyed : (cells : List (Option (Record Row V))) (i : ℕ) → at (keyed_cells x cells) i ≡ keyed x (at cells i)
  at_keyed cells i = at_map (keyed x) refl cells i

  module _ (laws : KindsLaws x) where
    keyed_lent : (o : Option (Record K V)) → keyed x (seen (lent x) o) ≡ o
    keyed_lent None = refl
    keyed_lent (Some r) = ap (with_key r.value) (laws.key.rows.back r.key)

    pub keyed_back : (cells : List (Option (Record K V))) → keyed_cells x (map (seen (lent x)) cells) ≡ cells
    keyed_back [] = refl
    keyed_back (o ∷ cells) = ap₂ (λ y ys. y ∷ ys) (keyed_lent o) (keyed_back cells)
