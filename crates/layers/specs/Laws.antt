-- The rules of layers, above the definitions that the contracts cite.
use Rattle.std.specs.Prelude.{◌≡◌, ℕ, ◌⊎◌, List, Some, None}
use Rattle.store.specs.Places.{Place}
use Rattle.layers.specs.Layers.{agreed}

-- one half shows the block, and the other shows it too or is unreadable
abbrev pub Backed : Place → Place → List ℕ → Type 0
Backed x y b = ((x ≡ Some b) × ((y ≡ Some b) ⊎ (y ≡ None))) ⊎ ((x ≡ None) × (y ≡ Some b))

pub record Laws : Type 0 where
  -- a mirror shows a block exactly when it is backed by its halves
  pub backed : (x y : Place) (b : List ℕ) → agreed x y ≡ Some b → Backed x y b
  pub agrees : (x y : Place) (b : List ℕ) → Backed x y b → agreed x y ≡ Some b
