-- what the two walks over the cells keep, an insertion by carrying on and a removal by shifting back,
-- and what re-laying the records into cells of another capacity keeps
use Rattle.std.specs.Prelude.{◌≡◌, ℕ, ◌-◌, ◌<◌, ◌≤◌, true, ◌≢◌, ◌⊎◌, ◌↔◌, List, length, take, Some, None, Option}
use Rattle.layout.specs.Cells.{Rule, at, distance, from_home, Held, filled}
use Rattle.layout.specs.Places.{earlier, Reach, AllInPlace}

-- an empty cell that, from h on, does not come before cell i: so the walk ends
abbrev pub Gap : {R Key : Type 0} → Rule R Key → List (Option R) → ℕ → ℕ → Type 0
Gap K c h i = (e : ℕ) × (e < K.capacity) × (at c e ≡ None) × (distance K.capacity h i ≤ distance K.capacity h e)

-- an insertion of r₀ into the cells c₀: now the cells are c, the record x is carried, and the walk is at cell i
pub record Carry {R Key : Type 0} (K : Rule R Key) (c₀ : List (Option R)) (r₀ : R) (c : List (Option R)) (x : R) (i : ℕ) : Type 0 where
  pub size : length c ≡ K.capacity
  pub inside : i < K.capacity
  pub all : AllInPlace K c
  -- the carried record would be in place in cell i
  pub reach : Reach K c (K.order.key x) i
  pub fresh : (s : R) → Held K c s → K.order.key s ≢ K.order.key x
  -- the cells and the carried record are the first cells and r₀
  pub held : (s : R) → (Held K c s ⊎ (x ≡ s)) ↔ (Held K c₀ s ⊎ (r₀ ≡ s))
  pub gap : Gap K c (K.home (K.order.key r₀)) i

-- all would be in place if the hole held a key before all others
abbrev pub Hole : {R Key : Type 0} → Rule R Key → List (Option R) → ℕ → Type 0
Hole {R} K c hole = (p : ℕ) (z : R) → p < K.capacity → at c p ≡ Some z → (q : ℕ) → q < K.capacity → q ≢ hole
    → from_home K (K.order.key z) q < from_home K (K.order.key z) p → earlier K (at c q) (K.order.key z) ≡ true

-- no record from the hole up to the one before j has the hole on its way
abbrev pub Passed : {R Key : Type 0} → Rule R Key → List (Option R) → ℕ → ℕ → Type 0
Passed {R} K c hole j = (p : ℕ) (z : R) → p < K.capacity → at c p ≡ Some z → distance K.capacity hole p < distance K.capacity hole j
    → from_home K (K.order.key z) hole < from_home K (K.order.key z) p → ⊥

-- a removal that began with cell start just emptied in the cells c₁: now the cells are c, with a hole, and the walk is at cell j
pub record Shift {R Key : Type 0} (K : Rule R Key) (c₁ : List (Option R)) (start : ℕ) (c : List (Option R)) (hole j : ℕ) : Type 0 where
  pub size : length c ≡ K.capacity
  pub in_start : start < K.capacity
  pub in_hole : hole < K.capacity
  pub in_j : j < K.capacity
  pub none : at c hole ≡ None
  pub but : Hole K c hole
  pub passed : Passed K c hole j
  pub held : (s : R) → Held K c s ↔ Held K c₁ s
  pub gap : Gap K c start j
  pub behind : distance K.capacity start hole < distance K.capacity start j

-- the cells into are all in place and hold what the first i cells of from hold
pub record Gathered {R Key : Type 0} (K : Rule R Key) (from : List (Option R)) (i : ℕ) (into : List (Option R)) : Type 0 where
  pub size : length into ≡ K.capacity
  pub all : AllInPlace K into
  pub count : filled into ≡ filled (take i from)
  pub held : (s : R) → Held K into s ↔ ((p : ℕ) × (p < i) × (at from p ≡ Some s))

-- how many cells lie ahead of a walk round from h that has come to cell i
abbrev pub steps_left : ℕ → ℕ → ℕ → ℕ
steps_left cap h i = cap - distance cap h i

-- a walk from the home of k towards cell i, now at cell j: all passed cells hold strictly earlier keys
abbrev pub Way : {R Key : Type 0} → Rule R Key → List (Option R) → Key → ℕ → ℕ → Type 0
Way K c k i j = (j < K.capacity) × (from_home K k j ≤ from_home K k i) × Reach K c k j
