-- Records copied out of cells in their order.
use Rattle.std.proofs.Common.{◌≡◌, ℕ, ◌+◌, ◌<◌, ◌≤◌, Bool, true, false, cond, MatchBool, List, [], ◌∷◌, ◌++◌, map, length, get_or, take, drop, set, Some, None, Option, Bor, sym, refl, ap, ◌∙◌, ap₂, subst, arith}
use lib.ListN.{length-map}
use Rattle.std.specs.Iterator.{Yields}
use Rattle.std.specs.Iterator.Adapters.{option_iter_item, option_iter_done, option_iter_steps, OptionIterYieldsItsItem, flatten_source, flatten_front, flatten_back, flatten_done, flatten_steps, enumerate_source, enumerate_count, enumerate_steps}
use Rattle.std.specs.List.{flat_map, enumerate_from}
use Rattle.std.specs.Option.{option_copied, option_len, option_to_list}
use Rattle.std.specs.declared.option.Iter.{OptionIter}
use Rattle.std.proofs.lemmas.Iterator.{YieldsList}
use Rattle.std.proofs.lemmas.Iterator.Adapters.{YieldsList-from_flatten}
use Rattle.std.proofs.lemmas.Iterator.Consumers.{YieldsList-from_shown, YieldsList-from_enumerate, YieldsList-turn, YieldsList-end}
use Rattle.std.proofs.lemmas.List.{take_more, take_all, set_at, drop_more, length-take-le, map-append, append_assoc}
use Rattle.std.proofs.lemmas.List.FromFn.{length-enumerate_from, get_or-enumerate_from}
use Rattle.model.specs.Steps.{in_cells, over_first}

module _ {A : Type 0} where
  -- what a cell gives where it is looked through
  abbrev shown : OptionIter A → List A
  shown j = cond (option_iter_done j) [] (option_to_list (option_iter_item j))

  ended : (done : Bool) (i : Option A) → MatchBool done (◌≡◌ {A = Option (Bor A)} None None) (option_copied None ≡ i) → length (cond done [] (option_to_list i)) ≡ 0
  ended true i m = refl
  ended false i m = ap (λ o. length (option_to_list o)) (sym m)

  gave : (done after : Bool) (i k : Option A) (x : Bor A) → after ≡ true → MatchBool done (Some x ≡ None) (option_copied (Some x) ≡ i)
      → cond done [] (option_to_list i) ≡ x.now ∷ cond after [] (option_to_list k)
  gave true after i k x d m = let z : ◌≡◌ {A = ℕ} 0 1 = cc in absurd (omega arith)
  gave false after i k x d m = ap option_to_list (sym m) ∙ ap (λ b. x.now ∷ cond b [] (option_to_list k)) (sym d)

  cell_gives : (o : Option A) (j : OptionIter A) → option_iter_item j ≡ o → option_iter_done j ≡ false → YieldsList option_iter_steps (λ y. y.now) j (option_to_list o)
  cell_gives o j is new = subst (YieldsList option_iter_steps (λ y. y.now) j) (ap₂ (λ b i. cond b [] (option_to_list i)) new is)
      (YieldsList-from_shown option_iter_steps (λ y. y.now) shown (λ s t e. ended (option_iter_done s) (option_iter_item s) e.1)
      (λ s x t e. gave (option_iter_done s) (option_iter_done t) (option_iter_item s) (option_iter_item t) x e.0 e.1) j)

  looked_through : (cells : List (Option A)) → flat_map option_to_list cells ≡ in_cells cells
  looked_through [] = refl
  looked_through (None ∷ cells) = looked_through cells
  looked_through (Some r ∷ cells) = ap (λ rs. r ∷ rs) (looked_through cells)

  -- how a cell is opened to be looked through
  abbrev opens : Bor (Option A) → OptionIter A → Type 0
  opens x j = (option_iter_item j ≡ x.now) × (option_iter_done j ≡ false) × (cond (option_iter_done j) 0 (option_len (option_iter_item j)) ≤ 1) × OptionIterYieldsItsItem A

  -- the records of the cells, each with its place
  pub records_of : {S : Type 0} {steps : S → Option (Bor (Option A)) → S → Type 0} {s : _} (cells : List (Option A)) → YieldsList steps (λ y. y.now) (flatten_source (enumerate_source s)) cells
      → flatten_front (enumerate_source s) ≡ None → flatten_back (enumerate_source s) ≡ None → flatten_done (enumerate_source s) ≡ false → enumerate_count s ≡ 0
      → YieldsList {B = ℕ × A} (enumerate_steps (flatten_steps steps opens option_iter_steps)) (λ p. (p.0, p.1.now)) s (enumerate_from 0 (in_cells cells))
  records_of {S} {steps} {s} cells road front back done count =
      YieldsList-from_enumerate (subst (YieldsList (flatten_steps steps opens option_iter_steps) (λ y. y.now) (enumerate_source s)) (looked_through cells)
      (YieldsList-from_flatten opens option_iter_steps (λ y. y.now) option_to_list (λ x j o. cell_gives x.now j o.0 o.1) road front back done)) count

  -- the first n records copied
  abbrev pub copied : List A → List (Option A) → ℕ → List (Option A)
  copied rs old n = map Some (take n rs) ++ drop n old

  pub copied_more : (rs : List A) (old : List (Option A)) (n : ℕ) (r : A) → n < length rs → length rs ≤ length old → r ≡ get_or rs n r → set (copied rs old n) n (Some r) ≡ copied rs old (n + 1)
  copied_more rs old n r h room is =
      let size : length (map Some (take n rs)) ≡ n = length-map (take n rs) Some ∙ length-take-le n rs (omega (arith, h)) in
      ap (λ t. set (map Some (take n rs) ++ t) n (Some r)) (drop_more old n None (omega (arith, h, room)))
      ∙ set_at (map Some (take n rs)) (get_or old n None) (drop (n + 1) old) (Some r) n size
      ∙ sym (append_assoc (map Some (take n rs)) (Some r ∷ []) (drop (n + 1) old))
      ∙ ap (λ f. f ++ drop (n + 1) old) (sym (map-append Some (take n rs) (r ∷ [])) ∙ ap (map Some) (sym (take_more rs n r h ∙ ap (λ x. take n rs ++ x ∷ []) (sym is))))

  pub copied_all : (rs : List A) (old : List (Option A)) (n : ℕ) → n ≡ length rs → copied rs old n ≡ over_first (map Some rs) old
  copied_all rs old n e = ap₂ (λ xs k. map Some xs ++ drop k old) (take_all n rs (omega (arith, e))) (e ∙ sym (length-map rs Some))

  -- one turn of a walk over the records with their places
  module _ {S : Type 0} {steps : S → Option (ℕ × Bor A) → S → Type 0} {s : S} (rs : List A) (road : YieldsList {B = ℕ × A} steps (λ p. (p.0, p.1.now)) s (enumerate_from 0 rs))
      (xs : List (ℕ × Bor A)) (t : S) (y : Yields steps s xs t) (r : Option (ℕ × Bor A)) (u : S) where
    pub turn : (x : ℕ × Bor A) → r ≡ Some x → steps t r u → (length xs < length rs) × (x.0 ≡ length xs) × (x.1.now ≡ get_or rs (length xs) x.1.now)
    turn x is step =
        let at = YieldsList-turn road xs t y r u x is step in
        let few : length xs < length rs = omega (arith, at.0, length-enumerate_from 0 rs) in
        let same = at.1 ∙ get_or-enumerate_from 0 rs (length xs) (x.0, x.1.now) few in
        let place : 0 + length xs ≡ length xs = omega arith in
        (few, ap (λ (p : ℕ × A). p.0) same ∙ place, ap (λ (p : ℕ × A). p.1) same)

    pub all_yielded : r ≡ None → steps t r u → length xs ≡ length rs
    all_yielded is step = (YieldsList-end road xs t y r u is step).1 ∙ length-enumerate_from 0 rs
