-- For the proofs of calls: what refusing leaves, what lent pieces then hold, and a sheet's rows one by one.
use Rattle.std.proofs.Common.{◌≡◌, ℕ, suc, ◌<◌, ◌&&◌, List, [], ◌∷◌, ◌++◌, map, length, get_or, take, drop, is_some, Some, Option, sym, refl, ap, ◌∙◌, drop-cons}
use lib.ListN.{length-map}
use Rattle.layout.specs.Capacity.{capacity, power}
use Rattle.maps.specs.Commands.{row_of}
use Rattle.maps.specs.Maps.{Kinds}
use Rattle.maps.specs.declared.Command.{Command}
use Rattle.model.specs.Faults.{Fault}
use Rattle.model.specs.Refusals.{all_keys}
use Rattle.model.specs.Steps.{Refuses, over_first, in_cells}
use Rattle.model.specs.Worlds.{World, Call, Lent, Outcome}

-- a call that leaves world and pieces as they were refuses
pub refuses_untouched : {Row V : Type 0} (w : World Row V) (c : Call Row V) (l : Lent Row V) (f : Fault)
    → Refuses w (record { call = c; lent = l; outcome = Outcome.refused f; after = w; back = l }) f
refuses_untouched w c l f = record { outcome = refl; phase = refl; count = refl; protected = refl; shown = refl; cells = refl; lent = refl }

-- what was written over the first places stands there
pub over_first_front : {A : Type 0} (given places : List A) → take (length given) (over_first given places) ≡ given
over_first_front given places = front given (drop (length given) places)
  where
    front : {A : Type 0} (xs ys : List A) → take (length xs) (xs ++ ys) ≡ xs
    front [] ys = refl
    front (x ∷ xs) ys = ap (λ zs. x ∷ zs) (front xs ys)

in_cells_some : {A : Type 0} (xs : List A) → in_cells (map Some xs) ≡ xs
in_cells_some [] = refl
in_cells_some (x ∷ xs) = ap (λ zs. x ∷ zs) (in_cells_some xs)

pub listed_front : {A : Type 0} (xs : List A) (places : List (Option A)) → in_cells (take (length xs) (over_first (map Some xs) places)) ≡ xs
listed_front xs places =
    ap (λ (n : ℕ). in_cells (take n (over_first (map Some xs) places))) (sym (length-map xs Some))
    ∙ ap in_cells (over_first_front (map Some xs) places) ∙ in_cells_some xs

-- the rows of a sheet from the i-th command on
pub keys_more : {K Row V : Type 0} (x : Kinds K Row V) (sheet : List (Command Row V)) (i : ℕ) (c : Command Row V) → i < length sheet → c ≡ get_or sheet i c
    → all_keys x (drop i sheet) ≡ (is_some (x.key.key (row_of c)) && all_keys x (drop (suc i) sheet))
keys_more x sheet i c h e = ap (all_keys x) (drop-cons sheet i c h ∙ ap (λ d. d ∷ drop (suc i) sheet) (sym e))

-- the capacity that a batch starts with
pub capacity_none : capacity 0 ≡ 8
unfolding capacity power
capacity_none = refl
