-- a map is the ascending list of its records, so that equal maps are equal lists
use Rattle.std.specs.Prelude.{◌≡◌, cond, List, [], ◌∷◌, Some, None, Option}
use Rattle.layout.specs.Orders.{Order}

-- the record r put: where a record of its key is there, `join old r` stands in its place
unfoldable pub put : {R Key : Type 0} → Order R Key → (R → R → R) → R → List R → List R
put O join r [] = r ∷ []
put O join r (x ∷ xs) =
    let rest = put O join r xs in
    cond (O.before (O.key r) (O.key x)) (r ∷ x ∷ xs) (cond (O.before (O.key x) (O.key r)) (x ∷ rest) (join x r ∷ xs))

-- the map without the record of key k
unfoldable pub without : {R Key : Type 0} → Order R Key → Key → List R → List R
without O k [] = []
without O k (x ∷ xs) =
    let rest = without O k xs in
    cond (O.before k (O.key x)) (x ∷ xs) (cond (O.before (O.key x) k) (x ∷ rest) xs)

-- the record of key k
unfoldable pub get : {R Key : Type 0} → Order R Key → Key → List R → Option R
get O k [] = None
get O k (x ∷ xs) =
    let rest = get O k xs in
    cond (O.before k (O.key x)) None (cond (O.before (O.key x) k) rest (Some x))

-- of two records of one key the later put
abbrev pub newer : {R : Type 0} → R → R → R
newer old new = new

-- what stands for r after it was put on what was there
abbrev pub joined : {R : Type 0} → (R → R → R) → Option R → R → R
joined join None r = r
joined join (Some old) r = join old r

-- records of one key are joined to a record of that key
abbrev pub Keeps : {R Key : Type 0} → Order R Key → (R → R → R) → Type 0
Keeps {R} O join = (old new : R) → O.key old ≡ O.key new → O.key (join old new) ≡ O.key new
