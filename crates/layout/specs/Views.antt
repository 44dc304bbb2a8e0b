-- one map seen in two ways, as where cells hold the plain rows of the map's keys
use Rattle.std.specs.Prelude.{◌≡◌, ℕ, Bool, true, false, Some, None, Option}
use Rattle.layout.specs.Orders.{Order}

-- what a cell holds, seen by f
abbrev pub seen : {R S : Type 0} → (R → S) → Option R → Option S
seen f None = None
seen f (Some r) = Some (f r)

-- the order P of records seen by f is that of the records themselves
pub record View {R S Key Seen : Type 0} (O : Order R Key) (P : Order S Seen) (f : R → S) : Type 0 where
  pub before : (a b : R) → P.before (P.key (f a)) (P.key (f b)) ≡ O.before (O.key a) (O.key b)

-- p stands for the key k among the records seen
pub record SeenKey {R S Key Seen : Type 0} (O : Order R Key) (P : Order S Seen) (f : R → S) (k : Key) (p : Seen) : Type 0 where
  pub before : (r : R) → P.before p (P.key (f r)) ≡ O.before k (O.key r)
  pub behind : (r : R) → P.before (P.key (f r)) p ≡ O.before (O.key r) k

-- the order where some records have no key: such come first
abbrev pub before_some : {Key : Type 0} → (Key → Key → Bool) → Option Key → Option Key → Bool
before_some before None None = false
before_some before None (Some k) = true
before_some before (Some j) None = false
before_some before (Some j) (Some k) = before j k

abbrev pub partly : {R S Key : Type 0} → Order R Key → (S → Option Key) → Order S (Option Key)
partly O key = record { key = key; before = before_some O.before }

abbrev pub hash_some : {Key : Type 0} → (Key → ℕ) → Option Key → ℕ
hash_some hash None = 0
hash_some hash (Some k) = hash k
