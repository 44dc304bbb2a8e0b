-- A kind of key and a kind of value: what each gives, and the laws that it has to show. All that stands above knows a kind by these alone.
use Rattle.std.specs.Prelude.{◌≡◌, ℕ, ◌^◌, ◌<◌, List, Some, Option}
use Rattle.std.specs.declared.cmp.Ordering.TheVariants.{Less, Equal}
use Rattle.std.specs.declared.cmp.Ordering.{Ordering}
use Rattle.std.specs.Ordering.{ordering_reverse}
use Rattle.kinds.specs.Codes.{CodeLaws}

pub record KeyKind (K Row : Type 0) : Type 0 where
  pub number : ℕ
  pub code : K → List ℕ
  -- the key whose code stands at the front of some bytes, with the length of that code
  pub front : List ℕ → Option (K × ℕ)
  pub order : K → K → Ordering
  -- under a seed of 32 bits
  pub hash : ℕ → K → ℕ
  -- what lent memory holds of a key, and the key of what it holds, if it is one's
  pub row : K → Row
  pub key : Row → Option K

pub record ValueKind (V : Type 0) : Type 0 where
  pub number : ℕ
  pub code : V → List ℕ
  pub front : List ℕ → Option (V × ℕ)
  pub join : V → V → V

-- The order is total and antisymmetric (`turned`), transitive (`chain`), and says 'equal' of equal keys only.
pub record OrderLaws {K : Type 0} (order : K → K → Ordering) : Type 0 where
  pub same : (k : K) → order k k ≡ Equal
  pub equal : (j k : K) → order j k ≡ Equal → j ≡ k
  pub turned : (j k : K) → order k j ≡ ordering_reverse (order j k)
  pub chain : (i j k : K) → order i j ≡ Less → order j k ≡ Less → order i k ≡ Less

-- Each key has its own row, and a row is a key's exactly where `key` gives that key.
pub record RowLaws {K Row : Type 0} (row : K → Row) (key : Row → Option K) : Type 0 where
  pub back : (k : K) → key (row k) ≡ Some k
  pub only : (r : Row) (k : K) → key r ≡ Some k → row k ≡ r

-- That the hash depends on seed and code alone needs no law of its own: keys with equal codes are equal.
pub record KeyLaws {K Row : Type 0} (kind : KeyKind K Row) : Type 0 where
  pub number : kind.number < 256
  pub codes : CodeLaws 25 kind.code kind.front
  pub orders : OrderLaws kind.order
  pub hash : (seed : ℕ) (k : K) → kind.hash seed k < 2 ^ 32
  pub rows : RowLaws kind.row kind.key

pub record JoinLaws {V : Type 0} (join : V → V → V) : Type 0 where
  pub assoc : (x y z : V) → join (join x y) z ≡ join x (join y z)
  pub comm : (x y : V) → join x y ≡ join y x
  pub idem : (x : V) → join x x ≡ x

pub record ValueLaws {V : Type 0} (kind : ValueKind V) : Type 0 where
  pub number : kind.number < 256
  pub codes : CodeLaws 10 kind.code kind.front
  pub joins : JoinLaws kind.join
