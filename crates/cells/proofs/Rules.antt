-- the rule of rows is lawful, since the kind of the keys is
use Rattle.std.proofs.Common.{◌≡◌, ℕ, ◌<◌, true, false, List, length, get_or, Some, None, Option, Ordering, Less, Equal, Greater, sym, refl, ap, ◌∙◌, subst, arith}
use Rattle.std.specs.Ordering.{is_lt, ordering_reverse}
use Rattle.std.proofs.lemmas.List.{get_or_read}
use Rattle.std.proofs.lemmas.Bool.{both_ways}
use Rattle.kinds.specs.Kinds.{KeyLaws}
use Rattle.kinds.specs.declared.record.Record.{Record}
use Rattle.layout.specs.Capacity.{home_at}
use Rattle.layout.specs.Cells.{Lawful, at}
use Rattle.layout.specs.Views.{hash_some}
use Rattle.layout.specs.Orders.{Ordered}
use Rattle.layout.proofs.Capacities.{hashed_lawful}
use Rattle.layout.proofs.Views.{partly_ordered, hash_some_small}
use Rattle.maps.specs.Maps.{Kinds, record_order}
use Rattle.cells.specs.Rows.{Cells, row_key, row_order, row_rule}

-- what a read of cell i gave
pub read_at : {R : Type 0} (c : List (Option R)) (i : ℕ) (o p : Option R) → i < length c → o ≡ get_or c i o → o ≡ p → at c i ≡ p
read_at c i o p l e q = sym (get_or_read c i o l e None) ∙ q

-- what is nothing but some is none
pub none_of : {R : Type 0} (o : Option R) → ((r : R) → o ≡ Some r → ⊥) → o ≡ None
none_of None w = refl
none_of (Some r) w = absurd (w r refl)

-- a test of a, which is b
pub told : {A B : Type 0} (f : A → B) (a b : A) (v : B) → v ≡ f a → a ≡ b → f b ≡ v
told f a b v e q = ap f (sym q) ∙ sym e

pub told_two : {A B C : Type 0} (f : A → B → C) (a a' : A) (b b' : B) (v : C) → v ≡ f a b → a ≡ a' → b ≡ b' → f a' b' ≡ v
told_two f a a' b b' v e p q = sym (e ∙ ap (λ t. f t b) p ∙ ap (f a') q)

less_is : (o : Ordering) → is_lt o ≡ true → o ≡ Less
less_is Less e = refl
less_is Equal e = absurd (both_ways false refl e)
less_is Greater e = absurd (both_ways false refl e)

neither : (o : Ordering) → is_lt o ≡ false → is_lt (ordering_reverse o) ≡ false → o ≡ Equal
neither Less e f = absurd (both_ways true e refl)
neither Equal e f = refl
neither Greater e f = absurd (both_ways true f refl)

module _ {K Row V : Type 0} (x : Kinds K Row V) (laws : KeyLaws x.key) where
  pub ordered : Ordered (record_order x)
  ordered = record {
    irreflexive = λ k. ap is_lt (laws.orders.same k);
    transitive = λ a b c h g. ap is_lt (laws.orders.chain a b c (less_is (x.key.order a b) h) (less_is (x.key.order b c) g));
    total = λ a b h g. laws.orders.equal a b (neither (x.key.order a b) h (sym (ap is_lt (laws.orders.turned a b)) ∙ g));
  }

  pub rows_ordered : Ordered (row_order x)
  rows_ordered = partly_ordered (record_order x) ordered (row_key x)

  pub lawful_at : (seed cap : ℕ) → 0 < cap → Lawful (row_rule x seed cap)
  lawful_at seed cap pos = hashed_lawful (row_order x) rows_ordered _ (hash_some_small (x.key.hash seed) (laws.hash seed)) cap pos

  pub lawful : (seed : ℕ) (c : List (Option (Record Row V))) → Cells x seed c → Lawful (row_rule x seed (length c))
  lawful seed c s = lawful_at seed (length c) (omega (arith, s.room))

  pub home_inside : (seed : ℕ) (c : List (Option (Record Row V))) → Cells x seed c → (o k : Option K) (h : ℕ)
      → h ≡ home_at (length c) (hash_some (x.key.hash seed) o) → o ≡ k → h < length c
  home_inside seed c s o k h e q = subst (λ (n : ℕ). n < length c) (sym e) ((lawful seed c s).homes o)
