-- cells that hold the rows of keys: which are out of place among the rows are so among the keys
use Rattle.std.proofs.Common.{◌≡◌, ℕ, zero, suc, ◌+◌, Bool, not, ◌&&◌, List, [], ◌∷◌, map, is_some, Some, None, Option, nat_lt, refl, ap, ◌∙◌}
use Rattle.kinds.specs.Kinds.{KeyLaws}
use Rattle.kinds.specs.declared.record.Record.{Record}
use Rattle.layout.specs.Cells.{Rule, at, from_home}
use Rattle.layout.specs.Places.{earlier, bars, barred, misplaced, out_of_place, first_out}
use Rattle.layout.specs.Tests.{lowest}
use Rattle.layout.specs.Views.{seen}
use Rattle.maps.specs.Maps.{Kinds, lent, rule}
use Rattle.cells.specs.Rows.{row_key, row_rule}

-- tests that say the same of each number have the same first one
lowest_same : (t u : ℕ → Bool) → ((i : ℕ) → t i ≡ u i) → (i n : ℕ) → lowest t i n ≡ lowest u i n
lowest_same t u same i zero = refl
lowest_same t u same i (suc n) = rw (same i, lowest_same t u same (i + 1) n)

at_seen : {R S : Type 0} (f : R → S) (c : List (Option R)) (i : ℕ) → at (map (seen f) c) i ≡ seen f (at c i)
at_seen f [] i = refl
at_seen f (o ∷ c) zero = refl
at_seen f (o ∷ c) (suc i) = at_seen f c i

module _ {K Row V : Type 0} (x : Kinds K Row V) (laws : KeyLaws x.key) (seed cap : ℕ) (c : List (Option (Record K V))) where
  abbrev J : Rule (Record K V) K
  J = rule x seed cap

  abbrev R : Rule (Record Row V) (Option K)
  R = row_rule x seed cap

  abbrev rows : List (Option (Record Row V))
  rows = map (seen (lent x)) c

  keyed : (r : Record K V) → row_key x (lent x r) ≡ Some r.key
  keyed r = laws.rows.back r.key

  earlier_lent : (o : Option (Record K V)) (k : K) → earlier R (seen (lent x) o) (Some k) ≡ earlier J o k
  earlier_lent None k = refl
  earlier_lent (Some r) k = rw (keyed r)

  barred_lent : (k : K) (i : ℕ) → barred R rows (Some k) i ≡ barred J c k i
  barred_lent k i =
      ap is_some (lowest_same (bars R rows (Some k) i) (bars J c k i)
      (λ j. ap (λ b. nat_lt (from_home J k j) (from_home J k i) && not b) (ap (λ o. earlier R o (Some k)) (at_seen (lent x) c j) ∙ earlier_lent (at c j) k)) 0 cap)

  misplaced_lent : (i : ℕ) (o : Option (Record K V)) → misplaced R rows i (seen (lent x) o) ≡ misplaced J c i o
  misplaced_lent i None = refl
  misplaced_lent i (Some r) = ap (λ k. barred R rows k i) (keyed r) ∙ barred_lent r.key i

  out_lent : (i : ℕ) → out_of_place R rows i ≡ out_of_place J c i
  unfolding out_of_place
  out_lent i = ap (misplaced R rows i) (at_seen (lent x) c i) ∙ misplaced_lent i (at c i)

  pub first_out_lent : first_out (row_rule x seed cap) (map (seen (lent x)) c) ≡ first_out (rule x seed cap) c
  first_out_lent = lowest_same (out_of_place R rows) (out_of_place J c) out_lent 0 cap
