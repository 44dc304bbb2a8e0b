-- A sheet of puts, none answered FULL, puts its pairs; their order and repeats do not matter.
use Rattle.std.proofs.Common.{◌≡◌, Bool, true, false, List, [], ◌∷◌, map, Some, None, Option, sym, refl, ap, ◌∙◌, inl, inr}
use Rattle.kinds.specs.Kinds.{KeyLaws, JoinLaws}
use Rattle.kinds.specs.declared.record.Record.{Record}
use Rattle.layout.specs.Orders.{In}
use Rattle.maps.specs.Commands.{found, merged, with_pair, is_full, put_answer, put_after, answer_by, map_after_by, map_after, answers_to, map_after_sheet}
use Rattle.maps.specs.Maps.{Kinds, record_order}
use Rattle.maps.specs.declared.Answer.TheVariants.{Full}
use Rattle.maps.specs.declared.Command.TheVariants.{Put}
use Rattle.model.specs.Claims.{put_of, SamePairs}
use Rattle.model.specs.Sheets.{pair}
use Rattle.model.proofs.Absorb.{do_all, same_all}
use Rattle.model.proofs.Joins.{Joining, put_swap, put_again}
use Rattle.model.proofs.Layouts.{ordered}

-- the join of values joins records of one key; here alone the join's laws are used
merging : {K Row V : Type 0} (x : Kinds K Row V) → JoinLaws x.value.join → Joining (record_order x) (merged x)
merging x v = record {
  keeps = λ a b. refl;
  comm = λ a b e i. record { key = sym e i; value = v.comm a.value b.value i };
  swap = λ z a b e i. record {
    key = e i;
    value = (v.assoc z.value b.value a.value ∙ ap (x.value.join z.value) (v.comm b.value a.value) ∙ sym (v.assoc z.value a.value b.value)) i;
  };
  idem = λ a i. record { key = a.key; value = v.idem a.value i };
  again = λ z a i. record { key = a.key; value = (v.assoc z.value a.value a.value ∙ ap (x.value.join z.value) (v.idem a.value)) i };
}

abbrev put_by : {K Row V : Type 0} → Kinds K Row V → Option K → V → List (Record K V) → List (Record K V)
put_by x (Some k) v m = with_pair x k v m
put_by x None v m = m

-- the pair of a row and a value put
abbrev pub put_row : {K Row V : Type 0} → Kinds K Row V → Record Row V → List (Record K V) → List (Record K V)
put_row x p m = put_by x (x.key.key p.key) p.value m

module _ {K Row V : Type 0} (x : Kinds K Row V) (kl : KeyLaws x.key) (vl : JoinLaws x.value.join) where
  by_swap : (j k : Option K) (u v : V) (m : List (Record K V)) → put_by x j u (put_by x k v m) ≡ put_by x k v (put_by x j u m)
  by_swap (Some j) (Some k) u v m = put_swap (record_order x) (ordered x kl) (merged x) (merging x vl) (pair j u) (pair k v) m
  by_swap (Some j) None u v m = refl
  by_swap None (Some k) u v m = refl
  by_swap None None u v m = refl

  by_again : (k : Option K) (v : V) (m : List (Record K V)) → put_by x k v (put_by x k v m) ≡ put_by x k v m
  by_again (Some k) v m = put_again (record_order x) (ordered x kl) (merged x) (merging x vl) (pair k v) m
  by_again None v m = refl

  pub same_puts : (ps qs : List (Record Row V)) (m : List (Record K V)) → SamePairs ps qs → do_all (put_row x) ps m ≡ do_all (put_row x) qs m
  same_puts ps qs m h =
      same_all (put_row x) (λ a b m. by_swap (x.key.key a.key) (x.key.key b.key) a.value b.value m)
      (λ a m. by_again (x.key.key a.key) a.value m) ps qs m h

module _ {K Row V : Type 0} (x : Kinds K Row V) where
  put_taken : (o : Option (Record K V)) (full : Bool) (v : V) (m n : List (Record K V)) → (put_answer x v o full ≡ Full → ⊥) → put_after o full m n ≡ n
  put_taken (Some old) full v m n h = refl
  put_taken None true v m n h = absurd (h refl)
  put_taken None false v m n h = refl

  one_put : (o : Option K) (r : Row) (v : V) (m : List (Record K V)) → (answer_by x o (Put r v) m ≡ Full → ⊥) → map_after_by x o (Put r v) m ≡ put_by x o v m
  one_put (Some k) r v m h = put_taken (found x k m) (is_full m) v m (with_pair x k v m) h
  one_put None r v m h = refl

  pub sheet_puts : (ps : List (Record Row V)) (m : List (Record K V)) → (In Full (answers_to x (map put_of ps) m) → ⊥)
      → map_after_sheet x (map put_of ps) m ≡ do_all (put_row x) ps m
  unfolding answers_to map_after_sheet
  sheet_puts [] m h = refl
  sheet_puts (p ∷ ps) m h =
      let one = one_put (x.key.key p.key) p.key p.value m (λ e. h (inl e)) in
      sheet_puts ps (map_after x (put_of p) m) (λ i. h (inr i)) ∙ ap (do_all (put_row x) ps) one
