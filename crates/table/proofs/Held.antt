-- what tells that cells hold a map: tests of them, which have one proof at most
use Rattle.std.proofs.Common.{◌≡◌, ℕ, ◌-◌, ◌^◌, ◌<◌, ◌≤◌, true, List, [], ◌∷◌, ◌++◌, map, length, take, drop, replicate, is_some, Some, None, Option, sym, refl, ap, ◌∙◌, subst, inl, inr, arith}
use Rattle.std.proofs.Props.{props}
use Rattle.std.proofs.Math.Logic.{∥∥₁_elim}
use Rattle.std.proofs.lemmas.List.{take-append-drop, length-take-le, length-drop, length-map}
use Rattle.kinds.specs.Kinds.{KeyLaws}
use Rattle.kinds.specs.declared.record.Record.{Record}
use Rattle.layout.specs.Capacity.{capacity}
use Rattle.layout.specs.Cells.{Lawful, at, filled, layout, records_of}
use Rattle.layout.specs.Orders.{In, Ascending}
use Rattle.layout.specs.Places.{first_out, AllInPlace}
use Rattle.layout.specs.Views.{hash_some}
use Rattle.layout.proofs.Capacities.{capacity_range}
use Rattle.layout.proofs.Laid.{filled_none}
use Rattle.layout.proofs.Layouts.{own_layout, sound_distinct}
use Rattle.layout.proofs.Orders.{all_from_in}
use Rattle.layout.proofs.Places.{first_out_none}
use Rattle.layout.proofs.Records.{Distinct, distinct, records_in, records_count, records_ascending}
use Rattle.layout.proofs.Views.{unseen, ascending_unseen, hash_some_small}
use Rattle.maps.specs.Maps.{Kinds, record_order, lent}
use Rattle.cells.specs.Rows.{row_key, row_order, row_rule}
use Rattle.cells.proofs.Rules.{ordered, rows_ordered, lawful, lawful_at}
use Rattle.table.specs.Runs.{Stores}
use Rattle.table.proofs.Maps.{opened, closed, keyed, view}

-- cells none of which is filled are empty
none_filled : {R : Type 0} (c : List (Option R)) → filled c ≡ 0 → c ≡ replicate (length c) None
none_filled [] e = refl
none_filled (None ∷ c) e = ap (λ t. None ∷ t) (none_filled c e)
none_filled (Some r ∷ c) e = absurd (omega arith)

in_map : {R S : Type 0} (f : R → S) (s : S) (m : List R) → In s (map f m) → (r : R) × (f r ≡ s)
in_map f s [] i = absurd i
in_map f s (r ∷ m) (inl e) = (r, e)
in_map f s (r ∷ m) (inr i) = in_map f s m i

module _ {K Row V : Type 0} (x : Kinds K Row V) (laws : KeyLaws x.key) (seed count size : ℕ) (cells : List (Option (Record Row V))) where
  pub record Tests : Type 0 where
    pub front : filled (take size cells) ≡ count
    pub rest : filled (drop size cells) ≡ 0
    pub keyed : (i : ℕ) (s : Record Row V) → at (take size cells) i ≡ Some s → is_some (row_key x s) ≡ true
    pub placed : first_out (row_rule x seed (length (take size cells))) (take size cells) ≡ None

  pub passes : size ≡ capacity count → Stores x seed count cells → Tests
  passes e (m, h, n) =
      let o = opened x laws seed size count m cells h e n in
      let L = lawful x laws seed (take size cells) o.sound in
      record {
        front = o.count ∙ sym n;
        rest = ap filled o.rest ∙ filled_none (Record Row V) (1024 - size);
        keyed = λ i s is.
            (let (r, q) = in_map (lent x) s m (subst (In s) o.records ((records_in (row_order x) (rows_ordered x laws) (take size cells) (sound_distinct _ L (take size cells) o.sound) s).1 (i, is))) in
            ap (λ (t : Record Row V). is_some (row_key x t)) (sym q) ∙ ap is_some (keyed x laws r));
        placed = (first_out_none (row_rule x seed (length (take size cells))) (take size cells)).1 o.sound.all;
      }

  pub stored : size ≡ capacity count → length cells ≡ 1024 → count ≤ 768 → seed < 2 ^ 32 → Tests → Stores x seed count cells
  stored e long few small t =
      let fits : size ≤ length cells = omega (arith, (capacity_range count).1) in
      let c : List (Option (Record Row V)) = take size cells in
      let is-long : length c ≡ size = length-take-le size cells fits in
      let all : AllInPlace (row_rule x seed (length c)) c = (first_out_none (row_rule x seed (length c)) c).0 t.placed in
      let L : Lawful (row_rule x seed (length c)) = lawful_at x laws seed (length c) (omega (arith, (capacity_range count).0)) in
      let apart : Distinct (row_order x) c = distinct (row_rule x seed (length c)) L c refl all in
      let n : List (Record Row V) = records_of (row_order x) c in
      let counted : length n ≡ count = records_count (row_order x) (rows_ordered x laws) c apart ∙ t.front in
      let is : c ≡ layout (row_rule x seed (capacity (length n))) n =
      own_layout (row_order x) (rows_ordered x laws) (hash_some (x.key.hash seed)) (hash_some_small (x.key.hash seed) (laws.hash seed)) c (omega (arith, t.front)) (is-long ∙ e ∙ ap capacity (sym t.front)) all in
      let (m, q) = unseen (record_order x) (ordered x laws) (row_key x) (lent x) (keyed x laws) (λ s k w. (record { key = k; value = s.value }, ap (λ (r : Row). record { key = r; value = s.value }) (laws.rows.only s.key k w))) n
      (all_from_in (λ s. is_some (row_key x s) ≡ true) n (λ s i. (let (p, w) = (records_in (row_order x) (rows_ordered x laws) c apart s).0 i in t.keyed p s w))) in
      let len : length m ≡ count = sym (length-map m (lent x)) ∙ ap length q ∙ counted in
      let up : Ascending (record_order x) m = ascending_unseen (record_order x) (row_order x) (lent x) (view x laws) m (subst (Ascending (row_order x)) (sym q) (records_ascending (row_order x) (rows_ordered x laws) c)) in
      let rest : drop size cells ≡ replicate (1024 - size) None = none_filled (drop size cells) t.rest ∙ ap (λ (k : ℕ). replicate k None) (length-drop size cells ∙ ap (λ (k : ℕ). k - size) long) in (
        m,
        closed x laws seed size m cells (record { seed = small; ascending = up; few = omega (arith, len) }) (e ∙ ap capacity (sym len))
            (sym (take-append-drop size cells)
            ∙ ap (λ (d : List (Option (Record Row V))). d ++ drop size cells) (is ∙ ap (λ (k : ℕ). layout (row_rule x seed k) n) (ap capacity counted ∙ sym e) ∙ ap (layout (row_rule x seed size)) (sym q))
            ∙ ap (λ (d : List (Option (Record Row V))). layout (row_rule x seed size) (map (lent x) m) ++ d) rest),
        sym len,
      )

module _ {K Row V : Type 0} (x : Kinds K Row V) (laws : KeyLaws x.key) (seed count : ℕ) (cells : List (Option (Record Row V))) where
  record Facts : Type 0 where
    pub long : length cells ≡ 1024
    pub few : count ≤ 768
    pub small : seed < 2 ^ 32
    pub tests : Tests x laws seed count (capacity count) cells

  facts : Stores x seed count cells → Facts
  facts (m, h, n) = record {
    long = (opened x laws seed (capacity count) count m cells h refl n).size;
    few = omega (arith, h.lawful.few, n);
    small = h.lawful.seed;
    tests = passes x laws seed count (capacity count) cells refl (m, h, n);
  }

  -- the map that cells hold can be told from them
  pub held : ∥ Stores x seed count cells ∥₁ → Stores x seed count cells
  held t = let f : Facts = ∥∥₁_elim t (Prim.hlevel props) facts in stored x laws seed count (capacity count) cells refl f.long f.few f.small f.tests
