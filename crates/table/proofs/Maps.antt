-- lent cells that hold a map, opened as cells over rows, and closed again
use Rattle.std.proofs.lemmas.Bool.{cases_eq}
use Rattle.std.proofs.Common.{◌≡◌, ◌≢◌, inl, inr, ℕ, ◌-◌, ◌<◌, ◌≤◌, List, ◌++◌, map, length, take, drop, replicate, Some, None, Option, sym, refl, ap, ◌∙◌, subst, arith, length-append}
use lib.ListN.{length-replicate}
use Rattle.std.proofs.lemmas.List.{take_at, drop_at, length-map}
use Rattle.kinds.specs.Kinds.{KeyLaws}
use Rattle.kinds.specs.declared.record.Record.{Record}
use Rattle.layout.specs.Capacity.{capacity, home_at}
use Rattle.layout.specs.Cells.{Rule, Lawful, layout, records_of, filled}
use Rattle.layout.specs.Map.{put, without, get}
use Rattle.layout.specs.Orders.{Ascending}
use Rattle.layout.specs.Places.{Sound}
use Rattle.layout.specs.Views.{View, seen, hash_some}
use Rattle.layout.proofs.Capacities.{capacity_range, capacity_room}
use Rattle.layout.proofs.Layouts.{layout_sound, sound_count}
use Rattle.layout.proofs.Records.{records_layout}
use Rattle.layout.proofs.Views.{layout_seen, ascending_seen, put_seen, without_seen, get_seen, partly_view, partly_key}
use Rattle.maps.specs.Commands.{found, merged, with_pair, without_key}
use Rattle.maps.specs.Maps.{Kinds, record_order, rule, lent, laid, contents, Laid, Lawful as Fits}
use Rattle.cells.specs.Rows.{Cells, row_key, row_order, row_rule}
use Rattle.table.specs.Rows.{held_by, row_merged, cells_with, cells_without}
use Rattle.cells.proofs.Rules.{ordered, lawful_at}

-- the first cap of 1024 cells hold the map as rows, and the others are empty
pub record Opened {K Row V : Type 0} (x : Kinds K Row V) (seed cap : ℕ) (m : List (Record K V)) (cells : List (Option (Record Row V))) : Type 0 where
  pub size : length cells ≡ 1024
  pub most : cap ≤ 1024
  pub long : length (take cap cells) ≡ cap
  pub sound : Cells x seed (take cap cells)
  pub records : records_of (row_order x) (take cap cells) ≡ map (lent x) m
  pub count : filled (take cap cells) ≡ length m
  pub rest : drop cap cells ≡ replicate (1024 - cap) None

module _ {K Row V : Type 0} (x : Kinds K Row V) (laws : KeyLaws x.key) where
  pub keyed : (r : Record K V) → row_key x (lent x r) ≡ Some r.key
  keyed r = laws.rows.back r.key

  pub view : View (record_order x) (row_order x) (lent x)
  view = partly_view (record_order x) (ordered x laws) (row_key x) (lent x) keyed

  -- what the first cap cells hold where they hold the map m
  abbrev pub rows_laid : ℕ → ℕ → List (Record K V) → List (Option (Record Row V))
  rows_laid seed cap m = layout (row_rule x seed cap) (map (lent x) m) ++ replicate (1024 - cap) None

  laid_is : (seed : ℕ) (m : List (Record K V)) → laid x (contents seed m) ≡ rows_laid seed (capacity (length m)) m
  unfolding laid
  laid_is seed m =
      let cap : ℕ = capacity (length m) in
      ap (λ (c : List (Option (Record Row V))). c ++ replicate (1024 - cap) None)
      (sym (layout_seen (lent x) (rule x seed cap) (row_order x) (λ k. home_at cap (hash_some (x.key.hash seed) k)) (λ r. ap (λ o. home_at cap (hash_some (x.key.hash seed) o)) (keyed r)) m))

  pub open_at : (seed cap : ℕ) (m : List (Record K V)) (cells : List (Option (Record Row V))) → Ascending (record_order x) m → length m < cap → cap ≤ 1024
      → cells ≡ rows_laid seed cap m → Opened x seed cap m cells
  open_at seed cap m cells up room most is =
      let rows : List (Record Row V) = map (lent x) m in
      let R : Rule (Record Row V) (Option K) = row_rule x seed cap in
      let L : Lawful R = lawful_at x laws seed cap (omega arith) in
      let n : length rows ≡ length m = length-map m (lent x) in
      let up' : Ascending (row_order x) rows = ascending_seen (record_order x) (row_order x) (lent x) view m up in
      let s : Sound R (layout R rows) = layout_sound R L rows up' (omega (arith, n)) in
      let front : take cap cells ≡ layout R rows = ap (take cap) is ∙ take_at (layout R rows) (replicate (1024 - cap) None) cap s.size in
      let long : length (take cap cells) ≡ cap = ap length front ∙ s.size in
      let s' : Sound R (take cap cells) = subst (Sound R) (sym front) s in
      let back : records_of (row_order x) (take cap cells) ≡ rows = ap (records_of (row_order x)) front ∙ records_layout R L rows up' (omega (arith, n)) in
      record {
        size = ap length is ∙ length-append (layout R rows) (replicate (1024 - cap) None) ∙ omega (arith, s.size, length-replicate {A = Option (Record Row V)} (1024 - cap) None);
        most = most;
        long = long;
        sound = subst (λ (k : ℕ). Sound (row_rule x seed k) (take cap cells)) (sym long) s';
        records = back;
        count = sym (sound_count R L (take cap cells) s') ∙ ap length back ∙ n;
        rest = ap (drop cap) is ∙ drop_at (layout R rows) (replicate (1024 - cap) None) cap s.size;
      }

  pub opened : (seed cap count : ℕ) (m : List (Record K V)) (cells : List (Option (Record Row V))) → Laid x seed m cells → cap ≡ capacity count → count ≡ length m
      → Opened x seed cap m cells
  opened seed cap count m cells h e n =
      let c : capacity (length m) ≡ cap = ap capacity (sym n) ∙ sym e in
      subst (λ (k : ℕ). Opened x seed k m cells) c (open_at seed (capacity (length m)) m cells h.lawful.ascending (capacity_room (length m) h.lawful.few) (capacity_range (length m)).1 (h.is ∙ laid_is seed m))

  pub closed : (seed cap : ℕ) (m : List (Record K V)) (cells : List (Option (Record Row V))) → Fits x (contents seed m) → cap ≡ capacity (length m)
      → cells ≡ rows_laid seed cap m → Laid x seed m cells
  closed seed cap m cells fits e is = record { lawful = fits; is = is ∙ ap (λ (k : ℕ). rows_laid seed k m) e ∙ sym (laid_is seed m) }

  module _ (seed cap : ℕ) (m : List (Record K V)) (cells : List (Option (Record Row V))) (o : Opened x seed cap m cells) where
    -- the record of a key is the map's
    pub found_is : (k : K) → held_by x (Some k) (take cap cells) ≡ seen (lent x) (found x k m)
    found_is k = ap (get (row_order x) (Some k)) o.records ∙ get_seen (record_order x) (row_order x) (lent x) view k (Some k) (partly_key (record_order x) (ordered x laws) (row_key x) (lent x) keyed k) m

    -- laid out anew at another capacity
    pub moved : (wanted : ℕ) (cells' : List (Option (Record Row V)))
        → cells' ≡ layout (row_rule x seed wanted) (records_of (row_order x) (take cap cells)) ++ replicate (length cells - wanted) None
        → cells' ≡ rows_laid seed wanted m
    moved wanted cells' e =
        e
        ∙ ap (λ (n : List (Record Row V)). layout (row_rule x seed wanted) n ++ replicate (length cells - wanted) None) o.records
        ∙ ap (λ (n : ℕ). layout (row_rule x seed wanted) (map (lent x) m) ++ replicate (n - wanted) None) o.size

    -- or left as they are, where they have that capacity
    pub moved_or_kept : (wanted : ℕ) (cells' : List (Option (Record Row V))) → cells ≡ rows_laid seed cap m → (wanted ≡ cap → cells' ≡ cells)
        → (wanted ≢ cap → cells' ≡ layout (row_rule x seed wanted) (records_of (row_order x) (take cap cells)) ++ replicate (length cells - wanted) None)
        → cells' ≡ rows_laid seed wanted m
    moved_or_kept wanted cells' is same other =
        elim (cases_eq wanted cap) [
          | inl q ↦ same q ∙ is ∙ ap (λ (n : ℕ). rows_laid seed n m) (sym q)
          | inr d ↦ moved wanted cells' (other d)
        ]

    pub put_in : (k : K) (v : V) (cells' : List (Option (Record Row V))) → cells' ≡ cells_with x seed (lent x (record { key = k; value = v })) (take cap cells) ++ drop cap cells
        → cells' ≡ rows_laid seed cap (with_pair x k v m)
    put_in k v cells' e =
        e
        ∙ ap (λ (n : ℕ). layout (row_rule x seed n) (put (row_order x) (row_merged x) (lent x (record { key = k; value = v })) (records_of (row_order x) (take cap cells))) ++ drop cap cells) o.long
        ∙ ap (λ (n : List (Record Row V)). layout (row_rule x seed cap) (put (row_order x) (row_merged x) (lent x (record { key = k; value = v })) n) ++ drop cap cells) o.records
        ∙ ap (λ (n : List (Record Row V)). layout (row_rule x seed cap) n ++ drop cap cells) (put_seen (record_order x) (row_order x) (lent x) view (merged x) (row_merged x) (λ a b. refl) (record { key = k; value = v }) m)
        ∙ ap (λ (c : List (Option (Record Row V))). layout (row_rule x seed cap) (map (lent x) (with_pair x k v m)) ++ c) o.rest

    pub taken_out : (k : K) (p : Option K) (cells' : List (Option (Record Row V))) → p ≡ Some k → cells' ≡ cells_without x seed p (take cap cells) ++ drop cap cells
        → cells' ≡ rows_laid seed cap (without_key x k m)
    taken_out k p cells' q e =
        e
        ∙ ap (λ (p : Option K). cells_without x seed p (take cap cells) ++ drop cap cells) q
        ∙ ap (λ (n : ℕ). layout (row_rule x seed n) (without (row_order x) (Some k) (records_of (row_order x) (take cap cells))) ++ drop cap cells) o.long
        ∙ ap (λ (n : List (Record Row V)). layout (row_rule x seed cap) (without (row_order x) (Some k) n) ++ drop cap cells) o.records
        ∙ ap (λ (n : List (Record Row V)). layout (row_rule x seed cap) n ++ drop cap cells) (without_seen (record_order x) (row_order x) (lent x) view k (Some k) (partly_key (record_order x) (ordered x laws) (row_key x) (lent x) keyed k) m)
        ∙ ap (λ (c : List (Option (Record Row V))). layout (row_rule x seed cap) (map (lent x) (without_key x k m)) ++ c) o.rest
