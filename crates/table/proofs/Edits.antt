-- what became of the map that cells hold, at the end of each command
use Rattle.std.proofs.lemmas.Bool.{cases_eq}
use Rattle.std.proofs.Common.{◌≡◌, ◌≢◌, inl, inr, ℕ, ◌+◌, ◌-◌, ◌<◌, ◌≤◌, Bool, true, false, List, ◌++◌, length, take, drop, set, replicate, Some, None, Option, sym, refl, ap, ◌∙◌, subst, arith}
use Rattle.std.proofs.lemmas.List.{set-append_left, take-append-drop}
use Rattle.std.proofs.lemmas.Bool.{le-leb, lt-leb}
use Rattle.kinds.specs.Kinds.{KeyLaws}
use Rattle.kinds.specs.declared.record.Record.{Record}
use Rattle.layout.specs.Capacity.{capacity}
use Rattle.layout.specs.Cells.{records_of, layout}
use Rattle.layout.specs.Theorems.{MapLaws}
use Rattle.layout.specs.Views.{seen}
use Rattle.layout.proofs.Capacities.{capacity_room}
use Rattle.layout.proofs.Joins.{join_in_place}
use Rattle.layout.proofs.MapLaws.{map_laws}
use Rattle.layout.proofs.Tests.{some_none}
use Rattle.maps.specs.Commands.{found, merged, with_pair, without_key, is_full, put_answer, drop_answer, get_answer, put_after}
use Rattle.maps.specs.Maps.{Kinds, record_order, lent, Laid}
use Rattle.maps.specs.declared.Answer.{Answer}
use Rattle.maps.specs.declared.Answer.TheVariants.{New, Joined, Full, Dropped, Absent, Found}
use Rattle.cells.specs.Rows.{row_order, row_rule}
use Rattle.table.specs.Rows.{Finds, held_by, row_merged, cells_with, cells_without}
use Rattle.cells.proofs.Rules.{ordered, lawful}
use Rattle.table.proofs.Maps.{Opened, open_at, opened, closed, moved, found_is, put_in, taken_out, rows_laid}

seen_none : {R S : Type 0} (f : R → S) (o : Option R) → seen f o ≡ None → o ≡ None
seen_none f None e = refl
seen_none f (Some r) e = absurd (some_none (Some (f r)) (f r) refl e)

seen_some : {R S : Type 0} (f : R → S) (o : Option R) (y : S) → seen f o ≡ Some y → (q : R) × (o ≡ Some q) × (f q ≡ y)
seen_some f None y e = absurd (some_none None y e refl)
seen_some f (Some r) y e = (r, refl, cc)

module _ {K Row V : Type 0} (x : Kinds K Row V) (laws : KeyLaws x.key) where
  maps : MapLaws (record_order x)
  maps = map_laws (record_order x) (ordered x laws)

  module _ (seed count : ℕ) (m : List (Record K V)) (cells : List (Option (Record Row V))) (h : Laid x seed m cells) (n : count ≡ length m) (k : K) where
    -- laid out anew, at a capacity with room
    pub resized : (size wanted : ℕ) → size ≡ capacity count → length m < wanted → wanted ≤ 1024 → (cells₁ : List (Option (Record Row V)))
        → cells₁ ≡ layout (row_rule x seed wanted) (records_of (row_order x) (take size cells)) ++ replicate (length cells - wanted) None
        → Opened x seed wanted m cells₁
    resized size wanted e room most cells₁ is =
        open_at x laws seed wanted m cells₁ h.lawful.ascending room most (moved x laws seed size m cells (opened x laws seed size count m cells h e n) wanted cells₁ is)

    -- or left as they are, where the capacity stays
    pub kept : (size wanted : ℕ) → size ≡ capacity count → wanted ≡ size → (cells₁ : List (Option (Record Row V))) → cells₁ ≡ cells → Opened x seed wanted m cells₁
    kept size wanted e s cells₁ q = subst (Opened x seed wanted m) (sym q) (opened x laws seed wanted count m cells h (s ∙ e) n)

    pub ready : (size wanted : ℕ) → size ≡ capacity count → length m < wanted → wanted ≤ 1024 → (cells₁ : List (Option (Record Row V))) → (wanted ≡ size → cells₁ ≡ cells)
        → (wanted ≢ size → cells₁ ≡ layout (row_rule x seed wanted) (records_of (row_order x) (take size cells)) ++ replicate (length cells - wanted) None)
        → Opened x seed wanted m cells₁
    ready size wanted e room most cells₁ same other =
        elim (cases_eq wanted size) [
          | inl q ↦ kept size wanted e q cells₁ (same q)
          | inr d ↦ resized size wanted e room most cells₁ (other d)
        ]

    module _ (size : ℕ) (e : size ≡ capacity count) where
      o : Opened x seed size m cells
      o = opened x laws seed size count m cells h e n

      pub gone : held_by x (Some k) (take size cells) ≡ None → found x k m ≡ None
      gone none = seen_none (lent x) (found x k m) (sym (found_is x laws seed size m cells o k) ∙ none)

      pub there : (i : ℕ) (y : Record Row V) → Finds x (take size cells) k (Some (i, y)) → (q : Record K V) × (found x k m ≡ Some q) × (lent x q ≡ y)
      there i y f = seen_some (lent x) (found x k m) y (sym (found_is x laws seed size m cells o k) ∙ f.2)

      pub still_gone : held_by x (Some k) (take size cells) ≡ None → (wanted : ℕ) (cells₁ : List (Option (Record Row V))) → Opened x seed wanted m cells₁ → (row : Row) → row ≡ x.key.row k
          → held_by x (x.key.key row) (take wanted cells₁) ≡ None
      still_gone none wanted cells₁ o₁ row r =
          ap (λ (t : Row). held_by x (x.key.key t) (take wanted cells₁)) r
          ∙ ap (λ (p : Option K). held_by x p (take wanted cells₁)) (laws.rows.back k)
          ∙ found_is x laws seed wanted m cells₁ o₁ k
          ∙ ap (seen (lent x)) (gone none)

      pub added : (wanted : ℕ) → wanted ≡ capacity (count + 1) → count < 768 → held_by x (Some k) (take size cells) ≡ None → (cells₁ cells₂ : List (Option (Record Row V)))
          → Opened x seed wanted m cells₁ → (v : V) (row : Row) → row ≡ x.key.row k
          → cells₂ ≡ cells_with x seed (record { key = row; value = v }) (take wanted cells₁) ++ drop wanted cells₁ → Laid x seed (with_pair x k v m) cells₂
      added wanted w few none cells₁ cells₂ o₁ v row r is =
          let longer : length (with_pair x k v m) ≡ length m + 1 = maps.put_new (merged x) (record { key = k; value = v }) m h.lawful.ascending (gone none) in
          closed x laws seed wanted (with_pair x k v m) cells₂
          (record { seed = h.lawful.seed; ascending = maps.put_ascends (merged x) (λ old new e. refl) (record { key = k; value = v }) m h.lawful.ascending; few = omega (arith, longer) })
          (w ∙ ap capacity (let z : count + 1 ≡ length (with_pair x k v m) = omega (arith, longer) in z))
          (put_in x laws seed wanted m cells₁ o₁ k v cells₂ (is ∙ ap (λ (t : Row). cells_with x seed (record { key = t; value = v }) (take wanted cells₁) ++ drop wanted cells₁) r))

      pub longer : held_by x (Some k) (take size cells) ≡ None → (v : V) → count + 1 ≡ length (with_pair x k v m)
      longer none v = omega (arith, maps.put_new (merged x) (record { key = k; value = v }) m h.lawful.ascending (gone none))

      -- the record left behind by a removal
      pub removed : (p : Option K) (cells₁ : List (Option (Record Row V))) (i : ℕ) (y : Record Row V) → Finds x (take size cells) k (Some (i, y)) → p ≡ Some k
          → cells₁ ≡ cells_without x seed p (take size cells) ++ drop size cells
          → (length (without_key x k m) + 1 ≡ length m) × Opened x seed size (without_key x k m) cells₁ × (cells₁ ≡ rows_laid x laws seed size (without_key x k m))
      removed p cells₁ i y f q is =
          let (r, e₁, e₂) = there i y f in
          let shorter : length (without_key x k m) + 1 ≡ length m = maps.without_old k r m h.lawful.ascending e₁ in
          let room : length m < size = subst (λ (c : ℕ). length m < c) (ap capacity (sym n) ∙ sym e) (capacity_room (length m) h.lawful.few) in
          let is' : cells₁ ≡ rows_laid x laws seed size (without_key x k m) = taken_out x laws seed size m cells o k p cells₁ q is in
          (shorter, open_at x laws seed size (without_key x k m) cells₁ (maps.without_ascends k m h.lawful.ascending) (omega arith) o.most is', is')

      pub taken : (wanted : ℕ) → wanted ≡ capacity (count - 1) → length (without_key x k m) + 1 ≡ length m → (cells₂ : List (Option (Record Row V)))
          → cells₂ ≡ rows_laid x laws seed wanted (without_key x k m) → Laid x seed (without_key x k m) cells₂
      taken wanted w shorter cells₂ is =
          closed x laws seed wanted (without_key x k m) cells₂
          (record { seed = h.lawful.seed; ascending = maps.without_ascends k m h.lawful.ascending; few = omega (arith, h.lawful.few) })
          (w ∙ ap capacity (let z : count - 1 ≡ length (without_key x k m) = omega arith in z)) is

      -- Put
      abbrev PutEnds : V → List (Option (Record Row V)) → Answer V → ℕ → Option (Record K V) → Bool → Type 0
      PutEnds v cells' a c f full = Laid x seed (put_after f full m (with_pair x k v m)) cells' × (a ≡ put_answer x v f full) × (c ≡ length (put_after f full m (with_pair x k v m)))

      pub put_joins : (v : V) (i : ℕ) (y : Record Row V) (row : Row) (both : V) → Finds x (take size cells) k (Some (i, y)) → row ≡ x.key.row k → both ≡ x.value.join y.value v
          → (cells' : List (Option (Record Row V))) → cells' ≡ set cells i (Some (record { key = row; value = both }))
          → PutEnds v cells' (Joined both) count (found x k m) (is_full m)
      put_joins v i y row both f r b cells' written =
          let (q, e₁, e₂) = there i y f in
          let same : length (with_pair x k v m) ≡ length m = maps.put_old (merged x) (record { key = k; value = v }) q m h.lawful.ascending e₁ in
          let new : Record Row V = record { key = x.key.row k; value = v } in
          let front : set (take size cells) i (Some (row_merged x y new)) ≡ cells_with x seed new (take size cells) =
          join_in_place (row_rule x seed (length (take size cells))) (lawful x laws seed (take size cells) o.sound) (take size cells) o.sound i y new (row_merged x) (λ old new e. refl) f.0 f.1 (f.3 ∙ sym (laws.rows.back k)) in
          let is : cells' ≡ cells_with x seed new (take size cells) ++ drop size cells =
          written
          ∙ ap (λ (t : Row). set cells i (Some (record { key = t; value = both }))) r
          ∙ ap (λ (t : V). set cells i (Some (record { key = x.key.row k; value = t }))) b
          ∙ ap (λ (c : List (Option (Record Row V))). set c i (Some (row_merged x y new))) (sym (take-append-drop size cells))
          ∙ set-append_left (take size cells) (drop size cells) i (Some (row_merged x y new)) f.0
          ∙ ap (λ (c : List (Option (Record Row V))). c ++ drop size cells) front in
          subst (λ (t : Option (Record K V)). PutEnds v cells' (Joined both) count t (is_full m)) (sym e₁) (
            closed x laws seed size (with_pair x k v m) cells'
                (record { seed = h.lawful.seed; ascending = maps.put_ascends (merged x) (λ old new e. refl) (record { key = k; value = v }) m h.lawful.ascending; few = omega (arith, same, h.lawful.few) })
                (e ∙ ap capacity (n ∙ sym same)) (put_in x laws seed size m cells o k v cells' is),
            ap Joined (b ∙ ap (λ (t : Record Row V). x.value.join t.value v) (sym e₂)),
            n ∙ sym same,
          )

      pub put_full : (v : V) → held_by x (Some k) (take size cells) ≡ None → 768 ≤ count → PutEnds v cells Full count (found x k m) (is_full m)
      put_full v none most =
          let full : is_full m ≡ true = le-leb 768 (length m) (omega arith) in
          subst (λ (t : Option (Record K V)). PutEnds v cells Full count t (is_full m)) (sym (gone none))
          (subst (λ (t : Bool). PutEnds v cells Full count None t) (sym full) (h, refl, n))

      pub put_adds : (v : V) (cells' : List (Option (Record Row V))) → held_by x (Some k) (take size cells) ≡ None → count < 768 → Laid x seed (with_pair x k v m) cells'
          → PutEnds v cells' (New v) (count + 1) (found x k m) (is_full m)
      put_adds v cells' none few laid =
          let room : is_full m ≡ false = lt-leb 768 (length m) (omega arith) in
          let longer : length (with_pair x k v m) ≡ length m + 1 = maps.put_new (merged x) (record { key = k; value = v }) m h.lawful.ascending (gone none) in
          subst (λ (t : Option (Record K V)). PutEnds v cells' (New v) (count + 1) t (is_full m)) (sym (gone none))
          (subst (λ (t : Bool). PutEnds v cells' (New v) (count + 1) None t) (sym room) (laid, refl, omega (arith, longer)))

      -- Drop
      pub drop_takes : (i : ℕ) (y : Record Row V) → Finds x (take size cells) k (Some (i, y)) → (0 < count) × (Dropped y.value ≡ drop_answer (found x k m)) × (count - 1 ≡ length (without_key x k m))
      drop_takes i y f =
          let (q, e₁, e₂) = there i y f in
          let shorter : length (without_key x k m) + 1 ≡ length m = maps.without_old k q m h.lawful.ascending e₁ in
          (omega arith, ap (λ (t : Record Row V). Dropped t.value) (sym e₂) ∙ ap drop_answer (sym e₁), omega arith)

      pub drop_finds_none : held_by x (Some k) (take size cells) ≡ None → Laid x seed (without_key x k m) cells × (Absent ≡ drop_answer (found x k m)) × (count ≡ length (without_key x k m))
      drop_finds_none none =
          let same : without_key x k m ≡ m = maps.without_none k m h.lawful.ascending (gone none) in
          (subst (λ (t : List (Record K V)). Laid x seed t cells) (sym same) h, ap drop_answer (sym (gone none)), n ∙ ap length (sym same))

      -- Get
      pub get_finds : (i : ℕ) (y : Record Row V) → Finds x (take size cells) k (Some (i, y)) → Found y.value ≡ get_answer (found x k m)
      get_finds i y f = let (q, e₁, e₂) = there i y f in ap (λ (t : Record Row V). Found t.value) (sym e₂) ∙ ap get_answer (sym e₁)

      pub get_finds_none : held_by x (Some k) (take size cells) ≡ None → Absent ≡ get_answer (found x k m)
      get_finds_none none = ap get_answer (sym (gone none))
