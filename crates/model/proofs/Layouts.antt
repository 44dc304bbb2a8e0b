-- The layout in lent cells: how many cells it has, that it is of one map, and what it lists.
use Rattle.std.proofs.Common.{◌≡◌, ℕ, zero, suc, ◌-◌, true, false, ◌↔◌, List, [], ◌∷◌, ◌++◌, map, length, replicate, Some, None, Option, Ordering, Less, Equal, Greater, sym, refl, ap, ◌∙◌, subst, inl, inr, arith, length-append}
use lib.ListN.{length-map, length-replicate}
use Rattle.std.proofs.lemmas.List.{append_cancel_right}
use Rattle.std.specs.Ordering.{is_lt, ordering_reverse}
use Rattle.kinds.specs.Kinds.{KeyLaws}
use Rattle.kinds.specs.declared.record.Record.{Record}
use Rattle.layout.specs.Capacity.{capacity, power}
use Rattle.layout.specs.Cells.{at, places, layout, filled}
use Rattle.layout.specs.Orders.{Ordered, In}
use Rattle.layout.specs.Theorems.{MapLayoutLaws}
use Rattle.layout.specs.Views.{seen}
use Rattle.layout.proofs.Capacities.{capacity_range}
use Rattle.layout.proofs.Gathers.{filled_append}
use Rattle.layout.proofs.Laid.{filled_none}
use Rattle.layout.proofs.Layouts.{map_layout_good, map_layout_laws}
use Rattle.layout.proofs.Records.{some_inside}
use Rattle.layout.proofs.Views.{filled_seen}
use Rattle.maps.specs.Maps.{Kinds, Contents, contents, Lawful, record_order, lent, cells_of, laid, Laid}
use Rattle.model.specs.Sheets.{ListingLaws}
use Rattle.model.specs.Steps.{empty, in_cells, listing, LaidFor}
use Rattle.model.specs.Worlds.{Batch}

lt_less : (o : Ordering) → is_lt o ≡ true → o ≡ Less
lt_less Less e = refl
lt_less Equal e = let z : ◌≡◌ {A = ℕ} 0 1 = cc in absurd (omega arith)
lt_less Greater e = let z : ◌≡◌ {A = ℕ} 0 1 = cc in absurd (omega arith)

neither_equal : (o : Ordering) → is_lt o ≡ false → is_lt (ordering_reverse o) ≡ false → o ≡ Equal
neither_equal Less e f = let z : ◌≡◌ {A = ℕ} 0 1 = cc in absurd (omega arith)
neither_equal Equal e f = refl
neither_equal Greater e f = let z : ◌≡◌ {A = ℕ} 0 1 = cc in absurd (omega arith)

map_apart : {A B : Type 0} (f : A → B) → ((a b : A) → f a ≡ f b → a ≡ b) → (xs ys : List A) → map f xs ≡ map f ys → xs ≡ ys
map_apart f h [] [] e = refl
map_apart f h [] (b ∷ ys) e = let z : ◌≡◌ {A = ℕ} 0 1 = cc in absurd (omega arith)
map_apart f h (a ∷ xs) [] e = let z : ◌≡◌ {A = ℕ} 0 1 = cc in absurd (omega arith)
map_apart f h (a ∷ xs) (b ∷ ys) e =
    let p : f a ≡ f b = cc in
    let q : map f xs ≡ map f ys = cc in
    let r = h a b p in
    let s = map_apart f h xs ys q in
    cc

seen_apart : {A B : Type 0} (f : A → B) → ((a b : A) → f a ≡ f b → a ≡ b) → (a b : Option A) → seen f a ≡ seen f b → a ≡ b
seen_apart f h None None e = refl
seen_apart f h None (Some b) e = let z : ◌≡◌ {A = ℕ} 0 1 = cc in absurd (omega arith)
seen_apart f h (Some a) None e = let z : ◌≡◌ {A = ℕ} 0 1 = cc in absurd (omega arith)
seen_apart f h (Some a) (Some b) e = let p : f a ≡ f b = cc in ap Some (h a b p)

module _ {K Row V : Type 0} (x : Kinds K Row V) (l : KeyLaws x.key) where
  -- the keys' order is a strict total one
  pub ordered : Ordered (record_order x)
  ordered = record {
    irreflexive = λ a. ap is_lt (l.orders.same a);
    transitive = λ a b c p q. ap is_lt (l.orders.chain a b c (lt_less (x.key.order a b) p) (lt_less (x.key.order b c) q));
    total = λ a b p q. l.orders.equal a b (neither_equal (x.key.order a b) p (sym (ap is_lt (l.orders.turned a b)) ∙ q));
  }

  row_apart : (a b : K) → x.key.row a ≡ x.key.row b → a ≡ b
  row_apart a b e = let h : Some a ≡ Some b = sym (l.rows.back a) ∙ ap x.key.key e ∙ l.rows.back b in cc

  -- a record as lent memory holds it is of one record
  pub lent_apart : (a b : Record K V) → lent x a ≡ lent x b → a ≡ b
  lent_apart a b e =
      let p = row_apart a.key b.key (ap (λ (r : Record Row V). r.key) e) in
      let q : a.value ≡ b.value = ap (λ (r : Record Row V). r.value) e in
      λ i. record { key = p i; value = q i }

  layouts : (seed : ℕ) → MapLayoutLaws (record_order x) (x.key.hash seed) 768
  layouts seed = map_layout_laws (record_order x) ordered (x.key.hash seed) (l.hash seed)

  cells_length : (h : Contents K V) → Lawful x h → length (cells_of x h) ≡ capacity (length h.records)
  cells_length h w = (map_layout_good (record_order x) ordered (x.key.hash h.seed) (l.hash h.seed) h.records w.ascending w.few).size

  pub laid_length : (h : Contents K V) → Lawful x h → length (laid x h) ≡ 1024
  unfolding laid
  laid_length h w =
      let rest = 1024 - capacity (length h.records) in
      let a = length-append (map (seen (lent x)) (cells_of x h)) (replicate rest None) in
      let b = length-map (cells_of x h) (seen (lent x)) in
      let c = length-replicate {A = Option (Record Row V)} rest None in
      omega (arith, (capacity_range (length h.records)).1, cells_length h w)

  -- as many cells are filled as there are records
  pub laid_filled : (h : Contents K V) → Lawful x h → filled (laid x h) ≡ length h.records
  unfolding laid
  laid_filled h w =
      let rest = 1024 - capacity (length h.records) in
      let a = filled_append (map (seen (lent x)) (cells_of x h)) (replicate rest None) in
      let b = filled_seen (lent x) (cells_of x h) in
      let c = filled_none (Record Row V) rest in
      let d = (layouts h.seed).count h.records w.ascending w.few in
      omega arith

  -- the layout of no record
  pub laid_empty : (seed : ℕ) → laid x (contents seed []) ≡ empty 1024
  unfolding laid layout places capacity power
  laid_empty seed = refl

  -- cells are the layout of one map
  pub laid_once : (seed : ℕ) (m n : List (Record K V)) (cells : List (Option (Record Row V))) → Laid x seed m cells → Laid x seed n cells → m ≡ n
  unfolding laid
  laid_once seed m n cells g h =
      let same : length n ≡ length m = sym (laid_filled (contents seed n) h.lawful) ∙ ap filled (sym h.is ∙ g.is) ∙ laid_filled (contents seed m) g.lawful in
      let rest : List (Option (Record Row V)) = replicate (1024 - capacity (length m)) None in
      let e : laid x (contents seed m) ≡ map (seen (lent x)) (cells_of x (contents seed n)) ++ rest =
      sym g.is ∙ h.is ∙ ap (λ (k : ℕ). map (seen (lent x)) (cells_of x (contents seed n)) ++ replicate (1024 - capacity k) None) same in
      (layouts seed).one_map m n g.lawful.ascending h.lawful.ascending g.lawful.few h.lawful.few
      (map_apart (seen (lent x)) (seen_apart (lent x) lent_apart) (cells_of x (contents seed m)) (cells_of x (contents seed n))
      (append_cancel_right (map (seen (lent x)) (cells_of x (contents seed m))) (map (seen (lent x)) (cells_of x (contents seed n))) rest e))

  pub laid_for_once : (b : Batch) (m n : List (Record K V)) (cells : List (Option (Record Row V))) → LaidFor x b m cells → LaidFor x b n cells → m ≡ n
  laid_for_once b m n cells g h = laid_once b.seed m n cells g.laid h.laid

in_filled : {A : Type 0} (c : List (Option A)) → length (in_cells c) ≡ filled c
in_filled [] = refl
in_filled (None ∷ c) = in_filled c
in_filled (Some r ∷ c) = ap suc (in_filled c)

-- what is in cells is in some cell
in_cells_at : {A : Type 0} (c : List (Option A)) (r : A) → In r (in_cells c) → (i : ℕ) × (at c i ≡ Some r)
in_cells_at [] r i = absurd i
in_cells_at (None ∷ c) r i = let h = in_cells_at c r i in (suc h.0, h.1)
in_cells_at (Some s ∷ c) r (inl e) = (0, ap Some e)
in_cells_at (Some s ∷ c) r (inr i) = let h = in_cells_at c r i in (suc h.0, h.1)

at_in_cells : {A : Type 0} (c : List (Option A)) (r : A) (i : ℕ) → at c i ≡ Some r → In r (in_cells c)
at_in_cells [] r i e = let z : ◌≡◌ {A = ℕ} 0 1 = cc in absurd (omega arith)
at_in_cells (None ∷ c) r zero e = let z : ◌≡◌ {A = ℕ} 0 1 = cc in absurd (omega arith)
at_in_cells (None ∷ c) r (suc i) e = at_in_cells c r i e
at_in_cells (Some s ∷ c) r zero e = let p : s ≡ r = cc in inl p
at_in_cells (Some s ∷ c) r (suc i) e = inr (at_in_cells c r i e)

-- empty cells behind add nothing, and rows stand in the order of their records
in_cells_none : (A : Type 0) (n : ℕ) → in_cells {A = A} (replicate n None) ≡ []
in_cells_none A zero = refl
in_cells_none A (suc n) = in_cells_none A n

in_cells_seen : {A B : Type 0} (f : A → B) (c : List (Option A)) (n : ℕ) → in_cells (map (seen f) c ++ replicate n None) ≡ map f (in_cells c)
in_cells_seen {A} {B} f [] n = in_cells_none B n
in_cells_seen f (None ∷ c) n = in_cells_seen f c n
in_cells_seen f (Some r ∷ c) n = ap (λ zs. f r ∷ zs) (in_cells_seen f c n)

in_map_from : {A B : Type 0} (f : A → B) (xs : List A) (p : B) → In p (map f xs) → (r : A) × In r xs × (f r ≡ p)
in_map_from f [] p i = absurd i
in_map_from f (y ∷ xs) p (inl e) = (y, inl refl, e)
in_map_from f (y ∷ xs) p (inr i) = let h = in_map_from f xs p i in (h.0, inr h.1, h.2)

in_map_to : {A B : Type 0} (f : A → B) (xs : List A) (r : A) → In r xs → In (f r) (map f xs)
in_map_to f [] r i = absurd i
in_map_to f (y ∷ xs) r (inl e) = inl (ap f e)
in_map_to f (y ∷ xs) r (inr i) = inr (in_map_to f xs r i)

module _ {K Row V : Type 0} (x : Kinds K Row V) (l : KeyLaws x.key) where
  listing_is : (h : Contents K V) → listing x h ≡ map (lent x) (in_cells (cells_of x h))
  unfolding laid
  listing_is h = in_cells_seen (lent x) (cells_of x h) (1024 - capacity (length h.records))

  in_layout : (h : Contents K V) → Lawful x h → (r : Record K V) → In r (in_cells (cells_of x h)) ↔ In r h.records
  in_layout h w r =
      let g = map_layout_good (record_order x) (ordered x l) (x.key.hash h.seed) (l.hash h.seed) h.records w.ascending w.few in (
        (λ i. let p = in_cells_at (cells_of x h) r i in (g.held r).0 (p.0, omega (arith, some_inside (cells_of x h) p.0 r p.1, g.size), p.1)),
        (λ i. let p = (g.held r).1 i in at_in_cells (cells_of x h) r p.0 p.2),
      )

  listed_records : (h : Contents K V) → Lawful x h → (p : Record Row V) → In p (listing x h) ↔ ((r : Record K V) × In r h.records × (lent x r ≡ p))
  listed_records h w p = (
    (λ i. let t = in_map_from (lent x) (in_cells (cells_of x h)) p (subst (In p) (listing_is h) i) in (t.0, (in_layout h w t.0).0 t.1, t.2)),
    (λ (r, i, e). subst (λ q. In q (listing x h)) e (subst (In (lent x r)) (sym (listing_is h)) (in_map_to (lent x) (in_cells (cells_of x h)) r ((in_layout h w r).1 i)))),
  )

  pub listing_laws : ListingLaws x
  listing_laws = record {
    count = λ h w. in_filled (laid x h) ∙ laid_filled x l h w;
    records = listed_records;
  }
