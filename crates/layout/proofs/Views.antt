-- maps and layouts of records seen in another way are the maps and layouts seen that way
use Rattle.std.proofs.Common.{◌≡◌, ℕ, zero, suc, ◌^◌, ◌<◌, Bool, true, false, cond, List, [], ◌∷◌, map, length, replicate, is_some, Some, None, Option, sym, refl, ap, ◌∙◌, lit<}
use Rattle.std.proofs.lemmas.Bool.{both_ways}
use Rattle.std.proofs.lemmas.List.{map-set, length-map}
use Rattle.layout.specs.Orders.{Order, Ordered, All, Precedes, Ascending}
use Rattle.layout.specs.Map.{put, without, get, newer}
use Rattle.layout.specs.Capacity.{capacity, home_at}
use Rattle.layout.specs.Cells.{Rule, hashed, at, next, free, place, places, layout, map_layout, records_of, filled}
use Rattle.layout.specs.Views.{seen, View, SeenKey, before_some, partly, hash_some}
use Rattle.layout.proofs.Tests.{is_some_true}

module _ {R S : Type 0} (f : R → S) where
  at_seen : (c : List (Option R)) (i : ℕ) → at (map (seen f) c) i ≡ seen f (at c i)
  at_seen [] i = refl
  at_seen (o ∷ c) zero = refl
  at_seen (o ∷ c) (suc i) = at_seen c i

  seen_some : (o : Option R) → is_some (seen f o) ≡ is_some o
  seen_some None = refl
  seen_some (Some r) = refl

  free_seen : (cap : ℕ) (c : List (Option R)) (n i : ℕ) → free cap (map (seen f) c) n i ≡ free cap c n i
  unfolding free
  free_seen cap c zero i = refl
  free_seen cap c (suc n) i = rw (at_seen c i, seen_some (at c i), free_seen cap c n (next cap i))

  none_seen : (n : ℕ) → map (seen f) (replicate n None) ≡ replicate n None
  none_seen zero = refl
  none_seen (suc n) = ap (λ (c : List (Option S)). None ∷ c) (none_seen n)

  pub filled_seen : (c : List (Option R)) → filled (map (seen f) c) ≡ filled c
  filled_seen [] = refl
  filled_seen (None ∷ c) = filled_seen c
  filled_seen (Some r ∷ c) = ap suc (filled_seen c)

  module _ {Key Seen : Type 0} (K : Rule R Key) (P : Order S Seen) (home : Seen → ℕ) (homes : (r : R) → home (P.key (f r)) ≡ K.home (K.order.key r)) where
    abbrev J : Rule S Seen
    J = record { order = P; capacity = K.capacity; home = home }

    place_seen : (c : List (Option R)) (r : R) → place J (map (seen f) c) (f r) ≡ map (seen f) (place K c r)
    unfolding place
    place_seen c r =
        rw (homes r, free_seen K.capacity c K.capacity (K.home (K.order.key r)))
        (sym (map-set (seen f) c (free K.capacity c K.capacity (K.home (K.order.key r))) (Some r)))

    places_seen : (m : List R) (c : List (Option R)) → places J (map (seen f) c) (map f m) ≡ map (seen f) (places K c m)
    unfolding places
    places_seen [] c = refl
    places_seen (r ∷ m) c = ap (λ (d : List (Option S)). places J d (map f m)) (place_seen c r) ∙ places_seen m (place K c r)

    -- where the homes are the same, so are the layouts
    pub layout_seen : (m : List R) → layout J (map f m) ≡ map (seen f) (layout K m)
    unfolding layout
    layout_seen m = ap (λ c. places J c (map f m)) (sym (none_seen K.capacity)) ∙ places_seen m (replicate K.capacity None)

module _ {R S Key Seen : Type 0} (O : Order R Key) (P : Order S Seen) (f : R → S) (view : View O P f) where
  pub put_seen : (join : R → R → R) (joins : S → S → S) → ((a b : R) → joins (f a) (f b) ≡ f (join a b)) → (r : R) (m : List R)
      → put P joins (f r) (map f m) ≡ map f (put O join r m)
  unfolding put
  put_seen join joins same r [] = refl
  put_seen join joins same r (x ∷ xs) =
      rw (view.before r x, view.before x r, put_seen join joins same r xs, same x r)
      (go (O.before (O.key r) (O.key x)) (O.before (O.key x) (O.key r)))
    where
      go : (a b : Bool)
          → cond a (f r ∷ f x ∷ map f xs) (cond b (f x ∷ map f (put O join r xs)) (f (join x r) ∷ map f xs)) ≡ map f (cond a (r ∷ x ∷ xs) (cond b (x ∷ put O join r xs) (join x r ∷ xs)))
      go true b = refl
      go false true = refl
      go false false = refl

  all_seen : (x : R) (xs : List R) → All (Precedes O x) xs → All (λ y. P.before (P.key (f x)) (P.key y) ≡ true) (map f xs)
  all_seen x [] all = tt
  all_seen x (y ∷ ys) all = (view.before x y ∙ all.0, all_seen x ys all.1)

  pub ascending_seen : (m : List R) → Ascending O m → Ascending P (map f m)
  ascending_seen [] up = tt
  ascending_seen (x ∷ xs) up = (all_seen x xs up.0, ascending_seen xs up.1)

  pub records_seen : (c : List (Option R)) → records_of P (map (seen f) c) ≡ map f (records_of O c)
  unfolding records_of
  records_seen [] = refl
  records_seen (None ∷ c) = records_seen c
  records_seen (Some r ∷ c) = rw (records_seen c) (put_seen newer newer (λ a b. refl) r (records_of O c))

  module _ (k : Key) (p : Seen) (key : SeenKey O P f k p) where
    pub without_seen : (m : List R) → without P p (map f m) ≡ map f (without O k m)
    unfolding without
    without_seen [] = refl
    without_seen (x ∷ xs) = rw (key.before x, key.behind x, without_seen xs) (go (O.before k (O.key x)) (O.before (O.key x) k))
      where
        go : (a b : Bool)
            → cond a (f x ∷ map f xs) (cond b (f x ∷ map f (without O k xs)) (map f xs)) ≡ map f (cond a (x ∷ xs) (cond b (x ∷ without O k xs) xs))
        go true b = refl
        go false true = refl
        go false false = refl

    pub get_seen : (m : List R) → get P p (map f m) ≡ seen f (get O k m)
    unfolding get
    get_seen [] = refl
    get_seen (x ∷ xs) = rw (key.before x, key.behind x, get_seen xs) (go (O.before k (O.key x)) (O.before (O.key x) k))
      where
        go : (a b : Bool) → cond a None (cond b (seen f (get O k xs)) (Some (f x))) ≡ seen f (cond a None (cond b (get O k xs) (Some x)))
        go true b = refl
        go false true = refl
        go false false = refl

  all_unseen : (x : R) (xs : List R) → All (Precedes P (f x)) (map f xs) → All (Precedes O x) xs
  all_unseen x [] all = tt
  all_unseen x (y ∷ ys) all = (sym (view.before x y) ∙ all.0, all_unseen x ys all.1)

  pub ascending_unseen : (m : List R) → Ascending P (map f m) → Ascending O m
  ascending_unseen [] up = tt
  ascending_unseen (x ∷ xs) up = (all_unseen x xs up.0, ascending_unseen xs up.1)

-- where some of the records seen have no key
pub hash_some_small : {Key : Type 0} (hash : Key → ℕ) → ((k : Key) → hash k < 2 ^ 32) → (k : Option Key) → hash_some hash k < 2 ^ 32
hash_some_small hash small None = lit< tt
hash_some_small hash small (Some k) = small k

module _ {R S Key : Type 0} (O : Order R Key) (L : Ordered O) (key : S → Option Key) where
  pub partly_ordered : Ordered (partly O key)
  partly_ordered = record { irreflexive = never; transitive = chain; total = apart }
    where
      never : (k : Option Key) → before_some O.before k k ≡ false
      never None = refl
      never (Some k) = L.irreflexive k

      chain : (a b c : Option Key) → before_some O.before a b ≡ true → before_some O.before b c ≡ true → before_some O.before a c ≡ true
      chain None None c h g = g
      chain None (Some b) None h g = g
      chain None (Some b) (Some c) h g = refl
      chain (Some a) None c h g = absurd (both_ways false refl h)
      chain (Some a) (Some b) None h g = g
      chain (Some a) (Some b) (Some c) h g = L.transitive a b c h g

      apart : (a b : Option Key) → before_some O.before a b ≡ false → before_some O.before b a ≡ false → a ≡ b
      apart None None h g = refl
      apart None (Some b) h g = absurd (both_ways true h refl)
      apart (Some a) None h g = absurd (both_ways true g refl)
      apart (Some a) (Some b) h g = ap Some (L.total a b h g)

  module _ (f : R → S) (keyed : (r : R) → key (f r) ≡ Some (O.key r)) where
    pub partly_view : View O (partly O key) f
    partly_view = record { before = λ a b. rw (keyed a, keyed b) }

    pub partly_key : (k : Key) → SeenKey O (partly O key) f k (Some k)
    partly_key k = record { before = λ r. rw (keyed r); behind = λ r. rw (keyed r) }

    -- the layout in cells that hold what f makes of the records
    pub map_layout_seen : (hash : Key → ℕ) (m : List R) → map_layout (partly O key) (hash_some hash) (map f m) ≡ map (seen f) (map_layout O hash m)
    map_layout_seen hash m =
        ap (λ (n : ℕ). layout (hashed (partly O key) (hash_some hash) (capacity n)) (map f m)) (length-map m f)
        ∙ layout_seen f (hashed O hash (capacity (length m))) (partly O key) (λ k. home_at (capacity (length m)) (hash_some hash k)) (λ r. rw (keyed r)) m

    -- records that all have keys are what f makes of some
    pub unseen : ((s : S) (k : Key) → key s ≡ Some k → (r : R) × (f r ≡ s)) → (n : List S) → All (λ s. is_some (key s) ≡ true) n → (m : List R) × (map f m ≡ n)
    unseen back [] all = ([], refl)
    unseen back (s ∷ n) all =
        let (k, e) = is_some_true (key s) all.0 in
        let (r, q) = back s k e in
        let (m, w) = unseen back n all.1 in
        (r ∷ m, ap (λ (x : S). x ∷ map f m) q ∙ ap (λ (xs : List S). s ∷ xs) w)
