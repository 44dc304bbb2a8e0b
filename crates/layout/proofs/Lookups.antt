-- a lookup, against the map that the cells hold
use Rattle.std.proofs.Common.{◌≡◌, ℕ, ◌<◌, true, false, ◌≢◌, List, Some, None, Option, refl, arith}
use Rattle.layout.specs.Map.{get}
use Rattle.layout.specs.Cells.{Rule, Lawful, at, next, from_home, records_of, Held}
use Rattle.layout.specs.Places.{earlier, Reach, Sound}
use Rattle.layout.specs.Walks.{steps_left}
use Rattle.layout.proofs.Orders.{irrefl, asym, not_before}
use Rattle.layout.proofs.Tests.{some_none}
use Rattle.layout.proofs.Round.{distance_lt, next_lt, distance_next}
use Rattle.layout.proofs.Maps.{get_in, get_out}
use Rattle.layout.proofs.Steps.{reach_home, ahead, reach_next, absent}
use Rattle.layout.proofs.Laid.{vacancy}
use Rattle.layout.proofs.Records.{records_ascending, records_held}

module _ {R Key : Type 0} (K : Rule R Key) (L : Lawful K) (c : List (Option R)) (s : Sound K c) where
  -- the record of a cell is the map's
  pub look_held : (i : ℕ) (r : R) → i < K.capacity → at c i ≡ Some r → get K.order (K.order.key r) (records_of K.order c) ≡ Some r
  look_held i r l is = get_in K.order L.ordered (K.order.key r) (records_of K.order c) (records_ascending K.order L.ordered c) r ((records_held K L c s.size s.all r).0 (i, l, is)) refl

  -- no cell holds a key that the map has not
  pub not_held : (k : Key) → get K.order k (records_of K.order c) ≡ None → (r : R) → Held K c r → K.order.key r ≢ k
  not_held k none r (i, l, is) q = some_none (get K.order k (records_of K.order c)) r (rw q at (look_held i r l is)) none

  module _ (k : Key) where
    pub look_start : (i : ℕ) → i ≡ K.home k → (i < K.capacity) × Reach K c k i
    look_start i e = rw e (L.homes k, reach_home K L c k)

    module _ (i : ℕ) (l : i < K.capacity) where
      -- the key is found
      pub look_here : (r : R) → at c i ≡ Some r → K.order.before (K.order.key r) k ≡ false → K.order.before k (K.order.key r) ≡ false
          → (K.order.key r ≡ k) × (get K.order k (records_of K.order c) ≡ Some r)
      look_here r is f g = let q : K.order.key r ≡ k = L.ordered.total (K.order.key r) k f g in (q, rw q at (look_held i r l is))

      module _ (reach : Reach K c k i) where
        gone : earlier K (at c i) k ≡ false → ((s : R) → at c i ≡ Some s → K.order.key s ≡ k → ⊥) → get K.order k (records_of K.order c) ≡ None
        gone later other = get_out K.order L.ordered k (records_of K.order c) (λ q h w. absent K L c k i s.all l reach later other q ((records_held K L c s.size s.all q).1 h) w)

        -- an empty cell ends it
        pub look_empty : at c i ≡ None → get K.order k (records_of K.order c) ≡ None
        look_empty is = gone (rw is) (λ q f w. some_none (at c i) q f is)

        -- and so does a later key
        pub look_later : (r : R) → at c i ≡ Some r → K.order.before k (K.order.key r) ≡ true → get K.order k (records_of K.order c) ≡ None
        look_later r is t =
            gone (rw is (not_before K.order L.ordered (K.order.key r) k (λ u. asym K.order L.ordered k (K.order.key r) t u)))
            (λ q f w. let z : r ≡ q = cc in irrefl K.order L.ordered k (rw (z, w) at t))

        -- an earlier key sends it on
        pub look_on : (r : R) → at c i ≡ Some r → K.order.before (K.order.key r) k ≡ true → (n : ℕ) → n ≡ next K.capacity i
            → (n < K.capacity) × Reach K c k n × (steps_left K.capacity (K.home k) n < steps_left K.capacity (K.home k) i)
        look_on r is t n q =
            let (e, le, none) = vacancy c (omega (arith, s.size, s.room)) in
            let le' : e < K.capacity = omega (arith, le, s.size) in
            let here : earlier K (at c i) k ≡ true = rw is t in
            let far : from_home K k i < from_home K k e = ahead K L c k i e l le' none reach here in
            let top : from_home K k e < K.capacity = distance_lt K.capacity (K.home k) e (L.homes k) le' in
            rw q (next_lt K.capacity i l, reach_next K L c k i e l le' none reach here, omega (arith, distance_next K.capacity (K.home k) i (L.homes k) l (omega arith)))
