-- the hole that a removal leaves, at cell i, and the walk behind it, at cell j
use Rattle.std.proofs.Common.{◌≡◌, ℕ, ◌+◌, ◌<◌, ◌≢◌, ◌⊎◌, ◌↔◌, List, length, set, Some, None, Option, sym, refl, ap, ◌∙◌, inl, inr, arith}
use Rattle.std.proofs.lemmas.Bool.{cases_order, cases_eq}
use Rattle.std.proofs.lemmas.List.{get_or-set_same, get_or-set_other, length-set}
use Rattle.layout.specs.Cells.{Rule, Lawful, at, next, distance, from_home, Held}
use Rattle.layout.specs.Places.{AllInPlace}
use Rattle.layout.specs.Walks.{Hole, Passed}
use Rattle.layout.proofs.Tests.{some_none}
use Rattle.layout.proofs.Round.{distance_same, distance_next, on_way, distance_self}
use Rattle.layout.proofs.Unique.{earlier_some, earlier_none, once}
use Rattle.layout.proofs.Steps.{at_set, held_set, held_set_other}

module _ {R Key : Type 0} (K : Rule R Key) (L : Lawful K) where
  pub hole_start : (c : List (Option R)) (i : ℕ) → i < length c → AllInPlace K c → Hole K (set c i None) i
  hole_start c i l all p z a e q b n lt =
      elim (at_set c i None p l) [
        | inl h ↦ absurd (some_none (at (set c i None) p) z e h.1)
        | inr h ↦ rw (get_or-set_other c i q None None n) (all p z a (sym h.1 ∙ e) q b lt)
      ]

  -- an empty cell has been passed as soon as the walk stands behind it
  pub passed_start : (c : List (Option R)) (i : ℕ) → i < K.capacity → 1 < K.capacity → at c i ≡ None → Passed K c i (next K.capacity i)
  passed_start c i a two none p z b e lt on =
      let m : distance K.capacity i (next K.capacity i) ≡ 1 = omega (arith, distance_next K.capacity i i a a (omega (arith, distance_self K.capacity i)), distance_self K.capacity i) in
      let same : p ≡ i = distance_same K.capacity i p i a b a (omega (arith, distance_self K.capacity i)) in
      some_none (at c i) z (rw same at e) none

  -- where the hole is on a record's way, that record stands behind the walk's place, and so is j
  pub beyond : (c : List (Option R)) (i j : ℕ) → i < K.capacity → j < K.capacity → Passed K c i j → (p : ℕ) (z : R) → p < K.capacity → at c p ≡ Some z
      → from_home K (K.order.key z) i < from_home K (K.order.key z) p → (p ≡ j) ⊎ (from_home K (K.order.key z) j < from_home K (K.order.key z) p)
  beyond c i j a b passed p z lp e on =
      elim (cases_order (distance K.capacity i p) (distance K.capacity i j)) [
        | inl q ↦ inl (distance_same K.capacity i p j a lp b q)
        | inr (inl l) ↦ absurd (passed p z lp e l on)
        | inr (inr l) ↦ inr (on_way K.capacity (K.home (K.order.key z)) i j p (L.homes (K.order.key z)) a b lp on l)
      ]

  pub hole_stop : (c : List (Option R)) (i j : ℕ) → i < K.capacity → j < K.capacity → j ≢ i → Hole K c i → Passed K c i j → at c j ≡ None → AllInPlace K c
  hole_stop c i j a b ne hole passed none p z lp e q lq lt =
      elim (cases_eq q i) [
        | inl same ↦ absurd (elim (beyond c i j a b passed p z lp e (rw same at lt)) [
          | inl at_j ↦ some_none (at c j) z (rw at_j at e) none
          | inr l ↦ earlier_none K (at c j) (K.order.key z) none (hole p z lp e j b ne l)
        ])
        | inr n ↦ hole p z lp e q lq n lt
      ]

  pub passed_next : (c : List (Option R)) (i j : ℕ) (y : R) → i < K.capacity → j < K.capacity → distance K.capacity i j + 1 < K.capacity → Passed K c i j
      → at c j ≡ Some y → (from_home K (K.order.key y) i < from_home K (K.order.key y) j → ⊥) → Passed K c i (next K.capacity j)
  passed_next c i j y a b room passed is stays p z lp e lt on =
      let m : distance K.capacity i (next K.capacity j) ≡ distance K.capacity i j + 1 = distance_next K.capacity i j a b room in
      elim (cases_order (distance K.capacity i p) (distance K.capacity i j)) [
        | inl q ↦ (let same : p ≡ j = distance_same K.capacity i p j a lp b q in
            let e' : at c j ≡ Some z = rw same at e in
            let yz : z ≡ y = cc in
            stays (rw (yz, same) at on))
        | inr (inl l) ↦ passed p z lp e l on
        | inr (inr l) ↦ absurd (omega arith)
      ]

  pub hole_move : (c : List (Option R)) (i j : ℕ) (y : R) → length c ≡ K.capacity → i < K.capacity → j < K.capacity → j ≢ i → Hole K c i → Passed K c i j
      → at c j ≡ Some y → from_home K (K.order.key y) i < from_home K (K.order.key y) j → Hole K (set (set c i (Some y)) j None) j
  hole_move c i j y len a b ne hole passed is on p z lp e q lq n lt =
      rw (get_or-set_other (set c i (Some y)) j q None None n)
      (elim (at_set (set c i (Some y)) j None p (rw (length-set c i (Some y)) (omega arith))) [
        | inl h ↦ absurd (some_none (at (set (set c i (Some y)) j None) p) z e h.1)
        | inr h ↦ elim (at_set c i (Some y) p (omega arith)) [
          | inl g ↦ (let zy : z ≡ y = cc in
              let lt' : from_home K (K.order.key y) q < from_home K (K.order.key y) i = rw (zy, g.0) at lt in
              let nq : q ≢ i = λ s. (let w : from_home K (K.order.key y) q ≡ from_home K (K.order.key y) i = ap (from_home K (K.order.key y)) s in omega arith) in
              rw (zy, get_or-set_other c i q (Some y) None nq) (hole j y b is q lq nq (omega arith)))
          | inr g ↦ elim (at_set c i (Some y) q (omega arith)) [
            | inl f ↦ rw f.1 (let e' : at c p ≡ Some z = sym g.1 ∙ (sym h.1 ∙ e) in
                elim (beyond c i j a b passed p z lp e' (rw f.0 at lt)) [
                  | inl at_j ↦ absurd (h.0 at_j)
                  | inr l ↦ earlier_some K (at c j) y (K.order.key z) is (hole p z lp e' j b ne l)
                ])
            | inr f ↦ rw f.1 (hole p z lp (sym g.1 ∙ (sym h.1 ∙ e)) q lq f.0 lt)
          ]
        ]
      ])

  pub moved_held : (c : List (Option R)) (i j : ℕ) (y s : R) → length c ≡ K.capacity → i < K.capacity → j < K.capacity → j ≢ i → at c i ≡ None
      → at c j ≡ Some y → Held K c s ↔ Held K (set (set c i (Some y)) j None) s
  moved_held c i j y s len a b ne none is = (to, from)
    where
      in_i : i < length c
      in_i = omega arith

      in_j : j < length (set c i (Some y))
      in_j = rw (length-set c i (Some y)) (omega arith)

      to : Held K c s → Held K (set (set c i (Some y)) j None) s
      to (p, lp, e) = elim (cases_eq p j) [
        | inl q ↦ (let e' : at c j ≡ Some s = rw q at e in let ys : y ≡ s = cc in
            held_set_other K (set c i (Some y)) j None s i a (λ w. ne (sym w)) (rw (get_or-set_same c i (Some y) None in_i, ys)))
        | inr n ↦ held_set_other K (set c i (Some y)) j None s p lp n (get_or-set_other c i p (Some y) None (λ w. some_none (at c i) s (rw w at e) none) ∙ e)
      ]

      from : Held K (set (set c i (Some y)) j None) s → Held K c s
      from h = elim (held_set K (set c i (Some y)) j None s in_j h) [
        | inl q ↦ absurd (some_none None s q refl)
        | inr (p, lp, n, e) ↦ elim (at_set c i (Some y) p in_i) [
          | inl g ↦ (j, b, (let w : Some y ≡ Some s = sym g.1 ∙ e in is ∙ w))
          | inr g ↦ (p, lp, sym g.1 ∙ e)
        ]
      ]

  pub removed_held : (c : List (Option R)) (i : ℕ) (x s : R) → i < length c → i < K.capacity → AllInPlace K c → at c i ≡ Some x
      → Held K (set c i None) s ↔ (Held K c s × (K.order.key s ≢ K.order.key x))
  removed_held c i x s l a all is = (to, from)
    where
      to : Held K (set c i None) s → Held K c s × (K.order.key s ≢ K.order.key x)
      to h = elim (held_set K c i None s l h) [
        | inl q ↦ absurd (some_none None s q refl)
        | inr (p, lp, n, e) ↦ ((p, lp, e), (λ w. n (once K L c all p i s x lp a e is w)))
      ]

      from : Held K c s × (K.order.key s ≢ K.order.key x) → Held K (set c i None) s
      from ((p, lp, e), w) = held_set_other K c i None s p lp (λ q. w (let e' : at c i ≡ Some s = rw q at e in let z : s ≡ x = cc in ap K.order.key z)) e
