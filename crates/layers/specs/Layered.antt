-- What a layer shows and keeps, from what the stores below it do.
use Rattle.std.specs.Prelude.{ℕ, min, Bool, ◌||◌, List}
use Rattle.layers.specs.Layers.{offset_count, offset_places, mirror_places}
use Rattle.store.specs.Places.{Place}
use Rattle.store.specs.declared.store.Store.{Ghosts}
use Rattle.layers.specs.declared.mirror.Mirror.{Mirror}
use Rattle.layers.specs.declared.offset.Offset.{Offset}

-- an offset layer, by the members of the store below
module _ {S F : Type 0} (below : Ghosts S F) (o : Offset S) where
  abbrev pub window_count : ℕ
  window_count = offset_count o.window.first o.window.wished (below.count o.below)

  abbrev pub window_shown : List Place
  window_shown = offset_places o.window.first o.window.wished (below.count o.below) (below.shown o.below)

  abbrev pub window_kept : List Place
  window_kept = offset_places o.window.first o.window.wished (below.count o.below) (below.kept o.below)

-- a mirror, by the members of its halves
module _ {L R F G : Type 0} (l : Ghosts L F) (r : Ghosts R G) (m : Mirror L R) where
  abbrev pub both_count : ℕ
  both_count = min (l.count m.left) (r.count m.right)

  abbrev pub either_protected : Bool
  either_protected = l.protected m.left || r.protected m.right

  abbrev pub both_shown : List Place
  both_shown = mirror_places (l.count m.left) (r.count m.right) (l.shown m.left) (r.shown m.right)

  abbrev pub both_kept : List Place
  both_kept = mirror_places (l.count m.left) (r.count m.right) (l.kept m.left) (r.kept m.right)
