-- What a write-back layer shows, from the store below it.
use Rattle.std.specs.Prelude.{List}
use Rattle.store.specs.Places.{Place}
use Rattle.store.specs.declared.store.Store.{Ghosts}
use Rattle.writeback.specs.Holds.{held_list}
use Rattle.writeback.specs.Overlays.{overlay}
use Rattle.writeback.specs.declared.write_back.WriteBack.{WriteBack}

abbrev pub overlaid : {S F : Type 0} → Ghosts S F → WriteBack S → List Place
overlaid below w = overlay (below.count w.below) (below.protected w.below) (below.shown w.below) (held_list w.held)
