-- What the delivered stack shows: write-back over a mirror of an offset plain store and a checked store. Each is what
-- the trait's member of that name is at this type.
use Rattle.std.specs.Prelude.{ℕ, min, Bool, ◌||◌, List}
use Rattle.layers.specs.Layers.{offset_count, offset_places, mirror_places}
use Rattle.store.specs.Lent.{plain_count, plain_places}
use Rattle.store.specs.Places.{Place}
use Rattle.store.specs.Sums.{checked_count, checked_places}
use Rattle.store.specs.declared.checked.Checked.{Checked}
use Rattle.store.specs.declared.lent.LentStore.{LentStore}
use Rattle.layers.specs.declared.mirror.Mirror.{Mirror}
use Rattle.layers.specs.declared.offset.Offset.{Offset}
use Rattle.store.specs.declared.plain.Plain.{Plain}
use Rattle.writeback.specs.Holds.{held_list}
use Rattle.writeback.specs.Overlays.{overlay}
use Rattle.writeback.specs.declared.write_back.WriteBack.{WriteBack}

abbrev pub Stacked : Type 0
Stacked = WriteBack (Mirror (Offset (LentStore Plain)) (LentStore Checked))

abbrev left_count : Offset (LentStore Plain) → ℕ
left_count o = offset_count o.window.first o.window.wished (plain_count o.below.bytes.now)

abbrev left_places : Offset (LentStore Plain) → List Place
left_places o = offset_places o.window.first o.window.wished (plain_count o.below.bytes.now) (plain_places o.below.bytes.now)

abbrev pub stack_count : Stacked → ℕ
stack_count s = min (left_count s.below.left) (checked_count s.below.right.bytes.now)

abbrev pub stack_protected : Stacked → Bool
stack_protected s = s.below.left.below.locked || s.below.right.locked

abbrev pub stack_kept : Stacked → List Place
stack_kept s = mirror_places (left_count s.below.left) (checked_count s.below.right.bytes.now) (left_places s.below.left) (checked_places s.below.right.bytes.now)

abbrev pub stack_shown : Stacked → List Place
stack_shown s = overlay (stack_count s) (stack_protected s) (stack_kept s) (held_list s.held)
