-- The blocks that a `Held` holds.
use Rattle.std.specs.Prelude.{List}
use Rattle.writeback.specs.declared.held.Held.{Held}
use Rattle.writeback.specs.declared.slot.Slot.{Slot}

abbrev pub held_list : Held → List Slot
held_list h = h.slots.items
