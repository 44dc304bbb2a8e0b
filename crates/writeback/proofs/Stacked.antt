-- A stack from what its layers were made of.
use Rattle.std.proofs.Common.{◌≡◌, ℕ, List, [], ap}
use Rattle.layers.specs.Layers.{offset_count, offset_places, mirror_places}
use Rattle.store.specs.Lent.{plain_count, plain_places}
use Rattle.store.specs.Sums.{checked_count, checked_places}
use Rattle.writeback.specs.Holds.{held_list}
use Rattle.writeback.specs.Overlays.{overlay}
use Rattle.writeback.specs.Stacks.{Stacked, stack_count, stack_protected, stack_shown, stack_kept}

pub stack_keeps : (s : Stacked) (first wished : ℕ) (plain checked : List ℕ)
    → s.below.left.window ≡ record { first = first; wished = wished } → s.below.left.below.bytes.now ≡ plain → s.below.right.bytes.now ≡ checked
    → stack_kept s ≡ mirror_places (offset_count first wished (plain_count plain)) (checked_count checked) (offset_places first wished (plain_count plain) (plain_places plain)) (checked_places checked)
stack_keeps s first wished plain checked e-window e-plain e-checked = rw (e-window, e-plain, e-checked)

pub stack_same : (s : Stacked) → held_list s.held ≡ [] → stack_shown s ≡ stack_kept s
stack_same s e = ap (overlay (stack_count s) (stack_protected s) (stack_kept s)) e
