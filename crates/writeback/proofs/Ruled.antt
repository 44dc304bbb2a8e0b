-- The rules of held blocks.
use Rattle.std.proofs.Common.{refl, arith}
use Rattle.std.proofs.lemmas.List.{length-drop}
use Rattle.writeback.specs.Laws.{Laws}
use Rattle.writeback.specs.Slots.{renewed}
use Rattle.writeback.proofs.Overlaid.{overlay_held, overlay_bare, overlay_shut}
use Rattle.writeback.proofs.Slotted.{apart_renewed}

pub laws : Laws
laws = record {
  held = overlay_held;
  bare = overlay_bare;
  shut = λ n xs ss. overlay_shut ss n xs;
  once = λ ss s e. apart_renewed ss (renewed ss s) s refl e;
  few = λ ss. simp length-drop (omega arith);
}
