use Rattle.std.proofs.Common.{◌≡◌, ◌<◌, is_some, true, false, refl, sym, ap, ◌∙◌, arith}
use Rattle.image.specs.Image.{held}
use Rattle.image_writer.proofs.Puts.{bit_set, bit_clear, read_is}
use Rattle.image_writer.proofs.bits.bits_of.Goals.{then-is_some, else-is_some}
use Rattle.image_writer.proofs.bits.bits_of.Goals as goal

pub loop-k-preserved : goal.loop-k-preserved
loop-k-preserved g c =
    let t = held c.args.eight.now in
    let k = c.loop-k.k in
    let o = c.index-eight-k.result in
    let l : k < 8 = omega (arith, c.loop-k-test.true, c.requires) in
    let r : t k ≡ is_some o = ap is_some (read_is c.args.eight.now k o o c.loop-k-test.true c.index-eight-k.is refl) in
    elim c.if-is_some.branch [
      | then-is_some w ↦ let y : t k ≡ true = r ∙ sym c.is_some.ensures ∙ w.if-is_some.true in w.bits-is ∙ bit_set t k c.loop-k.bits l c.loop-k.invariant y
      | else-is_some w ↦ let y : t k ≡ false = r ∙ sym c.is_some.ensures ∙ w.if-is_some.false in w.bits-is ∙ bit_clear t k c.loop-k.bits l c.loop-k.invariant y
    ]
