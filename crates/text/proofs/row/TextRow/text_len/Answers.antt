use Rattle.std.proofs.Common.{arith, length-take}
use Rattle.text.specs.Words.{unpacked}
use Rattle.text.specs.Packing.{unpacked_length}
use Rattle.text.proofs.row.TextRow.text_len.Goals as goal

pub returns : goal.returns
returns c =
    let r = c.args.self.now in
    omega (arith, c.min.ensures, c.from.ensures, length-take r.len (unpacked r), unpacked_length r)
