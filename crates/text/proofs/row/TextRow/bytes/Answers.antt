use Rattle.std.proofs.Common.{◌≡◌}
use Rattle.text.specs.Words.{eight, unpacked}
use Rattle.text.proofs.row.TextRow.bytes.Goals as goal

pub returns : goal.returns
unfolding unpacked
returns c =
    let r = c.args.self.now in
    let head : c.copy_from_slice.new.self ≡ eight r.head = cc in
    let middle : c.copy_from_slice-2.new.self ≡ eight r.middle = cc in
    let tail : c.copy_from_slice-3.new.self ≡ eight r.tail = cc in
    rw (head, middle, tail)
