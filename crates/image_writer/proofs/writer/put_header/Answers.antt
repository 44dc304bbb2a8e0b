use Rattle.std.proofs.Common.{◌≡◌, length, take, arith, length-take}
use Rattle.image_writer.proofs.writer.put_header.Goals as goal

pub copy_from_slice-requires-4 : goal.copy_from_slice-requires-4
copy_from_slice-requires-4 g c =
    let l : length (take 32 c.args.out.now) ≡ 32 = omega (arith, length-take 32 c.args.out.now, c.requires) in
    rw (c.copy_from_slice.ensures.after, c.copy_from_slice-2.ensures.after, c.to_be_bytes.ensures, c.copy_from_slice-3.ensures.after, c.to_be_bytes-2.ensures) l
