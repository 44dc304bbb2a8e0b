use Rattle.std.proofs.Common.{arith}
use Rattle.maps.specs.Maps.{kinds_of, contents}
use Rattle.image_reader.proofs.Ends.{filling}
use Rattle.image_tests.proofs.copy_image.Goals as goal

pub write_image-requires : goal.write_image-requires
write_image-requires g c =
    let x = kinds_of g.K.Key.kind g.V.Value.kind in
    let e = c.in_ok-seed.ensures.exact in
    (e.0, record { laid = e.1; counts = e.2 }, omega (arith, filling x c.args.bytes.now (contents c.in_ok-seed.seed e.0) e.3, c.requires.room))
