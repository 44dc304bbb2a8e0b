use Rattle.std.proofs.Common.{◌≡◌, ◌*◌, length, ap, arith}
use Rattle.store.proofs.Written.{written_part, parts_after, tail_kept}
use Rattle.store.proofs.lent.put_block.Goals as goal

pub returns : goal.returns
returns g c =
    let f = g.F.Frame in
    let bytes = c.args.bytes.now in
    let i = c.args.i in
    let b = c.args.block.now in
    let wide : length (f.framed b) ≡ f.WIDTH = g.met.F.Frame.wide b c.told-block in
    let e = written_part bytes _ _ (i * f.WIDTH) _ (f.framed b) c.put.ensures (ap (λ w. i * w) c.WIDTH.ensures) (omega (arith, wide, c.WIDTH-2.ensures)) in
    record {
      shows = parts_after bytes f.WIDTH i (f.framed b) _ f.place _ wide c.requires (g.met.F.Frame.back b c.told-block) e;
      bytes = e;
      tail = tail_kept bytes f.WIDTH i (f.framed b) _ wide c.requires e;
    }
