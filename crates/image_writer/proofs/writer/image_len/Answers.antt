use Rattle.std.proofs.Common.{◌+◌, ◌/◌, length, sym, ap, ◌∙◌, ap₂}
use Rattle.maps.specs.Maps.{KindsLaws, kinds_of}
use Rattle.image_writer.proofs.Wholes.{all_codes, length_is}
use Rattle.image_writer.proofs.writer.image_len.Goals as goal

pub returns : goal.returns
returns g c =
    let x = kinds_of g.K.Key.kind g.V.Value.kind in
    let laws : KindsLaws x = record { key = g.met.K.Key.lawful; value = g.met.V.Value.lawful } in
    λ seed m w.
    ap₂ (λ k n. 32 + k / 8 + n) c.capacity_of.ensures (c.codes_len.ensures.size ∙ ap length (all_codes x laws seed c.args.count c.args.cells.now m w))
    ∙ sym (length_is x laws seed c.args.count c.args.cells.now m w)
