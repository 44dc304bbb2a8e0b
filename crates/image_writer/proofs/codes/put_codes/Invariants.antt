use Rattle.std.proofs.Common.{◌≡◌, ◌+◌, length, take}
use Rattle.kinds.specs.Records.{written}
use Rattle.maps.specs.Maps.{kinds_of}
use Rattle.image.specs.Image.{code_of, codes}
use Rattle.image.specs.Rows.{keyed_cells}
use Rattle.image_writer.proofs.codes.put_codes.Given as goal

abbrev pub invariant-loop-cell : goal.invariant-loop-cell
invariant-loop-cell g l =
    let x = kinds_of g.K.Key.kind g.V.Value.kind in
    let done = codes (code_of x) (take l.cell-index (keyed_cells x l.cells)) in
    (l.at ≡ l.from + length done) × (l.out ≡ written l.initial.out l.from done)
