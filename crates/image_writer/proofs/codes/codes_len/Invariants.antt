use Rattle.std.proofs.Common.{◌≡◌, ◌*◌, ◌≤◌, length, take}
use Rattle.maps.specs.Maps.{kinds_of}
use Rattle.image.specs.Image.{code_of, codes}
use Rattle.image.specs.Rows.{keyed_cells}
use Rattle.image_writer.proofs.codes.codes_len.Given as goal

abbrev pub invariant-loop-cell : goal.invariant-loop-cell
invariant-loop-cell g l =
    let x = kinds_of g.K.Key.kind g.V.Value.kind in
    (l.n ≡ length (codes (code_of x) (take l.cell-index (keyed_cells x l.cells)))) × (l.n ≤ 35 * l.cell-index)
