use Rattle.std.proofs.Common.{◌+◌, ◌/◌, length}
use Rattle.maps.specs.Maps.{kinds_of}
use Rattle.image_reader.proofs.Turns.{Turn}
use Rattle.image_reader.proofs.records.read_cells.Given as goal

abbrev pub invariant-loop-c : goal.invariant-loop-c
invariant-loop-c g l = Turn g.row.F.Denot (kinds_of g.K.Key.kind g.V.Value.kind) l.bytes (length l.initial.cells) (32 + length l.initial.cells / 8) l.c l.cells l.at
