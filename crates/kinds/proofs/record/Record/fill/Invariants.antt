use Rattle.std.proofs.Common.{◌≡◌, take}
use Rattle.kinds.specs.Records.{record_code}
use Rattle.kinds.proofs.record.Record.fill.Given as goal

abbrev pub invariant-loop-i : goal.invariant-loop-i
invariant-loop-i g l = take l.i l.out ≡ take l.i (record_code g.K.Key.kind g.V.Value.kind l.self)
