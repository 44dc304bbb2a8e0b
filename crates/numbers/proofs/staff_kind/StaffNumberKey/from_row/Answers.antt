use Rattle.std.proofs.Common.{sym, arith}
use Rattle.numbers.specs.StaffLaws.{staff_of_row}
use Rattle.numbers.proofs.staff_kind.StaffNumberKey.from_row.Goals as goal

pub returns : goal.returns
returns c = sym (staff_of_row c.args.plain c.new.result c.new.ensures (omega arith))
