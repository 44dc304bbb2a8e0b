use Rattle.std.proofs.Common.{length, rules}
use Rattle.maps.specs.Maps.{kinds_of}
use Rattle.sheets.proofs.Keying.{lengths}
use Rattle.sheets.proofs.Walking.{as_lent}
use Rattle.sheets.proofs.sheet.run_sheet.Goals as goal

pub new-spare-requires : goal.new-spare-requires
new-spare-requires g c =
    (lengths (length c.args.cells.now) (length c.args.scratch.now) (length c.args.sheet.now) (length c.args.answers.now) c.in_ok-check.ensures.1).1

pub new-table-requires : goal.new-table-requires
new-table-requires g c = ∣ c.in_ok-check.ensures.2.0 ∣₁

pub run_all-requires : goal.run_all-requires
run_all-requires g c =
    let l = lengths (length c.args.cells.now) (length c.args.scratch.now) (length c.args.sheet.now) (length c.args.answers.now) c.in_ok-check.ensures.1 in
    record { room = l.3 }

pub returns : goal.returns
returns g c =
    let x = kinds_of g.K.Key.kind g.V.Value.kind in
    (c.in_ok-check.ensures, as_lent x c.run_all.ensures.runs c.new-table.ensures.seed c.new-table.ensures.count c.new-table.ensures.cells c.count.ensures (search rules) (search rules))
