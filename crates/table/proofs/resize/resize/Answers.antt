use Rattle.std.proofs.Common.{◌++◌, length, take, drop, ap, ◌∙◌, rules}
use Rattle.std.proofs.lemmas.List.{length-take-le}
use Rattle.layout.specs.Cells.{layout, records_of}
use Rattle.maps.specs.Maps.{kinds_of}
use Rattle.cells.specs.Rows.{row_order, row_rule}
use Rattle.table.proofs.Moves.{empty_front, empty_rest}
use Rattle.table.proofs.resize.resize.Goals as goal

pub gather-requires-clause-empty : goal.gather-requires-clause-empty
gather-requires-clause-empty g c = empty_front c.args.scratch.now c.args.wanted c.requires.empty (search rules)

pub returns-clause-laid : goal.returns-clause-laid
returns-clause-laid g c =
    let x = kinds_of g.K.Key.kind g.V.Value.kind in
    let rest = empty_rest c.args.scratch.now (length c.args.cells.now) c.args.wanted c.requires.empty c.requires.alike in
    let long = length-take-le c.args.wanted c.args.scratch.now (search rules) in
    let records = records_of (row_order x) (take c.args.size c.args.cells.now) in
    c.copy_from_slice.ensures.after
    ∙ ap (λ d. d ++ drop c.args.wanted c.args.scratch.now) (c.gather.ensures ∙ ap (λ n. layout (row_rule x c.args.seed n) records) long)
    ∙ ap (λ t. layout (row_rule x c.args.seed c.args.wanted) records ++ t) rest
