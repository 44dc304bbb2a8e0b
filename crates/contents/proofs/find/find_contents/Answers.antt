use Rattle.std.proofs.Common.{length, Ok, Err, ap, ◌∙◌}
use Rattle.std.proofs.lemmas.Result.{err_from_is_err_and}
use Rattle.maps.specs.Maps.{kinds_of}
use Rattle.model.specs.Refusals.{begin_refusal}
use Rattle.contents.specs.Setups.{meaning}
use Rattle.contents.proofs.Found.{refused_found, finds}
use Rattle.contents.proofs.find.find_contents.Goals as goal

pub returns-in_err-read_store : goal.returns-in_err-read_store
returns-in_err-read_store g c =
    let s = meaning g.S.Store c.args.store.now in
    let cells = c.args.cells.now in
    let work = c.args.work.now in
    let free = c.in_ok-check_lengths.ensures ∙ ap (λ n. begin_refusal n (length cells) (length work)) c.count.ensures in
    let told = c.in_err-read_store.ensures in
    let p = err_from_is_err_and c.from_residual-in_err-read_store.result c.from_residual-in_err-read_store.ensures.1 in
    finds g.K.Key.kind g.V.Value.kind g.S.Fault.BlockFault s cells c.read_store.new.cells work c.read_store.new.work
    free told.work (g.S.Store.lengths c.args.store.now).of_shown c.from_residual-in_err-read_store.result
    (refused_found (kinds_of g.K.Key.kind g.V.Value.kind) g.S.Fault.BlockFault s.shown (length cells) c.in_err-read_store.field-0.0
    c.from_residual-in_err-read_store.result c.read_store.new.cells (p.1 ∙ ap Err p.2) told.answer told.cells)

pub returns : goal.returns
returns g c =
    let s = meaning g.S.Store c.args.store.now in
    let cells = c.args.cells.now in
    let work = c.args.work.now in
    let free = c.in_ok-check_lengths.ensures ∙ ap (λ n. begin_refusal n (length cells) (length work)) c.count.ensures in
    finds g.K.Key.kind g.V.Value.kind g.S.Fault.BlockFault s cells c.read_store.new.cells work c.read_store.new.work
    free c.in_ok-read_store.ensures.work (g.S.Store.lengths c.args.store.now).of_shown (Ok c.in_ok-read_store.field-0) c.in_ok-read_store.ensures.exact
