use Rattle.std.proofs.Common.{◌+◌, ◌/◌, ◌<◌, length, get_or, drop, set, Some, Err, sym, ap, ◌∙◌, subst, arith}
use Rattle.std.proofs.lemmas.Result.{err_from_is_err_and}
use Rattle.maps.specs.Maps.{KindsLaws, kinds_of}
use Rattle.image.specs.Opened.{front_of}
use Rattle.image_reader.specs.Parts.{place_of, Filled}
use Rattle.image_reader.proofs.Turns.{begin, full, empty, fault, done, turned, read_within, record_some, record_none}
use Rattle.image_reader.proofs.records.read_cells.Goals.{then-is_marked+in_ok-found, else-is_marked}
use Rattle.image_reader.proofs.records.read_cells.Goals as goal

pub loop-c-init : goal.loop-c-init
loop-c-init g c =
    let cap = length c.args.cells.now in
    begin g.row.F.Denot (kinds_of g.K.Key.kind g.V.Value.kind) c.args.bytes.now cap (32 + cap / 8) c.args.cells.now c.requires

pub overflow_add-at-then-is_marked : goal.overflow_add-at-then-is_marked
overflow_add-at-then-is_marked g c =
    let x = kinds_of g.K.Key.kind g.V.Value.kind in
    let laws : KindsLaws x = record { key = g.met.K.Key.lawful; value = g.met.V.Value.lawful } in
    let bs = c.args.bytes.now in
    let f = record_some c.loop-c.at (front_of x (drop c.loop-c.at bs)) (c.in_ok-found.found, c.in_ok-found.n) c.in_ok-found.ensures in
    omega (arith, read_within x laws bs c.loop-c.at c.in_ok-found.found c.in_ok-found.n c.loop-c.invariant.0 f)

pub returns-in_err-found : goal.returns-in_err-found
returns-in_err-found g c =
    let x = kinds_of g.K.Key.kind g.V.Value.kind in
    let bs = c.args.bytes.now in
    let cap = length c.args.cells.now in
    let p = err_from_is_err_and c.from_residual.result c.from_residual.ensures.1 in
    let n = record_none c.loop-c.at (front_of x (drop c.loop-c.at bs)) c.in_err-found.field-0.0 c.in_err-found.ensures in
    let e = fault g.row.F.Denot x bs cap (32 + cap / 8) c.loop-c.c c.loop-c.cells c.loop-c.at c.loop-c.invariant (omega arith) (sym c.if-is_marked.ensures) n.0 in
    record {
      answer = p.1 ∙ ap Err (p.2 ∙ n.1) ∙ sym (ap place_of e);
      cells = subst (λ w. Filled x w (set c.loop-c.cells c.loop-c.c (get_or c.loop-c.cells c.loop-c.c c.index-cells-c.result))) (sym e) tt;
    }

pub loop-c-preserved : goal.loop-c-preserved
loop-c-preserved g c =
    let x = kinds_of g.K.Key.kind g.V.Value.kind in
    let laws : KindsLaws x = record { key = g.met.K.Key.lawful; value = g.met.V.Value.lawful } in
    let bs = c.args.bytes.now in
    let cap = length c.args.cells.now in
    let at = c.loop-c.at in
    let i = c.loop-c.c in
    let cells = c.loop-c.cells in
    let lc : i < length cells = omega arith in
    elim c.if-is_marked.branch [
      | then-is_marked+in_ok-found w ↦
          let r = w.in_ok-found.found in
          let n = w.in_ok-found.n in
          let f = record_some at (front_of x (drop at bs)) (r, n) w.in_ok-found.ensures in
          turned g.row.F.Denot x bs cap (32 + cap / 8) (i + 1) (ap (set cells i) (w.cell-is ∙ ap Some w.to_row.ensures)) w.at-is
          (full g.row.F.Denot x bs cap (32 + cap / 8) i cells at c.loop-c.invariant r n (omega arith) lc
          (read_within x laws bs at r n c.loop-c.invariant.0 f) (sym c.is_marked.ensures ∙ w.if-is_marked.true) f)
      | else-is_marked w ↦
          turned g.row.F.Denot x bs cap (32 + cap / 8) (i + 1) (ap (set cells i) w.cell-is) w.at-is
          (empty g.row.F.Denot x bs cap (32 + cap / 8) i cells at c.loop-c.invariant (omega arith) lc (sym c.is_marked.ensures ∙ w.if-is_marked.false))
    ]

pub returns : goal.returns
returns g c =
    let x = kinds_of g.K.Key.kind g.V.Value.kind in
    let cap = length c.args.cells.now in
    let d = done g.row.F.Denot x c.args.bytes.now cap (32 + cap / 8) c.loop-c.c c.loop-c.cells c.loop-c.at c.loop-c.invariant (omega arith) (omega arith) in
    record {
      answer = sym (ap place_of d.0);
      cells = subst (λ w. Filled x w c.loop-c.cells) (sym d.0) d.1;
    }
