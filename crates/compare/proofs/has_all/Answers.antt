use Rattle.std.proofs.Common.{◌≡◌, List, Some, None, refl, arith, below_more}
use Rattle.std.proofs.lemmas.Bool.{both_ways}
use Rattle.kinds.specs.declared.record.Record.{Record}
use Rattle.layout.specs.Cells.{at}
use Rattle.layout.proofs.Records.{some_inside}
use Rattle.layout.proofs.Tests.{some_none}
use Rattle.maps.specs.Maps.{Laid, kinds_of}
use Rattle.cells.proofs.Rules.{read_at, none_of}
use Rattle.compare.specs.Compare.{Lends}
use Rattle.compare.proofs.Same.{no, lends_read}
use Rattle.compare.proofs.has_all.Goals.{in_default, in-Some+else-not-has_record}
use Rattle.compare.proofs.has_all.Goals as goal

pub returns-then-not-has_record : goal.returns-then-not-has_record
returns-then-not-has_record g c =
    λ m h. no (λ all. both_ways c.has_record.result c.if-not-has_record.true
    ((c.has_record.ensures m h).1 (all c.loop-row.row-index c.in-Some.wanted (read_at c.args.rows.now c.loop-row.row-index c.row-item.result (Some c.in-Some.wanted) c.loop-row-test.true c.row-item.is c.in-Some.is))))

pub loop-row-preserved : goal.loop-row-preserved
loop-row-preserved g c =
    let x = kinds_of g.K.Key.kind g.V.Value.kind in
    below_more (λ k. (s : Record _ _) → at c.args.rows.now k ≡ Some s → (m : List (Record _ _)) → Laid x c.args.table.now.seed m c.args.table.now.cells.now → Lends x m s) c.loop-row.row-index c.loop-row.invariant
    (λ s is m h. elim c.match-row.branch [
      | in_default w ↦ absurd (some_none (at c.args.rows.now c.loop-row.row-index) s is (read_at c.args.rows.now c.loop-row.row-index c.row-item.result None c.loop-row-test.true c.row-item.is (none_of c.row-item.result w.in_default.not-Some)))
      | in-Some+else-not-has_record w ↦ lends_read x m (at c.args.rows.now c.loop-row.row-index) s w.in-Some.wanted is (read_at c.args.rows.now c.loop-row.row-index c.row-item.result (Some w.in-Some.wanted) c.loop-row-test.true c.row-item.is w.in-Some.is) ((w.has_record.ensures m h).0 w.if-not-has_record.false)
    ])

pub returns : goal.returns
returns g c = λ m h. ((λ e i s is. c.loop-row.invariant i (omega (arith, some_inside c.args.rows.now i s is, c.loop-row-test.false)) s is m h), (λ k. refl))
