use Rattle.std.proofs.Common.{Some, set, refl, ap, ◌∙◌}
use Rattle.layout.specs.Capacity.{capacity}
use Rattle.maps.specs.Maps.{kinds_of}
use Rattle.table.proofs.Held.{held}
use Rattle.table.proofs.Edits.{put_joins, put_full, put_adds}
use Rattle.table.proofs.commands.Table.put.Goals as goal

pub invariant_of-self : goal.invariant_of-self
invariant_of-self g c =
    let x = kinds_of g.K.Key.kind g.V.Value.kind in
    let s = c.args.self.now in
    let (m, h, n) = held x g.met.K.Key.lawful s.seed s.count s.cells.now s.stored in
    let p = put_joins x g.met.K.Key.lawful s.seed s.count m s.cells.now h n c.args.key (capacity s.count) refl c.args.value c.in-Some.place c.in-Some.old (x.key.row c.args.key) c.join-both.result c.in-Some.ensures refl c.join-both.ensures _ (ap (λ r. set s.cells.now c.in-Some.place (Some r)) c.to_row.ensures) in
    record { stored = ∣ (_, p.0, p.2) ∣₁ }

pub returns-in-Some-clause-done : goal.returns-in-Some-clause-done
returns-in-Some-clause-done g c =
    let x = kinds_of g.K.Key.kind g.V.Value.kind in
    let s = c.args.self.now in
    λ m h n. put_joins x g.met.K.Key.lawful s.seed s.count m s.cells.now h n c.args.key (capacity s.count) refl c.args.value c.in-Some.place c.in-Some.old (x.key.row c.args.key) c.join-both.result c.in-Some.ensures refl c.join-both.ensures _ (ap (λ r. set s.cells.now c.in-Some.place (Some r)) c.to_row.ensures)

pub returns-then-self-ge-MOST_RECORDS-clause-done : goal.returns-then-self-ge-MOST_RECORDS-clause-done
returns-then-self-ge-MOST_RECORDS-clause-done g c =
    let x = kinds_of g.K.Key.kind g.V.Value.kind in
    let s = c.args.self.now in
    λ m h n. put_full x g.met.K.Key.lawful s.seed s.count m s.cells.now h n c.args.key (capacity s.count) refl c.args.value c.in-None.ensures c.if-self-ge-MOST_RECORDS.true

pub returns-else-self-ge-MOST_RECORDS-clause-done : goal.returns-else-self-ge-MOST_RECORDS-clause-done
returns-else-self-ge-MOST_RECORDS-clause-done g c =
    let x = kinds_of g.K.Key.kind g.V.Value.kind in
    let s = c.args.self.now in
    λ m h n. (let p = put_adds x g.met.K.Key.lawful s.seed s.count m s.cells.now h n c.args.key (capacity s.count) refl c.args.value c.add.new.self.cells.now c.in-None.ensures c.if-self-ge-MOST_RECORDS.false (c.add.ensures.cells m h n) in (p.0, p.1, c.add.ensures.count ∙ p.2))
