use Rattle.std.proofs.Common.{◌≡◌, ℕ, ◌+◌, ◌<◌, ◌≤◌, ◌++◌, length, take, drop, replicate, None, sym, refl, ap, ◌∙◌, arith}
use Rattle.layout.specs.Capacity.{capacity}
use Rattle.layout.proofs.Capacities.{capacity_range, capacity_room}
use Rattle.maps.specs.Commands.{with_pair}
use Rattle.maps.specs.Maps.{kinds_of}
use Rattle.table.specs.Rows.{cells_with}
use Rattle.table.proofs.Held.{held}
use Rattle.table.proofs.Maps.{opened}
use Rattle.table.proofs.Edits.{ready, still_gone, added, longer}
use Rattle.table.proofs.commands.Table.add.Goals as goal

-- one record more finds room
wider : (count wanted n : ℕ) → count < 768 → wanted ≡ capacity (count + 1) → count ≡ n → (n < wanted) × (wanted ≤ 1024)
wider count wanted n few e q = (omega (arith, capacity_room (count + 1) (omega arith)), omega (arith, (capacity_range (count + 1)).1))

pub fit-requires : goal.fit-requires
fit-requires g c =
    let x = kinds_of g.K.Key.kind g.V.Value.kind in
    let s = c.args.self.now in
    let (m, h, n) = held x g.met.K.Key.lawful s.seed s.count s.cells.now s.stored in
    let o = opened x g.met.K.Key.lawful s.seed c.capacity_of-size.result s.count m s.cells.now h c.capacity_of-size.ensures n in
    let w = wider s.count c.capacity_of-wanted.result (length m) c.requires.few c.capacity_of-wanted.ensures n in
    record {
      alike = omega (arith, o.size, c.args.scratch.now.spare);
      empty = c.args.scratch.now.empty;
      within = omega (arith, o.size, o.most);
      fits = omega (arith, o.size, w.1);
      few = w.1;
      sound = o.sound;
      room = omega (arith, o.count, w.0);
    }

pub slice_bounds-insert-end : goal.slice_bounds-insert-end
slice_bounds-insert-end g c =
    let x = kinds_of g.K.Key.kind g.V.Value.kind in
    let s = c.args.self.now in
    let (m, h, n) = held x g.met.K.Key.lawful s.seed s.count s.cells.now s.stored in
    let w = wider s.count c.capacity_of-wanted.result (length m) c.requires.few c.capacity_of-wanted.ensures n in
    let o = ready x g.met.K.Key.lawful s.seed s.count m s.cells.now h n c.args.key c.capacity_of-size.result c.capacity_of-wanted.result c.capacity_of-size.ensures w.0 w.1 c.fit.new.cells c.fit.ensures.kept c.fit.ensures.laid in
    omega (arith, o.size, o.most)

pub slice_bounds-insert-end-2 : goal.slice_bounds-insert-end-2
slice_bounds-insert-end-2 g c =
    let x = kinds_of g.K.Key.kind g.V.Value.kind in
    let s = c.args.self.now in
    let (m, h, n) = held x g.met.K.Key.lawful s.seed s.count s.cells.now s.stored in
    let w = wider s.count c.capacity_of-wanted.result (length m) c.requires.few c.capacity_of-wanted.ensures n in
    let o = ready x g.met.K.Key.lawful s.seed s.count m s.cells.now h n c.args.key c.capacity_of-size.result c.capacity_of-wanted.result c.capacity_of-size.ensures w.0 w.1 c.fit.new.cells c.fit.ensures.kept c.fit.ensures.laid in
    sym o.long

pub insert-requires : goal.insert-requires
insert-requires g c =
    let x = kinds_of g.K.Key.kind g.V.Value.kind in
    let s = c.args.self.now in
    let (m, h, n) = held x g.met.K.Key.lawful s.seed s.count s.cells.now s.stored in
    let w = wider s.count c.capacity_of-wanted.result (length m) c.requires.few c.capacity_of-wanted.ensures n in
    let o = ready x g.met.K.Key.lawful s.seed s.count m s.cells.now h n c.args.key c.capacity_of-size.result c.capacity_of-wanted.result c.capacity_of-size.ensures w.0 w.1 c.fit.new.cells c.fit.ensures.kept c.fit.ensures.laid in
    record {
      few = omega (arith, o.long, o.most);
      sound = o.sound;
      absent = still_gone x g.met.K.Key.lawful s.seed s.count m s.cells.now h n c.args.key (capacity s.count) refl c.requires.absent c.capacity_of-wanted.result c.fit.new.cells o c.to_row-new.result.key (ap (λ r. r.key) c.to_row-new.ensures);
    }

pub invariant_of-self : goal.invariant_of-self
invariant_of-self g c =
    let x = kinds_of g.K.Key.kind g.V.Value.kind in
    let s = c.args.self.now in
    let (m, h, n) = held x g.met.K.Key.lawful s.seed s.count s.cells.now s.stored in
    let w = wider s.count c.capacity_of-wanted.result (length m) c.requires.few c.capacity_of-wanted.ensures n in
    let o = ready x g.met.K.Key.lawful s.seed s.count m s.cells.now h n c.args.key c.capacity_of-size.result c.capacity_of-wanted.result c.capacity_of-size.ensures w.0 w.1 c.fit.new.cells c.fit.ensures.kept c.fit.ensures.laid in
    record {
      stored = ∣ (
        with_pair x c.args.key c.args.value m,
        added x g.met.K.Key.lawful s.seed s.count m s.cells.now h n c.args.key (capacity s.count) refl c.capacity_of-wanted.result c.capacity_of-wanted.ensures c.requires.few c.requires.absent c.fit.new.cells _ o c.args.value (x.key.row c.args.key) refl
            (ap (λ d. d ++ drop c.capacity_of-wanted.result c.fit.new.cells) (c.insert.ensures ∙ ap (λ r. cells_with x s.seed r (take c.capacity_of-wanted.result c.fit.new.cells)) c.to_row-new.ensures)),
        longer x g.met.K.Key.lawful s.seed s.count m s.cells.now h n c.args.key (capacity s.count) refl c.requires.absent c.args.value,
      ) ∣₁;
    }

pub invariant_of-scratch : goal.invariant_of-scratch
invariant_of-scratch g c = record {
  spare = c.fit.auto.scratch ∙ c.args.scratch.now.spare;
  empty = c.fit.ensures.scratch ∙ c.args.scratch.now.empty ∙ ap (λ (k : ℕ). replicate k None) (sym c.fit.auto.scratch);
}

pub returns-clause-cells : goal.returns-clause-cells
returns-clause-cells g c =
    let x = kinds_of g.K.Key.kind g.V.Value.kind in
    let s = c.args.self.now in
    λ m h n.
    (let w = wider s.count c.capacity_of-wanted.result (length m) c.requires.few c.capacity_of-wanted.ensures n in
    let o = ready x g.met.K.Key.lawful s.seed s.count m s.cells.now h n c.args.key c.capacity_of-size.result c.capacity_of-wanted.result c.capacity_of-size.ensures w.0 w.1 c.fit.new.cells c.fit.ensures.kept c.fit.ensures.laid in
    added x g.met.K.Key.lawful s.seed s.count m s.cells.now h n c.args.key (capacity s.count) refl c.capacity_of-wanted.result c.capacity_of-wanted.ensures c.requires.few c.requires.absent c.fit.new.cells _ o c.args.value (x.key.row c.args.key) refl
    (ap (λ d. d ++ drop c.capacity_of-wanted.result c.fit.new.cells) (c.insert.ensures ∙ ap (λ r. cells_with x s.seed r (take c.capacity_of-wanted.result c.fit.new.cells)) c.to_row-new.ensures)))
