use Rattle.std.proofs.Common.{◌≡◌, ℕ, ◌+◌, ◌-◌, ◌<◌, ◌≤◌, ◌++◌, length, take, drop, replicate, Some, None, sym, refl, ap, ◌∙◌, subst, arith}
use Rattle.layout.specs.Capacity.{capacity}
use Rattle.layout.proofs.Capacities.{capacity_range, capacity_room}
use Rattle.maps.specs.Commands.{without_key}
use Rattle.maps.specs.Maps.{kinds_of}
use Rattle.table.specs.Rows.{Finds}
use Rattle.table.proofs.Held.{held}
use Rattle.table.proofs.Maps.{opened, moved_or_kept}
use Rattle.table.proofs.Edits.{removed, taken, drop_takes}
use Rattle.table.proofs.commands.Table.take_out.Goals as goal

-- one record less finds room
narrower : (count wanted n k : ℕ) → count ≡ n → n ≤ 768 → k + 1 ≡ n → wanted ≡ capacity (count - 1) → (k < wanted) × (wanted ≤ 1024)
narrower count wanted n k q few e w = (omega (arith, capacity_room (count - 1) (omega arith)), omega (arith, (capacity_range (count - 1)).1))

pub overflow_sub-self : goal.overflow_sub-self
overflow_sub-self g c =
    let x = kinds_of g.K.Key.kind g.V.Value.kind in
    let s = c.args.self.now in
    let (m, h, n) = held x g.met.K.Key.lawful s.seed s.count s.cells.now s.stored in
    omega (arith, (drop_takes x g.met.K.Key.lawful s.seed s.count m s.cells.now h n c.args.key (capacity s.count) refl c.args.place c.args.old c.requires).0)

pub slice_bounds-remove-end : goal.slice_bounds-remove-end
slice_bounds-remove-end g c =
    let x = kinds_of g.K.Key.kind g.V.Value.kind in
    let s = c.args.self.now in
    let (m, h, n) = held x g.met.K.Key.lawful s.seed s.count s.cells.now s.stored in
    let o = opened x g.met.K.Key.lawful s.seed c.capacity_of-size.result s.count m s.cells.now h c.capacity_of-size.ensures n in
    omega (arith, o.size, o.most)

pub slice_bounds-remove-end-2 : goal.slice_bounds-remove-end-2
slice_bounds-remove-end-2 g c =
    let x = kinds_of g.K.Key.kind g.V.Value.kind in
    let s = c.args.self.now in
    let (m, h, n) = held x g.met.K.Key.lawful s.seed s.count s.cells.now s.stored in
    let o = opened x g.met.K.Key.lawful s.seed c.capacity_of-size.result s.count m s.cells.now h c.capacity_of-size.ensures n in
    sym o.long

pub remove-requires : goal.remove-requires
remove-requires g c =
    let x = kinds_of g.K.Key.kind g.V.Value.kind in
    let s = c.args.self.now in
    let (m, h, n) = held x g.met.K.Key.lawful s.seed s.count s.cells.now s.stored in
    let o = opened x g.met.K.Key.lawful s.seed c.capacity_of-size.result s.count m s.cells.now h c.capacity_of-size.ensures n in
    let f = subst (λ (k : ℕ). Finds x (take k s.cells.now) c.args.key (Some (c.args.place, c.args.old))) (sym c.capacity_of-size.ensures) c.requires in
    record { few = omega (arith, o.long, o.most); sound = o.sound; within = f.0; there = f.1 }

pub fit-requires : goal.fit-requires
fit-requires g c =
    let x = kinds_of g.K.Key.kind g.V.Value.kind in
    let s = c.args.self.now in
    let (m, h, n) = held x g.met.K.Key.lawful s.seed s.count s.cells.now s.stored in
    let f = subst (λ (k : ℕ). Finds x (take k s.cells.now) c.args.key (Some (c.args.place, c.args.old))) (sym c.capacity_of-size.ensures) c.requires in
    let r = removed x g.met.K.Key.lawful s.seed s.count m s.cells.now h n c.args.key c.capacity_of-size.result c.capacity_of-size.ensures _ (c.remove.new.cells ++ drop c.capacity_of-size.result s.cells.now) c.args.place c.args.old f f.3 (ap (λ d. d ++ drop c.capacity_of-size.result s.cells.now) c.remove.ensures) in
    let w = narrower s.count c.capacity_of-wanted.result (length m) (length (without_key x c.args.key m)) n h.lawful.few r.0 c.capacity_of-wanted.ensures in
    record {
      alike = omega (arith, r.1.size, c.args.scratch.now.spare);
      empty = c.args.scratch.now.empty;
      within = omega (arith, r.1.size, r.1.most);
      fits = omega (arith, r.1.size, w.1);
      few = w.1;
      sound = r.1.sound;
      room = omega (arith, r.1.count, w.0);
    }

pub overflow_sub-self-2 : goal.overflow_sub-self-2
overflow_sub-self-2 g c =
    let x = kinds_of g.K.Key.kind g.V.Value.kind in
    let s = c.args.self.now in
    let (m, h, n) = held x g.met.K.Key.lawful s.seed s.count s.cells.now s.stored in
    omega (arith, (drop_takes x g.met.K.Key.lawful s.seed s.count m s.cells.now h n c.args.key (capacity s.count) refl c.args.place c.args.old c.requires).0)

pub invariant_of-self : goal.invariant_of-self
invariant_of-self g c =
    let x = kinds_of g.K.Key.kind g.V.Value.kind in
    let s = c.args.self.now in
    let (m, h, n) = held x g.met.K.Key.lawful s.seed s.count s.cells.now s.stored in
    let f = subst (λ (k : ℕ). Finds x (take k s.cells.now) c.args.key (Some (c.args.place, c.args.old))) (sym c.capacity_of-size.ensures) c.requires in
    let r = removed x g.met.K.Key.lawful s.seed s.count m s.cells.now h n c.args.key c.capacity_of-size.result c.capacity_of-size.ensures _ (c.remove.new.cells ++ drop c.capacity_of-size.result s.cells.now) c.args.place c.args.old f f.3 (ap (λ d. d ++ drop c.capacity_of-size.result s.cells.now) c.remove.ensures) in
    record {
      stored = ∣ (
        without_key x c.args.key m,
        taken x g.met.K.Key.lawful s.seed s.count m s.cells.now h n c.args.key c.capacity_of-size.result c.capacity_of-size.ensures c.capacity_of-wanted.result c.capacity_of-wanted.ensures r.0 c.fit.new.cells
            (moved_or_kept x g.met.K.Key.lawful s.seed c.capacity_of-size.result (without_key x c.args.key m) _ r.1 c.capacity_of-wanted.result c.fit.new.cells r.2 c.fit.ensures.kept c.fit.ensures.laid),
        (drop_takes x g.met.K.Key.lawful s.seed s.count m s.cells.now h n c.args.key (capacity s.count) refl c.args.place c.args.old c.requires).2,
      ) ∣₁;
    }

pub invariant_of-scratch : goal.invariant_of-scratch
invariant_of-scratch g c = record {
  spare = c.fit.auto.scratch ∙ c.args.scratch.now.spare;
  empty = c.fit.ensures.scratch ∙ c.args.scratch.now.empty ∙ ap (λ (k : ℕ). replicate k None) (sym c.fit.auto.scratch);
}

pub returns-clause-cells : goal.returns-clause-cells
returns-clause-cells g c =
    let x = kinds_of g.K.Key.kind g.V.Value.kind in
    let s = c.args.self.now in
    let f = subst (λ (k : ℕ). Finds x (take k s.cells.now) c.args.key (Some (c.args.place, c.args.old))) (sym c.capacity_of-size.ensures) c.requires in
    λ m h n.
    (let r = removed x g.met.K.Key.lawful s.seed s.count m s.cells.now h n c.args.key c.capacity_of-size.result c.capacity_of-size.ensures _ (c.remove.new.cells ++ drop c.capacity_of-size.result s.cells.now) c.args.place c.args.old f f.3 (ap (λ d. d ++ drop c.capacity_of-size.result s.cells.now) c.remove.ensures) in
    taken x g.met.K.Key.lawful s.seed s.count m s.cells.now h n c.args.key c.capacity_of-size.result c.capacity_of-size.ensures c.capacity_of-wanted.result c.capacity_of-wanted.ensures r.0 c.fit.new.cells
    (moved_or_kept x g.met.K.Key.lawful s.seed c.capacity_of-size.result (without_key x c.args.key m) _ r.1 c.capacity_of-wanted.result c.fit.new.cells r.2 c.fit.ensures.kept c.fit.ensures.laid))

pub returns-clause-count : goal.returns-clause-count
returns-clause-count g c =
    let x = kinds_of g.K.Key.kind g.V.Value.kind in
    let s = c.args.self.now in
    let (m, h, n) = held x g.met.K.Key.lawful s.seed s.count s.cells.now s.stored in
    omega (arith, (drop_takes x g.met.K.Key.lawful s.seed s.count m s.cells.now h n c.args.key (capacity s.count) refl c.args.place c.args.old c.requires).0)
