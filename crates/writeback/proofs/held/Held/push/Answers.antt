use Rattle.std.proofs.Common.{◌≡◌, ◌<◌, [], ◌∷◌, ◌++◌, not, eqb, length, ap, ◌∙◌, refl, rules}
use Rattle.arrayvec.proofs.ArrayVecLemmas.{filter-from_retain}
use Rattle.writeback.specs.Holds.{held_list}
use Rattle.writeback.specs.Slots.{without, renewed, newest_four, beyond_four}
use Rattle.writeback.proofs.Four.{full, room}
use Rattle.writeback.proofs.Slotted.{apart_newest, apart_renewed}
use Rattle.writeback.proofs.held.Held.push.Goals as goal
use Rattle.writeback.proofs.held.Held.push.Goals.{After-push, then-is_full, else-is_full}

held : (c : After-push) → c.push.new.self.items ≡ newest_four (renewed (held_list c.args.self.now) c.args.slot)
held c =
    let ss = c.retain.new.self.items in
    let s = c.args.slot in
    let others : ss ≡ without s.at (held_list c.args.self.now) = filter-from_retain _ (λ t. not (eqb t.at s.at)) _ (λ x b f' y p. search rules) _ _ c.retain.ensures.filtered in
    c.push.ensures.items
    ∙ elim c.if-is_full.branch [
      | then-is_full w ↦
          let four : length ss ≡ 4 = search rules in
          rw w.self-is (full ss s w.pop_at-out.result w.pop_at-out.new.self.items four w.pop_at-out.ensures.value w.pop_at-out.ensures.items).1
      | else-is_full w ↦
          let less : length ss < 4 = search rules in
          rw w.self-is (room ss s less).1
    ]
    ∙ ap (λ v. newest_four (v ++ s ∷ [])) others

pub invariant_of-self : goal.invariant_of-self
invariant_of-self c = record { once = apart_newest (renewed (held_list c.args.self.now) c.args.slot) _ (held c) (apart_renewed (held_list c.args.self.now) _ c.args.slot refl c.args.self.now.once) }

pub returns-clause-out : goal.returns-clause-out
returns-clause-out c =
    let ss = c.retain.new.self.items in
    let s = c.args.slot in
    let others : ss ≡ without s.at (held_list c.args.self.now) = filter-from_retain _ (λ t. not (eqb t.at s.at)) _ (λ x b f' y p. search rules) _ _ c.retain.ensures.filtered in
    elim c.if-is_full.branch [
      | then-is_full w ↦
          let four : length ss ≡ 4 = search rules in
          rw w.out-is (full ss s w.pop_at-out.result w.pop_at-out.new.self.items four w.pop_at-out.ensures.value w.pop_at-out.ensures.items).0
      | else-is_full w ↦
          let less : length ss < 4 = search rules in
          rw w.out-is (room ss s less).0
    ]
    ∙ ap (λ v. beyond_four (v ++ s ∷ [])) others

pub returns-clause-rest : goal.returns-clause-rest
returns-clause-rest c = held (goal.at.returns-clause-rest c).After-push
