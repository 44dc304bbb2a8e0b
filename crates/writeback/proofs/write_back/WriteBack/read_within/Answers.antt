use Rattle.std.proofs.Common.{ap, ◌∙◌, rules}
use Rattle.store.proofs.Mapped.{mapped}
use Rattle.store.specs.Answers.{told}
use Rattle.store.specs.Faults.{fault_number, fault_block}
use Rattle.store.specs.declared.fault.StoreFault.TheVariants.{Unreadable}
use Rattle.writeback.specs.Holds.{held_list}
use Rattle.writeback.proofs.Overlaid.{held_read, below_told}
use Rattle.writeback.proofs.write_back.WriteBack.read_within.Goals as goal

pub returns-in-Some : goal.returns-in-Some
returns-in-Some g c =
    let s = c.args.self.now in
    let m = g.S.Store in
    held_read _ (m.protected s.below) (m.shown s.below) (held_list s.held) c.args.i c.requires (m.lengths s.below).of_shown _ c.in-Some.ensures

pub returns-in-None : goal.returns-in-None
returns-in-None g c =
    let s = c.args.self.now in
    let m = g.S.Store in
    let e = mapped (Unreadable c.args.i) _ c.read.result c.map_err.result (λ e f p. search rules) c.map_err.ensures.cases in
    ap (told fault_number fault_block) e ∙ below_told _ (m.protected s.below) (m.shown s.below) (held_list s.held) c.args.i c.requires (m.lengths s.below).of_shown _ c.read.result c.in-None.ensures c.read.ensures
