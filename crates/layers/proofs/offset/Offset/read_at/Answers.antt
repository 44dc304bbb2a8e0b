use Rattle.std.proofs.Common.{ap, ◌∙◌, rules}
use Rattle.store.specs.Answers.{told}
use Rattle.store.specs.Faults.{fault_number, fault_block}
use Rattle.store.specs.declared.fault.StoreFault.TheVariants.{Unreadable}
use Rattle.store.proofs.Mapped.{mapped}
use Rattle.layers.proofs.Offsets.{offset_read}
use Rattle.layers.proofs.offset.Offset.read_at.Goals as goal

pub returns : goal.returns
returns g c =
    let e = mapped (Unreadable c.args.i) _ c.read.result c.map_err.result (λ e f p. search rules) c.map_err.ensures.cases in
    ap (told fault_number fault_block) e ∙ offset_read _ _ _ _ _ c.args.at c.requires _ c.read.result c.read.ensures
