use Rattle.std.proofs.Common.{◌≡◌, length, replicate, None, Ok, Err, ap, ◌∙◌, subst}
use Rattle.compare.specs.Compare.{Compares}
use Rattle.contents.specs.Faults.{told}
use Rattle.contents.specs.Setups.{setup, meaning}
use Rattle.contents.proofs.Found.{none_cloned}
use Rattle.contents.proofs.Setups.{setup_laws}
use Rattle.audit.specs.Pairs.{comparison}
use Rattle.audit.specs.declared.fault.AuditFault.TheVariants.{First, Second}
use Rattle.audit.proofs.Pairs.{stored, first_refused, second_refused, both_read, yes_exactly, equal_images}
use Rattle.audit.proofs.two.audit_two.Goals as goal

pub new-other-requires : goal.new-other-requires
new-other-requires g c =
    ∣ stored (setup g.K.Key.kind g.V.Value.kind) (meaning g.T.Store c.args.second.now) c.args.second_cells.now c.examine.new.work
    (c.in-Ok-examine.other_count, c.in-Ok-examine.other_seed) c.examine-2.new.cells c.examine-2.new.work c.in-Ok-examine.ensures ∣₁

pub same_map-same-requires : goal.same_map-same-requires
same_map-same-requires g c = (
  c.in-Ok.found.1,
  stored (setup g.K.Key.kind g.V.Value.kind) (meaning g.S.Store c.args.first.now) c.args.first_cells.now c.args.work.now c.in-Ok.found
      c.examine.new.cells c.examine.new.work c.in-Ok.ensures,
)

pub returns-in-Err : goal.returns-in-Err
returns-in-Err g c =
    let x = setup g.K.Key.kind g.V.Value.kind in
    let s = meaning g.S.Store c.args.first.now in
    let t = meaning g.T.Store c.args.second.now in
    let cells = c.args.first_cells.now in
    let other = c.args.second_cells.now in
    let work = c.args.work.now in
    let w = (setup_laws g.K.Key.kind g.V.Value.kind g.met.K.Key.lawful g.met.V.Value.lawful).written in
    let f = told g.S.Fault.BlockFault c.in-Err.fault in
    let r = comparison g.S.Fault.BlockFault g.T.Fault.BlockFault (Err (First c.in-Err.fault))
    c.examine.new.cells other c.examine.new.work in
    let both = first_refused x s t cells other work f c.examine.new.cells c.examine.new.work c.in-Err.ensures in
    record {
      audits = both;
      yes = yes_exactly x s t cells other work w r both;
      equal = equal_images x s t cells other work w r both (g.S.Store.lengths c.args.first.now).of_shown (g.T.Store.lengths c.args.second.now).of_shown;
    }

pub returns-in-Err-examine : goal.returns-in-Err-examine
returns-in-Err-examine g c =
    let x = setup g.K.Key.kind g.V.Value.kind in
    let s = meaning g.S.Store c.args.first.now in
    let t = meaning g.T.Store c.args.second.now in
    let cells = c.args.first_cells.now in
    let other = c.args.second_cells.now in
    let work = c.args.work.now in
    let w = (setup_laws g.K.Key.kind g.V.Value.kind g.met.K.Key.lawful g.met.V.Value.lawful).written in
    let f = told g.T.Fault.BlockFault c.in-Err-examine.fault in
    let r = comparison g.S.Fault.BlockFault g.T.Fault.BlockFault (Err (Second c.in-Err-examine.fault))
    c.fill-in-Err-examine.new.self c.examine-2.new.cells c.examine-2.new.work in
    let empty : c.fill-in-Err-examine.new.self ≡ replicate (length c.examine.new.cells) None = c.fill-in-Err-examine.ensures.after (none_cloned _ (λ a e. e)) in
    let both = second_refused x s t cells other work c.in-Ok.found c.examine.new.cells c.fill-in-Err-examine.new.self c.examine.new.work c.in-Ok.ensures
    (empty ∙ ap (λ n. replicate n None) c.examine.auto.cells) f c.examine-2.new.cells c.examine-2.new.work c.in-Err-examine.ensures in
    record {
      audits = both;
      yes = yes_exactly x s t cells other work w r both;
      equal = equal_images x s t cells other work w r both (g.S.Store.lengths c.args.first.now).of_shown (g.T.Store.lengths c.args.second.now).of_shown;
    }

pub returns-in-Ok-examine : goal.returns-in-Ok-examine
returns-in-Ok-examine g c =
    let x = setup g.K.Key.kind g.V.Value.kind in
    let s = meaning g.S.Store c.args.first.now in
    let t = meaning g.T.Store c.args.second.now in
    let cells = c.args.first_cells.now in
    let other = c.args.second_cells.now in
    let work = c.args.work.now in
    let w = (setup_laws g.K.Key.kind g.V.Value.kind g.met.K.Key.lawful g.met.V.Value.lawful).written in
    let r = comparison g.S.Fault.BlockFault g.T.Fault.BlockFault (Ok c.same_map-same.result)
    c.fill.new.self c.fill-in-Ok-examine.new.self c.examine-2.new.work in
    let empty : c.fill.new.self ≡ replicate (length c.examine.new.cells) None = c.fill.ensures.after (none_cloned _ (λ a e. e)) in
    let other_empty : c.fill-in-Ok-examine.new.self ≡ replicate (length c.examine-2.new.cells) None = c.fill-in-Ok-examine.ensures.after (none_cloned _ (λ a e. e)) in
    let both = both_read x s t cells other work c.in-Ok.found c.examine.new.cells c.fill.new.self c.examine.new.work c.in-Ok.ensures
    (empty ∙ ap (λ n. replicate n None) c.examine.auto.cells) w (c.in-Ok-examine.other_count, c.in-Ok-examine.other_seed)
    c.examine-2.new.cells c.fill-in-Ok-examine.new.self c.examine-2.new.work c.in-Ok-examine.ensures
    (other_empty ∙ ap (λ n. replicate n None) c.examine-2.auto.cells) c.same_map-same.result
    (subst (λ cs. Compares x.kinds c.examine.new.cells cs c.same_map-same.result) c.new-other.ensures.cells c.same_map-same.ensures) in
    record {
      audits = both;
      yes = yes_exactly x s t cells other work w r both;
      equal = equal_images x s t cells other work w r both (g.S.Store.lengths c.args.first.now).of_shown (g.T.Store.lengths c.args.second.now).of_shown;
    }
