use Rattle.std.proofs.Common.{sym, ◌∙◌, arith, length-append}
use Rattle.std.proofs.lemmas.List.{get_or_append_left, get_or-append_right}
use Rattle.kinds.proofs.record.Record.code_at.Goals as goal

pub code_at-requires-else-i-n : goal.code_at-requires-else-i-n
code_at-requires-else-i-n g c =
    let r = c.args.self.now in
    omega (arith, c.code_len-n.ensures, c.requires, length-append (g.K.Key.kind.code r.key) (g.V.Value.kind.code r.value))

pub returns-then-i-n : goal.returns-then-i-n
returns-then-i-n g c =
    let r = c.args.self.now in
    c.code_at.ensures
    ∙ sym (get_or_append_left (g.K.Key.kind.code r.key) (g.V.Value.kind.code r.value) 0 c.args.i (omega (arith, c.code_len-n.ensures)))

pub returns-else-i-n : goal.returns-else-i-n
returns-else-i-n g c =
    let r = c.args.self.now in
    c.code_at-else-i-n.ensures
    ∙ sym (get_or-append_right (g.K.Key.kind.code r.key) (g.V.Value.kind.code r.value) c.code_len-n.result c.args.i 0 (sym c.code_len-n.ensures) (omega arith))
