use Rattle.std.proofs.Common.{arith, length-append}
use Rattle.kinds.proofs.record.Record.code_len.Goals as goal

pub overflow_add-result : goal.overflow_add-result
overflow_add-result g c =
    let r = c.args.self.now in
    omega (arith, c.code_len.ensures, c.code_len-2.ensures, g.met.K.Key.lawful.codes.short r.key, g.met.V.Value.lawful.codes.short r.value)

pub returns : goal.returns
returns g c =
    let r = c.args.self.now in
    omega (arith, c.code_len.ensures, c.code_len-2.ensures, length-append (g.K.Key.kind.code r.key) (g.V.Value.kind.code r.value))
