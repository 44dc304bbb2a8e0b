use Rattle.std.proofs.Common.{arith}
use Rattle.text.specs.KeysLemmas.{key_kept, key_length}
use Rattle.text.proofs.key.kind.TextKeyKey.code_len.Goals as goal

pub overflow_add-result : goal.overflow_add-result
overflow_add-result c = let k = c.args.self.now in omega (arith, c.len.ensures, key_length k, (key_kept k).few)

pub returns : goal.returns
returns c = omega (arith, c.len.ensures)
