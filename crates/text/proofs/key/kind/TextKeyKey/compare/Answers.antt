use Rattle.text.specs.Keys.{text}
use Rattle.text.specs.LexicalLemmas.{lexical_by}
use Rattle.text.proofs.key.kind.TextKeyKey.compare.Goals as goal

pub returns : goal.returns
returns c =
    let j = c.args.self.now in
    let k = c.args.other.now in
    record { order = c.compare.ensures; lexical = lexical_by (text j) (text k) c.compare.result c.compare.ensures }
