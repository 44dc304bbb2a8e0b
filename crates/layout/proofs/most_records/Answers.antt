use Rattle.std.proofs.Common.{arith}
use Rattle.layout.proofs.Laws.{theorems, at_most}
use Rattle.layout.proofs.most_records.Goals as goal

pub returns : goal.returns
returns g c = record {
  laws = theorems g.row.R.Denot g.row.Q.Denot _ _ (omega arith) (omega arith);
  largest = λ n w. omega (arith, at_most n w);
}
