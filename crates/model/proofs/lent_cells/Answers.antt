use Rattle.std.proofs.Common.{arith}
use Rattle.model.proofs.Claims.{all_lists_of_calls}
use Rattle.model.proofs.Once.{lent_cells}
use Rattle.model.proofs.lent_cells.Goals as goal

pub returns : goal.returns
returns g c = record {
  cells = lent_cells g.row.K.Denot g.row.R.Denot g.row.V.Denot _ (omega arith);
  lists = all_lists_of_calls g.row.K.Denot g.row.R.Denot g.row.V.Denot;
}
