use Rattle.std.proofs.Common.{arith}
use Rattle.model.proofs.Blocks.{cuts, blocks_written}
use Rattle.model.proofs.block_bytes.Goals as goal

pub returns : goal.returns
returns g c = record {
  blocks = cuts _ (omega arith);
  written = blocks_written g.row.K.Denot g.row.R.Denot g.row.V.Denot g.row.E.Denot;
}
