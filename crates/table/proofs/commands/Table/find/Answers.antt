use Rattle.std.proofs.Common.{take, subst, ap₂}
use Rattle.layout.specs.Capacity.{capacity}
use Rattle.maps.specs.Maps.{kinds_of}
use Rattle.table.specs.Rows.{Finds}
use Rattle.table.proofs.commands.Table.find.Goals as goal

pub returns : goal.returns
returns g c =
    subst (λ t. Finds (kinds_of g.K.Key.kind g.V.Value.kind) t c.args.key c.find.result) (ap₂ (λ n d. take (capacity n) d) c.stored.ensures.count c.stored.ensures.cells) c.find.ensures
