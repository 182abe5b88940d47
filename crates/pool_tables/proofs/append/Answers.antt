use mathlib.Core.Path.{refl}
use lib.ListN.{length}
use Rattle.layout.proofs.Lists.Buffers.{written_after}
use Rattle.pool_tables.proofs.append.Goals as goal

pub returns : goal.returns
returns g c =
    written_after c.args.xs.now c.args.ys.now c.args.out.now (length c.args.xs.now) refl c.requires c.copy_front.ensures c.copy_front-2.ensures
