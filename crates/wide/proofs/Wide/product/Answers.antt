-- `Wide::product` meets its contract, from the columns of a product of two digits to the base 2 ^ 32.
use Rattle.std.proofs.Common.{◌^◌}
use Rattle.wide.proofs.Columns.{whole}
use Rattle.wide.proofs.Wide.product.Goals as goal

pub returns : goal.returns
returns c = whole (2 ^ 32) c.args.u c.args.v
