-- `single_calls::image::order_in` meets its contract, field by field.
use Rattle.single_calls.specs.Image.{order_in}
use Rattle.single_calls.proofs.image.order_in.Goals as goal

pub returns : goal.returns
unfolding order_in
returns c = cc
