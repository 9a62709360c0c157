-- `single_calls::image::cleared_in` meets its contract, field by field.
use Rattle.single_calls.specs.Image.{cleared_in}
use Rattle.single_calls.proofs.image.cleared_in.Goals as goal

pub returns : goal.returns
unfolding cleared_in
returns c = cc
