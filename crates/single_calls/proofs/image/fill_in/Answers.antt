-- `single_calls::image::fill_in` meets its contract, field by field.
use Rattle.single_calls.specs.Image.{fill_in}
use Rattle.single_calls.proofs.image.fill_in.Goals as goal

pub returns : goal.returns
unfolding fill_in
returns c = cc
