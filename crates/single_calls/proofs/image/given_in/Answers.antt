-- `single_calls::image::given_in` meets its contract, field by field.
use Rattle.single_calls.specs.Image.{given_in}
use Rattle.single_calls.proofs.image.given_in.Goals as goal

pub returns : goal.returns
unfolding given_in
returns c = cc
