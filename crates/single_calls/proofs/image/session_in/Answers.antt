-- `single_calls::image::session_in` meets its contract, part by part.
use Rattle.single_calls.specs.Image.{session_in}
use Rattle.single_calls.proofs.image.session_in.Goals as goal

pub returns : goal.returns
unfolding session_in
returns c = cc
