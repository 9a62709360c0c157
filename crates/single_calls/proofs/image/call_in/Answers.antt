-- `single_calls::image::call_in` meets its contract, field by field.
use Rattle.std.proofs.Common.{rules, SFits, w64, to_z-of_z}
use Rattle.single_calls.specs.Image.{call_in}
use Rattle.single_calls.proofs.image.call_in.Goals as goal

pub returns : goal.returns
unfolding call_in
returns c = let now : SFits w64 c.time_at.result = search rules in rw (to_z-of_z now) cc
