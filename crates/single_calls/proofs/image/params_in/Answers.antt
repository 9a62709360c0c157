-- `single_calls::image::params_in` meets its contract, field by field.
use Rattle.std.proofs.Common.{rules, SFits, w64, to_z-of_z}
use Rattle.single_calls.specs.Image.{params_in}
use Rattle.single_calls.proofs.image.params_in.Goals as goal

pub returns : goal.returns
unfolding params_in
returns c =
    let end : SFits w64 c.time_at.result = search rules in
    let window : SFits w64 c.time_at-2.result = search rules in
    let deadline : SFits w64 c.time_at-3.result = search rules in
    rw (to_z-of_z end, to_z-of_z window, to_z-of_z deadline) cc
