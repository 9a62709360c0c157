-- The loop's invariant: the records read so far leave, with those that are left, what the whole file does. The measure is what is left of the input.
use Rattle.std.proofs.Common.{◌-◌, length}
use Rattle.session_file.proofs.Ended.{Reading}
use Rattle.session_file.proofs.session_of.Given as goal

abbrev pub invariant-loop-place : goal.invariant-loop-place
invariant-loop-place l = Reading l.input l.place l.session

abbrev pub decreases-loop-place : goal.decreases-loop-place
decreases-loop-place l = length l.input - l.place.at
