-- The loop's invariant: what is written and what is left to list make up the listing. The measure is what is left of the input.
use Rattle.std.proofs.Common.{◌-◌, length}
use Rattle.session_file.proofs.Running.{Running}
use Rattle.session_file.proofs.run_file.Given as goal

abbrev pub invariant-loop-place : goal.invariant-loop-place
invariant-loop-place l = Running l.input l.initial.out l.place l.session l.number l.at l.out

abbrev pub decreases-loop-place : goal.decreases-loop-place
decreases-loop-place l = length l.input - l.place.at
