-- `clearing::show` ends: each part leaves fewer.
use Rattle.session_file.proofs.PartByPart.{parts_left}
use Rattle.clearing.proofs.show.Given as goal

abbrev pub decreases-loop-s : goal.decreases-loop-s
decreases-loop-s g l = parts_left l.input l.s
