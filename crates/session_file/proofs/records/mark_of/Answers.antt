-- `session_file::records::mark_of` meets its contract, arm by arm.
use Rattle.std.proofs.Common.{sym, ap, rules}
use Rattle.session_file.specs.Marks.{mark_of}
use Rattle.session_file.proofs.Marks.{mark_none}
use Rattle.session_file.proofs.records.mark_of.Goals as goal

pub returns-in-18515 : goal.returns-in-18515
unfolding mark_of
returns-in-18515 c = sym (ap mark_of c.in-18515.is)

pub returns-in-18771 : goal.returns-in-18771
unfolding mark_of
returns-in-18771 c = sym (ap mark_of c.in-18771.is)

pub returns-in-21071 : goal.returns-in-21071
unfolding mark_of
returns-in-21071 c = sym (ap mark_of c.in-21071.is)

pub returns-in-17235 : goal.returns-in-17235
unfolding mark_of
returns-in-17235 c = sym (ap mark_of c.in-17235.is)

pub returns-in-19523 : goal.returns-in-19523
unfolding mark_of
returns-in-19523 c = sym (ap mark_of c.in-19523.is)

pub returns-in-19521 : goal.returns-in-19521
unfolding mark_of
returns-in-19521 c = sym (ap mark_of c.in-19521.is)

pub returns-in-22610 : goal.returns-in-22610
unfolding mark_of
returns-in-22610 c = sym (ap mark_of c.in-22610.is)

pub returns-in-17234 : goal.returns-in-17234
unfolding mark_of
returns-in-17234 c = sym (ap mark_of c.in-17234.is)

pub returns-in-21587 : goal.returns-in-21587
unfolding mark_of
returns-in-21587 c = sym (ap mark_of c.in-21587.is)

pub returns-in-19283 : goal.returns-in-19283
unfolding mark_of
returns-in-19283 c = sym (ap mark_of c.in-19283.is)

pub returns-in-20038 : goal.returns-in-20038
unfolding mark_of
returns-in-20038 c = sym (ap mark_of c.in-20038.is)

pub returns-in-22597 : goal.returns-in-22597
unfolding mark_of
returns-in-22597 c = sym (ap mark_of c.in-22597.is)

pub returns-in_default : goal.returns-in_default
returns-in_default c = sym (mark_none _ (search rules))
