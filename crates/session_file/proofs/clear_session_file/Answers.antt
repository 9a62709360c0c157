-- `session_file::clear_session_file` meets its contract, by its two returns.
use Rattle.std.proofs.Common.{arith}
use Rattle.session_file.proofs.Entry.{len_within, entered_refused, entered_fits}
use Rattle.session_file.proofs.clear_session_file.Goals as goal

pub overflow_cast-result : goal.overflow_cast-result
overflow_cast-result c = record { sfits = omega (arith, len_within c.in-Ok.ensures) }

pub returns-in-Ok : goal.returns-in-Ok
returns-in-Ok c = entered_fits (omega arith) c.in-Ok.ensures

pub returns-in-Err : goal.returns-in-Err
returns-in-Err c = rw c.number.ensures (entered_refused c.in-Err.ensures)
