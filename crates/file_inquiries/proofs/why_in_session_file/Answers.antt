-- `file_inquiries::why_in_session_file` meets its contract, by its two returns.
use Rattle.std.proofs.Common.{arith}
use Rattle.file_inquiries.proofs.Asking.{told_within, told_length, told_number}
use Rattle.file_inquiries.proofs.why_in_session_file.Goals as goal

pub overflow_cast-result : goal.overflow_cast-result
overflow_cast-result c = record { sfits = omega (arith, told_within _ _ _ _ _ c.in-Ok.ensures) }

pub returns-in-Ok : goal.returns-in-Ok
returns-in-Ok c = told_length _ _ _ _ _ (omega arith) c.in-Ok.ensures

pub returns-in-Err : goal.returns-in-Err
returns-in-Err c = rw c.number.ensures (told_number _ _ _ _ _ c.in-Err.ensures)
