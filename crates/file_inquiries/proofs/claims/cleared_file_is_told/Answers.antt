-- The theorem of proofs/Theorems.antt.
use Rattle.file_inquiries.proofs.Theorems.{cleared_file_is_told}
use Rattle.file_inquiries.proofs.claims.cleared_file_is_told.Goals as goal

pub returns : goal.returns
returns c = cleared_file_is_told
