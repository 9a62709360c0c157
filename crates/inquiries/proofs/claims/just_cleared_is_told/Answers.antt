-- The theorem of proofs/JustCleared.antt.
use Rattle.inquiries.proofs.JustCleared.{just_cleared_is_told}
use Rattle.inquiries.proofs.claims.just_cleared_is_told.Goals as goal

pub returns : goal.returns
returns c = just_cleared_is_told
