-- The theorem of proofs/Theorems.antt.
use Rattle.inquiries.proofs.Theorems.{causes_are_true}
use Rattle.inquiries.proofs.claims.causes_are_true.Goals as goal

pub returns : goal.returns
returns c = causes_are_true
