-- The theorem of proofs/Theorems.antt.
use Rattle.file_inquiries.proofs.Theorems.{refused_by_question}
use Rattle.file_inquiries.proofs.claims.refused_by_question.Goals as goal

pub returns : goal.returns
returns c = refused_by_question
