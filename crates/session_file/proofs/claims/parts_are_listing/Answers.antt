-- The theorem of proofs/PartByPart.antt.
use Rattle.session_file.proofs.PartByPart.{parts_are_listing}
use Rattle.session_file.proofs.claims.parts_are_listing.Goals as goal

pub returns : goal.returns
returns c = parts_are_listing
