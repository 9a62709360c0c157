-- The theorem of proofs/OneToOne.antt.
use Rattle.listing.proofs.OneToOne.{one_to_one}
use Rattle.listing.proofs.claims.one_to_one.Goals as goal

pub returns : goal.returns
returns c = one_to_one
