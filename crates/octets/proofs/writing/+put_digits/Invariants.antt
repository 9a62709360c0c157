-- `octets::writing::put_digits` ends: the measure is the number that is left to write.
use Rattle.octets.proofs.writing.+put_digits.Given as goal

abbrev pub decreases-put_digits : goal.decreases-put_digits
decreases-put_digits l = l.x
