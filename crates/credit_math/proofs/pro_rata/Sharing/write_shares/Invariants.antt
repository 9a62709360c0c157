-- The places passed hold their shares, and the rest of the total is left.
use Rattle.std.proofs.Common.{◌≡◌, ℕ, ◌<◌, get_or}
use Rattle.laws.specs.Sums.{sum_of}
use Rattle.credit_math.specs.ProRata.{share}
use Rattle.credit_math.proofs.Allotting.{left_after}
use Rattle.credit_math.proofs.pro_rata.Sharing.write_shares.Given as goal

abbrev pub invariant-loop-i : goal.invariant-loop-i
invariant-loop-i l =
    (l.left ≡ left_after l.self.qtys.now l.self.total l.i)
    × ((k : ℕ) → k < l.i → get_or l.out k 0 ≡ share l.self.total (sum_of l.self.qtys.now) (get_or l.self.qtys.now k 0))
