-- The places passed hold their lots, the others lack their units, and the units given are those of the places passed.
use Rattle.std.proofs.Common.{◌≡◌, ℕ, ◌+◌, ◌<◌, ◌≤◌, ltb, length, get_or}
use Rattle.laws.specs.Sums.{only}
use Rattle.credit_math.specs.ProRata.{residue}
use Rattle.credit_math.specs.Ranks.{rank, lot}
use Rattle.credit_math.proofs.Allotting.{given_to}
use Rattle.credit_math.proofs.pro_rata.Sharing.write_lots.Given as goal

abbrev pub invariant-loop-i : goal.invariant-loop-i
invariant-loop-i l =
    (l.given ≡ given_to l.self.ids.now l.self.qtys.now l.self.total l.i)
    × ((k : ℕ) → k < l.i → get_or l.out k 0 ≡ lot l.self.ids.now l.self.qtys.now l.self.total k)
    × ((k : ℕ) → l.i ≤ k → k < length l.self.qtys.now
    → get_or l.out k 0 + only (ltb (rank l.self.ids.now l.self.qtys.now k) (residue l.self.qtys.now l.self.total)) 1 ≡ lot l.self.ids.now l.self.qtys.now l.self.total k)
