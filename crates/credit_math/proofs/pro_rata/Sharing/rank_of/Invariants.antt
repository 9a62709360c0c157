-- The rank so far is the number of places below j that come before i.
use Rattle.std.proofs.Common.{◌≡◌, ◌≤◌}
use Rattle.laws.specs.Sums.{count}
use Rattle.credit_math.specs.Ranks.{before}
use Rattle.credit_math.proofs.pro_rata.Sharing.rank_of.Given as goal

abbrev pub invariant-loop-j : goal.invariant-loop-j
invariant-loop-j l = (l.rank ≡ count (λ k. before l.fn.self.ids.now l.fn.self.qtys.now k l.i) l.j) × (l.rank ≤ l.j)
