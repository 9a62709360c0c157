-- What the private functions keep on the way: the lots ahead of a hand, and the fills that they come to.
use Rattle.std.specs.Prelude.{◌≡◌, if◌then◌else◌, List, [], ◌∷◌, ◌++◌, ℕ, ◌-◌, ◌≤◌, nat_lt, ◌==◌, length, slice_index, drop}
use Rattle.laws.specs.Sums.{only}
use Rattle.laws.specs.Lists.{table, keep}
use Rattle.fills.specs.FillCount.{partial_sums, distinct}
use Rattle.fills.specs.declared.lines.Hand.{Hand}

-- lots above 0
unfoldable pub nonzero : List ℕ → List ℕ
nonzero lots = keep (λ lot. nat_lt 0 lot) lots

-- the fills that two lines of lots come to, zero lots left out
unfoldable pub fills_of : (buys sells : List ℕ) → ℕ
fills_of buys sells = distinct (partial_sums (nonzero buys) ++ partial_sums (nonzero sells))

-- order i's lot if it is of that side, else 0
unfoldable pub lot_on : (side : ℕ) (lots sides : List ℕ) (i : ℕ) → ℕ
lot_on side lots sides i = only (slice_index sides i == side) (slice_index lots i)

-- what is ahead of a hand on its side: what is left in it, and the lots from its place on
unfoldable pub ahead : (side : ℕ) (lots sides : List ℕ) → Hand → List ℕ
ahead side lots sides hand = hand.left ∷ drop hand.next (table (lot_on side lots sides) (length lots))

-- a hand that has the next lot has the same lots ahead, and none where nothing is in it
pub record Taken (side : ℕ) (lots sides : List ℕ) (hand taken : Hand) : Type 0 where
  pub same : nonzero (ahead side lots sides taken) ≡ nonzero (ahead side lots sides hand)
  pub none : taken.left ≡ 0 → nonzero (ahead side lots sides taken) ≡ []
  pub within : taken.next ≤ length lots

-- what a fill leaves of a lot
abbrev pub less_other : (lot other : ℕ) → ℕ
less_other lot other = if other == 0 then 0 else lot - other
