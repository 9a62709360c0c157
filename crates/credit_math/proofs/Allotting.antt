-- What the loops of pro-rata keep: what the shares so far leave of the total, and the units handed out so far.
use Rattle.std.proofs.Common.{◌≡◌, ℕ, ◌+◌, ◌-◌, ◌*◌, ◌<◌, ◌≤◌, ltb, List, length, get_or, refl, arith}
pub use Rattle.std.proofs.lemmas.List.{get_or-set_other}
pub use Rattle.std.proofs.lemmas.Grind.{get_or-set_at}
use Rattle.laws.specs.Sums.{sum_below, only, sum_of}
use Rattle.laws.specs.Lists.{table}
use Rattle.laws.proofs.Sums.{sum_none, sum_more, sum_mono, sum_ge}
use Rattle.laws.proofs.Lists.{is_table}
use Rattle.credit_math.specs.ProRata.{share, shares, remainders, residue}
use Rattle.credit_math.specs.Ranks.{rank, lot}
pub use Rattle.credit_math.proofs.Sorted.{length_shares, shares_at}
use Rattle.credit_math.proofs.Shares.{shares_in, remainders_add_up, units, lots_sum}

module _ (qtys : List ℕ) (total : ℕ) where
  -- what the shares of the first i places leave of the total
  unfoldable pub left_after : ℕ → ℕ
  left_after i = total - sum_below (λ k. share total (sum_of qtys) (get_or qtys k 0)) i

  -- no share leaves all of it
  pub left_none : left_after 0 ≡ total
  unfolding left_after
  left_none = omega (arith, sum_none (λ k. share total (sum_of qtys) (get_or qtys k 0)))

  -- one share more leaves so much less
  pub left_more : (i : ℕ) → i < length qtys → left_after i ≡ left_after (i + 1) + share total (sum_of qtys) (get_or qtys i 0)
  unfolding left_after
  left_more i h =
      let f : ℕ → ℕ = λ k. share total (sum_of qtys) (get_or qtys k 0) in
      omega (arith, sum_more f i, sum_mono f (i + 1) (length qtys) (omega arith), shares_in qtys total)

  -- all shares leave the residue
  pub left_all : (i : ℕ) → i ≡ length qtys → left_after i ≡ residue qtys total
  unfolding left_after residue
  left_all i e = rw e

  -- that, times the sum, is all that the rounding took
  pub left_times : (i : ℕ) → i ≡ length qtys → left_after i * sum_of qtys ≡ sum_of (remainders qtys total)
  left_times i e = rw (left_all i e) (remainders_add_up qtys total)

  -- a list with each place's share, and no other, is the shares
  pub shares_written : (out : List ℕ) → length out ≡ length qtys → ((k : ℕ) → k < length qtys → get_or out k 0 ≡ share total (sum_of qtys) (get_or qtys k 0))
      → out ≡ shares qtys total
  unfolding shares
  shares_written out e h = is_table _ _ 0 out e h

-- what the loop that writes the shares goes by
pub ruleset sharing_out = (get_or-set_at, get_or-set_other, left_none, left_more, left_all, left_times, shares_written)

module _ (ids qtys : List ℕ) (total : ℕ) where
  -- the unit of a place whose turn comes within the residue
  abbrev unit_of : ℕ → ℕ
  unit_of i = only (ltb (rank ids qtys i) (residue qtys total)) 1

  -- the units of the first i places
  unfoldable pub given_to : ℕ → ℕ
  given_to = sum_below unit_of

  -- none for no place
  pub given_none : given_to 0 ≡ 0
  unfolding given_to
  given_none = sum_none unit_of

  -- one place more adds its unit
  pub given_more : (i : ℕ) → given_to (i + 1) ≡ given_to i + only (ltb (rank ids qtys i) (residue qtys total)) 1
  unfolding given_to
  given_more i = sum_more unit_of i

  -- a lot is the share and the unit
  pub lot_is : (i : ℕ) → lot ids qtys total i ≡ share total (sum_of qtys) (get_or qtys i 0) + only (ltb (rank ids qtys i) (residue qtys total)) 1
  unfolding lot
  lot_is i = refl

  -- when as many units as the residue are given, the other places keep their shares
  pub none_left_for : (i k : ℕ) → total ≤ sum_of qtys → residue qtys total ≤ given_to i → i ≤ k → k < length qtys → lot ids qtys total k ≡ share total (sum_of qtys) (get_or qtys k 0)
  unfolding given_to
  none_left_for i k fits e l m =
      omega (arith, lot_is k, sum_mono unit_of i k l, sum_more unit_of k, sum_mono unit_of (k + 1) (length qtys) (omega arith), units qtys total fits ids)

  -- a lot is at most the total
  pub lot_in : (i : ℕ) → total ≤ sum_of qtys → i < length qtys → lot ids qtys total i ≤ total
  lot_in i fits h = omega (arith, sum_ge (lot ids qtys total) (length qtys) i h, lots_sum qtys total fits ids)

  -- a list with each place's lot, and no other, is the lots
  pub lots_written : (out : List ℕ) → length out ≡ length qtys → ((k : ℕ) → k < length qtys → get_or out k 0 ≡ lot ids qtys total k)
      → out ≡ table (lot ids qtys total) (length qtys)
  lots_written out e h = is_table _ _ 0 out e h

-- what the loop that hands the units out goes by
pub ruleset handing_out = (get_or-set_at, get_or-set_other, length_shares, shares_at, given_none, given_more, lot_is, lot_in, none_left_for, lots_written)
