-- Shares are floors: they add up to at most the total, the residue times the sum is all their remainders added, so that the residue is below the
-- number of quantities that are not 0, and the lots, the residue handed out by rank, add up to the total with none above its quantity.
use Rattle.std.proofs.Common.{◌≡◌, ℕ, zero, suc, ◌+◌, ◌*◌, ◌<◌, ◌≤◌, min, ltb, arith, List, length, get_or, ap, inl, inr}
use Rattle.std.proofs.Math.Nat.{div-le_of_le-mul, mul-div_cancel_left, le_of_mul-le-mul_right, lt_of_mul-lt-mul_right}
use Rattle.std.proofs.lemmas.Nat.{div-add-mod', div_below}
use Rattle.std.proofs.lemmas.Bool.Decides.{nat_tests}
use Rattle.std.proofs.lemmas.Bool.{cases_eq}
use Rattle.laws.specs.Sums.{sum_below, only, count, sum_of}
use Rattle.laws.proofs.Sums.{sum_same, sum_zero, sum_add, count_le, some_above}
use Rattle.laws.proofs.Lists.{sum_table}
use Rattle.laws.proofs.Rank.{picked_all}
use Rattle.credit_math.specs.ProRata.{share, remainder, remainders, residue}
use Rattle.credit_math.specs.Ranks.{filled, before, rank, lot}
use Rattle.credit_math.proofs.Turns.{before_irrefl, before_trans, before_total, empty_last}

module _ (total sum q : ℕ) where
  -- a share times the sum, and its remainder, are the total times the quantity
  pub share_exact : total * q ≡ share total sum q * sum + remainder total sum q
  unfolding share remainder
  share_exact = omega (arith, div-add-mod' (total * q) sum)

  -- no share of a total within the sum is above its quantity
  pub share_le : total ≤ sum → share total sum q ≤ q
  unfolding share
  share_le h = grind (arith, div-le_of_le-mul)

  -- of a total below the sum it is below
  share_lt : 0 < q → total < sum → share total sum q < q
  unfolding share
  share_lt p h = grind (arith, div_below)

  -- of a sum of 0 a share is 0
  share_none : sum ≡ 0 → share total sum q ≡ 0
  unfolding share
  share_none e = grind arith

  -- of the whole sum each is its quantity
  share_all : 0 < sum → total ≡ sum → share total sum q ≡ q
  unfolding share
  share_all p e = grind (arith, mul-div_cancel_left)

  -- with a unit for a quantity that is not 0, the remainder is at most one sum
  one_below : 0 < sum → remainder total sum q + only (ltb 0 q) 1 ≤ only (ltb 0 q) 1 * sum
  unfolding remainder
  one_below p = grind (arith, nat_tests)

-- so it is with the shares and the remainders of k places
shares_exact : (total sum : ℕ) (f : ℕ → ℕ) (k : ℕ)
    → total * sum_below f k ≡ sum_below (λ i. share total sum (f i)) k * sum + sum_below (λ i. remainder total sum (f i)) k
unfolding sum_below
shares_exact total sum f zero = omega arith
shares_exact total sum f (suc k) = omega (arith, shares_exact total sum f k, share_exact total sum (f k))

-- with a unit for each quantity that is not 0, the remainders are at most as many sums
remainders_below : (total sum : ℕ) (f : ℕ → ℕ) (k : ℕ) → 0 < sum
    → sum_below (λ i. remainder total sum (f i)) k + count (λ i. ltb 0 (f i)) k ≤ count (λ i. ltb 0 (f i)) k * sum
unfolding sum_below count
remainders_below total sum f zero p = omega arith
remainders_below total sum f (suc k) p = omega (arith, remainders_below total sum f k p, one_below total sum (f k) p)

module _ (qtys : List ℕ) where
  -- the quantities, and how many
  abbrev q : ℕ → ℕ
  q i = get_or qtys i 0

  abbrev n : ℕ
  n = length qtys

  module _ (total : ℕ) where
    -- the shares added
    abbrev given : ℕ
    given = sum_below (λ i. share total (sum_of qtys) (q i)) n

    -- the shares are within the total
    pub shares_in : given ≤ total
    unfolding sum_of
    shares_in = elim (cases_eq (sum_of qtys) 0) [
      | inl e ↦ omega (arith, sum_zero (λ i. share total (sum_of qtys) (q i)) n (λ i _. share_none total (sum_of qtys) (q i) e))
      | inr e ↦ le_of_mul-le-mul_right {k = sum_of qtys} (omega (arith, shares_exact total (sum_of qtys) q n)) (omega arith)
    ]

    -- and the residue is the rest
    pub rest : given + residue qtys total ≡ total
    unfolding residue
    rest = omega (arith, shares_in)

    -- the residue times the sum is what the rounding took of all
    pub remainders_add_up : residue qtys total * sum_of qtys ≡ sum_of (remainders qtys total)
    unfolding remainders sum_of
    remainders_add_up = omega (arith, rest, shares_exact total (sum_of qtys) q n, sum_table (λ i. remainder total (sum_of qtys) (q i)) n, ap (λ x. x * sum_of qtys) rest)

    -- the residue is below the number of quantities that are not 0
    pub residue_lt : 0 < sum_of qtys → residue qtys total < filled qtys
    unfolding sum_of remainders
    residue_lt p = lt_of_mul-lt-mul_right (sum_of qtys) (omega (arith, remainders_add_up, sum_table (λ i. remainder total (sum_of qtys) (q i)) n, remainders_below total (sum_of qtys) q n p, some_above q n p))

    module _ (fits : total ≤ sum_of qtys) where
      -- also where there is none
      pub residue_le : residue qtys total ≤ filled qtys
      residue_le = grind (arith, rest, residue_lt, cases_eq (sum_of qtys) 0)

      -- where the total is the sum, nothing is left
      none_left : total ≡ sum_of qtys → residue qtys total ≡ 0
      unfolding sum_of
      none_left e = elim (cases_eq (sum_of qtys) 0) [
        | inl e ↦ omega (arith, rest)
        | inr p ↦ omega (arith, rest, sum_same (λ i. share total (sum_of qtys) (q i)) q n (λ i _. share_all total (sum_of qtys) (q i) (omega arith) e))
      ]

      module _ (ids : List ℕ) where
        -- as many units as the residue
        pub units : sum_below (λ i. only (ltb (rank ids qtys i) (residue qtys total)) 1) n ≡ min (residue qtys total) n
        unfolding count rank
        units = picked_all (before ids qtys) (before_irrefl ids qtys) (before_trans ids qtys) (before_total ids qtys) n (residue qtys total)

        -- the lots add up to the total
        pub lots_sum : sum_below (lot ids qtys total) n ≡ total
        unfolding lot
        lots_sum = omega (
          arith,
          sum_add (λ i. share total (sum_of qtys) (q i)) (λ i. only (ltb (rank ids qtys i) (residue qtys total)) 1) n,
          units,
          rest,
          residue_le,
          count_le (λ i. ltb 0 (q i)) n,
        )

        -- no lot is above its quantity: a unit falls only to one that is not 0, and where there is one the total is below the sum
        pub lot_le : (i : ℕ) → lot ids qtys total i ≤ q i
        unfolding lot
        lot_le i = grind (arith, nat_tests, share_lt total (sum_of qtys) (q i), share_le total (sum_of qtys) (q i) fits, none_left, residue_le, empty_last ids qtys i)
