-- What document 02 says of shares and their remainders, and document 01 of the lots, holds of the definitions.
use Rattle.std.proofs.Common.{ℕ, List, length, get_or, arith, ap, ◌∙◌}
use Rattle.std.proofs.lemmas.Nat.{div-mul-add, mod-mul-add, div-add-mod'}
use Rattle.std.proofs.lemmas.List.{get_or_past}
use Rattle.std.proofs.lemmas.Bool.Decides.{nat_tests}
use Rattle.laws.specs.Sums.{sum_of}
use Rattle.laws.proofs.Lists.{length_table, get_or_table, sum_table}
use Rattle.credit_math.specs.ProRata.{share, remainder, shares, remainders}
use Rattle.credit_math.specs.Ranks.{lot}
use Rattle.credit_math.specs.Claims.{RightShare, ShareIsRight, RightRemainders, LotsAreRight}
use Rattle.credit_math.proofs.Sorted.{length_lots, lots_at_lem, lots_table}
use Rattle.credit_math.proofs.Shares.{remainders_add_up, residue_lt, lots_sum, lot_le}

-- a share and its remainder, whatever the sum
share_right : (total sum q : ℕ) → RightShare total sum q (share total sum q) (remainder total sum q)
unfolding share remainder
share_right total sum q = grind (arith, div-add-mod')

-- and no other two numbers are
pub share_is_right : (total sum q : ℕ) → ShareIsRight total sum q
unfolding share remainder
share_is_right total sum q = record { right = share_right total sum q; one_share = λ h quotient rest r. grind (arith, div-mul-add, mod-mul-add) }

-- one remainder for each share
pub remainders_are_right : (qtys : List ℕ) (total : ℕ) → RightRemainders qtys total
unfolding shares remainders
remainders_are_right qtys total = record {
  length_is = length_table _ (length qtys);
  each = λ i h. simp get_or_table (share_right total (sum_of qtys) (get_or qtys i 0));
  added = remainders_add_up qtys total;
}

-- the lots of a total within the sum
pub lots_are_right : (ids qtys : List ℕ) (total : ℕ) → LotsAreRight ids qtys total
unfolding lot
lots_are_right ids qtys total fits = record {
  length_is = length_lots ids qtys total;
  low = λ i h. grind (arith, lots_at_lem);
  high = λ i h. grind (arith, lots_at_lem, nat_tests);
  residue_small = residue_lt qtys total;
  adds_up = ap sum_of (lots_table ids qtys total) ∙ (sum_table (lot ids qtys total) (length qtys) ∙ lots_sum qtys total fits ids);
  within = λ i. grind (arith, lots_at_lem, length_lots, get_or_past, lot_le qtys total fits ids i, nat_tests);
}
