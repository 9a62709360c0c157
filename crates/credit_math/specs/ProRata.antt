-- `allocate_pro_rata`: a total shared out over quantities, each with an id.
use Rattle.std.specs.Prelude.{Bool, if◌then◌else◌, not, ◌&&◌, List, [], ◌∷◌, ℕ, zero, suc, ◌+◌, ◌-◌, ◌*◌, ◌/◌, ◌%◌, nat_lt, nat_le, ◌==◌, length, slice_index, set}
use Rattle.laws.specs.Sums.{sum_below, sum_of}
use Rattle.laws.specs.Lists.{table}
use Rattle.laws.specs.Sort.{sort}
use Rattle.laws.specs.Lex.{lex}
use Rattle.laws.specs.Checks.{unless, ◌then◌}
use Rattle.credit_math.specs.Limits.{max_orders}
use Rattle.credit_math.specs.Error.{invalid_input, over_allocation, bad_length}

-- 'Share = floor(total × quantity / sum)'
unfoldable pub share : (total sum qty : ℕ) → ℕ
share total sum qty = total * qty / sum

-- 'its remainder': what rounding down takes of the share. By a sum of 0, as in `◌/◌` and `◌%◌`, the quotient is 0 and the remainder all that was to be divided
unfoldable pub remainder : (total sum qty : ℕ) → ℕ
remainder total sum qty = total * qty % sum

-- each place's share
unfoldable pub shares : (qtys : List ℕ) (total : ℕ) → List ℕ
shares qtys total = table (λ i. share total (sum_of qtys) (slice_index qtys i)) (length qtys)

-- and its remainder
unfoldable pub remainders : (qtys : List ℕ) (total : ℕ) → List ℕ
remainders qtys total = table (λ i. remainder total (sum_of qtys) (slice_index qtys i)) (length qtys)

-- what the shares leave of the total
unfoldable pub residue : (qtys : List ℕ) (total : ℕ) → ℕ
residue qtys total = total - sum_below (λ i. share total (sum_of qtys) (slice_index qtys i)) (length qtys)

-- 'largest quantity first, ties to the lower id': place j comes before place i
unfoldable pub precedes : (ids qtys : List ℕ) (j i : ℕ) → Bool
precedes ids qtys j i = lex (slice_index qtys i) (slice_index qtys j) (nat_lt (slice_index ids j) (slice_index ids i))

-- the places in that order, 'then the earlier place'
unfoldable pub turns : (ids qtys : List ℕ) → List ℕ
turns ids qtys = sort (precedes ids qtys) (table (λ i. i) (length qtys))

-- 'one unit each' to the first r of the places
unfoldable pub hand_out : (places : List ℕ) (r : ℕ) (lots : List ℕ) → List ℕ
hand_out [] r lots = lots
hand_out (i ∷ places) zero lots = lots
hand_out (i ∷ places) (suc r) lots = hand_out places r (set lots i (slice_index lots i + 1))

-- the lots: the shares, and the residue handed out
unfoldable pub lots : (ids qtys : List ℕ) (total : ℕ) → List ℕ
lots ids qtys total = hand_out (turns ids qtys) (residue qtys total) (shares qtys total)

-- 'Public pro-rata ..' | 30 over 16 entries or lent slices of unequal length, the output's included; 28 total > 0 with sum 0; 29 total above sum
unfoldable pub pro_rata_refusal : (ids qtys : List ℕ) (room total : ℕ) → ℕ
pro_rata_refusal ids qtys room total =
    unless (nat_le (length qtys) max_orders) bad_length
    then unless (length ids == length qtys) bad_length
    then unless (room == length qtys) bad_length
    then unless (not (nat_lt 0 total && sum_of qtys == 0)) invalid_input
    then unless (nat_le total (sum_of qtys)) over_allocation

-- what the lent output then holds: the lots, or what it held
unfoldable pub allocate_pro_rata : (ids qtys : List ℕ) (total : ℕ) (out : List ℕ) → List ℕ
allocate_pro_rata ids qtys total out = if pro_rata_refusal ids qtys (length out) total == 0 then lots ids qtys total else out
