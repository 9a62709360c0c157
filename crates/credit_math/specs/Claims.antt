-- What is proved of the definitions: proofs/Rounding.antt, proofs/PriceTheorems.antt, proofs/TableTheorems.antt and proofs/ProRataTheorems.antt.
use Rattle.std.specs.Prelude.{◌≡◌, ◌≢◌, ◌↔◌, Bool, true, List, ℕ, ◌+◌, ◌*◌, ◌^◌, ◌≤◌, ◌<◌, nat_lt, length, slice_index}
use Rattle.laws.specs.Sums.{sum_below, only, count, sum_of}
use Rattle.laws.specs.Lists.{Member}
use Rattle.credit_math.specs.Limits.{max_orders, side_bits, volume_bits}
use Rattle.credit_math.specs.Error.{bad_length, no_cross}
use Rattle.credit_math.specs.Rounding.{ceil_div}
use Rattle.credit_math.specs.Price.{buy, sell, executed, better, price_refusal, find_uniform_clear_price, Found, refused, failed, cross}
use Rattle.credit_math.specs.SideTotals.{Table, side_totals}
use Rattle.credit_math.specs.ProRata.{share, remainder, shares, remainders, residue, lots}

-- 'rounded up': of the numbers that, times b, come to a or more, the least
pub record RoundsUp (a b : ℕ) : Type 0 where
  pub enough : a ≤ ceil_div a b * b
  pub least : (m : ℕ) → a ≤ m * b → ceil_div a b ≤ m

-- two tables have the same rows; what stands behind these is not asked
pub record SameRows (t u : Table) : Type 0 where
  pub counts : t.count ≡ u.count
  pub limits_too : (k : ℕ) → k < t.count → slice_index t.limits k ≡ slice_index u.limits k
  pub buys_too : (k : ℕ) → k < t.count → slice_index t.buys k ≡ slice_index u.buys k
  pub sells_too : (k : ℕ) → k < t.count → slice_index t.sells k ≡ slice_index u.sells k

module _ (is_buy : List Bool) (limits qtys : List ℕ) where
  -- p is a candidate, an order's limit at or above the reserve, and executes something
  pub record Executes (reserve p : ℕ) : Type 0 where
    pub limit : Member p limits
    pub floor : reserve ≤ p
    pub some : 0 < executed is_buy limits qtys p

  -- the best price: it executes something, and is better than any other that does
  pub record BestPrice (reserve reference p : ℕ) : Type 0 where
    pub executes : Executes reserve p
    pub beats : (q : ℕ) → Executes reserve q → q ≢ p → better is_buy limits qtys reference p q ≡ true

  -- what the search must answer, one of three
  pub data RightPrice (reserve reference : ℕ) (answer : Found) : Type 0 where
    -- '30 over 16 entries or lent slices of unequal length'
    turned_away : price_refusal is_buy limits qtys ≡ bad_length → answer ≡ refused bad_length → RightPrice reserve reference answer
    -- NoCross where no candidate executes anything
    no_crossing : price_refusal is_buy limits qtys ≡ 0 → ((p : ℕ) → Executes reserve p → ⊥) → answer ≡ failed no_cross → RightPrice reserve reference answer
    -- otherwise the best price, with its executed quantity
    cross_at : price_refusal is_buy limits qtys ≡ 0 → (p : ℕ) → BestPrice reserve reference p → answer ≡ cross p (executed is_buy limits qtys p) → RightPrice reserve reference answer

  -- the search is right, for all lists, reserves and references, and no other answer would be
  pub record PriceIsRight (reserve reference : ℕ) : Type 0 where
    pub right : RightPrice reserve reference (find_uniform_clear_price is_buy limits qtys reserve reference)
    pub one_best : (p q : ℕ) → BestPrice reserve reference p → BestPrice reserve reference q → p ≡ q
    pub one_answer : (a : Found) → RightPrice reserve reference a → a ≡ find_uniform_clear_price is_buy limits qtys reserve reference
    -- NoCross exactly where no candidate executes anything
    pub no_cross_exactly : price_refusal is_buy limits qtys ≡ 0
        → (find_uniform_clear_price is_buy limits qtys reserve reference ≡ failed no_cross) ↔ ((p : ℕ) → Executes reserve p → ⊥)

  -- a table as document 02 has it
  pub record RightTable (t : Table) : Type 0 where
    -- 'It holds exactly the orders' limits'
    pub exactly : (p : ℕ) → ((k : ℕ) × (k < t.count) × (slice_index t.limits k ≡ p)) ↔ Member p limits
    -- 'ascending, each once'
    pub ascending : (i k : ℕ) → i < k → k < t.count → slice_index t.limits i < slice_index t.limits k
    -- 'every total must equal the file-order sum of document 01'
    pub buys : (k : ℕ) → k < t.count → slice_index t.buys k ≡ buy is_buy limits qtys (slice_index t.limits k)
    pub sells : (k : ℕ) → k < t.count → slice_index t.sells k ≡ sell is_buy limits qtys (slice_index t.limits k)

  -- the table is right where the orders are not refused, and has no row and no figure where they are
  pub record TableIsRight : Type 0 where
    pub right : price_refusal is_buy limits qtys ≡ 0 → RightTable (side_totals is_buy limits qtys)
    -- and no other rows would be
    pub one_table : price_refusal is_buy limits qtys ≡ 0 → (t : Table) → RightTable t → SameRows t (side_totals is_buy limits qtys)
    pub no_row : price_refusal is_buy limits qtys ≢ 0 → (side_totals is_buy limits qtys).count ≡ 0
    pub no_figure : price_refusal is_buy limits qtys ≢ 0 → (k : ℕ)
        → (slice_index (side_totals is_buy limits qtys).limits k ≡ 0) × (slice_index (side_totals is_buy limits qtys).buys k ≡ 0) × (slice_index (side_totals is_buy limits qtys).sells k ≡ 0)

  -- the sums that are carried along are of some of the orders: of n orders with quantities of k bits they stay below n × 2 ^ k, whichever orders, and for
  -- every n and k
  abbrev pub RunningSumsFit : Type 0
  RunningSumsFit = (n k : ℕ) → 0 < n → length is_buy ≤ n → ((i : ℕ) → slice_index qtys i < 2 ^ k) → (some : ℕ → Bool)
      → sum_below (λ i. only (some i) (slice_index qtys i)) (length is_buy) < n * 2 ^ k

  -- 'Side totals may reach 68 bits, the volume 67': not more, for at most max_orders orders of 64-bit quantities
  pub record WithinBits : Type 0 where
    pub buys : (p : ℕ) → buy is_buy limits qtys p < 2 ^ side_bits
    pub sells : (p : ℕ) → sell is_buy limits qtys p < 2 ^ side_bits
    pub volume : (p : ℕ) → executed is_buy limits qtys p < 2 ^ volume_bits

  abbrev pub TotalsFit : Type 0
  TotalsFit = length is_buy ≤ max_orders → ((i : ℕ) → slice_index qtys i < 2 ^ 64) → WithinBits

-- a share and its remainder, as document 02 has them
pub record RightShare (total sum qty quotient rest : ℕ) : Type 0 where
  -- 'total × quantity = quotient × sum + remainder'
  pub exact : total * qty ≡ quotient * sum + rest
  -- 'for a sum above 0, the remainder below it'
  pub below : 0 < sum → rest < sum
  -- 'Total 0 gives 0 and 0, also for sum 0'
  pub none : total ≡ 0 → (quotient ≡ 0) × (rest ≡ 0)

-- the share is right for every total, sum and quantity; and since 28 leaves no sum of 0 but with total 0, no other two numbers would be
pub record ShareIsRight (total sum qty : ℕ) : Type 0 where
  pub right : RightShare total sum qty (share total sum qty) (remainder total sum qty)
  pub one_share : (sum ≡ 0 → total ≡ 0) → (quotient rest : ℕ) → RightShare total sum qty quotient rest
      → (quotient ≡ share total sum qty) × (rest ≡ remainder total sum qty)

-- what the rounding takes of all shares: for every list and every total, also one above the sum
pub record RightRemainders (qtys : List ℕ) (total : ℕ) : Type 0 where
  -- one remainder for each quantity, that of its share
  pub length_is : length (remainders qtys total) ≡ length qtys
  pub each : (i : ℕ) → i < length qtys
      → RightShare total (sum_of qtys) (slice_index qtys i) (slice_index (shares qtys total) i) (slice_index (remainders qtys total) i)
  -- 'the residue times the sum equals all remainders added'
  pub added : residue qtys total * sum_of qtys ≡ sum_of (remainders qtys total)

-- the lots of a total within the sum
pub record RightLots (ids qtys : List ℕ) (total : ℕ) : Type 0 where
  -- one for each quantity
  pub length_is : length (lots ids qtys total) ≡ length qtys
  -- shares are floors: a lot is its share or one unit more
  pub low : (i : ℕ) → i < length qtys → share total (sum_of qtys) (slice_index qtys i) ≤ slice_index (lots ids qtys total) i
  pub high : (i : ℕ) → i < length qtys → slice_index (lots ids qtys total) i ≤ share total (sum_of qtys) (slice_index qtys i) + 1
  -- the residue is below the number of entries with a quantity
  pub residue_small : 0 < sum_of qtys → residue qtys total < count (λ i. nat_lt 0 (slice_index qtys i)) (length qtys)
  -- lots add up to the total, none above its quantity
  pub adds_up : sum_of (lots ids qtys total) ≡ total
  pub within : (i : ℕ) → slice_index (lots ids qtys total) i ≤ slice_index qtys i

abbrev pub LotsAreRight : (ids qtys : List ℕ) (total : ℕ) → Type 0
LotsAreRight ids qtys total = total ≤ sum_of qtys → RightLots ids qtys total
