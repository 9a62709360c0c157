-- `compute_clear` from its list `orders` on, with the two checks before it.
use Rattle.std.specs.Prelude.{Bool, true, false, if◌then◌else◌, not, ◌&&◌, List, [], ◌∷◌, map, ℕ, ◌^◌, min, nat_lt, nat_le, length, set, replicate, Result, Ok, Err}
use Rattle.laws.specs.Lists.{table, keep}
use Rattle.credit_math.specs.Limits.{max_orders}
use Rattle.credit_math.specs.Error.{no_cross}
use Rattle.credit_math.specs.Price.{Found, refused, failed, cross, find_uniform_clear_price}
use Rattle.credit_math.specs.ProRata.{lots}
use Rattle.book.specs.Book.{order_in, is_live, is_buy}
use Rattle.book.specs.declared.Order.{Order}
use Rattle.book.specs.declared.Params.{Params}
use Rattle.book.specs.declared.Given.{Given}
use Rattle.book.specs.declared.clear.Cross.{Cross}
use Rattle.book.specs.declared.clear.Failure.{Failure}
use Rattle.book.specs.declared.clear.Failure.TheVariants.{TooFewReveals, NoCross, MarkUnavailable, Deadline}
use Rattle.refusals.specs.Number.{number}
use Rattle.refusals.specs.declared.Refusal.{Refusal}

-- what a clear comes to: refused by a number, failed for a reason, or a price with volume and lots by order number
pub record Outcome : Type 0 where
  pub refusal : ℕ
  pub failed : ℕ
  pub price : ℕ
  pub volume : ℕ
  pub lots : List ℕ

-- reasons of a failed clear: TooFewReveals 1, MarkUnavailable 3; NoCross 2 is the price search's
abbrev pub too_few_reveals : ℕ
too_few_reveals = 1

abbrev pub mark_unavailable : ℕ
mark_unavailable = 3

-- 'Deadline 4 is expire's'
abbrev pub deadline : ℕ
deadline = 4

-- 17: a volume above 64 bits
abbrev pub math_overflow : ℕ
math_overflow = 17

-- a clear that fails, and one that is refused: no figure, no lot
abbrev pub failed_by : ℕ → Outcome
failed_by reason = record { refusal = 0; failed = reason; price = 0; volume = 0; lots = replicate max_orders 0 }

abbrev pub refused_with : ℕ → Outcome
refused_with number = record { refusal = number; failed = 0; price = 0; volume = 0; lots = replicate max_orders 0 }

-- the declared answer: this paper's number and values for each of its cases
abbrev pub reason : Failure → ℕ
reason TooFewReveals = too_few_reveals
reason NoCross = no_cross
reason MarkUnavailable = mark_unavailable
reason Deadline = deadline

abbrev pub outcome_of : Result (Result Cross Failure) Refusal → Outcome
outcome_of (Err r) = refused_with (number r)
outcome_of (Ok (Err f)) = failed_by (reason f)
outcome_of (Ok (Ok c)) = record { refusal = 0; failed = 0; price = c.price; volume = c.volume; lots = c.lots }

-- values put at their places, one after the other
unfoldable pub stored : (places values into : List ℕ) → List ℕ
stored [] values into = into
stored (i ∷ places) [] into = into
stored (i ∷ places) (v ∷ values) into = stored places values (set into i v)

module _ (orders : List Order) (n : ℕ) where
  -- the list `orders`: the numbers of the live ones among the first n (a count above the limit is read as the limit)
  unfoldable pub live_orders : List ℕ
  live_orders = keep (λ i. is_live (order_in orders i)) (table (λ i. i) (min n max_orders))

  -- the price search over them
  unfoldable pub searched : (reserve reference : ℕ) → Found
  searched reserve reference =
      find_uniform_clear_price (map (λ i. is_buy (order_in orders i)) live_orders) (map (λ i. (order_in orders i).limit) live_orders)
      (map (λ i. (order_in orders i).qty) live_orders) reserve reference

  -- `in_buy`, `in_sell`: an order trades at p on that side
  unfoldable pub trades_at : (buys : Bool) (p i : ℕ) → Bool
  trades_at buys p i =
      if buys
      then is_buy (order_in orders i) && nat_le p (order_in orders i).limit
      else not (is_buy (order_in orders i)) && nat_le (order_in orders i).limit p

  -- the live orders of a side that trade at p
  unfoldable pub side_orders : (buys : Bool) (p : ℕ) → List ℕ
  side_orders buys p = keep (trades_at buys p) live_orders

  -- a side's lots: pro-rata of the volume over their quantities, ids being order numbers
  unfoldable pub side_lots : (buys : Bool) (p v : ℕ) → List ℕ
  side_lots buys p v = lots (side_orders buys p) (map (λ i. (order_in orders i).qty) (side_orders buys p)) v

  -- `allocations`, by order number: 'An order's lot is what `compute_clear` allots it by pro-rata, otherwise 0'
  unfoldable pub allocations : (p v : ℕ) → List ℕ
  allocations p v =
      stored (side_orders false p) (side_lots false p v) (stored (side_orders true p) (side_lots true p v) (replicate max_orders 0))

  -- 17 where the volume takes more than 64 bits, before any lot is computed
  unfoldable pub allotted : Found → Outcome
  allotted (refused number) = refused_with number
  allotted (failed reason) = failed_by reason
  allotted (cross p v) =
      if nat_lt v (2 ^ 64)
      then record { refusal = 0; failed = 0; price = p; volume = v; lots = allocations p v }
      else refused_with math_overflow

-- the reserve: 'reserve 8 (0 if forced)'
unfoldable pub floor_of : Params → Given → ℕ
floor_of p g = if p.forced then 0 else g.reserve

-- 'TooFewReveals 1 (live orders below min_reveals), MarkUnavailable 3 (unforced, mark 0), NoCross 2, checked so', then 17
unfoldable pub compute_clear : Params → Given → List Order → ℕ → Outcome
compute_clear p g orders n =
    if nat_lt (length (live_orders orders n)) p.min_reveals then failed_by too_few_reveals
    else if not p.forced && not g.mark then failed_by mark_unavailable
    else allotted orders n (searched orders n (floor_of p g) g.reference)
