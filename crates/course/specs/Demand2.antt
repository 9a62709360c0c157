-- Demand 2 over the call `clear`: what it answers for every session and time. proofs/Demand2.antt proves it; `ClearIsRight` of book says the same
-- of `compute_clear` alone.
use Rattle.std.specs.Prelude.{◌≡◌, ◌≢◌, ◌↔◌, Bool, false, if◌then◌else◌, not, List, [], ◌∷◌, ℕ, ◌^◌, ◌≤◌, ◌<◌, ℤ, length, slice_index}
use Rattle.laws.specs.Sums.{sum_below, only}
use Rattle.laws.specs.Checks.{◌then◌}
use Rattle.credit_math.specs.Error.{no_cross}
use Rattle.book.specs.Book.{is_buy}
use Rattle.book.specs.Clear.{live_orders, allocations, floor_of, too_few_reveals, mark_unavailable, math_overflow}
use Rattle.book.specs.Claims as book
use Rattle.events.specs.declared.Event.TheVariants as event
use Rattle.auction_engine.specs.declared.Session.{Session}
use Rattle.auction_engine.specs.Session.{order_at, remake, at_phase, allocating, failed}
use Rattle.auction_engine.specs.Call.{limits_refusal, fields_refusal}
use Rattle.auction_engine.specs.declared.Call.TheVariants.{Clear}
use Rattle.auction_engine.specs.Clearing.{clear_checks, with_lot, with_lots}
use Rattle.auction_engine.specs.Engine.{Answered, refused_by, answer}

-- 'Library call, any' | 9; 4, then 'Clear' | 11; 10; 16
abbrev pub checks : Session → (now : ℤ) → ℕ
checks s now = limits_refusal s then fields_refusal s then clear_checks s now

module _ (s : Session) where
  -- 'with enough live orders, and a mark unless the sale is forced'
  abbrev pub Clearable : Type 0
  Clearable = book.Clearable s.params s.given s.orders s.order_count

  -- a live limit at or above the reserve that executes something, the best of them, and what it executes
  abbrev pub Executes : ℕ → Type 0
  Executes = book.Executes s.params s.given s.orders s.order_count

  abbrev pub BestPrice : ℕ → Type 0
  BestPrice = book.BestPrice s.params s.given s.orders s.order_count

  abbrev pub executed_at : ℕ → ℕ
  executed_at = book.executed_at s.params s.given s.orders s.order_count

  -- the pro-rata lots at a price
  abbrev pub lots_at : (price : ℕ) → List ℕ
  lots_at price = allocations s.orders s.order_count price (executed_at price)

  -- 'Failing to clear is an accepted answer': phase Failed, nothing else changes, and `failed R`
  abbrev pub fails : (reason : ℕ) → Answered
  fails reason = record { refusal = 0; session = at_phase s failed; events = event.SessionFailed reason ∷ event.PhaseChanged s.phase failed ∷ [] }

  -- a clear at a price: its figures and lots, phase Allocating, and `clear PRICE VOLUME RESERVE REFERENCE`
  abbrev pub clears : (price : ℕ) → Answered
  clears price =
      record {
        refusal = 0;
        session =
            remake s
            (record {
              clear_price = price;
              cleared_volume = executed_at price;
              reserve_price = floor_of s.params s.given;
              reference_mark = s.given.reference;
            })
            allocating s.rofr_qty s.fills_settled s.skipped_fills
            (with_lots s.orders (lots_at price) s.order_count)
            s.fills s.fill_count;
        events =
            event.Cleared price (executed_at price) (floor_of s.params s.given) s.given.reference ∷ event.PhaseChanged s.phase allocating ∷ [];
      }

  -- the lots in the orders of a session t that was cleared at a price
  pub record Lotted (price : ℕ) (t : Session) : Type 0 where
    -- each order has its lot in `alloc` and `alloc_left` and is else as it was; nothing is written past the orders
    pub lot : (i : ℕ) → i < s.order_count → order_at t i ≡ with_lot (order_at s i) (slice_index (lots_at price) i)
    pub past : (i : ℕ) → s.order_count ≤ i → order_at t i ≡ order_at s i
    -- 'each side's lots add up to it, none above its order', and the orders that do not trade at the price have none
    pub sides : (buys : Bool) → sum_below (λ i. only (if buys then is_buy (order_at t i) else not (is_buy (order_at t i))) (order_at t i).alloc) s.order_count ≡ executed_at price
    pub within : (i : ℕ) → i < s.order_count → (order_at t i).alloc ≤ (order_at t i).qty
    pub others : (i : ℕ) → i < s.order_count → book.takes_part s.params s.given s.orders s.order_count price i ≡ false → (order_at t i).alloc ≡ 0

  -- what a clear that passes the checks answers, one of five
  pub data RightClear (a : Answered) : Type 0 where
    -- 'TooFewReveals 1 (live orders below min_reveals)'
    too_few : length (live_orders s.orders s.order_count) < s.params.min_reveals → a ≡ fails too_few_reveals → RightClear a
    -- 'MarkUnavailable 3 (unforced, mark 0)'
    unmarked : s.params.min_reveals ≤ length (live_orders s.orders s.order_count) → s.params.forced ≡ false → s.given.mark ≡ false
        → a ≡ fails mark_unavailable → RightClear a
    -- 'clearing ends in NoCross exactly when no live limit at or above the reserve executes anything'
    no_crossing : Clearable → ((q : ℕ) → Executes q → ⊥) → a ≡ fails no_cross → RightClear a
    -- '17 volume above 64 bits'
    too_large : Clearable → (price : ℕ) → BestPrice price → 2 ^ 64 ≤ executed_at price → a ≡ refused_by s math_overflow → RightClear a
    -- 'otherwise the price is the best ..'
    cleared : Clearable → (price : ℕ) → BestPrice price → executed_at price < 2 ^ 64 → a ≡ clears price → Lotted price a.session → RightClear a

-- Demand 2
pub record Demand2 (s : Session) (now : ℤ) : Type 0 where
  pub turned_away : checks s now ≢ 0 → answer s (Clear now) ≡ refused_by s (checks s now)
  pub right : checks s now ≡ 0 → RightClear s (answer s (Clear now))
  pub one_answer : checks s now ≡ 0 → (a : Answered) → RightClear s a → a ≡ answer s (Clear now)
  -- 'with enough live orders, and a mark unless the sale is forced, clearing ends in NoCross exactly when ..'
  pub no_cross_exactly : checks s now ≡ 0 → Clearable s → (answer s (Clear now) ≡ fails s no_cross) ↔ ((q : ℕ) → Executes s q → ⊥)
