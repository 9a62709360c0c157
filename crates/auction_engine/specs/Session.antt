-- A session: its phases, how its fields are read, and what a call may write.
use Rattle.std.specs.Prelude.{List, ℕ, ℤ, ◌+ℤ◌, replicate}
use Rattle.credit_math.specs.Limits.{max_orders}
use Rattle.book.specs.Limits.{max_fills}
use Rattle.book.specs.Book.{order_in, fill_in, empty_order, empty_fill}
use Rattle.book.specs.declared.Order.{Order}
use Rattle.book.specs.declared.Fill.{Fill}
use Rattle.book.specs.declared.Params.{Params}
use Rattle.book.specs.declared.Given.{Given}
use Rattle.auction_engine.specs.declared.Session.{Session}
use Rattle.auction_engine.specs.declared.Cleared.{Cleared}

-- 'Commit 0, Reveal 1, Allocating 2, IssuerRofr 3, Settling 4, Printed 5, Failed 6, Clearing 7'
abbrev pub reveal : ℕ
reveal = 1

abbrev pub allocating : ℕ
allocating = 2

abbrev pub issuer_rofr : ℕ
issuer_rofr = 3

abbrev pub settling : ℕ
settling = 4

abbrev pub printed : ℕ
printed = 5

abbrev pub failed : ℕ
failed = 6

abbrev pub clearing : ℕ
clearing = 7

abbrev pub order_at : Session → ℕ → Order
order_at s i = order_in s.orders i

abbrev pub fill_at : Session → ℕ → Fill
fill_at s i = fill_in s.fills i

-- what of an order's lot is in no fill yet
abbrev pub left : Session → ℕ → ℕ
left s i = (order_at s i).alloc_left

-- `rofr_end`
unfoldable pub rofr_end : Session → ℤ
rofr_end s = s.params.reveal_end +ℤ s.params.rofr_window

-- a session with other values in all fields but those that it was opened with
abbrev pub rewritten : Session → Cleared → (phase rofr_qty fills_settled skipped_fills : ℕ) → List Order → (order_count : ℕ) → List Fill → (fill_count : ℕ) → Session
rewritten s c p rq st sk os m fs n =
    record {
      params = s.params;
      given = s.given;
      cleared = c;
      phase = p;
      rofr_qty = rq;
      fills_settled = st;
      skipped_fills = sk;
      orders = os;
      order_count = m;
      fills = fs;
      fill_count = n;
    }

-- in the fields that calls write
abbrev pub remake : Session → Cleared → (phase rofr_qty fills_settled skipped_fills : ℕ) → List Order → List Fill → (fill_count : ℕ) → Session
remake s c p rq st sk os fs n = rewritten s c p rq st sk os s.order_count fs n

-- in another phase
abbrev pub at_phase : Session → ℕ → Session
at_phase s p = remake s s.cleared p s.rofr_qty s.fills_settled s.skipped_fills s.orders s.fills s.fill_count

-- 'A file opens in Reveal': no order, no fill, nothing cleared
unfoldable pub fresh : Params → Given → Session
fresh p g =
    record {
      params = p;
      given = g;
      cleared = record { clear_price = 0; cleared_volume = 0; reserve_price = 0; reference_mark = 0 };
      phase = reveal;
      rofr_qty = 0;
      fills_settled = 0;
      skipped_fills = 0;
      orders = replicate max_orders empty_order;
      order_count = 0;
      fills = replicate max_fills empty_fill;
      fill_count = 0;
    }
