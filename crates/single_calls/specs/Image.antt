-- A block of the comparison: a session and a call, each field at its place, numbers little-endian as in files. Bytes past the end are 0.
use Rattle.std.specs.Prelude.{List, ℕ, ◌+◌, ◌*◌}
use Rattle.laws.specs.Lists.{table}
use Rattle.credit_math.specs.Limits.{max_orders}
use Rattle.book.specs.Limits.{max_fills}
use Rattle.book.specs.declared.Params.{Params}
use Rattle.book.specs.declared.Given.{Given}
use Rattle.book.specs.declared.Order.{Order}
use Rattle.book.specs.declared.Fill.{Fill}
use Rattle.auction_engine.specs.declared.Session.{Session}
use Rattle.auction_engine.specs.declared.Cleared.{Cleared}
use Rattle.auction_engine.specs.declared.CallRecord.{CallRecord}
use Rattle.octets.specs.Bytes.{word, bytes_at, time_at, flag_at}

-- the count of orders; the first order, and the bytes of each
abbrev pub order_count_at : ℕ
order_count_at = 141

abbrev pub orders_at : ℕ
orders_at = order_count_at + 1

abbrev pub order_width : ℕ
order_width = 93

-- the count of fills; the first fill, and the bytes of each
abbrev pub fill_count_at : ℕ
fill_count_at = orders_at + order_width * max_orders

abbrev pub fills_at : ℕ
fills_at = fill_count_at + 1

abbrev pub fill_width : ℕ
fill_width = 74

-- the call
abbrev pub call_at : ℕ
call_at = fills_at + fill_width * max_fills

-- first the fields of `SH`, without a mark
unfoldable pub params_in : List ℕ → Params
params_in b =
    record {
      reveal_end = time_at b 0;
      rofr_window = time_at b 8;
      settle_deadline = time_at b 16;
      max_cash = word 8 b 24;
      min_reveals = word 1 b 32;
      forced = flag_at b 33;
      rofr_authority = bytes_at 32 b 34;
    }

unfoldable pub given_in : List ℕ → Given
given_in b =
    record {
      mark = flag_at b 66;
      reserve = word 8 b 67;
      reference = word 8 b 75;
      policy = word 1 b 83;
      band_bps = word 8 b 84;
    }

-- after the phase, what a clear found
unfoldable pub cleared_in : List ℕ → Cleared
cleared_in b =
    record {
      clear_price = word 8 b 93;
      cleared_volume = word 8 b 101;
      reserve_price = word 8 b 109;
      reference_mark = word 8 b 117;
    }

-- order i
unfoldable pub order_in : List ℕ → (i : ℕ) → Order
order_in b i =
    let at = orders_at + order_width * i in
    record {
      owner = bytes_at 32 b at;
      side = word 1 b (at + 32);
      escrowed = word 8 b (at + 33);
      revealed = flag_at b (at + 41);
      limit = word 8 b (at + 42);
      qty = word 8 b (at + 50);
      alloc = word 8 b (at + 58);
      alloc_left = word 8 b (at + 66);
      screened = flag_at b (at + 74);
      eligible = flag_at b (at + 75);
      exclusion = word 1 b (at + 92);
      investor_id = bytes_at 16 b (at + 76);
    }

-- fill i
unfoldable pub fill_in : List ℕ → (i : ℕ) → Fill
fill_in b i =
    let at = fills_at + fill_width * i in
    record {
      buyer = bytes_at 32 b at;
      seller = bytes_at 32 b (at + 32);
      qty = word 8 b (at + 64);
      rofr = flag_at b (at + 72);
      settled = flag_at b (at + 73);
    }

-- the session; every place of its arrays is read, and the counts may be above the limits
unfoldable pub session_in : List ℕ → Session
session_in b =
    record {
      params = params_in b;
      given = given_in b;
      cleared = cleared_in b;
      phase = word 1 b 92;
      rofr_qty = word 8 b 125;
      fills_settled = word 4 b 133;
      skipped_fills = word 4 b 137;
      orders = table (order_in b) max_orders;
      order_count = word 1 b order_count_at;
      fills = table (fill_in b) max_fills;
      fill_count = word 1 b fill_count_at;
    }

-- the call, of any kind
unfoldable pub call_in : List ℕ → CallRecord
call_in b =
    record {
      kind = word 1 b call_at;
      now = time_at b (call_at + 1);
      order = word 1 b (call_at + 9);
      side = word 1 b (call_at + 10);
      verdict = word 1 b (call_at + 11);
      has_id = flag_at b (call_at + 74);
      id = bytes_at 16 b (call_at + 12);
      max_fills = word 1 b (call_at + 28);
      wallet = bytes_at 32 b (call_at + 29);
      fill = word 4 b (call_at + 61);
      qty = word 8 b (call_at + 65);
      reason = word 1 b (call_at + 73);
    }
