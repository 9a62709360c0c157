-- Calls, and what is checked of any call before its own row.
use Rattle.std.specs.Prelude.{Bool, if◌then◌else◌, not, ◌&&◌, ◌||◌, ℕ, nat_lt, nat_le, ◌==◌, ℤ}
use Rattle.std.specs.Int.Signed.{lt_z, le_z}
use Rattle.laws.specs.Search.{every}
use Rattle.laws.specs.Lists.{same}
use Rattle.laws.specs.Checks.{unless, ◌then◌}
use Rattle.clock.specs.Clock.{sum_fits}
use Rattle.credit_math.specs.Limits.{max_orders}
use Rattle.book.specs.Limits.{max_fills}
use Rattle.book.specs.Book.{no_investor, buy_side, kind_fits}
use Rattle.disclosure.specs.Disclosure.{max_band}
use Rattle.auction_engine.specs.declared.Session.{Session}
use Rattle.auction_engine.specs.declared.Call.{Call}
use Rattle.auction_engine.specs.declared.Call.TheVariants.{Screen, Clear, Allocate, Exercise, Close, Settle, Skip, Finish, Expire}
use Rattle.auction_engine.specs.Session.{order_at}

-- the kinds of calls, by number
abbrev pub screen_kind : ℕ
screen_kind = 0

abbrev pub clear_kind : ℕ
clear_kind = 1

abbrev pub allocate_kind : ℕ
allocate_kind = 2

abbrev pub exercise_kind : ℕ
exercise_kind = 3

abbrev pub close_kind : ℕ
close_kind = 4

abbrev pub settle_kind : ℕ
settle_kind = 5

abbrev pub skip_kind : ℕ
skip_kind = 6

abbrev pub finish_kind : ℕ
finish_kind = 7

abbrev pub expire_kind : ℕ
expire_kind = 8

-- 'Screen and clear need 0, 1 or 7; allocate 2; exercise and close 3; settle, skip and finish 4; expire any but 5 and 6'
unfoldable pub admits : (phase kind : ℕ) → Bool
admits phase kind =
    if nat_le kind clear_kind then phase == 0 || phase == 1 || phase == 7
    else if kind == allocate_kind then phase == 2
    else if nat_le kind close_kind then phase == 3
    else if nat_le kind finish_kind then phase == 4
    else kind == expire_kind && not (phase == 5 || phase == 6)

-- 'Library call, any' | 9 over 16 orders or 24 fills, band above 10,000, forced with a reserve, reveal_end + window outside 64 bits
unfoldable pub limits_refusal : Session → ℕ
limits_refusal s =
    unless (nat_le s.order_count max_orders) 9
    then unless (nat_le s.fill_count max_fills) 9
    then unless (nat_le s.given.band_bps max_band) 9
    then unless (not (s.params.forced && nat_lt 0 s.given.reserve)) 9
    then unless (sum_fits s.params.reveal_end s.params.rofr_window) 9

-- 'then 4 a session field .. outside the values that the record list names for it, or a phase above 7'; 'any library call gives 4' for an exclusion
-- kind 'above 8 or at odds with the order's being excluded'
unfoldable pub fields_refusal : Session → ℕ
fields_refusal s =
    unless (nat_le s.phase 7) 4
    then unless (nat_le s.given.policy 3) 4
    then unless (every (λ i. nat_le (order_at s i).side 1) s.order_count) 4
    then unless (every (λ i. kind_fits (order_at s i)) s.order_count) 4

-- 'or argument': sides and verdicts in their range; 'Without has-id the id is zeros. A passed buy has an id'
unfoldable pub arguments_refusal : Call → ℕ
arguments_refusal (Screen now i side verdict has_id id) =
    unless (nat_le side 1) 4
    then unless (nat_le verdict 6) 4
    then unless (has_id || same id no_investor) 4
    then unless (has_id || not (side == buy_side && verdict == 0)) 4
arguments_refusal (Clear now) = 0
arguments_refusal (Allocate now n) = 0
arguments_refusal (Exercise now issuer i q) = 0
arguments_refusal (Close now caller) = 0
arguments_refusal (Settle i) = 0
arguments_refusal (Skip now i reason) = unless (nat_le reason 6) 4
arguments_refusal (Finish now) = 0
arguments_refusal (Expire now) = 0

-- 'Clear and screen run from `reveal_end` up to, without, `settle_deadline`'
unfoldable pub in_window : Session → (now : ℤ) → Bool
in_window s now = le_z s.params.reveal_end now && lt_z now s.params.settle_deadline
