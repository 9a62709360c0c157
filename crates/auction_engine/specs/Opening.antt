-- The session that a file opens: the rows `SH`, `SI` and `OR`, over values. The reader's contract cites these.
use Rattle.std.specs.Prelude.{◌≡◌, if◌then◌else◌, not, ◌&&◌, ◌||◌, List, [], ◌∷◌, ℕ, ◌+◌, nat_lt, nat_le, ◌==◌, pos, ◌+ℤ◌, set, Option}
use Rattle.std.specs.Int.Signed.{lt_z, le_z}
use Rattle.laws.specs.Search.{some}
use Rattle.laws.specs.Lists.{same}
use Rattle.laws.specs.Checks.{unless, ◌then◌}
use Rattle.clock.specs.Clock.{sum_fits}
use Rattle.credit_math.specs.Limits.{max_orders}
use Rattle.book.specs.Book.{listed, no_wallet}
use Rattle.book.specs.declared.Params.{Params}
use Rattle.book.specs.declared.Given.{Given}
use Rattle.book.specs.declared.Row.{Row}
use Rattle.escrow.specs.Cover.{decimals_refusal, cover_refusal}
use Rattle.disclosure.specs.Disclosure.{max_band}
use Rattle.auction_engine.specs.declared.Session.{Session}
use Rattle.auction_engine.specs.Session.{order_at, rewritten, fresh}

-- `SH`, `SI` | 4: 'reserve 8 (0 if forced)', policy, 'band_bps 8 (at most 10,000)', of `SI` the decimals; then
-- 5 unless reveal_end < settle_deadline, window ≥ 0, window 0 without authority, reveal_end + window fits and is below the deadline, min_reveals ≥ 2;
-- then 6 max_cash 0
unfoldable pub header_refusal : Params → Given → Option ℕ → ℕ
header_refusal p g cover =
    unless (not (p.forced && nat_lt 0 g.reserve)) 4
    then unless (nat_le g.policy 3) 4
    then unless (nat_le g.band_bps max_band) 4
    then decimals_refusal cover
    then unless (lt_z p.reveal_end p.settle_deadline) 5
    then unless (le_z (pos 0) p.rofr_window) 5
    then unless (not (same p.rofr_authority no_wallet) || le_z p.rofr_window (pos 0)) 5
    then unless (sum_fits p.reveal_end p.rofr_window) 5
    then unless (lt_z (p.reveal_end +ℤ p.rofr_window) p.settle_deadline) 5
    then unless (nat_le 2 p.min_reveals) 5
    then unless (nat_lt 0 p.max_cash) 6

-- `OR`, of the row by itself | 4 side; 6 escrow 0, revealed with limit or qty 0, unrevealed with either not 0; 31 uncovered
unfoldable pub row_refusal : Option ℕ → Row → ℕ
row_refusal cover row =
    unless (nat_le row.side 1) 4
    then unless (nat_lt 0 row.escrowed) 6
    then unless (if row.revealed then nat_lt 0 row.limit && nat_lt 0 row.qty else row.limit == 0 && row.qty == 0) 6
    then cover_refusal cover row

-- `OR` | these; 7 seventeenth; 8 owner seen
unfoldable pub order_refusal : Session → Option ℕ → Row → ℕ
order_refusal s cover row =
    row_refusal cover row
    then unless (nat_lt s.order_count max_orders) 7
    then unless (not (some (λ i. same (order_at s i).owner row.owner) s.order_count)) 8

-- one order more
unfoldable pub with_order : Session → Row → Session
with_order s row =
    rewritten s s.cleared s.phase s.rofr_qty s.fills_settled s.skipped_fills
    (set s.orders s.order_count (listed row)) (s.order_count + 1) s.fills s.fill_count

-- s with these orders one after the other
abbrev pub with_rows : Session → List Row → Session
with_rows s [] = s
with_rows s (row ∷ rows) = with_rows (with_order s row) rows

-- each of these orders is accepted where it stands
abbrev pub RowsAccepted : Session → Option ℕ → List Row → Type 0
RowsAccepted s cover [] = Unit
RowsAccepted s cover (row ∷ rows) = (order_refusal s cover row ≡ 0) × RowsAccepted (with_order s row) cover rows

-- 'Its session opens with a header and orders that the `SH` and `OR` rows below accept', or `SI` and `OR`
pub record Opening : Type 0 where
  pub params : Params
  pub given : Given
  pub cover : Option ℕ
  pub rows : List Row
  pub header_accepted : header_refusal params given cover ≡ 0
  pub rows_accepted : RowsAccepted (fresh params given) cover rows

abbrev pub opened : Opening → Session
opened o = with_rows (fresh o.params o.given) o.rows
