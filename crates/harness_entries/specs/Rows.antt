-- A row of the table of side totals as plain numbers.
use Rattle.std.specs.Prelude.{◌≡◌, ℕ, slice_index}
use Rattle.wide.specs.Value.{digits}
use Rattle.credit_math.specs.SideTotals.{Table}
use Rattle.harness_entries.specs.declared.TotalsRow.{TotalsRow}

-- a refusal or 0, the number of rows, a limit and the two words of each total
pub record RowSays (refusal count limit buy sell : ℕ) (r : TotalsRow) : Type 0 where
  pub refusal_is : r.refusal ≡ refusal
  pub count_is : r.count ≡ count
  pub limit_is : r.limit ≡ limit
  pub buy_is : digits 64 r.buy_hi r.buy_lo ≡ buy
  pub sell_is : digits 64 r.sell_hi r.sell_lo ≡ sell

-- row k of a table, and past its columns zeros
abbrev pub RowOf : (refusal : ℕ) → Table → (k : ℕ) → TotalsRow → Type 0
RowOf refusal t k r = RowSays refusal t.count (slice_index t.limits k) (slice_index t.buys k) (slice_index t.sells k) r
