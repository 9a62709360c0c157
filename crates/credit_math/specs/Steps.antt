-- What the private functions of the price search keep on the way: forms that are cheap to compute. proofs/Price.antt and proofs/Search.antt
-- show that they come to the definitions of Price.antt.
use Rattle.std.specs.Prelude.{◌≡◌, Bool, if◌then◌else◌, List, ℕ, min, nat_lt, nat_le, Option, Some, None}
use Rattle.laws.specs.Lex.{lex}
use Rattle.wide.specs.Value.{apart}
use Rattle.credit_math.specs.Price.{Best, none, at, executed, imbalance, clear_price}
use Rattle.credit_math.specs.SideTotals.{table_of, distinct_limits, totals_at}
use Rattle.credit_math.specs.declared.allocation.Quote.{Quote}
use Rattle.credit_math.specs.declared.table.SideTotals.{SideTotals}
use Rattle.credit_math.specs.declared.table.Totals.{Totals}

-- a quote holds its price's figures
pub record Quoted (is_buy : List Bool) (limits qtys : List ℕ) (reference : ℕ) (q : Quote) : Type 0 where
  pub volume : q.executed.0 ≡ executed is_buy limits qtys q.price
  pub gap : q.imbalance ≡ imbalance is_buy limits qtys q.price
  pub distance : q.distance ≡ apart q.price reference

-- a quote made of a row of the table
pub record QuoteOf (row : Totals) (reference : ℕ) (q : Quote) : Type 0 where
  pub price_is : q.price ≡ row.limit
  pub volume : q.executed.0 ≡ min row.sells row.buys
  pub gap : q.imbalance ≡ apart row.sells row.buys
  pub near : q.distance ≡ apart row.limit reference

-- the price kept
abbrev pub best : Option Quote → Best
best None = none
best (Some q) = at q.price

abbrev pub AllQuoted : List Bool → List ℕ → List ℕ → (reference : ℕ) → Option Quote → Type 0
AllQuoted is_buy limits qtys reference k = (q : Quote) → k ≡ Some q → Quoted is_buy limits qtys reference q

-- one quote is better than another, by their figures
unfoldable pub ahead : (a b : Quote) → Bool
ahead a b = lex b.executed.0 a.executed.0 (lex a.imbalance b.imbalance (lex a.distance b.distance (nat_lt a.price b.price)))

-- what is kept after a quote that counts, and after any quote
abbrev pub chosen : Option Quote → Quote → Quote
chosen None q = q
chosen (Some old) q = if ahead q old then q else old

unfoldable pub after : Option Quote → Quote → (reserve : ℕ) → Option Quote
after k q reserve = if nat_le reserve q.price then (if nat_lt 0 q.executed.0 then Some (chosen k q) else k) else k

-- what the search keeps, whatever orders the table is of: the source's price, with its figures
abbrev pub Searched : SideTotals → (reserve reference : ℕ) → Option Quote → Type 0
Searched t reserve reference k =
    (is_buy : List Bool) (limits qtys : List ℕ) → table_of t ≡ totals_at is_buy limits qtys (distinct_limits limits)
    → (best k ≡ clear_price is_buy limits qtys reserve reference) × AllQuoted is_buy limits qtys reference k
