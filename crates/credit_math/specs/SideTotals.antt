-- The table of side totals that the price search reads (document 02, ticket 2).
use Rattle.std.specs.Prelude.{Bool, if◌then◌else◌, List, [], ◌++◌, map, ℕ, ◌-◌, nat_lt, ◌==◌, length, replicate}
use Rattle.laws.specs.Sort.{sort, dedup}
use Rattle.credit_math.specs.Limits.{max_orders}
use Rattle.credit_math.specs.Price.{buy, sell, price_refusal}
use Rattle.credit_math.specs.declared.table.SideTotals.{SideTotals}

-- a table in numbers: how many rows it has, and its columns
pub record Table : Type 0 where
  pub count : ℕ
  pub limits : List ℕ
  pub buys : List ℕ
  pub sells : List ℕ

-- the declared table
abbrev pub table_of : SideTotals → Table
table_of t = record { count = t.count; limits = map (λ r. r.limit) t.rows; buys = map (λ r. r.buys) t.rows; sells = map (λ r. r.sells) t.rows }

-- 'exactly the orders' limits, ascending, each once': of all orders handed in
unfoldable pub distinct_limits : List ℕ → List ℕ
distinct_limits limits = dedup (sort nat_lt limits)

-- a column: what stands beside each limit, and zeros behind the last row
unfoldable pub column : (ℕ → ℕ) → List ℕ → List ℕ
column f rows = map f rows ++ replicate (max_orders - length rows) 0

module _ (is_buy : List Bool) (limits qtys : List ℕ) where
  -- 'every total must equal the file-order sum of document 01': beside each limit its buy(p) and its sell(p)
  unfoldable pub totals_at : (rows : List ℕ) → Table
  totals_at rows = record {
    count = length rows;
    limits = column (λ p. p) rows;
    buys = column (buy is_buy limits qtys) rows;
    sells = column (sell is_buy limits qtys) rows;
  }

  -- the table of the orders; no row where they are refused, as the price search refuses them
  unfoldable pub side_totals : Table
  side_totals = totals_at (if price_refusal is_buy limits qtys == 0 then distinct_limits limits else [])
