-- `find_uniform_clear_price`. The orders stand in three lists, by place: whether one buys, its limit and its quantity.
use Rattle.std.specs.Prelude.{Bool, true, false, if◌then◌else◌, not, ◌&&◌, List, [], ◌∷◌, ℕ, min, nat_lt, nat_le, ◌==◌, length, slice_index, slice_index_or, Option, Some, None, Result, Ok, Err}
use Rattle.laws.specs.Sums.{sum_below, only}
use Rattle.laws.specs.Lists.{keep}
use Rattle.laws.specs.Sort.{sort, dedup}
use Rattle.laws.specs.Lex.{lex}
use Rattle.laws.specs.Checks.{unless, ◌then◌}
use Rattle.wide.specs.Value.{apart}
use Rattle.refusals.specs.Number.{number}
use Rattle.refusals.specs.declared.Refusal.{Refusal}
use Rattle.credit_math.specs.Limits.{max_orders}
use Rattle.credit_math.specs.Error.{bad_length, no_cross}
use Rattle.credit_math.specs.declared.allocation.ClearResult.{ClearResult}

-- the best price so far, if any
pub data Best : Type 0 where
  none : Best
  at : ℕ → Best

-- a list walked, with the best so far: of those that count, a later one is taken where it is better
module _ (counts : ℕ → Bool) (better : ℕ → ℕ → Bool) where
  abbrev pub improves : Best → ℕ → Bool
  improves none p = true
  improves (at q) p = better p q

  abbrev pub step : Best → ℕ → Best
  step best p = if counts p then (if improves best p then at p else best) else best

  abbrev pub walk : Best → List ℕ → Best
  walk best [] = best
  walk best (p ∷ l) = walk (step best p) l

module _ (is_buy : List Bool) (limits qtys : List ℕ) where
  -- 'buy(p) adds buy quantities with limit ≥ p'
  unfoldable pub buy : ℕ → ℕ
  buy p = sum_below (λ i. only (slice_index_or is_buy i false && nat_le p (slice_index limits i)) (slice_index qtys i)) (length is_buy)

  -- 'sell(p) adds sell quantities with limit ≤ p'
  unfoldable pub sell : ℕ → ℕ
  sell p = sum_below (λ i. only (not (slice_index_or is_buy i false) && nat_le (slice_index limits i) p) (slice_index qtys i)) (length is_buy)

  -- 'executed is the smaller'
  unfoldable pub executed : ℕ → ℕ
  executed p = min (buy p) (sell p)

  -- '|sell − buy|'
  unfoldable pub imbalance : ℕ → ℕ
  imbalance p = apart (sell p) (buy p)

  -- 'Candidates executing 0 are skipped'
  unfoldable pub executes : ℕ → Bool
  executes p = nat_lt 0 (executed p)

  -- 'Better means: larger executed, then smaller |sell − buy|, then smaller |p − reference|, then lower p': p is better than q
  unfoldable pub better : (reference p q : ℕ) → Bool
  better reference p q =
      lex (executed q) (executed p) (lex (imbalance p) (imbalance q) (lex (apart p reference) (apart q reference) (nat_lt p q)))

  -- 'A candidate p is an order's limit at or above the reserve'; the source goes through them sorted, each once
  unfoldable pub candidates : (reserve : ℕ) → List ℕ
  candidates reserve = dedup (sort nat_lt (keep (nat_le reserve) limits))

  -- the price that the source's walk over the candidates ends with
  unfoldable pub clear_price : (reserve reference : ℕ) → Best
  clear_price reserve reference = walk executes (better reference) none (candidates reserve)

-- what the search answers: a refusal with its number, no price for a reason with its number, or a price with the volume
pub data Found : Type 0 where
  refused : (number : ℕ) → Found
  failed : (reason : ℕ) → Found
  cross : (price volume : ℕ) → Found

-- the declared answer: this paper's number and values for each of its cases
abbrev pub found : Result (Option ClearResult) Refusal → Found
found (Err r) = refused (number r)
found (Ok None) = failed no_cross
found (Ok (Some c)) = cross c.clear_price c.executed_qty

-- the price with its executed quantity
abbrev pub priced : (executed : ℕ → ℕ) → Best → Found
priced executed none = failed no_cross
priced executed (at p) = cross p (executed p)

-- 'Public .. price search | 30 over 16 entries or lent slices of unequal length'
unfoldable pub price_refusal : List Bool → List ℕ → List ℕ → ℕ
price_refusal is_buy limits qtys =
    unless (nat_le (length is_buy) max_orders) bad_length
    then unless (length limits == length is_buy) bad_length
    then unless (length qtys == length is_buy) bad_length

-- the public search: a refusal gives no figure
unfoldable pub find_uniform_clear_price : List Bool → List ℕ → List ℕ → (reserve reference : ℕ) → Found
find_uniform_clear_price is_buy limits qtys reserve reference =
    if price_refusal is_buy limits qtys == 0
    then priced (executed is_buy limits qtys) (clear_price is_buy limits qtys reserve reference)
    else refused (price_refusal is_buy limits qtys)
