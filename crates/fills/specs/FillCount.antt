-- 'The number of fills, before the crank', from the lots alone: document 02, ticket 3.
use Rattle.std.specs.Prelude.{◌&&◌, if◌then◌else◌, List, [], ◌∷◌, ◌++◌, map, ℕ, suc, ◌+◌, nat_lt, nat_le, ◌==◌, length, slice_index}
use Rattle.laws.specs.Sums.{only}
use Rattle.laws.specs.Search.{every}
use Rattle.laws.specs.Lists.{table, keep, has}
use Rattle.laws.specs.Checks.{unless, ◌then◌}
use Rattle.credit_math.specs.Limits.{max_orders}
use Rattle.credit_math.specs.Error.{bad_length}
use Rattle.book.specs.Book.{buy_side, sell_side}
use Rattle.fills.specs.declared.FillCount.{FillCount}

-- 'the buy lots', 'the sell lots in book order, zero lots left out'
unfoldable pub lots_on : (side : ℕ) (lots sides : List ℕ) → List ℕ
lots_on side lots sides =
    map (λ i. slice_index lots i) (keep (λ i. slice_index sides i == side && nat_lt 0 (slice_index lots i)) (table (λ i. i) (length lots)))

-- 'the partial sums, from the first lot on': the first lot alone, then it and each partial sum of those after it
unfoldable pub partial_sums : List ℕ → List ℕ
partial_sums [] = []
partial_sums (lot ∷ lots) = lot ∷ map (λ sum. lot + sum) (partial_sums lots)

-- 'count the distinct values'
unfoldable pub distinct : List ℕ → ℕ
distinct [] = 0
distinct (x ∷ l) = if has l x then distinct l else suc (distinct l)

-- 'list the partial sums .. of the buy lots and of the sell lots .., and count the distinct values over both lists'
unfoldable pub fill_count : (lots sides : List ℕ) → ℕ
fill_count lots sides = distinct (partial_sums (lots_on buy_side lots sides) ++ partial_sums (lots_on sell_side lots sides))

-- 'over 16 entries or unequal lengths get 30, then a side above 1 gets 4'
unfoldable pub fill_count_refusal : (lots sides : List ℕ) → ℕ
fill_count_refusal lots sides =
    unless (nat_le (length lots) max_orders) bad_length
    then unless (length sides == length lots) bad_length
    then unless (every (λ i. nat_le (slice_index sides i) 1) (length sides)) 4

-- the answer; a refusal comes with no figure
unfoldable pub fill_count_answer : (lots sides : List ℕ) → FillCount
fill_count_answer lots sides =
    record { refusal = fill_count_refusal lots sides; count = only (fill_count_refusal lots sides == 0) (fill_count lots sides) }
