-- Which rows a table of side totals has, and what stands at each place of its columns. Assumes nothing.
use mathlib.Core.Path.{◌≡◌, sym, ◌∙◌, ap}
use mathlib.Core.Logic.{◌≢◌, ◌↔◌, ⊎_elim}
use mathlib.Core.Bool.{Bool}
use mathlib.Core.List.{List, [], ◌++◌, map}
use Prim.Native.Nat.{ℕ, ◌+◌, ◌-◌, ◌<◌, ◌≤◌}
use native.Mathlib.Omega.{arith}
use lib.Dec.{ltb}
use lib.ListN.{length, get_or, replicate, take, length-append, length-map, length-take, length-replicate, get_or-append}
use lib.Seq.{ext_get_or, get_or-append-add}
use borrow.Author.Tests.{eq-eqb, ne_eqb}
use Rattle.laws.specs.Lists.{Member}
use Rattle.laws.specs.Sort.{sort}
use Rattle.laws.proofs.Tests.{lt_or_le}
use Rattle.std.proofs.lemmas.List.{get_or-map}
use Rattle.laws.proofs.Lists.{get_or_nothing}
use Rattle.laws.proofs.Sort.{sort_members, dedup_members, length_sort}
use Rattle.laws.proofs.Ordered.{length_dedup}
use Rattle.credit_math.specs.Limits.{max_orders}
use Rattle.credit_math.specs.Price.{buy, sell, price_refusal}
use Rattle.credit_math.specs.SideTotals.{Table, table_of, distinct_limits, column, totals_at, side_totals}
use Rattle.credit_math.specs.declared.table.SideTotals.{SideTotals}
use Rattle.credit_math.specs.declared.table.Totals.{Totals}

-- the rows: the orders' limits, and no more of them
pub distinct_members : (limits : List ℕ) (p : ℕ) → Member p (distinct_limits limits) ↔ Member p limits
unfolding distinct_limits
distinct_members limits p =
    let once = dedup_members p (sort ltb limits) in
    let sorted = sort_members ltb p limits in
    (λ h. sorted.0 (once.0 h), λ h. once.1 (sorted.1 h))

-- no more rows than limits
pub distinct_few : (limits : List ℕ) → length (distinct_limits limits) ≤ length limits
unfolding distinct_limits
distinct_few limits = omega (arith, length_dedup (sort ltb limits), length_sort ltb limits)

module _ (f : ℕ → ℕ) (rows : List ℕ) where
  -- a column fills the array
  pub length_column : length rows ≤ max_orders → length (column f rows) ≡ max_orders
  unfolding column
  length_column few = simp (length-append, length-map, length-replicate) (omega arith)

  -- beside each row what f says
  pub column_at : (k : ℕ) → k < length rows → get_or (column f rows) k 0 ≡ f (get_or rows k 0)
  unfolding column
  column_at k h = get_or-append (map f rows) (replicate (max_orders - length rows) 0) 0 k (rw length-map h) ∙ get_or-map f rows k 0 0 h

  -- zeros behind the last row
  pub column_past : (k : ℕ) → length rows ≤ k → get_or (column f rows) k 0 ≡ 0
  unfolding column
  column_past k h =
      let zeros : List ℕ = replicate (max_orders - length rows) 0 in
      let there : k ≡ length (map f rows) + (k - length rows) = rw length-map (omega arith) in
      ap (λ (n : ℕ). get_or (map f rows ++ zeros) n 0) there ∙ get_or-append-add (map f rows) zeros (k - length rows) 0 ∙ get_or_nothing (max_orders - length rows) (k - length rows)

  -- a list of that length that holds the same is the column
  pub column_is : length rows ≤ max_orders → (l : List ℕ) → length l ≡ max_orders
      → ((k : ℕ) → k < length rows → get_or l k 0 ≡ f (get_or rows k 0)) → ((k : ℕ) → length rows ≤ k → get_or l k 0 ≡ 0) → l ≡ column f rows
  column_is few l whole there past =
      ext_get_or 0 l (column f rows) (whole ∙ sym (length_column few))
      (λ k _. ⊎_elim (λ (h : k < length rows). there k h ∙ sym (column_at k h)) (λ (h : length rows ≤ k). past k h ∙ sym (column_past k h)) (lt_or_le k (length rows)))

module _ (is_buy : List Bool) (limits qtys : List ℕ) where
  -- the table of orders that are not refused has the rows of their limits
  pub table_accepted : price_refusal is_buy limits qtys ≡ 0 → side_totals is_buy limits qtys ≡ totals_at is_buy limits qtys (distinct_limits limits)
  unfolding side_totals
  table_accepted z = rw (eq-eqb (price_refusal is_buy limits qtys) 0 z)

  -- the table of orders that are refused has no row
  pub table_refused : price_refusal is_buy limits qtys ≢ 0 → side_totals is_buy limits qtys ≡ totals_at is_buy limits qtys []
  unfolding side_totals
  table_refused ne = rw (ne_eqb (price_refusal is_buy limits qtys) 0 ne)

-- t is the table of the orders, with these rows: what stands in one of them
module _ (is_buy : List Bool) (limits qtys rows : List ℕ) (t : SideTotals) (is : table_of t ≡ totals_at is_buy limits qtys rows) where
  -- as many rows as are counted
  pub table_rows : t.count ≡ length rows
  unfolding totals_at
  table_rows = ap (λ (x : Table). x.count) is

  -- its array is full
  table_whole : length t.rows ≡ max_orders
  unfolding totals_at
  table_whole =
      sym (length-map t.rows (λ r. r.limit)) ∙ ap (λ (x : Table). length x.limits) is
      ∙ length_column (λ p. p) rows (omega (arith, t.few, table_rows))

  -- the rows that the search walks over
  pub rows_taken : length (take t.count t.rows) ≡ length rows
  rows_taken = omega (arith, t.few, table_rows, table_whole, length-take t.count t.rows)

  module _ (k : ℕ) (h : k < length rows) (d : Totals) where
    -- a row stands in the array
    inside : k < length t.rows
    inside = omega (arith, t.few, table_rows, table_whole)

    -- its limit
    pub table_limit : (get_or t.rows k d).limit ≡ get_or rows k 0
    unfolding totals_at
    table_limit = sym (get_or-map (λ r. r.limit) t.rows k d 0 inside) ∙ ap (λ (x : Table). get_or x.limits k 0) is ∙ column_at (λ p. p) rows k h

    -- its buys
    pub table_buy : (get_or t.rows k d).buys ≡ buy is_buy limits qtys (get_or rows k 0)
    unfolding totals_at
    table_buy = sym (get_or-map (λ r. r.buys) t.rows k d 0 inside) ∙ ap (λ (x : Table). get_or x.buys k 0) is ∙ column_at (buy is_buy limits qtys) rows k h

    -- its sells
    pub table_sell : (get_or t.rows k d).sells ≡ sell is_buy limits qtys (get_or rows k 0)
    unfolding totals_at
    table_sell = sym (get_or-map (λ r. r.sells) t.rows k d 0 inside) ∙ ap (λ (x : Table). get_or x.sells k 0) is ∙ column_at (sell is_buy limits qtys) rows k h
