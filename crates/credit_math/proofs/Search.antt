-- The loop of the search follows the walk over the table's limits, and what it keeps is what is answered.
-- Assumes nothing.
use mathlib.Core.Path.{◌≡◌, refl, sym, ◌∙◌, ap, ap₂}
use mathlib.Core.Bool.{Bool}
use mathlib.Core.List.{List}
use Prim.Native.Nat.{ℕ, ◌+◌, ◌/◌, ◌%◌, ◌^◌, ◌<◌, ◌≤◌, min}
use native.Mathlib.Nat.{min_comm}
use native.Mathlib.Numerals.{add-one}
use native.Mathlib.Omega.{arith}
use lib.Dec.{ltb}
use lib.ListN.{length, get_or, take, drop, length-take, drop_of_length-le}
use lib.Seq.{drop-cons, get_or-take}
use Rattle.std.proofs.Common.{Ordering}
use Rattle.std.specs.Ordering.{nat_cmp, ordering_then, is_lt}
use Rattle.std.specs.Prelude.{Option, Some, None}
use Rattle.std.proofs.lemmas.Bool.Decides.{nat_tests}
use Rattle.laws.specs.Lex.{lex}
use Rattle.wide.specs.Value.{apart}
use Rattle.credit_math.specs.declared.allocation.Quote.{Quote}
use Rattle.credit_math.specs.declared.table.SideTotals.{SideTotals}
use Rattle.credit_math.specs.declared.table.Totals.{Totals}
use Rattle.credit_math.specs.Price.{Best, step, walk, buy, sell, executed, imbalance, executes, better, clear_price}
use Rattle.credit_math.specs.SideTotals.{table_of, distinct_limits, totals_at}
use Rattle.credit_math.specs.Steps.{Quoted, QuoteOf, AllQuoted, best, ahead, after, Searched}
use Rattle.credit_math.proofs.Columns.{distinct_members, rows_taken, table_limit, table_buy, table_sell}
use Rattle.credit_math.proofs.Price.{counts, any_walk}

module _ (C : ℕ → Bool) (B : ℕ → ℕ → Bool) (b b' : Best) (l : List ℕ) (i : ℕ) where
  walk_next : i < length l → b' ≡ step C B b (get_or l i 0) → walk C B b' (drop (i + 1) l) ≡ walk C B b (drop i l)
  walk_next h f = rw (add-one, drop-cons l i 0 h, f)

  walk_end : length l ≤ i → walk C B b (drop i l) ≡ b
  walk_end h = ap (walk C B b) (drop_of_length-le l h)

-- the derived order of numbers of two words
abbrev pub words_cmp : ℕ → ℕ → Ordering
words_cmp x y = ordering_then (nat_cmp (x / 2 ^ 64) (y / 2 ^ 64)) (nat_cmp (x % 2 ^ 64) (y % 2 ^ 64))

-- a comparison before another one
lt_then : (x y : ℕ) (o : Ordering) → is_lt (ordering_then (nat_cmp x y) o) ≡ lex x y (is_lt o)
unfolding lex
lt_then x y o = grind (arith, nat_tests)

lt_words : (x y : ℕ) (o : Ordering) → is_lt (ordering_then (words_cmp x y) o) ≡ lex x y (is_lt o)
unfolding lex
lt_words x y o = grind (arith, nat_tests)

lt_last : (x y : ℕ) → is_lt (nat_cmp x y) ≡ ltb x y
lt_last x y = grind (arith, nat_tests)

-- the derived order of quotes: the lower is ahead
pub lower_is_ahead : (a b : Quote)
    → is_lt (ordering_then (words_cmp b.executed.0 a.executed.0) (ordering_then (words_cmp a.imbalance b.imbalance) (ordering_then (nat_cmp a.distance b.distance) (nat_cmp a.price b.price))))
    ≡ ahead a b
unfolding ahead
lower_is_ahead a b = simp (lt_words, lt_then, lt_last)

-- a quote made of a row of the table holds its price's figures
pub quoted_of : {is_buy : List Bool} {limits qtys : List ℕ} {row : Totals} {p reference : ℕ} {q : Quote} → QuoteOf row reference q
    → row.limit ≡ p → row.buys ≡ buy is_buy limits qtys p → row.sells ≡ sell is_buy limits qtys p → Quoted is_buy limits qtys reference q
unfolding executed imbalance
quoted_of {is_buy} {limits} {qtys} {row} {p} {reference} f here bought sold =
    let price = f.price_is ∙ here in
    record {
      volume = rw price (f.volume ∙ ap₂ min sold bought ∙ min_comm (sell is_buy limits qtys p) (buy is_buy limits qtys p));
      gap = rw price (f.gap ∙ ap₂ apart sold bought);
      distance = rw price (f.near ∙ ap (λ (x : ℕ). apart x reference) here);
    }

module _ (is_buy : List Bool) (limits qtys : List ℕ) (reserve reference : ℕ) where
  -- what the walk counts and how it compares, in short
  abbrev C : ℕ → Bool
  C = counts is_buy limits qtys reserve

  abbrev B : ℕ → ℕ → Bool
  B = better is_buy limits qtys reference

  -- the quote that is kept holds its figures, and what is kept is the walk's best
  abbrev Kept : Option Quote → Type 0
  Kept = AllQuoted is_buy limits qtys reference

  abbrev Follows : Option Quote → Best → Type 0
  Follows k b = (best k ≡ b) × Kept k

  module _ (q : Quote) (quoted : Quoted is_buy limits qtys reference q) where
    -- the tests on the quotes' figures are those on the prices
    same_order : (o : Quote) → Quoted is_buy limits qtys reference o → B q.price o.price ≡ ahead q o
    unfolding better ahead
    same_order o a = rw (quoted.volume, quoted.gap, quoted.distance, a.volume, a.gap, a.distance)

    -- what is kept is the walk's best
    stepped : (k : Option Quote) → Kept k → best (after k q reserve) ≡ step C B (best k) q.price
    unfolding after executes
    stepped None a = grind (arith, quoted.volume)
    stepped (Some o) a = grind (arith, quoted.volume, same_order o (a o refl))

    -- and holds its figures
    kept : (k : Option Quote) → Kept k → Kept (after k q reserve)
    unfolding after
    kept None a x is = grind (arith, is, quoted)
    kept (Some o) a x is = grind (arith, is, quoted, a o refl)

    pub after_step : (k : Option Quote) → Kept k → Follows (after k q reserve) (step C B (best k) q.price)
    after_step k a = (stepped k a, kept k a)

  -- with the best so far, the walk over the rows from i on ends with the price
  pub record Left (k : Option Quote) (rows : List ℕ) (i : ℕ) : Type 0 where
    pub ends : walk C B (best k) (drop i rows) ≡ clear_price is_buy limits qtys reserve reference
    pub quoted : Kept k

  left_all : Left None (distinct_limits limits) 0
  left_all = record {
    ends = any_walk is_buy limits qtys reference reserve (distinct_limits limits) (distinct_members limits);
    quoted = λ q e. cc;
  }

  module _ {k : Option Quote} {rows : List ℕ} {i : ℕ} (l : Left k rows i) where
    left_next : {k' : Option Quote} {q : Quote} → i < length rows → q.price ≡ get_or rows i 0 → Quoted is_buy limits qtys reference q → k' ≡ after k q reserve → Left k' rows (i + 1)
    left_next {k'} {q} h p f e =
        let next = after_step q f k l.quoted in
        record { ends = walk_next C B (best k) (best k') rows i h (ap best e ∙ next.0 ∙ ap (step C B (best k)) p) ∙ l.ends; quoted = rw e next.1 }

    left_none : length rows ≤ i → Follows k (clear_price is_buy limits qtys reserve reference)
    left_none h = (sym (walk_end C B (best k) (best k) rows i h) ∙ l.ends, l.quoted)

-- the search at row i of the table, whatever orders it is of
pub record Searching (t : SideTotals) (reserve reference : ℕ) (k : Option Quote) (i : ℕ) : Type 0 where
  pub left : (is_buy : List Bool) (limits qtys : List ℕ) → table_of t ≡ totals_at is_buy limits qtys (distinct_limits limits)
      → Left is_buy limits qtys reserve reference k (distinct_limits limits) i

module _ {t : SideTotals} {reserve reference : ℕ} where
  pub searching : Searching t reserve reference None 0
  searching = record { left = λ is_buy limits qtys _. left_all is_buy limits qtys reserve reference }

  module _ {k : Option Quote} {i : ℕ} (s : Searching t reserve reference k i) where
    pub searching_more : {k' : Option Quote} {q : Quote} (row : Totals) → i < length (take t.count t.rows) → row ≡ get_or (take t.count t.rows) i row
        → QuoteOf row reference q → k' ≡ after k q reserve → Searching t reserve reference k' (i + 1)
    searching_more row h e f g = record {
      left = λ is_buy limits qtys is.
          let rows : List ℕ = distinct_limits limits in
          let there : i < length rows = omega (arith, rows_taken is_buy limits qtys rows t is) in
          let stands : get_or t.rows i row ≡ row = sym (get_or-take t.count t.rows i row (omega (arith, length-take t.count t.rows))) ∙ sym e in
          let limit = rw stands at (table_limit is_buy limits qtys rows t is i there row) in
          left_next is_buy limits qtys reserve reference (s.left is_buy limits qtys is) there (f.price_is ∙ limit)
          (quoted_of f limit (rw stands at (table_buy is_buy limits qtys rows t is i there row)) (rw stands at (table_sell is_buy limits qtys rows t is i there row))) g;
    }

    pub searched : length (take t.count t.rows) ≤ i → Searched t reserve reference k
    searched h is_buy limits qtys is =
        left_none is_buy limits qtys reserve reference (s.left is_buy limits qtys is) (omega (arith, rows_taken is_buy limits qtys (distinct_limits limits) t is))
