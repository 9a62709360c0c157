-- The loop follows the walk over the orders' limits, which finds what the source's walk over the sorted limits finds.
use Rattle.std.proofs.Common.{◌≡◌, refl, Bool, List, ℕ, ◌+◌, ◌<◌, ◌≤◌, length, get_or, drop, add-one, drop-cons, Option, None, arith}
use lib.ListN.{drop_of_length-le}
use borrow.Author.Tests.{lt-leb}
use Rattle.credit_math.specs.Price.{step, walk, buy, sell, better, clear_price}
use Rattle.credit_math.specs.Steps.{QuoteOf, AllQuoted, best, after}
use Rattle.credit_math.specs.declared.allocation.Quote.{Quote}
use Rattle.credit_math.specs.declared.table.Totals.{Totals}
use Rattle.credit_math.proofs.Price.{counts, any_walk}
use Rattle.credit_math.proofs.Search.{quoted_of, after_step}
use Rattle.price_by_order.specs.Steps.{by_order}

-- going through the orders finds what the source's walk finds
pub by_order_is : (is_buy : List Bool) (limits qtys : List ℕ) (reserve reference : ℕ) → by_order is_buy limits qtys reserve reference ≡ clear_price is_buy limits qtys reserve reference
unfolding by_order
by_order_is is_buy limits qtys reserve reference = any_walk is_buy limits qtys reference reserve limits (λ x. (λ m. m, λ m. m))

module _ (is_buy : List Bool) (limits qtys : List ℕ) (reserve reference : ℕ) where
  -- what the walk counts and how it compares, in short
  abbrev C : ℕ → Bool
  C = counts is_buy limits qtys reserve

  abbrev B : ℕ → ℕ → Bool
  B = better is_buy limits qtys reference

  -- the search at place i, with the best so far: what is left of the walk ends with the price
  pub record Searching (k : Option Quote) (i : ℕ) : Type 0 where
    pub ends : walk C B (best k) (drop i limits) ≡ by_order is_buy limits qtys reserve reference
    pub quoted : AllQuoted is_buy limits qtys reference k

  -- before the first limit
  pub searching : Searching None 0
  unfolding by_order
  searching = record { ends = refl; quoted = λ q e. cc }

  module _ {k k' : Option Quote} {i : ℕ} (s : Searching k i) where
    -- one limit of the walk
    next : i < length limits → best k' ≡ step C B (best k) (get_or limits i 0) → AllQuoted is_buy limits qtys reference k' → Searching k' (i + 1)
    next h e f = record { ends = rw (add-one, e) (rw (drop-cons limits i 0 h) at s.ends); quoted = f }

    -- below the reserve it is passed over
    pub below : i < length limits → get_or limits i 0 < reserve → k' ≡ k → Searching k' (i + 1)
    below h l e = next h (rw e (grind (arith, lt-leb reserve (get_or limits i 0) l))) (rw e s.quoted)

    -- else its quote is looked at
    module _ {row : Totals} {q : Quote} (h : i < length limits) (p : row.limit ≡ get_or limits i 0)
        (bought : row.buys ≡ buy is_buy limits qtys row.limit) (sold : row.sells ≡ sell is_buy limits qtys row.limit) (f : QuoteOf row reference q) (e : k' ≡ after k q reserve) where
      pub quote : Searching k' (i + 1)
      quote =
          let a = after_step is_buy limits qtys reserve reference q (quoted_of f refl bought sold) k s.quoted in
          next h (rw (e, ← p, ← f.price_is) a.0) (rw e a.1)

  -- past the last limit
  pub searched : {k : Option Quote} {i : ℕ} → Searching k i → length limits ≤ i → (best k ≡ by_order is_buy limits qtys reserve reference) × AllQuoted is_buy limits qtys reference k
  searched s h = (rw (drop_of_length-le limits h) at s.ends, s.quoted)
