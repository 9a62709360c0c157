-- Outcomes that `RightClear` shuts out, on the orders of case L: one that fails without looking, for whatever reason, one that refuses with whatever
-- number, one with another price or volume, one with no lots. Assumes nothing.
use mathlib.Core.Path.{◌≡◌, refl, ◌∙◌, ap}
use mathlib.Core.Logic.{◌≢◌}
use mathlib.Core.Bool.{true, false}
use mathlib.Core.List.{List, [], ◌∷◌}
use Prim.Native.Nat.{ℕ, ◌-◌}
use native.Mathlib.Omega.{arith}
use lib.IntN.{pos}
use lib.Dec.{lit≤}
use lib.ListN.{get_or, replicate}
use Rattle.laws.specs.Sums.{sum_below, sum_of}
use Rattle.laws.specs.Lists.{table, keep}
use Rattle.laws.specs.Sort.{insert, sort, dedup}
use Rattle.laws.specs.Lex.{lex}
use Rattle.laws.specs.Checks.{unless, first_of}
use Rattle.credit_math.specs.Limits.{max_orders}
use Rattle.credit_math.specs.Price.{buy, sell, executed, imbalance, executes, better, candidates, clear_price, price_refusal, find_uniform_clear_price}
use Rattle.credit_math.specs.ProRata.{share, shares, residue, precedes, turns, hand_out}
use Rattle.credit_math.specs.ProRata as prorata
use Rattle.book.specs.Book.{is_live, no_wallet, no_investor}
use Rattle.book.specs.Clear.{stored, live_orders, searched, trades_at, side_orders, side_lots, allocations, allotted, floor_of, compute_clear, failed_by, refused_with, Outcome}
use Rattle.book.specs.Claims.{Clearable, RightClear}
use Rattle.book.specs.declared.Order.{Order}
use Rattle.book.specs.declared.Params.{Params}
use Rattle.book.specs.declared.Given.{Given}
use Rattle.book.proofs.Theorems.{clear_is_right}

-- case L: 2 reveals, unforced, mark 1, reserve 9, reference 10; buy 5 at 12, buy 3 at 11, sell 4 at 9, sell 3 at 11, all screened
abbrev params : Params
params =
    record {
      reveal_end = pos 100;
      rofr_window = pos 0;
      settle_deadline = pos 200;
      max_cash = 1000;
      min_reveals = 2;
      forced = false;
      rofr_authority = no_wallet;
    }

abbrev given : Given
given = record { mark = true; reserve = 9; reference = 10; policy = 1; band_bps = 2500 }

abbrev order : (side limit qty : ℕ) → Order
order side limit qty =
    record {
      owner = no_wallet;
      side = side;
      escrowed = 60;
      revealed = true;
      limit = limit;
      qty = qty;
      alloc = 0;
      alloc_left = 0;
      screened = true;
      eligible = true;
      exclusion = 0;
      investor_id = no_investor;
    }

abbrev orders : List Order
orders = order 0 12 5 ∷ order 0 11 3 ∷ order 1 9 4 ∷ order 1 11 3 ∷ []

abbrev Right : Outcome → Type 0
Right = RightClear params given orders 4

-- 11 for 7: lots 5, 2, 4, 3
abbrev cleared : Outcome
cleared = record { refusal = 0; failed = 0; price = 11; volume = 7; lots = 5 ∷ 2 ∷ 4 ∷ 3 ∷ replicate (max_orders - 4) 0 }

clears : compute_clear params given orders 4 ≡ cleared
unfolding sum_below sum_of table keep insert sort dedup lex unless first_of buy sell executed imbalance executes better candidates clear_price price_refusal find_uniform_clear_price share shares residue precedes turns hand_out prorata.lots is_live stored live_orders searched trades_at side_orders side_lots allocations allotted floor_of compute_clear
clears = refl

clearable : Clearable params given orders 4
unfolding table keep is_live live_orders
clearable = record { enough = lit≤ tt; marked = refl }

-- the one outcome
the_outcome : (o : Outcome) → Right o → o ≡ cleared
the_outcome o h = (clear_is_right params given orders 4).one_outcome clearable o h ∙ clears

not_failed : (reason : ℕ) → Right (failed_by reason) → ⊥
not_failed reason h = omega (arith, ap (λ (o : Outcome). o.price) (the_outcome (failed_by reason) h))

not_refused : (number : ℕ) → Right (refused_with number) → ⊥
not_refused number h = omega (arith, ap (λ (o : Outcome). o.price) (the_outcome (refused_with number) h))

not_other_price : (o : Outcome) → o.price ≢ 11 → Right o → ⊥
not_other_price o ne h = ne (ap (λ (x : Outcome). x.price) (the_outcome o h))

not_other_volume : (o : Outcome) → o.volume ≢ 7 → Right o → ⊥
not_other_volume o ne h = ne (ap (λ (x : Outcome). x.volume) (the_outcome o h))

not_without_lots : (o : Outcome) → o.lots ≡ replicate max_orders 0 → Right o → ⊥
not_without_lots o e h =
    omega (arith, ap (λ (l : List ℕ). get_or l 0 0) e, ap (λ (x : Outcome). get_or x.lots 0 0) (the_outcome o h))
