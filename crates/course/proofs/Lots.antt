-- The lots of a clear that has a price: the volume is above 0, and the lots of each side add up to it, from `clear_is_right` of book.
-- Assumes nothing.
use mathlib.Core.Path.{◌≡◌, refl, sym, ap, ◌∙◌}
use mathlib.Core.Bool.{Bool, true, false, cond, not, ◌&&◌}
use mathlib.Core.List.{List}
use Prim.Native.Nat.{ℕ, zero, suc, ◌≤◌, ◌<◌, min}
use native.Mathlib.Omega.{arith}
use borrow.Author.Tests.{ltb-false}
use lib.Dec.{ltb, eqb}
use lib.ListN.{length, get_or}
use Rattle.laws.specs.Sums.{sum_below, only}
use Rattle.laws.proofs.Sums.{sum_same}
use Rattle.credit_math.specs.Limits.{max_orders}
use Rattle.book.specs.Book.{order_in, buy_side, sell_side, is_buy}
use Rattle.book.specs.Clear.{live_orders, compute_clear, failed_by, too_few_reveals, mark_unavailable, Outcome}
use Rattle.book.specs.Claims.{Clearable, side_sum, Priced, RightClear, no_crossing, too_large, has_price}
use Rattle.book.proofs.Theorems.{clear_is_right}
use Rattle.book.specs.declared.Order.{Order}
use Rattle.book.specs.declared.Params.{Params}
use Rattle.book.specs.declared.Given.{Given}

-- a clear that does not fail has enough live orders, and a mark unless the sale is forced
not_failed : (a b : Bool) (o : Outcome) → (cond a (failed_by too_few_reveals) (cond b (failed_by mark_unavailable) o)).failed ≡ 0 → (a ≡ false) × (b ≡ false)
not_failed true b o e = absurd (omega (arith, e))
not_failed false true o e = absurd (omega (arith, e))
not_failed false false o e = (refl, refl)

module _ (p : Params) (g : Given) (orders : List Order) (n : ℕ) where
  clearable : (compute_clear p g orders n).failed ≡ 0 → Clearable p g orders n
  unfolding compute_clear
  clearable e =
      let h = not_failed (ltb (length (live_orders orders n)) p.min_reveals) (not p.forced && not g.mark) _ e in
      record { enough = ltb-false _ _ h.0; marked = h.1 }

  -- a clear that is neither refused nor failed has a price
  has_a_price : (o : Outcome) → RightClear p g orders n o → o.refusal ≡ 0 → o.failed ≡ 0 → Priced p g orders n o
  has_a_price o (no_crossing h e) r f = absurd (omega (arith, f, ap (λ (x : Outcome). x.failed) e))
  has_a_price o (too_large q h l e) r f = absurd (omega (arith, r, ap (λ (x : Outcome). x.refusal) e))
  has_a_price o (has_price h) r f = h

  pub clear_has_price : (compute_clear p g orders n).refusal ≡ 0 → (compute_clear p g orders n).failed ≡ 0 → Priced p g orders n (compute_clear p g orders n)
  clear_has_price r f = has_a_price (compute_clear p g orders n) ((clear_is_right p g orders n).right (clearable f)) r f

  -- the lots of one side added up
  abbrev pub side_lots : (side : ℕ) → ℕ
  side_lots side = sum_below (λ i. only (eqb (order_in orders i).side side) (get_or (compute_clear p g orders n).lots i 0)) n

  pub record AddUp : Type 0 where
    pub traded : 0 < (compute_clear p g orders n).volume
    pub bought : side_lots buy_side ≡ (compute_clear p g orders n).volume
    pub sold : side_lots sell_side ≡ (compute_clear p g orders n).volume

  module _ (few : n ≤ max_orders) (sides : (i : ℕ) → i < n → (order_in orders i).side ≤ 1) where
    all : min n max_orders ≡ n
    all = omega arith

    -- with sides 0 and 1 the sellers are those that do not buy
    not_buy : (i : ℕ) → i < n → not (is_buy (order_in orders i)) ≡ eqb (order_in orders i).side sell_side
    not_buy i l = go (order_in orders i).side (sides i l)
      where
        go : (x : ℕ) → x ≤ 1 → not (eqb x buy_side) ≡ eqb x sell_side
        go zero h = refl
        go (suc zero) h = refl
        go (suc (suc x)) h = absurd (omega arith)

    buys : side_sum p g orders n true (compute_clear p g orders n).lots ≡ side_lots buy_side
    buys = rw all

    sells : side_sum p g orders n false (compute_clear p g orders n).lots ≡ side_lots sell_side
    sells = rw all (sum_same _ _ n (λ i l. ap (λ (b : Bool). only b (get_or (compute_clear p g orders n).lots i 0)) (not_buy i l)))

    pub lots_add_up : (compute_clear p g orders n).refusal ≡ 0 → (compute_clear p g orders n).failed ≡ 0 → AddUp
    lots_add_up r f =
        let P = clear_has_price r f in
        record {
          traded = omega (arith, P.best.executes.some, P.volume);
          bought = sym buys ∙ P.lots.sides true;
          sold = sym sells ∙ P.lots.sides false;
        }
