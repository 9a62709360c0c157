-- The test of an order by its kind, and what an escrow covers that its order was not refused for. Assumes nothing.
use mathlib.Core.Path.{◌≡◌, refl, ◌∙◌}
use mathlib.Core.Logic.{◌≢◌}
use mathlib.Core.Bool.{Bool, true, false, not, ◌||◌, false≢true}
use Prim.Native.Nat.{ℕ, ◌*◌, ◌^◌, ◌≤◌}
use native.Mathlib.Nat.{le_trans, mul-le-mul, zero-mul}
use native.Mathlib.Omega.{arith}
use lib.Dec.{leb}
use borrow.Author.Tests.{eq-eqb, ne_eqb, leb-true}
use Rattle.laws.proofs.Checking.{unless_zero}
use Rattle.book.specs.Book.{buy_side}
use Rattle.book.specs.declared.Row.{Row}
use Rattle.credit_math.proofs.Rounding.{rounds_up, ceil_mono}
use Rattle.escrow.specs.Cover.{gross, needed, covered, cover_refusal}
use Rattle.escrow.specs.Claims.{Covers, NotRefusedCovers}
use Rattle.escrow.proofs.Powers.{ten_positive}

shown : (r t : Bool) → r ≡ true → t ≡ not r || t
shown true t e = refl
shown false t e = absurd (false≢true e)

-- ---- the test of a buy and of a sell
module _ (decimals : ℕ) (row : Row) where
  pub covered_buy : row.revealed ≡ true → row.side ≡ buy_side → leb (gross row.qty row.limit decimals) row.escrowed ≡ covered decimals row
  unfolding covered needed
  covered_buy e side = rw (eq-eqb row.side buy_side side) (shown row.revealed _ e)

  pub covered_sell : row.revealed ≡ true → row.side ≢ buy_side → leb row.qty row.escrowed ≡ covered decimals row
  unfolding covered needed
  covered_sell e side = rw (ne_eqb row.side buy_side side) (shown row.revealed _ e)

-- ---- a smaller lot at a lower price costs no more
gross_mono : (decimals : ℕ) {lot qty price limit : ℕ} → lot ≤ qty → price ≤ limit → gross lot price decimals ≤ gross qty limit decimals
unfolding gross
gross_mono decimals h k = ceil_mono _ _ (10 ^ decimals) (ten_positive decimals) (mul-le-mul h k)

-- nothing costs nothing, at any price
pub gross_none : (price decimals : ℕ) → gross 0 price decimals ≡ 0
unfolding gross
gross_none price decimals = omega (arith, (rounds_up (0 * price) (10 ^ decimals) (ten_positive decimals)).least 0 (omega (arith, zero-mul price)))

-- an order of no quantity has nothing to pay
pub none_covers : (decimals : ℕ) (row : Row) → row.qty ≡ 0 → Covers decimals row
none_covers decimals row none = record {
  buy = λ side lot price h k. let z : lot ≡ 0 = omega (arith, h, none) in rw (z, gross_none price decimals) (omega arith);
  sell = λ side lot h. omega (arith, h, none);
}

pub not_refused_covers : NotRefusedCovers
unfolding cover_refusal
not_refused_covers decimals row e z =
    let passes = unless_zero (covered decimals row) 30 z in
    record {
      buy = λ side lot price h k. le_trans (gross_mono decimals h k) (leb-true _ _ (covered_buy decimals row e side ∙ passes));
      sell = λ side lot h. le_trans h (leb-true _ _ (covered_sell decimals row e (λ b. omega (arith, side, b)) ∙ passes));
    }
