-- What an accepted order of a file passed, the room that it has, and what it changes. Assumes nothing.
use Rattle.std.specs.Prelude.{Option, Some}
use mathlib.Core.Path.{◌≡◌}
use mathlib.Core.Logic.{⊎_elim}
use mathlib.Core.Bool.{true, false}
use Prim.Native.Nat.{ℕ, ◌<◌}
use lib.Dec.{eqb}
use borrow.Author.Tests.{ltb-true, eqb-true}
use Rattle.laws.proofs.Tests.{tested, both}
use Rattle.laws.proofs.Checking.{then_zero, check_zero}
use Rattle.credit_math.specs.Limits.{max_orders}
use Rattle.book.specs.declared.Row.{Row}
use Rattle.escrow.specs.Claims.{Covers}
use Rattle.escrow.proofs.Covers.{none_covers, not_refused_covers}
use Rattle.auction_engine.specs.declared.Session.{Session}
use Rattle.auction_engine.specs.Opening.{row_refusal, order_refusal}

-- an accepted order is not the seventeenth
pub order_room : (s : Session) (cover : Option ℕ) (row : Row) → order_refusal s cover row ≡ 0 → s.order_count < max_orders
unfolding order_refusal
order_room s cover row z = ltb-true s.order_count max_orders (check_zero _ 6 _ (then_zero (row_refusal cover row) _ z).1).0

-- after `SI` an accepted order's escrow covers it: a revealed one by the test, an unrevealed one since it has no quantity
pub accepted_covered : (s : Session) (decimals : ℕ) (row : Row) → order_refusal s (Some decimals) row ≡ 0 → Covers decimals row
unfolding order_refusal row_refusal
accepted_covered s decimals row z =
    let own = (then_zero (row_refusal (Some decimals) row) _ z).0 in
    let figures = check_zero _ 5 _ (check_zero _ 5 _ (check_zero _ 3 _ own).1).1 in
    ⊎_elim
    (λ (t : row.revealed ≡ true). not_refused_covers decimals row t figures.1)
    (λ (t : row.revealed ≡ false). none_covers decimals row (eqb-true _ 0 (both (eqb row.limit 0) (eqb row.qty 0) (rw t at figures.0)).1))
    (tested row.revealed)
