-- What is paid at the clear is in escrow: after `SI` every order is covered, no call changes a row, and a lot is at most what the row
-- allows. Assumes nothing.
use Rattle.std.specs.Prelude.{Option, Some}
use mathlib.Core.Path.{◌≡◌, sym, subst}
use mathlib.Core.Logic.{⊎_elim}
use mathlib.Core.Bool.{true, false, ◌&&◌}
use mathlib.Core.List.{List}
use Prim.Native.Nat.{ℕ, ◌≤◌, ◌<◌}
use native.Mathlib.Omega.{arith}
use borrow.Author.Tests.{leb-true, eq-eqb}
use lib.Dec.{ltb}
use lib.ListN.{length, get_or, length-set, length-replicate}
use Rattle.laws.proofs.Tests.{tested, both}
use Rattle.credit_math.specs.Limits.{max_orders}
use Rattle.book.specs.Book.{empty_order, order_in, is_live, is_buy, buy_side, sell_side}
use Rattle.book.specs.Clear.{trades_at}
use Rattle.book.specs.Claims.{takes_part, RightAllocations}
use Rattle.book.specs.declared.Order.{Order}
use Rattle.book.specs.declared.Row.{Row}
use Rattle.book.specs.declared.Params.{Params}
use Rattle.book.specs.declared.Given.{Given}
use Rattle.escrow.specs.Cover.{gross}
use Rattle.escrow.specs.Claims.{Covers}
use Rattle.escrow.proofs.Covers.{gross_none}
use Rattle.auction_engine.specs.declared.Session.{Session}
use Rattle.auction_engine.specs.Session.{order_at, fresh}
use Rattle.auction_engine.specs.declared.Call.TheVariants.{Clear}
use Rattle.auction_engine.specs.Clearing.{outcome}
use Rattle.auction_engine.specs.Opening.{order_refusal, with_order, RowsAccepted, Opening, opened}
use Rattle.auction_engine.proofs.Orders.{order_room, accepted_covered}
use Rattle.course.specs.Demand3.{after, lot_of}
use Rattle.course.specs.Covered.{CoveredAtClear}
use Rattle.course.proofs.Accepted.{outcome_passes}
use Rattle.course.proofs.Lots.{clear_has_price}
use Rattle.course.proofs.Start.{events_say}
use Rattle.course.proofs.Orders.{row_of}
use Rattle.course.proofs.Rows.{OrdersKept, all_more, rows_keep, effect_kept, calls_kept}

module _ (decimals : ℕ) where
  -- every order of a session is covered
  abbrev AllCovered : Session → Type 0
  AllCovered s = (i : ℕ) → i < s.order_count → Covers decimals (row_of (order_at s i))

  kept_covered : (s t : Session) → OrdersKept s t → AllCovered s → AllCovered t
  kept_covered s t kept all i l = subst (Covers decimals) (sym (kept.orders i).row) (all i (subst (λ n. i < n) kept.count l))

  -- ---- the opening
  -- while orders come, each has its place
  record Opens (s : Session) : Type 0 where
    places : length s.orders ≡ max_orders
    all : AllCovered s

  fresh_opens : (p : Params) (g : Given) → Opens (fresh p g)
  unfolding fresh
  fresh_opens p g = record { places = length-replicate max_orders empty_order; all = λ i l. absurd (omega (arith, l)) }

  order_opens : (s : Session) (row : Row) → order_refusal s (Some decimals) row ≡ 0 → Opens s → Opens (with_order s row)
  unfolding with_order
  order_opens s row e o =
      let room : s.order_count < length s.orders = omega (arith, order_room s (Some decimals) row e, o.places) in
      record { places = rw length-set o.places; all = all_more s row (Covers decimals) room (accepted_covered s decimals row e) o.all }

  opened_covered : (o : Opening) → o.cover ≡ Some decimals → AllCovered (opened o)
  opened_covered o is =
      (rows_keep Opens (Some decimals) order_opens (fresh o.params o.given) o.rows
      (subst (λ (cover : Option ℕ). RowsAccepted (fresh o.params o.given) cover o.rows) is o.rows_accepted)
      (fresh_opens o.params o.given)).all

-- ---- a lot
-- what is paid for it is in escrow, if the order has this row
record Paid (decimals price lot : ℕ) (row : Row) : Type 0 where
  buy : row.side ≡ buy_side → gross lot price decimals ≤ row.escrowed
  sell : row.side ≡ sell_side → lot ≤ row.escrowed

-- no lot costs nothing
nothing_paid : (decimals price : ℕ) (row : Row) → Paid decimals price 0 row
nothing_paid decimals price row = record { buy = λ side. rw (gross_none price decimals) (omega arith); sell = λ side. omega arith }

module _ (p : Params) (g : Given) (orders : List Order) (n price i : ℕ) where
  -- a buy that takes part pays at most its limit
  part_limit : takes_part p g orders n price i ≡ true → (order_in orders i).side ≡ buy_side → price ≤ (order_in orders i).limit
  unfolding trades_at
  part_limit t side =
      let trades = (both (ltb i n && is_live (order_in orders i)) (trades_at orders n (is_buy (order_in orders i)) price i) t).1 in
      leb-true price (order_in orders i).limit (rw (eq-eqb (order_in orders i).side buy_side side) at trades)

  -- the lot of a covered order; the others have none
  lot_paid : (decimals volume : ℕ) (lots : List ℕ) → RightAllocations p g orders n price volume lots → Covers decimals (row_of (order_in orders i))
      → Paid decimals price (get_or lots i 0) (row_of (order_in orders i))
  lot_paid decimals volume lots R C =
      ⊎_elim
      (λ (t : takes_part p g orders n price i ≡ true).
      record { buy = λ side. C.buy side (get_or lots i 0) price (R.within i) (part_limit t side); sell = λ side. C.sell side (get_or lots i 0) (R.within i) })
      (λ (t : takes_part p g orders n price i ≡ false). rw (R.others i t) (nothing_paid decimals price (row_of (order_in orders i))))
      (tested (takes_part p g orders n price i))

-- ---- a session just cleared
pub covered_at_clear : CoveredAtClear
covered_at_clear s j decimals cover =
    let u = (after (opened j.opening) j.calls).session in
    let all = kept_covered decimals (opened j.opening) u (calls_kept (opened j.opening) j.calls) (opened_covered decimals j.opening cover) in
    let says = events_say u j.now j.price j.volume j.reserve j.reference j.others j.line in
    let P = clear_has_price u.params u.given u.orders u.order_count (outcome_passes u j.now j.accepted) says.0 in
    let kept : OrdersKept u s = subst (OrdersKept u) (sym j.is) (effect_kept u (Clear j.now) j.accepted) in
    let paid : (i : ℕ) → i < s.order_count → Paid decimals j.price (lot_of j i) (row_of (order_at s i)) =
    λ i l. rw ((kept.orders i).row, ← says.1)
    (lot_paid u.params u.given u.orders u.order_count (outcome u).price i decimals (outcome u).volume (outcome u).lots P.lots
    (all i (omega (arith, l, kept.count)))) in
    record { buy = λ i l. (paid i l).buy; sell = λ i l. (paid i l).sell }
