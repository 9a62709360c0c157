-- What a file listed of an order stays: an order more changes no row of the others, and calls change neither the number of orders nor what is kept of
-- each (proofs/Orders.antt). Assumes nothing.
use Rattle.std.specs.Prelude.{Option}
use mathlib.Core.Path.{◌≡◌, refl, sym, ap, ◌∙◌, subst}
use mathlib.Core.Logic.{◌≢◌, ⊎_elim}
use mathlib.Core.Bool.{Bool, true, false, cond}
use mathlib.Core.List.{List, [], ◌∷◌}
use Prim.Native.Nat.{ℕ, ◌+◌, ◌<◌}
use native.Mathlib.Decide.{ℕ_discrete}
use native.Mathlib.Omega.{arith}
use borrow.Author.Tests.{eqb-true}
use lib.Dec.{eqb}
use lib.ListN.{length}
use lib.Seq.{get_or-set_same, get_or-set_other}
use Rattle.laws.proofs.Tests.{tested}
use Rattle.book.specs.Book.{no_order, listed}
use Rattle.book.specs.declared.Row.{Row}
use Rattle.auction_engine.specs.declared.Session.{Session}
use Rattle.auction_engine.specs.Session.{order_at, at_phase}
use Rattle.auction_engine.specs.declared.Call.{Call}
use Rattle.auction_engine.specs.declared.Call.TheVariants.{Screen, Clear, Allocate, Exercise, Close, Settle, Skip, Finish, Expire}
use Rattle.auction_engine.specs.Screening.{screen_effect}
use Rattle.auction_engine.specs.Clearing.{outcome, cleared_by}
use Rattle.auction_engine.specs.Matching.{after_fills, done, phase_after, matched, allocate_effect}
use Rattle.auction_engine.specs.Rofr.{exercise_effect, close_effect}
use Rattle.auction_engine.specs.Settlement.{settle_effect, skip_effect, finish_effect, expire_effect}
use Rattle.auction_engine.specs.Engine.{refusal, effect, answer}
use Rattle.auction_engine.specs.Opening.{order_refusal, with_order, with_rows, RowsAccepted}
use Rattle.auction_engine.proofs.Fills.{after_fills_orders}
use Rattle.course.specs.Applied.{session_after}
use Rattle.course.specs.Demand3.{after}
use Rattle.course.proofs.Orders.{row_of, lotless, OrderKept, but_for_lot, kept_on, set_kept, lots_lotless, after_fills_lotless, exclusion_known, screened_kept}
use Rattle.course.proofs.Accepted.{screens}
use Rattle.course.proofs.Applied.{run_is_answers}

-- t has as many orders as s, and of each is kept what calls keep
pub record OrdersKept (s t : Session) : Type 0 where
  pub count : t.order_count ≡ s.order_count
  pub orders : (i : ℕ) → OrderKept (order_at s i) (order_at t i)

pub orders_but_for_lots : (s t : Session) → t.order_count ≡ s.order_count → ((i : ℕ) → lotless (order_at t i) ≡ lotless (order_at s i)) → OrdersKept s t
orders_but_for_lots s t n e = record { count = n; orders = λ i. but_for_lot (order_at s i) (order_at t i) (e i) }

orders_same : (s : Session) → OrdersKept s s
orders_same s = orders_but_for_lots s s refl (λ i. refl)

orders_on : (s t u : Session) → OrdersKept s t → OrdersKept t u → OrdersKept s u
orders_on s t u a b = record { count = b.count ∙ a.count; orders = λ i. kept_on (order_at s i) (order_at t i) (order_at u i) (a.orders i) (b.orders i) }

either : (x : Bool) (s t u : Session) → OrdersKept s t → OrdersKept s u → OrdersKept s (cond x t u)
either true s t u a b = a
either false s t u a b = b

-- ---- one order more
module _ (s : Session) (row : Row) where
  pub last_row : s.order_count < length s.orders → row_of (order_at (with_order s row) s.order_count) ≡ row
  unfolding with_order
  last_row room = ap row_of (get_or-set_same s.orders s.order_count (listed row) no_order room)

  pub old_row : (i : ℕ) → i ≢ s.order_count → row_of (order_at (with_order s row) i) ≡ row_of (order_at s i)
  unfolding with_order
  old_row i d = ap row_of (get_or-set_other s.orders s.order_count i (listed row) no_order d)

  -- what every row had, and the new one has
  pub all_more : (Q : Row → Type 0) → s.order_count < length s.orders → Q row → ((i : ℕ) → i < s.order_count → Q (row_of (order_at s i)))
      → (i : ℕ) → i < s.order_count + 1 → Q (row_of (order_at (with_order s row) i))
  all_more Q room new old i l = go (ℕ_discrete i s.order_count)
    where
      go : Dec (i ≡ s.order_count) → Q (row_of (order_at (with_order s row) i))
      go (yes q) = subst Q (sym (ap (λ j. row_of (order_at (with_order s row) j)) q ∙ last_row room)) new
      go (no q) = subst Q (sym (old_row i q)) (old i (omega arith))

-- what each accepted order keeps, all of them keep
pub rows_keep : (P : Session → Type 0) (cover : Option ℕ) → ((s : Session) (row : Row) → order_refusal s cover row ≡ 0 → P s → P (with_order s row))
    → (s : Session) (rows : List Row) → RowsAccepted s cover rows → P s → P (with_rows s rows)
rows_keep P cover step s [] a p = p
rows_keep P cover step s (row ∷ rows) a p = rows_keep P cover step (with_order s row) rows a.1 (step s row a.0 p)

-- ---- a call
pub after_fills_kept : (n : ℕ) (s : Session) → OrdersKept s (after_fills n s)
after_fills_kept n s = orders_but_for_lots s (after_fills n s) (after_fills_orders n s) (after_fills_lotless n s)

matched_kept : (t : Session) → OrdersKept t (matched t)
matched_kept t = either (done t) t (at_phase t (phase_after t)) t (orders_but_for_lots t _ refl (λ i. refl)) (orders_same t)

pub effect_kept : (s : Session) (c : Call) → refusal s c ≡ 0 → OrdersKept s (effect s c)
unfolding effect screen_effect cleared_by allocate_effect exercise_effect close_effect settle_effect skip_effect finish_effect expire_effect
effect_kept s (Screen now i side verdict has_id id) e =
    let S = screens s now i side verdict has_id id e in
    record { count = refl; orders = set_kept s.orders i _ (screened_kept (order_at s i) _ has_id id S.unscreened (exclusion_known s i verdict has_id id S.known)) }
effect_kept s (Clear now) e =
    either (eqb (outcome s).failed 0) s _ _
    (orders_but_for_lots s _ refl (lots_lotless s.orders (outcome s).lots s.order_count))
    (orders_but_for_lots s _ refl (λ j. refl))
effect_kept s (Allocate now n) e = orders_on s (after_fills n s) (matched (after_fills n s)) (after_fills_kept n s) (matched_kept (after_fills n s))
effect_kept s (Exercise now issuer i q) e = orders_but_for_lots s _ refl (λ j. refl)
effect_kept s (Close now caller) e = orders_but_for_lots s _ refl (λ j. refl)
effect_kept s (Settle i) e = orders_but_for_lots s _ refl (λ j. refl)
effect_kept s (Skip now i reason) e = orders_but_for_lots s _ refl (λ j. refl)
effect_kept s (Finish now) e = orders_but_for_lots s _ refl (λ j. refl)
effect_kept s (Expire now) e = orders_but_for_lots s _ refl (λ j. refl)

-- ---- calls in turn
answer_kept : (s : Session) (c : Call) → OrdersKept s (answer s c).session
unfolding answer
answer_kept s c =
    ⊎_elim
    (λ (t : eqb (refusal s c) 0 ≡ true). rw t (effect_kept s c (eqb-true (refusal s c) 0 t)))
    (λ (t : eqb (refusal s c) 0 ≡ false). rw t (orders_same s))
    (tested (eqb (refusal s c) 0))

answers_kept : (s : Session) (calls : List Call) → OrdersKept s (session_after s calls)
answers_kept s [] = orders_same s
answers_kept s (c ∷ calls) =
    orders_on s (answer s c).session (session_after (answer s c).session calls) (answer_kept s c) (answers_kept (answer s c).session calls)

pub calls_kept : (s : Session) (calls : List Call) → OrdersKept s (after s calls).session
calls_kept s calls = subst (OrdersKept s) (sym (run_is_answers s calls)) (answers_kept s calls)
