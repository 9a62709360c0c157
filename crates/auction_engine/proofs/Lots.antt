-- Writing the lots into the orders of a session, one place after the other. Assumes nothing.
use mathlib.Core.Path.{◌≡◌, refl, ◌∙◌, ap}
use mathlib.Core.List.{List}
use Prim.Native.Nat.{ℕ, zero, suc, ◌+◌, ◌≤◌}
use native.Mathlib.Numerals.{add-one}
use native.Mathlib.Omega.{arith}
use lib.ListN.{get_or, set}
use lib.Seq.{get_or-set_other}
use Rattle.book.specs.Book.{order_in}
use Rattle.book.specs.declared.Order.{Order}
use Rattle.auction_engine.specs.declared.Session.{Session}
use Rattle.auction_engine.specs.Session.{order_at, remake}
use Rattle.auction_engine.specs.Clearing.{with_lot, with_lots}

-- a session with other orders
abbrev pub reordered : Session → List Order → Session
reordered s os = remake s s.cleared s.phase s.rofr_qty s.fills_settled s.skipped_fills os s.fills s.fill_count

module _ (s : Session) (lots : List ℕ) where
  -- with the first i lots
  abbrev pub lotted : ℕ → Session
  lotted i = reordered s (with_lots s.orders lots i)

  pub lots_start : s ≡ lotted 0
  unfolding with_lots
  lots_start = refl

  -- those that are not passed have none
  ahead : (i j : ℕ) → i ≤ j → order_in (with_lots s.orders lots i) j ≡ order_at s j
  unfolding with_lots
  ahead zero j h = refl
  ahead (suc i) j h = get_or-set_other (with_lots s.orders lots i) i j _ _ (λ e. omega arith) ∙ ahead i j (omega arith)

  pub lots_more : (i : ℕ) (t : Session) → t ≡ lotted i → reordered t (set t.orders i (with_lot (order_at t i) (get_or lots i 0))) ≡ lotted (i + 1)
  unfolding with_lots
  lots_more i t e =
      ap (λ (u : Session). reordered u (set u.orders i (with_lot (order_at u i) (get_or lots i 0)))) e ∙ rw (add-one i, ahead i i (omega arith))
