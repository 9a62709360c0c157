-- The orders with their lots, place by place, in arrays of any length. Assumes nothing.
use mathlib.Core.Path.{◌≡◌, refl, ◌∙◌}
use mathlib.Core.Logic.{⊎_elim}
use mathlib.Core.List.{List}
use Prim.Native.Nat.{ℕ, zero, suc, ◌≤◌, ◌<◌}
use native.Mathlib.Decide.{ℕ_discrete}
use native.Mathlib.Omega.{arith}
use lib.ListN.{length, get_or, set, length-set, get_or-eq_default}
use lib.Seq.{get_or-set_same, get_or-set_other}
use Rattle.laws.proofs.Tests.{lt_or_le}
use Rattle.book.specs.Book.{no_order, order_in}
use Rattle.book.specs.declared.Order.{Order}
use Rattle.auction_engine.specs.Clearing.{with_lot, with_lots}

module _ (orders : List Order) (lots : List ℕ) where
  pub lots_places : (n : ℕ) → length (with_lots orders lots n) ≡ length orders
  unfolding with_lots
  lots_places zero = refl
  lots_places (suc n) = length-set (with_lots orders lots n) n _ ∙ lots_places n

  -- past the end of the array nothing is written, and nothing is to be
  lots_end : (n i : ℕ) → length orders ≤ i → get_or lots i 0 ≡ 0 → order_in (with_lots orders lots n) i ≡ with_lot (order_in orders i) (get_or lots i 0)
  lots_end n i h e =
      get_or-eq_default (with_lots orders lots n) no_order {n = i} (omega (arith, lots_places n))
      ∙ rw (get_or-eq_default orders no_order {n = i} h, e)

  -- each of the first n orders has its lot, where the array ends before it none
  pub lots_at_lem : (n i : ℕ) → i < n → (length orders ≤ i → get_or lots i 0 ≡ 0) → order_in (with_lots orders lots n) i ≡ with_lot (order_in orders i) (get_or lots i 0)
  unfolding with_lots
  lots_at_lem zero i l e = absurd (omega (arith, l))
  lots_at_lem (suc n) i l e = go (ℕ_discrete i n) (λ k. lots_at_lem n i k e)
    where
      go : Dec (i ≡ n) → (i < n → order_in (with_lots orders lots n) i ≡ with_lot (order_in orders i) (get_or lots i 0))
          → order_in (set (with_lots orders lots n) n (with_lot (order_in orders n) (get_or lots n 0))) i ≡ with_lot (order_in orders i) (get_or lots i 0)
      go (yes p) _ =
          ⊎_elim
          (λ (h : n < length orders). rw p (get_or-set_same (with_lots orders lots n) n _ no_order (omega (arith, lots_places n))))
          (λ (h : length orders ≤ n). lots_end (suc n) i (omega arith) (e (omega arith)))
          (lt_or_le n (length orders))
      go (no p) ih = get_or-set_other (with_lots orders lots n) n i _ no_order p ∙ ih (omega arith)

  -- the others are as they were
  pub lots_past : (n i : ℕ) → n ≤ i → order_in (with_lots orders lots n) i ≡ order_in orders i
  unfolding with_lots
  lots_past zero i h = refl
  lots_past (suc n) i h = get_or-set_other (with_lots orders lots n) n i _ no_order (λ e. omega arith) ∙ lots_past n i (omega arith)
