-- Counting the fills: what a hand has ahead of it, and what a turn leaves. Assumes nothing.
use mathlib.Core.Path.{◌≡◌, refl, sym, ◌∙◌}
use mathlib.Core.Bool.{Bool, true, false, ◌||◌, ◌&&◌, false≢true}
use mathlib.Core.List.{List, []}
use Prim.Native.Nat.{ℕ, zero, suc, ◌+◌, ◌≤◌, ◌<◌}
use native.Mathlib.Omega.{arith}
use borrow.Author.Tests.{lt-ltb}
use lib.Dec.{eqb, ltb}
use lib.ListN.{length, get_or}
use lib.Seq.{drop-cons}
use Rattle.std.proofs.lemmas.Grind.{common_steps}
use Rattle.laws.specs.Sums.{only}
use Rattle.laws.specs.Lists.{table, keep}
use Rattle.laws.proofs.Tests.{both}
use Rattle.laws.proofs.Lists.{length_table, get_or_table}
use Rattle.credit_math.specs.Limits.{max_orders}
use Rattle.book.specs.Book.{buy_side, sell_side}
use Rattle.fills.specs.declared.lines.Hand.{Hand}
use Rattle.fills.specs.FillCount.{fill_count}
use Rattle.fills.specs.Steps.{nonzero, fills_of, lot_on, ahead, less_other}
use Rattle.fills.proofs.Fills.{nonzero_none, fill_next, lone_buy, lone_sell}
use Rattle.fills.proofs.Places.{count_by_place}
use Rattle.fills.proofs.Bounds.{fills_few}

module _ (side : ℕ) (lots sides : List ℕ) where
  -- an empty hand takes the next order's lot
  pub take_next : (hand : Hand) (x : ℕ) → x ≡ lot_on side lots sides hand.next → hand.left ≡ 0 → hand.next < length lots
      → nonzero (ahead side lots sides (record { left = x; next = hand.next + 1 })) ≡ nonzero (ahead side lots sides hand)
  unfolding ahead
  take_next hand x w e l =
      let T = table (lot_on side lots sides) (length lots) in
      grind (arith, common_steps, nonzero_none hand.left, drop-cons T hand.next 0, get_or_table (lot_on side lots sides), length_table (lot_on side lots sides))

  -- a lot of the side is the next; any other order, and a lot of 0, has none
  lot_of : (i : ℕ) → (eqb (get_or sides i 0) side && ltb 0 (get_or lots i 0)) ≡ true → get_or lots i 0 ≡ lot_on side lots sides i
  unfolding lot_on
  lot_of i h = let p = both (eqb (get_or sides i 0) side) (ltb 0 (get_or lots i 0)) h in rw p.0

  no_lot : (i : ℕ) → (eqb (get_or sides i 0) side && ltb 0 (get_or lots i 0)) ≡ false → 0 ≡ lot_on side lots sides i
  unfolding lot_on
  no_lot i h = go (eqb (get_or sides i 0) side) (get_or lots i 0) h
    where
      go : (t : Bool) (lot : ℕ) → (t && ltb 0 lot) ≡ false → 0 ≡ only t lot
      go false lot h = refl
      go true zero h = refl
      go true (suc lot) h = absurd (false≢true (sym h ∙ lt-ltb 0 (suc lot) (omega arith)))

  pub next_taken : (i : ℕ) → i < length lots → (eqb (get_or sides i 0) side && ltb 0 (get_or lots i 0)) ≡ true
      → nonzero (ahead side lots sides (record { left = get_or lots i 0; next = i + 1 })) ≡ nonzero (ahead side lots sides (record { left = 0; next = i }))
  next_taken i l h = take_next (record { left = 0; next = i }) (get_or lots i 0) (lot_of i h) refl l

  pub next_passed : (i : ℕ) → i < length lots → (eqb (get_or sides i 0) side && ltb 0 (get_or lots i 0)) ≡ false
      → nonzero (ahead side lots sides (record { left = 0; next = i + 1 })) ≡ nonzero (ahead side lots sides (record { left = 0; next = i }))
  next_passed i l h = take_next (record { left = 0; next = i }) 0 (no_lot i h) refl l

  -- past the last order an empty hand has nothing ahead
  pub nothing_ahead : (hand : Hand) → hand.left ≡ 0 → length lots ≤ hand.next → nonzero (ahead side lots sides hand) ≡ []
  unfolding ahead nonzero keep
  nothing_ahead hand e l = grind (arith, common_steps, nonzero_none hand.left, length_table (lot_on side lots sides))

module _ (lots sides : List ℕ) where
  -- the fills ahead of two hands
  abbrev pub fills_ahead : Hand → Hand → ℕ
  fills_ahead buy sell = fills_of (ahead buy_side lots sides buy) (ahead sell_side lots sides sell)

  -- before the first order all fills are ahead
  pub all_ahead : fill_count lots sides ≡ fills_ahead (record { left = 0; next = 0 }) (record { left = 0; next = 0 })
  unfolding ahead fills_of
  all_ahead =
      let T = λ (side : ℕ). table (lot_on side lots sides) (length lots) in
      count_by_place lots sides ∙ rw (nonzero_none 0 (T buy_side) refl, nonzero_none 0 (T sell_side) refl)

  -- with a lot in hand a turn makes one of them: both hands hold a lot, or a side has run out
  pub fewer : (buy sell : Hand) → (buy.left ≡ 0 → nonzero (ahead buy_side lots sides buy) ≡ []) → (sell.left ≡ 0 → nonzero (ahead sell_side lots sides sell) ≡ [])
      → (ltb 0 buy.left || ltb 0 sell.left) ≡ true
      → fills_ahead buy sell ≡ suc (fills_ahead (record { left = less_other buy.left sell.left; next = buy.next }) (record { left = less_other sell.left buy.left; next = sell.next }))
  unfolding ahead fills_of
  fewer buy sell no_buy no_sell h = grind (arith, common_steps, nonzero_none, fill_next, lone_buy, lone_sell)

  -- the number is small
  pub few : length lots ≤ max_orders → fill_count lots sides ≤ max_orders + max_orders
  few h = grind (arith, count_by_place lots sides, fills_few, length_table {A = ℕ})
