-- The clear of a session's orders is right: Demand 2 over `compute_clear`. Assumes nothing.
use mathlib.Core.Path.{◌≡◌, refl, sym, ◌∙◌, ap}
use mathlib.Core.Logic.{◌↔◌, ⊎_elim}
use mathlib.Core.Bool.{true, false, not, ◌&&◌}
use mathlib.Core.List.{List}
use Prim.Native.Nat.{ℕ, ◌^◌, ◌≤◌, ◌<◌}
use native.Mathlib.Omega.{arith}
use lib.Dec.{ltb}
use lib.ListN.{length}
use borrow.Author.Tests.{ltb-true, ltb-false, lt-ltb, le-ltb}
use Rattle.laws.proofs.Tests.{tested}
use Rattle.laws.proofs.Lists.{map_members}
use Rattle.credit_math.specs.Error.{no_cross}
use Rattle.credit_math.specs.Price.{Found}
use Rattle.credit_math.specs.Claims as math
use Rattle.credit_math.proofs.PriceTheorems.{price_is_right}
use Rattle.book.specs.Book.{order_in}
use Rattle.book.specs.Clear.{live_orders, searched, allocations, allotted, floor_of, compute_clear, failed_by, too_few_reveals, mark_unavailable, Outcome}
use Rattle.book.specs.Gathered.{buys_of, limits_of, qtys_of}
use Rattle.book.specs.Claims.{Executes, BestPrice, executed_at, Clearable, RightAllocations, Priced, RightClear, no_crossing, too_large, has_price, ClearIsRight}
use Rattle.book.specs.declared.Order.{Order}
use Rattle.book.specs.declared.Params.{Params}
use Rattle.book.specs.declared.Given.{Given}
use Rattle.book.proofs.Live.{live_inside}
use Rattle.book.proofs.Outcomes.{accepted, right_search, executed_within}
use Rattle.book.proofs.Allocations.{allocation_within, allocation_others, side_adds_up}

module _ (p : Params) (g : Given) (orders : List Order) (n : ℕ) where
  abbrev E : ℕ → Type 0
  E = Executes p g orders n

  abbrev v : ℕ → ℕ
  v = executed_at p g orders n

  -- the best price of the live orders as the search has them
  abbrev Best : ℕ → Type 0
  Best = math.BestPrice (buys_of orders n) (limits_of orders n) (qtys_of orders n) (floor_of p g) g.reference

  -- the limits of the list are those of the live orders, by number
  by_number : (q : ℕ) → math.Executes (buys_of orders n) (limits_of orders n) (qtys_of orders n) (floor_of p g) q → E q
  by_number q h =
      let r = (map_members (λ i. (order_in orders i).limit) q (live_orders orders n)).0 h.limit in
      let l = (live_inside orders n r.0).0 r.1 in
      record { order = r.0; below = l.0; live = l.1; limit = r.2; floor = h.floor; some = h.some }

  by_list : (q : ℕ) → E q → math.Executes (buys_of orders n) (limits_of orders n) (qtys_of orders n) (floor_of p g) q
  by_list q h = record {
    limit = (map_members (λ i. (order_in orders i).limit) q (live_orders orders n)).1 (h.order, (live_inside orders n h.order).1 (h.below, h.live), h.limit);
    floor = h.floor;
    some = h.some;
  }

  -- it is the best by number
  best_by_number : (q : ℕ) → Best q → BestPrice p g orders n q
  best_by_number q h = record { executes = by_number q h.executes; beats = λ r m ne. h.beats r (by_list r m) ne }

  -- and the other way round
  best_by_list : (q : ℕ) → BestPrice p g orders n q → Best q
  best_by_list q h = record { executes = by_list q h.executes; beats = λ r m ne. h.beats r (by_number r m) ne }

  -- there is one best price
  one_best : (q r : ℕ) → BestPrice p g orders n q → BestPrice p g orders n r → q ≡ r
  one_best q r h k = (price_is_right (buys_of orders n) (limits_of orders n) (qtys_of orders n) (floor_of p g) g.reference).one_best q r (best_by_list q h) (best_by_list r k)

  -- the lots of what a price executes are right
  pub right_lots : (q : ℕ) → RightAllocations p g orders n q (v q) (allocations orders n q (v q))
  right_lots q = record {
    sides = side_adds_up orders n q (v q) (executed_within orders n q);
    within = allocation_within orders n q (v q) (executed_within orders n q);
    others = allocation_others orders n q (v q) (executed_within orders n q);
    pro_rata = refl;
  }

  -- a right search makes a right clear
  right_found : (f : Found) → math.RightPrice (buys_of orders n) (limits_of orders n) (qtys_of orders n) (floor_of p g) g.reference f → RightClear p g orders n (allotted orders n f)
  unfolding allotted
  right_found f (math.turned_away z e) = absurd (omega (arith, accepted orders n))
  right_found f (math.no_crossing z h e) = rw e (no_crossing (λ q k. h q (by_list q k)) refl)
  right_found f (math.cross_at z q h e) =
      let best = best_by_number q h in
      rw e
      (⊎_elim
      (λ (t : ltb (v q) (2 ^ 64) ≡ true).
      rw t (has_price (record { refusal = refl; failed = refl; best = best; volume = refl; fits = ltb-true (v q) (2 ^ 64) t; lots = right_lots q })))
      (λ (t : ltb (v q) (2 ^ 64) ≡ false). rw t (too_large q best (ltb-false (v q) (2 ^ 64) t) refl))
      (tested (ltb (v q) (2 ^ 64))))

  -- the search of the live orders is right
  right : Clearable p g orders n → RightClear p g orders n (compute_clear p g orders n)
  unfolding compute_clear
  right c = rw (le-ltb (length (live_orders orders n)) p.min_reveals c.enough, c.marked) (right_found (searched orders n (floor_of p g) g.reference) (right_search orders n (floor_of p g) g.reference))

  -- an outcome with a price follows from the price
  abbrev pub at_price : ℕ → Outcome
  at_price q = record { refusal = 0; failed = 0; price = q; volume = v q; lots = allocations orders n q (v q) }

  priced_is : (o : Outcome) → Priced p g orders n o → o ≡ at_price o.price
  priced_is o h = λ i. record {
    refusal = h.refusal i;
    failed = h.failed i;
    price = o.price;
    volume = h.volume i;
    lots = (h.lots.pro_rata ∙ ap (allocations orders n o.price) h.volume) i;
  }

  -- the volume of the best price fits or does not
  not_both : (q : ℕ) (o : Outcome) → BestPrice p g orders n q → 2 ^ 64 ≤ v q → Priced p g orders n o → ⊥
  not_both q o h l k = omega (arith, k.fits, k.volume, ap v (one_best q o.price h k.best))

  one_outcome : (a b : Outcome) → RightClear p g orders n a → RightClear p g orders n b → a ≡ b
  one_outcome a b (no_crossing h e) (no_crossing k f) = e ∙ sym f
  one_outcome a b (no_crossing h e) (too_large q k l f) = absurd (h q k.executes)
  one_outcome a b (no_crossing h e) (has_price k) = absurd (h b.price k.best.executes)
  one_outcome a b (too_large q h l e) (no_crossing k f) = absurd (k q h.executes)
  one_outcome a b (too_large q h l e) (too_large r k m f) = e ∙ sym f
  one_outcome a b (too_large q h l e) (has_price k) = absurd (not_both q b h l k)
  one_outcome a b (has_price h) (no_crossing k f) = absurd (k a.price h.best.executes)
  one_outcome a b (has_price h) (too_large r k m f) = absurd (not_both r a k m h)
  one_outcome a b (has_price h) (has_price k) = priced_is a h ∙ ap at_price (one_best a.price b.price h.best k.best) ∙ sym (priced_is b k)

  exactly : (o : Outcome) → RightClear p g orders n o → (o.failed ≡ no_cross) ↔ ((q : ℕ) → E q → ⊥)
  exactly o (no_crossing h e) = (λ _. h, λ _. ap (λ (x : Outcome). x.failed) e)
  exactly o (too_large q h l e) = (λ f. absurd (omega (arith, f, ap (λ (x : Outcome). x.failed) e)), λ none. absurd (none q h.executes))
  exactly o (has_price h) = (λ f. absurd (omega (arith, f, h.failed)), λ none. absurd (none o.price h.best.executes))

  too_few : length (live_orders orders n) < p.min_reveals → compute_clear p g orders n ≡ failed_by too_few_reveals
  unfolding compute_clear
  too_few h = rw (lt-ltb (length (live_orders orders n)) p.min_reveals h)

  unmarked : p.min_reveals ≤ length (live_orders orders n) → (not p.forced && not g.mark) ≡ true → compute_clear p g orders n ≡ failed_by mark_unavailable
  unfolding compute_clear
  unmarked h t = rw (le-ltb (length (live_orders orders n)) p.min_reveals h, t)

-- Demand 2
pub clear_is_right : (p : Params) (g : Given) (orders : List Order) (n : ℕ) → ClearIsRight p g orders n
clear_is_right p g orders n = record {
  too_few = too_few p g orders n;
  unmarked = unmarked p g orders n;
  right = right p g orders n;
  one_best = one_best p g orders n;
  one_outcome = λ c o h. one_outcome p g orders n o (compute_clear p g orders n) h (right p g orders n c);
  no_cross_exactly = λ c. exactly p g orders n (compute_clear p g orders n) (right p g orders n c);
}
