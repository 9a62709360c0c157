-- Demand 2 over the call `clear`, from `clear_is_right` of book. Assumes nothing.
use mathlib.Core.Path.{◌≡◌, refl, sym, ◌∙◌, ap, subst}
use mathlib.Core.Logic.{◌≢◌, ◌↔◌, ⊎_elim}
use mathlib.Core.Bool.{true, false, cond, not, ◌&&◌, and-false}
use Prim.Native.Nat.{ℕ, ◌^◌, ◌≤◌, ◌<◌, min}
use native.Mathlib.Omega.{arith}
use borrow.Author.Tests.{ne_eqb, not-true}
use lib.Dec.{eqb, ltb}
use lib.IntN.{ℤ}
use lib.ListN.{length, get_or-eq_default}
use Rattle.laws.specs.Sums.{only}
use Rattle.laws.proofs.Tests.{tested, both, lt_or_le}
use Rattle.laws.proofs.Sums.{sum_same}
use Rattle.laws.proofs.Checking.{then_zero}
use Rattle.credit_math.specs.Limits.{max_orders}
use Rattle.credit_math.specs.Error.{no_cross}
use Rattle.book.specs.Book.{no_order, is_live, is_buy}
use Rattle.book.specs.Clear.{live_orders, failed_by, refused_with, too_few_reveals, mark_unavailable, math_overflow, Outcome}
use Rattle.book.specs.Claims as book
use Rattle.book.specs.Claims.{takes_part, has_price, ClearIsRight}
use Rattle.book.specs.declared.Order.{Order}
use Rattle.book.proofs.Theorems.{at_price, right_lots, clear_is_right}
use Rattle.auction_engine.specs.declared.Session.{Session}
use Rattle.auction_engine.specs.Session.{order_at}
use Rattle.auction_engine.specs.Call.{limits_refusal}
use Rattle.auction_engine.specs.declared.Call.TheVariants.{Clear}
use Rattle.auction_engine.specs.Clearing.{outcome, cleared_by, clear_lines}
use Rattle.auction_engine.specs.Engine.{Answered, effect, events, refused_by, answer}
use Rattle.auction_engine.proofs.Answers.{refused_answer}
use Rattle.auction_engine.proofs.Clears.{stops_early, outcome_decides}
use Rattle.course.specs.Demand2.{checks, Clearable, Executes, BestPrice, executed_at, lots_at, fails, clears, Lotted, RightClear, too_few, unmarked, no_crossing, too_large, cleared, Demand2}
use Rattle.course.proofs.Checked.{few_orders}
use Rattle.course.proofs.Lotted.{lots_at_lem, lots_past}

module _ (s : Session) where
  -- what is proved of the book of the session
  abbrev C : ClearIsRight s.params s.given s.orders s.order_count
  C = clear_is_right s.params s.given s.orders s.order_count

  abbrev priced : ℕ → Outcome
  priced = at_price s.params s.given s.orders s.order_count

  -- past the end of the array no order takes part
  none_past : (price i : ℕ) → length s.orders ≤ i → takes_part s.params s.given s.orders s.order_count price i ≡ false
  unfolding is_live
  none_past price i h =
      let dead : is_live (order_at s i) ≡ false = ap is_live (get_or-eq_default s.orders no_order {n = i} h) in
      rw (dead, and-false (ltb i s.order_count))

  -- the lots of the orders of a session cleared at a price
  lotted : limits_refusal s ≡ 0 → (price : ℕ) → Lotted s price (clears s price).session
  lotted limits price =
      let R = right_lots s.params s.given s.orders s.order_count price in
      let n = s.order_count in
      let t = (clears s price).session in
      let lot : (i : ℕ) → i < n → order_at t i ≡ _ = λ i l. lots_at_lem s.orders (lots_at s price) n i l (λ h. R.others i (none_past price i h)) in
      let all : min n max_orders ≡ n = omega (arith, few_orders s limits) in
      record {
        lot = lot;
        past = λ i h. lots_past s.orders (lots_at s price) n i h;
        sides = λ buys. sum_same _ _ n (λ i l. ap (λ (o : Order). only (cond buys (is_buy o) (not (is_buy o))) o.alloc) (lot i l)) ∙ (rw all at (R.sides buys));
        within = λ i l. rw (lot i l) (R.within i);
        others = λ i l h. ap (λ (o : Order). o.alloc) (lot i l) ∙ R.others i h;
      }

module _ (s : Session) (now : ℤ) where
  -- the answer by the outcome, where the checks pass
  abbrev answered_by : Outcome → Answered
  answered_by found =
      cond (eqb found.refusal 0) (record { refusal = 0; session = cleared_by s found; events = clear_lines s found }) (refused_by s found.refusal)

  fails_is : (reason : ℕ) → reason ≢ 0 → answered_by (failed_by reason) ≡ fails s reason
  unfolding cleared_by clear_lines
  fails_is reason ne = rw (ne_eqb reason 0 ne)

  clears_is : (price : ℕ) → answered_by (priced s price) ≡ clears s price
  unfolding cleared_by clear_lines
  clears_is price = refl

  module _ (z : checks s now ≡ 0) where
    answered : answer s (Clear now) ≡ answered_by (outcome s)
    unfolding answer effect events
    answered = rw (← outcome_decides s now 0 (sym z) refl (outcome s) refl)

    found : (o : Outcome) → o ≡ outcome s → answer s (Clear now) ≡ answered_by o
    found o e = answered ∙ ap answered_by (sym e)

    few_is : length (live_orders s.orders s.order_count) < s.params.min_reveals → answer s (Clear now) ≡ fails s too_few_reveals
    few_is h = found (failed_by too_few_reveals) (sym ((C s).too_few h)) ∙ fails_is too_few_reveals (λ e. omega arith)

    unmarked_is : s.params.min_reveals ≤ length (live_orders s.orders s.order_count) → (not s.params.forced && not s.given.mark) ≡ true
        → answer s (Clear now) ≡ fails s mark_unavailable
    unmarked_is h t = found (failed_by mark_unavailable) (sym ((C s).unmarked h t)) ∙ fails_is mark_unavailable (λ e. omega arith)

    module _ (c : Clearable s) where
      no_cross_is : ((q : ℕ) → Executes s q → ⊥) → answer s (Clear now) ≡ fails s no_cross
      no_cross_is h = found (failed_by no_cross) ((C s).one_outcome c (failed_by no_cross) (book.no_crossing h refl)) ∙ fails_is no_cross (λ e. omega arith)

      module _ (price : ℕ) (best : BestPrice s price) where
        large_is : 2 ^ 64 ≤ executed_at s price → answer s (Clear now) ≡ refused_by s math_overflow
        large_is h = found (refused_with math_overflow) ((C s).one_outcome c (refused_with math_overflow) (book.too_large price best h refl))

        cleared_is : executed_at s price < 2 ^ 64 → answer s (Clear now) ≡ clears s price
        cleared_is h =
            found (priced s price)
            ((C s).one_outcome c (priced s price)
            (has_price (record {
              refusal = refl;
              failed = refl;
              best = best;
              volume = refl;
              fits = h;
              lots = right_lots s.params s.given s.orders s.order_count price;
            })))
            ∙ clears_is price

        right_at : executed_at s price < 2 ^ 64 → RightClear s (answer s (Clear now))
        right_at h =
            let e = cleared_is h in
            let limits = (then_zero (limits_refusal s) _ z).0 in
            cleared c price best h e (subst (λ (a : Answered). Lotted s price a.session) (sym e) (lotted s limits price))

      by_outcome : (o : Outcome) → book.RightClear s.params s.given s.orders s.order_count o → RightClear s (answer s (Clear now))
      by_outcome o (book.no_crossing h e) = no_crossing c h (no_cross_is h)
      by_outcome o (book.too_large q best h e) = too_large c q best h (large_is q best h)
      by_outcome o (has_price k) = right_at o.price k.best (subst (λ (x : ℕ). x < 2 ^ 64) k.volume k.fits)

      -- an answer with a price, or refused, does not fail
      exactly : (answer s (Clear now) ≡ fails s no_cross) ↔ ((q : ℕ) → Executes s q → ⊥)
      exactly = (λ e. go (outcome s) ((C s).right c) e, no_cross_is)
        where
          go : (o : Outcome) → book.RightClear s.params s.given s.orders s.order_count o → answer s (Clear now) ≡ fails s no_cross
              → (q : ℕ) → Executes s q → ⊥
          go o (book.no_crossing h f) e = h
          go o (book.too_large q best h f) e = absurd (omega (arith, ap (λ (a : Answered). a.refusal) (sym (large_is q best h) ∙ e)))
          go o (has_price k) e =
              absurd (omega (arith, ap (λ (a : Answered). a.session.phase) (sym (cleared_is o.price k.best (subst (λ (x : ℕ). x < 2 ^ 64) k.volume k.fits)) ∙ e)))

    enough : s.params.min_reveals ≤ length (live_orders s.orders s.order_count) → RightClear s (answer s (Clear now))
    enough h =
        ⊎_elim
        (λ (t : (not s.params.forced && not s.given.mark) ≡ true).
        let u = both (not s.params.forced) (not s.given.mark) t in unmarked h (not-true _ u.0) (not-true _ u.1) (unmarked_is h t))
        (λ (t : (not s.params.forced && not s.given.mark) ≡ false).
        let c : Clearable s = record { enough = h; marked = t } in by_outcome c (outcome s) ((C s).right c))
        (tested (not s.params.forced && not s.given.mark))

    right : RightClear s (answer s (Clear now))
    right = ⊎_elim (λ h. too_few h (few_is h)) enough (lt_or_le (length (live_orders s.orders s.order_count)) s.params.min_reveals)

    one_answer : (a : Answered) → RightClear s a → a ≡ answer s (Clear now)
    one_answer a (too_few h e) = e ∙ sym (few_is h)
    one_answer a (unmarked h f m e) = e ∙ sym (unmarked_is h (rw (f, m)))
    one_answer a (no_crossing c h e) = e ∙ sym (no_cross_is c h)
    one_answer a (too_large c q best h e) = e ∙ sym (large_is c q best h)
    one_answer a (cleared c q best h e l) = e ∙ sym (cleared_is c q best h)

pub demand2 : (s : Session) (now : ℤ) → Demand2 s now
demand2 s now = record {
  turned_away = λ z. sym (refused_answer s (Clear now) (checks s now) (stops_early s now (checks s now) refl z) (refused_by s (checks s now)) refl z);
  right = right s now;
  one_answer = one_answer s now;
  no_cross_exactly = exactly s now;
}
