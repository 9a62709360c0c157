-- A session just cleared is asked while it is Allocating, and answers with the price and the lots of its clear. Assumes nothing.
use mathlib.Core.Path.{◌≡◌, ap, ap₂, ◌∙◌}
use mathlib.Core.Bool.{true, not, ◌&&◌, ◌||◌}
use borrow.Author.Tests.{eq-eqb}
use lib.Dec.{eqb}
use lib.ListN.{get_or}
use Rattle.laws.specs.Search.{every}
use Rattle.book.specs.Book.{is_live, is_buy}
use Rattle.book.specs.Clear.{Outcome, compute_clear}
use Rattle.book.specs.declared.Order.{Order}
use Rattle.book.proofs.Same.{clear_same}
use Rattle.auction_engine.specs.declared.Session.{Session}
use Rattle.auction_engine.specs.Clearing.{outcome, all_ready}
use Rattle.course.specs.Demand3.{JustCleared, after}
use Rattle.course.proofs.Open.{cleared, Unmoved, unmoved, found}
use Rattle.inquiries.specs.Why.{gives_lots}
use Rattle.inquiries.specs.Cleared.{ToldAsCleared, JustClearedIsTold}

module _ {s : Session} (j : JustCleared s) (t : Session) (U : Unmoved j t) where
  abbrev u : Session
  u = cleared j

  -- the clear would find the same again
  same : outcome t ≡ outcome u
  unfolding is_live
  same =
      clear_same t.orders u.orders t.order_count (λ i. ap is_live (U.orders i)) (λ i. ap is_buy (U.orders i))
      (λ i. ap (λ (o : Order). o.limit) (U.orders i)) (λ i. ap (λ (o : Order). o.qty) (U.orders i)) t.params t.given
      ∙ (λ k. compute_clear (U.params k) (U.given k) u.orders (U.count k))

  ready : all_ready t ≡ true
  ready = (λ k. every (λ i. ap (λ (o : Order). not o.revealed || o.screened) (U.orders i) k) (U.count k)) ∙ (found j).ready

  lots : gives_lots t ≡ true
  lots = ap (λ (o : Outcome). eqb o.refusal 0 && eqb o.failed 0) same ∙ ap₂ ◌&&◌ (eq-eqb _ _ (found j).refusal) (eq-eqb _ _ (found j).failed)

  told_as_cleared : ToldAsCleared j t
  told_as_cleared =
      record {
        asked = record { limits = U.limits; fields = U.fields; phase = U.phase; ready = ready; lots = lots };
        price_is = ap (λ (o : Outcome). o.price) same ∙ (found j).price;
        lot_is = λ i. ap (λ (o : Outcome). get_or o.lots i 0) same;
      }

pub just_cleared_is_told : JustClearedIsTold
just_cleared_is_told s j = record { at = (found j).at; still = λ l e. told_as_cleared j (after s l).session (unmoved j l e) }
