-- What a list of calls on a session just cleared ends in: its sellers' fills, its print, and that two alike end alike. Assumes nothing.
use mathlib.Core.Path.{◌≡◌, sym, ap, ap₂, ◌∙◌, subst}
use mathlib.Core.Logic.{◌≢◌}
use mathlib.Core.Bool.{true, false≢true}
use mathlib.Core.List.{List, [], ◌∷◌}
use Prim.Native.Nat.{ℕ, ◌+◌, ◌<◌}
use native.Mathlib.Omega.{arith}
use lib.Dec.{eqb}
use lib.ListN.{length, get_or}
use Rattle.laws.specs.Sums.{sum_over, only}
use Rattle.laws.proofs.Sums.{sum_zero, only_none}
use Rattle.book.specs.Book.{no_order, no_fill, buy_side, sell_side}
use Rattle.book.specs.declared.Fill.{Fill}
use Rattle.auction_engine.specs.declared.Session.{Session}
use Rattle.auction_engine.specs.Session.{order_at, left, allocating}
use Rattle.auction_engine.specs.declared.Call.{Call}
use Rattle.auction_engine.specs.Matching.{after_fills}
use Rattle.auction_engine.specs.Settlement.{print_of}
use Rattle.course.specs.Course.{Run}
use Rattle.course.specs.Demand3.{after, Finishes, Alike, sold}
use Rattle.course.proofs.Matching.{Allotted, left_on}
use Rattle.course.proofs.Fills.{done_left, same_end}
use Rattle.course.proofs.Purchases.{bought, bought_orders, bought_count}
use Rattle.course.proofs.Marks.{Marked, marks_tell, moved_and_lost, marked_sold}
use Rattle.course.proofs.Invariant.{Base, Settlement, Printed, Stage, in_matching, in_rofr, in_settling, in_print, in_failure, reached}

-- once the matching is complete nothing is left
module _ (s₀ b : Session) (r : Run) (B : Base s₀ b r) where
  none_left : (i : ℕ) → i < b.order_count → left b i ≡ 0
  none_left i l =
      ap (λ t. left t i) B.is ∙ ap (λ l. (get_or l i no_order).alloc_left) (bought_orders r.purchases (after_fills B.k s₀))
      ∙ done_left (after_fills B.k s₀) B.full i (omega (arith, ap (λ (t : Session). t.order_count) B.is, bought_count r.purchases (after_fills B.k s₀)))

  base_sold : (i : ℕ) → i < s₀.order_count → (order_at s₀ i).side ≡ sell_side → sold b (order_at s₀ i).owner ≡ (order_at s₀ i).alloc
  base_sold i l h = omega (arith, B.kept.sells i l h, none_left i (omega (arith, B.kept.orders)))

  base_volume : sum_over (λ (f : Fill). f.qty) no_fill b.fills b.fill_count ≡ s₀.cleared.cleared_volume
  unfolding sum_over
  base_volume =
      omega (
        arith,
        B.kept.volume,
        sum_zero (λ i. left_on buy_side (order_at b i)) b.order_count (λ i l. ap (only (eqb (order_at b i).side buy_side)) (none_left i l) ∙ only_none (eqb (order_at b i).side buy_side)),
      )

module _ {s₀ : Session} {r : Run} where
  settlement_sold : Settlement s₀ r → (i : ℕ) → i < s₀.order_count → (order_at s₀ i).side ≡ sell_side → sold r.session (order_at s₀ i).owner ≡ (order_at s₀ i).alloc
  settlement_sold S i l h =
      marked_sold S.b r.settled r.skipped r.skipped_qty r.session S.marks (order_at s₀ i).owner ∙ base_sold s₀ S.b r S.base i l h

  sellers_at : Stage s₀ r → r.complete ≡ true → (i : ℕ) → i < s₀.order_count → (order_at s₀ i).side ≡ sell_side
      → sold r.session (order_at s₀ i).owner ≡ (order_at s₀ i).alloc
  sellers_at (in_matching m) c i l h = absurd (false≢true (sym (ap (λ (x : Run). x.complete) m.is) ∙ c))
  sellers_at (in_rofr m) c i l h = ap (λ t. sold t (order_at s₀ i).owner) m.is ∙ base_sold s₀ m.b r m.base i l h
  sellers_at (in_settling m) c i l h = settlement_sold m.settlement i l h
  sellers_at (in_print m) c i l h = settlement_sold m.settlement i l h
  sellers_at (in_failure m) c i l h = absurd (false≢true (sym m.complete ∙ c))

  finished : Stage s₀ r → Finishes r → Printed s₀ r
  finished (in_matching m) f = absurd (omega (arith, ap (λ (x : Run). length x.prints) m.is))
  finished (in_rofr m) f = absurd (omega (arith, ap length m.prints))
  finished (in_settling m) f = absurd (omega (arith, ap length m.prints))
  finished (in_print m) f = m
  finished (in_failure m) f = absurd (omega (arith, ap length m.prints))

  -- a complete matching is past Allocating
  past_matching : Stage s₀ r → r.complete ≡ true → r.session.phase ≢ allocating
  past_matching (in_matching m) c e = absurd (false≢true (sym (ap (λ (x : Run). x.complete) m.is) ∙ c))
  past_matching (in_rofr m) c e = omega (arith, m.at)
  past_matching (in_settling m) c e = omega (arith, m.at)
  past_matching (in_print m) c e = omega (arith, m.at)
  past_matching (in_failure m) c e = omega (arith, m.at)

-- two finished runs
agree_at : (s₀ : Session) (r t : Run) → Printed s₀ r → Printed s₀ t → Alike r t → (r.session ≡ t.session) × (r.prints ≡ t.prints)
agree_at s₀ r t P Q L =
    let S = P.settlement in
    let U = Q.settlement in
    let b : S.b ≡ U.b =
    S.base.is ∙ ap₂ bought L.purchases (same_end S.base.k U.base.k s₀ S.base.full U.base.full) ∙ sym U.base.is in
    let e : r.session ≡ t.session =
    marks_tell U.b r.settled r.skipped t.settled t.skipped r.skipped_qty t.skipped_qty r.session t.session
    (subst (λ x. Marked x r.settled r.skipped r.skipped_qty r.session) b S.marks) U.marks L.settled L.skipped (P.at ∙ sym Q.at) in
    (e, P.prints ∙ ap (λ x. print_of x ∷ []) e ∙ sym Q.prints)

module _ (s₀ : Session) (A : Allotted s₀) where
  pub ends_agree : (l k : List Call) → Finishes (after s₀ l) → Finishes (after s₀ k) → Alike (after s₀ l) (after s₀ k)
      → ((after s₀ l).session ≡ (after s₀ k).session) × ((after s₀ l).prints ≡ (after s₀ k).prints)
  ends_agree l k f g L = agree_at s₀ (after s₀ l) (after s₀ k) (finished (reached s₀ A l) f) (finished (reached s₀ A k) g) L

  pub ends_printed : (l : List Call) → Finishes (after s₀ l) → length (after s₀ l).prints ≡ 1
  ends_printed l f = ap length (finished (reached s₀ A l) f).prints

  pub ends_sold : (l : List Call) → (after s₀ l).complete ≡ true → (i : ℕ) → i < s₀.order_count → (order_at s₀ i).side ≡ sell_side
      → sold (after s₀ l).session (order_at s₀ i).owner ≡ (order_at s₀ i).alloc
  ends_sold l c i h e = sellers_at (reached s₀ A l) c i h e

  pub ends_volume : (l : List Call) → Finishes (after s₀ l) → (after s₀ l).printed_qty + (after s₀ l).skipped_qty ≡ s₀.cleared.cleared_volume
  ends_volume l f =
      let r = after s₀ l in
      let P = finished (reached s₀ A l) f in
      let S = P.settlement in
      ap (λ v. v + r.skipped_qty) P.volume ∙ moved_and_lost S.b r.settled r.skipped r.skipped_qty r.session S.marks
      ∙ base_volume s₀ S.b r S.base

  pub ends_past : (l : List Call) → (after s₀ l).complete ≡ true → (after s₀ l).session.phase ≢ allocating
  ends_past l c = past_matching (reached s₀ A l) c
