-- Sessions that pass the checks 9 and 4 of any call: what they say, and what changes they stand. Assumes nothing.
use mathlib.Core.Path.{◌≡◌, ap, ◌∙◌}
use mathlib.Core.Bool.{true}
use Prim.Native.Nat.{ℕ, ◌≤◌, ◌<◌}
use native.Mathlib.Omega.{arith}
use borrow.Author.Tests.{leb-true, le-leb}
use lib.Dec.{leb}
use Rattle.laws.proofs.Search.{every_all, every_at}
use Rattle.laws.proofs.Checking.{check_zero, unless_zero, check_pass, unless_pass}
use Rattle.clock.specs.Clock.{sum_fits}
use Rattle.credit_math.specs.Limits.{max_orders}
use Rattle.book.specs.Limits.{max_fills}
use Rattle.book.specs.Book.{kind_fits}
use Rattle.book.specs.declared.Row.{Row}
use Rattle.book.specs.declared.Params.{Params}
use Rattle.book.specs.declared.Given.{Given}
use Rattle.disclosure.specs.Disclosure.{max_band}
use Rattle.auction_engine.specs.declared.Session.{Session}
use Rattle.auction_engine.specs.Session.{order_at}
use Rattle.auction_engine.specs.Call.{limits_refusal, fields_refusal}
use Rattle.course.proofs.Orders.{OrderKept}

pub few_orders : (s : Session) → limits_refusal s ≡ 0 → s.order_count ≤ max_orders
unfolding limits_refusal
few_orders s e = leb-true _ _ (check_zero _ _ _ e).0

pub few_fills : (s : Session) → limits_refusal s ≡ 0 → s.fill_count ≤ max_fills
unfolding limits_refusal
few_fills s e = leb-true _ _ (check_zero _ _ _ (check_zero _ _ _ e).1).0

pub known_sides : (s : Session) → fields_refusal s ≡ 0 → (i : ℕ) → i < s.order_count → (order_at s i).side ≤ 1
unfolding fields_refusal
known_sides s e i l =
    leb-true _ _ (every_at (λ j. leb (order_at s j).side 1) s.order_count i (check_zero _ _ _ (check_zero _ _ _ (check_zero _ _ _ e).1).1).0 l)

known_kinds : (s : Session) → fields_refusal s ≡ 0 → (i : ℕ) → i < s.order_count → kind_fits (order_at s i) ≡ true
unfolding fields_refusal
known_kinds s e i l =
    every_at (λ j. kind_fits (order_at s j)) s.order_count i (unless_zero _ _ (check_zero _ _ _ (check_zero _ _ _ (check_zero _ _ _ e).1).1).1) l

-- t has the orders' number, the parameters and the figures of s
module _ (s t : Session) (n : t.order_count ≡ s.order_count) (g : t.given ≡ s.given) where
  pub limits_kept : t.params ≡ s.params → t.fill_count ≤ max_fills → limits_refusal s ≡ 0 → limits_refusal t ≡ 0
  unfolding limits_refusal
  limits_kept p f e =
      let a = check_zero _ _ _ e in
      let b = check_zero _ _ _ a.1 in
      let c = check_zero _ _ _ b.1 in
      let d = check_zero _ _ _ c.1 in
      check_pass _ _ _ (ap (λ m. leb m max_orders) n ∙ a.0)
      (check_pass _ _ _ (le-leb _ _ f)
      (check_pass _ _ _ (ap (λ (x : Given). leb x.band_bps max_band) g ∙ c.0)
      (check_pass _ _ _ (rw (p, g) d.0)
      (unless_pass _ _ (ap (λ (x : Params). sum_fits x.reveal_end x.rofr_window) p ∙ unless_zero _ _ d.1)))))

  pub fields_kept : t.phase ≤ 7 → ((i : ℕ) → i < s.order_count → OrderKept (order_at s i) (order_at t i)) → fields_refusal s ≡ 0 → fields_refusal t ≡ 0
  unfolding fields_refusal
  fields_kept p orders e =
      let b = check_zero _ _ _ (check_zero _ _ _ e).1 in
      check_pass _ _ _ (le-leb _ _ p)
      (check_pass _ _ _ (ap (λ (x : Given). leb x.policy 3) g ∙ b.0)
      (check_pass _ _ _ (every_all (λ i. leb (order_at t i).side 1) t.order_count
      (λ i l. le-leb (order_at t i).side 1 (omega (arith, ap (λ (r : Row). r.side) (orders i (omega arith)).row, known_sides s e i (omega arith)))))
      (unless_pass _ _ (every_all (λ i. kind_fits (order_at t i)) t.order_count
      (λ i l. (orders i (omega arith)).fits (known_kinds s e i (omega arith)))))))
