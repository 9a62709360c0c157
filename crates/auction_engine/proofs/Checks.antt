-- What a call passed that was not refused, and the refusal of a call by the stages in which the code finds it.
-- Assumes nothing.
use mathlib.Core.Path.{◌≡◌, sym, ◌∙◌}
use mathlib.Core.Bool.{true, not, ◌&&◌}
use Prim.Native.Nat.{ℕ, ◌≤◌}
use lib.Dec.{leb, ltb}
use borrow.Author.Tests.{leb-true}
use Rattle.laws.specs.Search.{every}
use Rattle.laws.specs.Checks.{◌then◌}
use Rattle.laws.proofs.Checking.{then_zero, then_pass, then_assoc, unless_zero, check_zero}
use Rattle.clock.specs.Clock.{sum_fits}
use Rattle.credit_math.specs.Limits.{max_orders}
use Rattle.book.specs.Limits.{max_fills}
use Rattle.book.specs.Book.{kind_fits}
use Rattle.disclosure.specs.Disclosure.{max_band}
use Rattle.auction_engine.specs.declared.Session.{Session}
use Rattle.auction_engine.specs.Session.{order_at}
use Rattle.auction_engine.specs.Call.{limits_refusal, fields_refusal, arguments_refusal}
use Rattle.auction_engine.specs.declared.Call.{Call}
use Rattle.auction_engine.specs.Engine.{refusal, own_refusal}

-- what holds of a session that no limit and no field refuses
pub record Within (s : Session) : Type 0 where
  pub orders : s.order_count ≤ max_orders
  pub fills : s.fill_count ≤ max_fills
  pub band : s.given.band_bps ≤ max_band
  pub reserve : not (s.params.forced && ltb 0 s.given.reserve) ≡ true
  pub times : sum_fits s.params.reveal_end s.params.rofr_window ≡ true
  pub phase : s.phase ≤ 7
  pub policy : s.given.policy ≤ 3
  pub sides : every (λ i. leb (order_at s i).side 1) s.order_count ≡ true
  pub kinds : every (λ i. kind_fits (order_at s i)) s.order_count ≡ true

pub checked_within : (s : Session) → (limits_refusal s then fields_refusal s) ≡ 0 → Within s
unfolding limits_refusal fields_refusal
checked_within s h =
    let z = then_zero _ _ h in
    let orders = check_zero _ 8 _ z.0 in
    let fills = check_zero _ 8 _ orders.1 in
    let band = check_zero _ 8 _ fills.1 in
    let reserve = check_zero _ 8 _ band.1 in
    let phase = check_zero _ 3 _ z.1 in
    let policy = check_zero _ 3 _ phase.1 in
    let sides = check_zero _ 3 _ policy.1 in
    record {
      orders = leb-true _ _ orders.0;
      fills = leb-true _ _ fills.0;
      band = leb-true _ _ band.0;
      reserve = reserve.0;
      times = unless_zero _ 8 reserve.1;
      phase = leb-true _ _ phase.0;
      policy = leb-true _ _ policy.0;
      sides = sides.0;
      kinds = unless_zero _ 3 sides.1;
    }

-- what an accepted call passed
pub record Accepted (s : Session) (c : Call) : Type 0 where
  pub within : Within s
  pub arguments : arguments_refusal c ≡ 0
  pub own : own_refusal s c ≡ 0

module _ (s : Session) (c : Call) where
  -- the stages of a call: what any call checks, then its arguments and its own row
  pub in_stages : ((limits_refusal s then fields_refusal s) then arguments_refusal c then own_refusal s c) ≡ refusal s c
  unfolding refusal
  in_stages = then_assoc (limits_refusal s) (fields_refusal s) (arguments_refusal c then own_refusal s c)

  -- past it, the own row decides where nothing is asked of the arguments
  pub own_decides : (m : ℕ) → m ≡ (limits_refusal s then fields_refusal s) → m ≡ 0 → arguments_refusal c ≡ 0 → (n : ℕ) → n ≡ own_refusal s c → n ≡ refusal s c
  own_decides m e z a n f =
      f ∙ then_pass (arguments_refusal c) (own_refusal s c) a
      ∙ then_pass (limits_refusal s then fields_refusal s) (arguments_refusal c then own_refusal s c) (sym e ∙ z) ∙ in_stages

  pub accepted : refusal s c ≡ 0 → Accepted s c
  accepted h =
      let a = then_zero _ _ (in_stages ∙ h) in
      let b = then_zero _ _ a.1 in
      record { within = checked_within s a.0; arguments = b.0; own = b.1 }
