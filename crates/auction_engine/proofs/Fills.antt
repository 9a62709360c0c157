-- Laws of the definitions of allocate: what a fill does, what fills keep, and how many events they make. Assumes nothing.
use mathlib.Core.Path.{◌≡◌, refl, sym, ◌∙◌, ap}
use mathlib.Core.Bool.{Bool, true, false, cond, and-false}
use mathlib.Core.List.{[], ◌∷◌}
use Prim.Native.Nat.{ℕ, zero, suc, ◌+◌, ◌<◌, ◌≤◌}
use native.Mathlib.Omega.{arith}
use borrow.Author.Tests.{lt-leb, le-leb, leb-true, leb-false}
use lib.Dec.{leb}
use lib.ListN.{length}
use Rattle.laws.proofs.Tests.{clash}
use Rattle.book.specs.Limits.{max_fills}
use Rattle.events.specs.declared.Event.{Event}
use Rattle.events.specs.declared.Event.TheVariants.{FillAllocated}
use Rattle.auction_engine.specs.declared.Session.{Session}
use Rattle.auction_engine.specs.Matching.{buy_at, sell_at, due, due_qty, pair, one, after_fills, overfull, fill_events, phase_after}

-- what a pairing keeps, one fill and any number of fills keep
module _ {A : Type 0} (f : Session → A) (h : (s : Session) (b a q : ℕ) → f (pair s b a q) ≡ f s) where
  one_keeps : (s : Session) → f (one s) ≡ f s
  unfolding one
  one_keeps s = go (due s)
    where
      go : (x : Bool) → f (cond x (pair s (buy_at s) (sell_at s) (due_qty s)) s) ≡ f s
      go true = h s (buy_at s) (sell_at s) (due_qty s)
      go false = refl

  after_fills_keeps : (n : ℕ) (s : Session) → f (after_fills n s) ≡ f s
  unfolding after_fills
  after_fills_keeps zero s = refl
  after_fills_keeps (suc n) s = after_fills_keeps n (one s) ∙ one_keeps s

pub one_orders : (s : Session) → (one s).order_count ≡ s.order_count
unfolding pair
one_orders s = one_keeps (λ t. t.order_count) (λ t b a q. refl) s

pub after_fills_orders : (n : ℕ) (s : Session) → (after_fills n s).order_count ≡ s.order_count
unfolding pair
after_fills_orders n s = after_fills_keeps (λ t. t.order_count) (λ t b a q. refl) n s

pub after_fills_phase_after : (n : ℕ) (s : Session) → phase_after (after_fills n s) ≡ phase_after s
unfolding pair phase_after
after_fills_phase_after n s = after_fills_keeps phase_after (λ t b a q. refl) n s

-- nothing is due: no fill is made
module _ (s : Session) (d : due s ≡ false) where
  idle_one : one s ≡ s
  unfolding one
  idle_one = ap (λ (x : Bool). cond x (pair s (buy_at s) (sell_at s) (due_qty s)) s) d

  pub idle_after_fills : (n : ℕ) → after_fills n s ≡ s
  unfolding after_fills
  idle_after_fills zero = refl
  idle_after_fills (suc n) = ap (after_fills n) idle_one ∙ idle_after_fills n

  pub idle_full : (n : ℕ) → overfull n s ≡ false
  unfolding overfull
  idle_full zero = refl
  idle_full (suc n) = rw d (ap (overfull n) idle_one ∙ idle_full n)

  pub idle_events : (n : ℕ) → fill_events n s ≡ []
  unfolding fill_events
  idle_events zero = refl
  idle_events (suc n) = rw d

-- the event of the fill that is due
abbrev pub due_event : Session → Event
due_event s = FillAllocated s.fill_count (buy_at s) (sell_at s) (due_qty s)

-- a fill is due
module _ (s : Session) (d : due s ≡ true) where
  pub due_one : one s ≡ pair s (buy_at s) (sell_at s) (due_qty s)
  unfolding one
  due_one = ap (λ (x : Bool). cond x (pair s (buy_at s) (sell_at s) (due_qty s)) s) d

  pub due_count : (one s).fill_count ≡ s.fill_count + 1
  unfolding pair
  due_count = ap (λ (t : Session). t.fill_count) due_one

  pub due_events : (n : ℕ) → fill_events (suc n) s ≡ due_event s ∷ fill_events n (one s)
  unfolding fill_events
  due_events n = rw d

  pub due_full : (n : ℕ) → max_fills ≤ s.fill_count → overfull (suc n) s ≡ true
  unfolding overfull
  due_full n h = rw (d, le-leb max_fills s.fill_count h)

pub after_fills_more : (n : ℕ) (s : Session) → after_fills (suc n) s ≡ after_fills n (one s)
unfolding after_fills
after_fills_more n s = refl

-- a place is free: the fills after the next decide
pub free_full : (n : ℕ) (s : Session) → s.fill_count < max_fills → overfull (suc n) s ≡ overfull n (one s)
unfolding overfull
free_full n s h = rw (lt-leb max_fills s.fill_count h, and-false (due s))

-- no event of a call that is not refused lacks a place
pub events_fit : (n : ℕ) (s : Session) → s.fill_count ≤ max_fills → overfull n s ≡ false → length (fill_events n s) + s.fill_count ≤ max_fills
unfolding fill_events
events_fit zero s h e = omega (arith, h)
events_fit (suc n) s h e = go (due s) refl (leb max_fills s.fill_count) refl (λ g f. events_fit n (one s) g f)
  where
    go : (x : Bool) → due s ≡ x → (y : Bool) → leb max_fills s.fill_count ≡ y
        → ((one s).fill_count ≤ max_fills → overfull n (one s) ≡ false → length (fill_events n (one s)) + (one s).fill_count ≤ max_fills)
        → length (cond x (due_event s ∷ fill_events n (one s)) []) + s.fill_count ≤ max_fills
    go false d y f ih = omega (arith, h)
    go true d false f ih =
        let l : s.fill_count < max_fills = leb-false max_fills s.fill_count f in
        let g : (one s).fill_count ≡ s.fill_count + 1 = due_count s d in
        omega (arith, ih (omega arith) (sym (free_full n s l) ∙ e))
    go true d true f ih = absurd (clash (overfull (suc n) s) (due_full s d n (leb-true max_fills s.fill_count f)) e)
