-- The answer of an allocate, by its stages: the checks, the fills, the last answer. Assumes nothing.
use mathlib.Core.Path.{◌≡◌, refl, sym, ◌∙◌, ap}
use mathlib.Core.Bool.{Bool, true, false, not}
use mathlib.Core.List.{List, [], ◌∷◌, ◌++◌, append-nil}
use Prim.Native.Nat.{ℕ, ◌<◌, ◌≤◌}
use native.Mathlib.Omega.{arith}
use lib.IntN.{ℤ}
use Rattle.std.proofs.Common.{if◌then◌else◌, ◌==◌, nat_lt, length, take}
use Rattle.std.proofs.lemmas.Int.{to_z-of_z}
use Rattle.std.specs.List.{list_all}
use Rattle.refusals.specs.declared.Refusal.{Refusal}
use Rattle.refusals.specs.Number.{number}
use Rattle.laws.proofs.Chains.{every_of}
use Rattle.book.specs.Book.{no_order}
use Rattle.laws.specs.Checks.{unless, ◌then◌}
use Rattle.laws.proofs.Checking.{then_zero, then_stop, then_pass, then_assoc}
use Rattle.credit_math.specs.Limits.{max_orders}
use Rattle.events.specs.Events.{max_events}
use Rattle.events.specs.declared.Event.{Event}
use Rattle.events.specs.declared.Event.TheVariants.{PhaseChanged}
use Rattle.auction_engine.specs.declared.Session.{Session}
use Rattle.auction_engine.specs.Session.{at_phase}
use Rattle.auction_engine.specs.NextFill.{filled_by}
use Rattle.auction_engine.specs.Call.{admits, limits_refusal, fields_refusal, arguments_refusal}
use Rattle.auction_engine.specs.declared.Call.TheVariants.{Allocate}
use Rattle.auction_engine.specs.Matching.{allocate_checks, after_fills, overfull, fill_events, done, phase_after, allocate_refusal, allocate_effect, allocate_events}
use Rattle.auction_engine.specs.Engine.{Answered, own_refusal, refusal, effect, events, refused_by, answer}
use Rattle.auction_engine.proofs.Checks.{Within, checked_within, in_stages}
use Rattle.auction_engine.proofs.Steps.{numbered}
use Rattle.auction_engine.proofs.Fills.{after_fills_phase_after, after_fills_orders, events_fit}
use Rattle.auction_engine.proofs.Answers.{number_refused}

-- the chain over the orders is the test of the definitions
pub paired_done : (s : Session) → s.order_count ≤ length s.orders → list_all (λ o. o.alloc_left == 0) (take s.order_count s.orders) ≡ done s
unfolding done
paired_done s h = every_of (λ o. o.alloc_left == 0) no_order s.orders s.order_count h

-- what a session keeps that these checks let through
pub checks_within : (s : Session) → allocate_checks s ≡ 0 → Within s
checks_within s h = checked_within s (then_zero (limits_refusal s then fields_refusal s) (unless (admits s.phase 2) 10) h).0

module _ (s : Session) (now : ℤ) (n : ℕ) where
  allocate_stages : (allocate_checks s then unless (not (overfull n s)) 18) ≡ refusal s (Allocate now n)
  unfolding arguments_refusal own_refusal allocate_refusal
  allocate_stages =
      then_assoc (limits_refusal s then fields_refusal s) (unless (admits s.phase 2) 10) (unless (not (overfull n s)) 18)
      ∙ ap (λ (x : ℕ). (limits_refusal s then fields_refusal s) then x) (then_pass 0 (allocate_refusal s n) refl)
      ∙ in_stages s (Allocate now n)

  -- refused by those checks; past them, the fills decide
  pub allocate_number : (m : ℕ) → m ≡ allocate_checks s → (m ≡ 0 → ⊥) → m ≡ refusal s (Allocate now n)
  allocate_number m e z = then_stop m (unless (not (overfull n s)) 18) z ∙ ap (λ (x : ℕ). x then unless (not (overfull n s)) 18) e ∙ allocate_stages

  pub allocate_refused : (k : Refusal) → number k ≡ allocate_checks s → refused_by s (number k) ≡ answer s (Allocate now n)
  allocate_refused k e = number_refused s (Allocate now n) k (allocate_number (number k) e (λ z. omega (arith, numbered k, z)))

-- past those checks: the fills decide, and leave the orders where they are and room for one event more
module _ (s : Session) (n : ℕ) (z : 0 ≡ allocate_checks s) where
  pub fills_decide : (now : ℤ) → refusal s (Allocate now n) ≡ (if overfull n s then 18 else 0)
  unfolding unless
  fills_decide now = sym (then_pass (allocate_checks s) (unless (not (overfull n s)) 18) (sym z) ∙ allocate_stages s now n) ∙ go (overfull n s)
    where
      go : (t : Bool) → unless (not t) 18 ≡ (if t then 18 else 0)
      go true = refl
      go false = refl

  pub filled_orders : (after_fills n s).order_count ≤ max_orders
  filled_orders = rw (after_fills_orders n s) (checks_within s (sym z)).orders

  pub fills_room : overfull n s ≡ false → length (fill_events n s) < max_events
  fills_room f = omega (arith, events_fit n s (checks_within s (sym z)).fills f)

-- what the answer of an allocate wants
pub ruleset allocating = (allocate_refused, fills_decide, filled_orders, fills_room, after_fills_phase_after, append-nil, numbered, to_z-of_z)

-- the answer where the fills t, with events es, leave no lot unpaired
pub answer_done : (s : Session) (now : ℤ) (n : ℕ) → 0 ≡ allocate_checks s → (t : Session) (es : List Event)
    → record { refusal = 0; session = t; events = es } ≡ filled_by s n → true ≡ done t → (to : ℕ) → to ≡ phase_after s → (all : List Event)
    → all ≡ (if nat_lt (length es) max_events then es ++ PhaseChanged s.phase to ∷ [] else es)
    → ◌≡◌ {A = Answered} (record { refusal = 0; session = at_phase t to; events = all }) (answer s (Allocate now n))
unfolding answer effect events allocate_effect allocate_events
answer_done s now n z t es e d to p all f = grind (arith, allocating)
