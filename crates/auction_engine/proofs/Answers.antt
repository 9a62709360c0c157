-- Answers as the code comes to them: refused by a number that is not 0, or accepted. Assumes nothing.
use mathlib.Core.Path.{◌≡◌, refl}
use mathlib.Core.List.{List}
use Prim.Native.Nat.{ℕ}
use native.Mathlib.Omega.{arith}
use borrow.Author.Tests.{eq-eqb, ne_eqb}
use Rattle.refusals.specs.declared.Refusal.{Refusal}
use Rattle.refusals.specs.Number.{number}
use Rattle.events.specs.declared.Event.{Event}
use Rattle.auction_engine.specs.declared.Session.{Session}
use Rattle.auction_engine.specs.declared.Call.{Call}
use Rattle.auction_engine.specs.Engine.{Answered, refusal, effect, events, refused_by, answer}
use Rattle.auction_engine.proofs.Steps.{numbered}

-- m is the number of the refusal, as the code found it
module _ (s : Session) (c : Call) (m : ℕ) (is : m ≡ refusal s c) where
  -- a refused call: the session as given
  pub refused_answer : (r : Answered) → r ≡ refused_by s m → (m ≡ 0 → ⊥) → r ≡ answer s c
  unfolding answer
  refused_answer r e z = rw (e, ← is, ne_eqb m 0 z)

  -- an accepted one: its effect and its events
  pub accepted_answer : (t : Session) (l : List Event) → m ≡ 0 → t ≡ effect s c → l ≡ events s c
      → ◌≡◌ {A = Answered} (record { refusal = 0; session = t; events = l }) (answer s c)
  unfolding answer
  accepted_answer t l z e f = rw (e, f, ← is, eq-eqb m 0 z)

-- refused as the code has it
pub number_refused : (s : Session) (c : Call) (k : Refusal) → number k ≡ refusal s c → refused_by s (number k) ≡ answer s c
number_refused s c k is = refused_answer s c (number k) is (refused_by s (number k)) refl (λ z. omega (arith, numbered k, z))
