-- A chain of checks step by step: each is a number, 0 where it passes. Assumes nothing.
use Rattle.std.proofs.Common.{◌≡◌, ℕ, ◌<◌, sym, arith}
use Rattle.refusals.specs.declared.Refusal.{Refusal}
use Rattle.refusals.specs.Number.{number}
use Rattle.laws.specs.Checks.{◌then◌, first_of}
use Rattle.std.proofs.lemmas.Int.{to_z-of_z}
use Rattle.auction_engine.specs.declared.Session.{Session}
use Rattle.auction_engine.specs.Call.{limits_refusal, fields_refusal, arguments_refusal}
use Rattle.auction_engine.specs.declared.Call.{Call}
use Rattle.auction_engine.specs.Engine.{refusal, own_refusal}
use Rattle.laws.proofs.Checking.{then_assoc}
use borrow.Author.Tests.{ne_eqb, eq-eqb}
use lib.Seq.{set-get_or}

-- a chain whose front passes, and one whose front refuses
pub passed : (m n : ℕ) → m ≡ 0 → (m then n) ≡ n
unfolding first_of
passed m n h = rw (eq-eqb m 0 h)

pub stopped : (m n : ℕ) → 0 < m → (m then n) ≡ m
unfolding first_of
stopped m n h = rw (ne_eqb m 0 (λ e. omega arith))

-- a call's refusal, with the two checks of its session as one front
pub staged : (s : Session) (c : Call) → refusal s c ≡ ((limits_refusal s then fields_refusal s) then arguments_refusal c then own_refusal s c)
unfolding refusal
staged s c = sym (then_assoc (limits_refusal s) (fields_refusal s) (arguments_refusal c then own_refusal s c))

-- a refusal's number is not 0
pub numbered : (r : Refusal) → 0 < number r
numbered r = grind arith

-- what a chain of checks wants
pub ruleset steps = (passed, stopped, to_z-of_z)

-- the same of a call
pub ruleset stages = (passed, stopped, staged, numbered, to_z-of_z)

-- what a call wants that answers by its change: what stands at a place, written there, changes nothing
pub ruleset kept = (set-get_or, numbered, to_z-of_z)
