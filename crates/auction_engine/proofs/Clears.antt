-- The number of a clear's refusal in the stages in which the code finds it: what any call checks, the clear's own checks, and the outcome.
-- Assumes nothing.
use mathlib.Core.Path.{◌≡◌, refl, sym, ◌∙◌, ap}
use Prim.Native.Nat.{ℕ}
use lib.IntN.{ℤ}
use Rattle.std.proofs.Common.{Err, arith}
use Rattle.std.proofs.lemmas.Int.{to_z-of_z}
use Rattle.refusals.specs.declared.Refusal.{Refusal}
use Rattle.refusals.specs.Number.{number}
use Rattle.laws.specs.Checks.{◌then◌}
use Rattle.laws.proofs.Checking.{then_zero, then_stop, then_pass, then_assoc}
use Rattle.book.specs.Clear.{Outcome, outcome_of}
use Rattle.auction_engine.specs.declared.Session.{Session}
use Rattle.auction_engine.specs.Call.{limits_refusal, fields_refusal, arguments_refusal}
use Rattle.auction_engine.specs.declared.Call.TheVariants.{Clear}
use Rattle.auction_engine.specs.Clearing.{outcome, clear_checks, clear_refusal}
use Rattle.auction_engine.specs.Engine.{refusal, own_refusal, refused_by, answer}
use Rattle.auction_engine.proofs.Answers.{number_refused}
use Rattle.auction_engine.proofs.Steps.{passed, numbered}
use Rattle.auction_engine.proofs.Checks.{Within, checked_within}

-- all checks but the last
abbrev pub all_but_last : Session → ℤ → ℕ
all_but_last s now = limits_refusal s then fields_refusal s then clear_checks s now

module _ (s : Session) (now : ℤ) where
  staged : ((limits_refusal s then fields_refusal s) then clear_checks s now) ≡ all_but_last s now
  staged = then_assoc (limits_refusal s) (fields_refusal s) (clear_checks s now)

  pub clear_within : all_but_last s now ≡ 0 → Within s
  clear_within h = checked_within s (then_zero (limits_refusal s then fields_refusal s) (clear_checks s now) (staged ∙ h)).0

  -- the outcome's number comes last
  pub clear_staged : refusal s (Clear now) ≡ (all_but_last s now then (outcome s).refusal)
  unfolding refusal arguments_refusal own_refusal clear_refusal
  clear_staged = last (limits_refusal s) (fields_refusal s) (clear_checks s now) (outcome s).refusal
    where
      last : (a b c d : ℕ) → (a then b then 0 then c then d) ≡ ((a then b then c) then d)
      last a b c d = simp then_assoc (ap (λ n. a then b then n) (sym (then_pass 0 (c then d) refl)))

  module _ (m : ℕ) (e : m ≡ all_but_last s now) where
    pub stops_early : (m ≡ 0 → ⊥) → m ≡ refusal s (Clear now)
    stops_early z = then_stop m (outcome s).refusal z ∙ rw e (sym clear_staged)

    pub outcome_decides : m ≡ 0 → (found : Outcome) → found ≡ outcome s → found.refusal ≡ refusal s (Clear now)
    outcome_decides z found f = rw f (then_pass (all_but_last s now) (outcome s).refusal (sym e ∙ z) ∙ sym clear_staged)

-- a clear that is refused, before its outcome or by it
module _ (s : Session) (now : ℤ) where
  pub clear_stopped : (k : Refusal) → number k ≡ all_but_last s now → refused_by s (number k) ≡ answer s (Clear now)
  clear_stopped k e = number_refused s (Clear now) k (stops_early s now (number k) e (λ z. omega (arith, numbered k, z)))

  pub clear_overflows : 0 ≡ all_but_last s now → (k : Refusal) → outcome_of (Err k) ≡ outcome s → refused_by s (number k) ≡ answer s (Clear now)
  clear_overflows e k f = number_refused s (Clear now) k (outcome_decides s now 0 e refl (outcome_of (Err k)) f)

-- what the answer of a clear wants
pub ruleset clearing = (clear_staged, passed, clear_stopped, clear_overflows, clear_within, to_z-of_z)
