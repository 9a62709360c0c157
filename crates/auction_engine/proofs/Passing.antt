-- The steps of a chain of checks as the code takes them. Assumes nothing.
use Rattle.std.proofs.Common.{rules, ◌≡◌, sym, ◌∙◌, Bool, true, false, ℕ, refl}
use Rattle.std.specs.Prelude.{Result, Ok, Err, if◌then◌else◌}
use Rattle.refusals.specs.Number.{number, refusal_in}
use Rattle.refusals.specs.declared.Refusal.{Refusal}
use Rattle.laws.specs.Checks.{unless, first_of, ◌then◌}

-- a step that is passed: its test holds, and it leaves the number to the steps after it
pub test_held : (t : Bool) (x : Refusal) (p : Result Unit Refusal) → p ≡ Ok tt → p ≡ (if t then Ok tt else Err x) → t ≡ true
test_held true x p e h = refl
test_held false x p e h = search (rules, sym e ∙ h)

pub step_passed : (t : Bool) (x : Refusal) (p : Result Unit Refusal) → p ≡ Ok tt → p ≡ (if t then Ok tt else Err x) → (n : ℕ) → n ≡ (unless t (number x) then n)
unfolding unless first_of
step_passed true x p e h n = refl
step_passed false x p e h n = search (rules, sym e ∙ h)

-- the last step has the number
pub step_last : (t : Bool) (x : Refusal) (p : Result Unit Refusal) → p ≡ (if t then Ok tt else Err x) → refusal_in p ≡ unless t (number x)
unfolding unless
step_last true x p e = rw e
step_last false x p e = rw e
