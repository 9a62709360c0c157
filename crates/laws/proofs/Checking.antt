-- Laws of lists of checks. Assumes nothing.
use Rattle.std.specs.Prelude.{Result, Ok, Err, IsErrAnd}
use mathlib.Core.Path.{◌≡◌, refl, sym, ap, ◌∙◌, subst}
use mathlib.Core.Logic.{inl, inr}
use mathlib.Core.Bool.{Bool, true, false, ◌&&◌}
use mathlib.Core.List.{List, ◌∷◌}
use Prim.Native.Nat.{ℕ, zero, suc}
use native.Mathlib.Omega.{arith}
use lib.Dec.{eqb-suc-zero}
use borrow.Author.Tests.{ne_eqb, eq-eqb}
use Rattle.refusals.specs.declared.Refusal.{Refusal}
use Rattle.laws.specs.Checks.{unless, ◌then◌, first_of}
use Rattle.laws.specs.Lists.{Member}

-- a list that passes passes in both parts
pub then_zero : (m n : ℕ) → (m then n) ≡ 0 → (m ≡ 0) × (n ≡ 0)
unfolding first_of
then_zero zero n h = (refl, h)
then_zero (suc m) n h = absurd (let g : suc m ≡ 0 = rw (eqb-suc-zero m) at h in omega arith)

-- the first that fails decides, and one that passes leaves it to the rest
pub then_stop : (m n : ℕ) → (m ≡ 0 → ⊥) → m ≡ (m then n)
unfolding first_of
then_stop m n h = rw (ne_eqb m 0 h)

pub then_pass : (m n : ℕ) → m ≡ 0 → n ≡ (m then n)
unfolding first_of
then_pass m n h = rw (eq-eqb m 0 h)

pub unless_zero : (t : Bool) (n : ℕ) → unless t (suc n) ≡ 0 → t ≡ true
unfolding unless
unless_zero true n h = refl
unless_zero false n h = absurd (omega arith)

-- a list that passes passes in its first check, and after it
pub check_zero : (t : Bool) (n rest : ℕ) → (unless t (suc n) then rest) ≡ 0 → (t ≡ true) × (rest ≡ 0)
check_zero t n rest h = let e = then_zero (unless t (suc n)) rest h in (unless_zero t n e.0, e.1)

-- the other way round
pub then_both : (m n : ℕ) → m ≡ 0 → n ≡ 0 → (m then n) ≡ 0
then_both m n h e = sym (then_pass m n h) ∙ e

pub unless_pass : (t : Bool) (n : ℕ) → t ≡ true → unless t n ≡ 0
unfolding unless
unless_pass t n h = rw h

pub check_pass : (t : Bool) (n rest : ℕ) → t ≡ true → rest ≡ 0 → (unless t n then rest) ≡ 0
check_pass t n rest h e = then_both (unless t n) rest (unless_pass t n h) e

-- two checks of one number are one
pub two_checks : (a b : Bool) (n : ℕ) → unless (a && b) n ≡ (unless a n then unless b n)
unfolding unless first_of
two_checks true b n = refl
two_checks false true zero = refl
two_checks false false zero = refl
two_checks false b (suc n) = then_stop (suc n) (unless b (suc n)) (λ e. omega arith)

-- checks in stages
pub then_assoc : (a b c : ℕ) → ((a then b) then c) ≡ (a then b then c)
unfolding first_of
then_assoc zero b c = refl
then_assoc (suc a) b c = rw (eqb-suc-zero a, eqb-suc-zero a)

-- nothing more to check
pub then_nothing : (m : ℕ) → (m then 0) ≡ m
unfolding first_of
then_nothing zero = refl
then_nothing (suc m) = rw (eqb-suc-zero m)

-- checks come to 0 or to one of their numbers
pub then_in : (l : List ℕ) (m n : ℕ) → Member m (0 ∷ l) → Member n (0 ∷ l) → Member (m then n) (0 ∷ l)
unfolding first_of
then_in l zero n h k = k
then_in l (suc m) n h k = subst (λ x. Member x (0 ∷ l)) (then_stop (suc m) n (λ e. omega arith)) h

pub unless_in : (l : List ℕ) (t : Bool) (n : ℕ) → Member n l → Member (unless t n) (0 ∷ l)
unfolding unless
unless_in l true n m = inl refl
unless_in l false n m = inr m

pub check_in : (l : List ℕ) (t : Bool) (n rest : ℕ) → Member n l → Member rest (0 ∷ l) → Member (unless t n then rest) (0 ∷ l)
check_in l t n rest m k = then_in l (unless t n) rest (unless_in l t n m) k

-- ---- an answer that is refused
pub refused_as : {A : Type 0} (r : Result A Refusal) {x : Refusal} → IsErrAnd r (λ e. e ≡ x) → r ≡ Err x
refused_as (Ok a) h = absurd h
refused_as (Err y) h = ap Err h
