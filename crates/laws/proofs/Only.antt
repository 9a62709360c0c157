-- Laws of `only`: where its test compares, where it splits a number, where it counts one. Assumes nothing.
use mathlib.Core.Path.{◌≡◌, refl}
use mathlib.Core.Logic.{◌≢◌}
use mathlib.Core.Bool.{Bool, true, false, not}
use mathlib.Core.List.{List}
use Prim.Native.Nat.{ℕ, ◌+◌, ◌-◌, ◌≤◌}
use native.Mathlib.Omega.{arith}
use borrow.Author.Tests.{eq-eqb, ne_eqb}
use lib.Dec.{eqb}
use Rattle.laws.specs.Sums.{only}
use Rattle.laws.specs.Lists.{same}
use Rattle.laws.proofs.Lists.{same_eq, same_ne}

pub only_eq : (m n x : ℕ) → m ≡ n → only (eqb m n) x ≡ x
only_eq m n x e = rw (eq-eqb m n e)

pub only_ne : (m n x : ℕ) → m ≢ n → only (eqb m n) x ≡ 0
only_ne m n x e = rw (ne_eqb m n e)

pub only_same : (l k : List ℕ) (x : ℕ) → l ≡ k → only (same l k) x ≡ x
only_same l k x e = rw (same_eq l k e)

pub only_other : (l k : List ℕ) (x : ℕ) → l ≢ k → only (same l k) x ≡ 0
only_other l k x e = rw (same_ne l k e)

-- two parts of a number, under one test, and under a test and its opposite
pub only_split : (test : Bool) (n q : ℕ) → q ≤ n → only test (n - q) + only test q ≡ only test n
only_split true n q h = omega arith
only_split false n q h = refl

pub only_not : (test : Bool) (n : ℕ) → only (not test) n + only test n ≡ n
only_not true n = omega arith
only_not false n = omega arith

-- one where the test holds
pub only_is : (test : Bool) → eqb (only test 1) 1 ≡ test
only_is true = refl
only_is false = refl
