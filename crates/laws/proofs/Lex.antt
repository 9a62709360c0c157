-- Laws of the lexicographic order: one step keeps what the rest has. Assumes nothing.
use mathlib.Core.Path.{◌≡◌, refl, sym, ◌∙◌, subst}
use mathlib.Core.Logic.{◌⊎◌, inl, inr, ⊎_elim}
use mathlib.Core.Bool.{Bool, true, false, ◌&&◌, ◌||◌}
use Prim.Native.Nat.{ℕ, ◌≤◌, ◌<◌}
use native.Mathlib.Nat.{le_antisymm, lt_trans}
use native.Mathlib.Omega.{arith}
use lib.Dec.{ltb, eqb}
use borrow.Author.Tests.{lt-ltb, le-ltb, ltb-true, ltb-false, eqb-true, eqb-false}
use Rattle.laws.specs.Lex.{lex}
use Rattle.laws.proofs.Tests.{tested, clash}

-- it holds: below, or equal and the rest holds
pub lex_true : (a b : ℕ) (r : Bool) → lex a b r ≡ true → (a < b) ⊎ ((a ≡ b) × (r ≡ true))
unfolding lex
lex_true a b r h =
    ⊎_elim (λ t. inl (ltb-true a b t))
    (λ (t : ltb a b ≡ false).
    ⊎_elim (λ (u : ltb b a ≡ true). absurd (clash false (rw (t, u) at h) refl))
    (λ (u : ltb b a ≡ false). inr (le_antisymm (ltb-false b a u) (ltb-false a b t), rw (t, u) at h))
    (tested (ltb b a)))
    (tested (ltb a b))

pub lex_below : (a b : ℕ) (r : Bool) → a < b → lex a b r ≡ true
unfolding lex
lex_below a b r h = simp (lt-ltb a b h)

pub lex_above : (a b : ℕ) (r : Bool) → b < a → lex a b r ≡ false
unfolding lex
lex_above a b r h = simp (le-ltb a b (omega arith), lt-ltb b a h)

pub lex_equal : (a b : ℕ) (r : Bool) → a ≡ b → lex a b r ≡ r
unfolding lex
lex_equal a b r h = simp (le-ltb a b (omega arith), le-ltb b a (omega arith))

pub lex_same : (a : ℕ) (r : Bool) → lex a a r ≡ r
lex_same a r = lex_equal a a r refl

-- it is two tests
pub lex_tests : (a b : ℕ) (r : Bool) → (ltb a b || (eqb a b && r)) ≡ lex a b r
lex_tests a b r =
    ⊎_elim (λ (t : ltb a b ≡ true). rw (lex_below a b r (ltb-true a b t)) (rw t refl))
    (λ (t : ltb a b ≡ false).
    ⊎_elim (λ (u : eqb a b ≡ true). rw (lex_equal a b r (eqb-true a b u)) (rw (t, u) refl))
    (λ (u : eqb a b ≡ false). rw (lex_above a b r (omega (arith, ltb-false a b t, eqb-false a b u))) (rw (t, u) refl))
    (tested (eqb a b)))
    (tested (ltb a b))

pub lex_trans : (a b c : ℕ) (r s t : Bool) → (r ≡ true → s ≡ true → t ≡ true) → lex a b r ≡ true → lex b c s ≡ true → lex a c t ≡ true
lex_trans a b c r s t f h k =
    ⊎_elim
    (λ (x : a < b). ⊎_elim (λ (y : b < c). lex_below a c t (lt_trans x y)) (λ y. lex_below a c t (subst (λ (n : ℕ). a < n) y.0 x)) (lex_true b c s k))
    (λ x. ⊎_elim (λ (y : b < c). lex_below a c t (subst (λ (n : ℕ). n < c) (sym x.0) y)) (λ y. lex_equal a c t (x.0 ∙ y.0) ∙ f x.1 y.1) (lex_true b c s k))
    (lex_true a b r h)

-- neither comes first: equal, and neither of the rests holds
pub lex_total : (a b : ℕ) (r s : Bool) → lex a b r ≡ false → lex b a s ≡ false → (a ≡ b) × (r ≡ false) × (s ≡ false)
lex_total a b r s h k =
    let low : b ≤ a = not_below a b r h in
    let high : a ≤ b = not_below b a s k in
    let e : a ≡ b = le_antisymm high low in
    (e, sym (lex_equal a b r e) ∙ h, sym (lex_equal b a s (sym e)) ∙ k)
  where
    not_below : (x y : ℕ) (q : Bool) → lex x y q ≡ false → y ≤ x
    not_below x y q n = ⊎_elim (λ t. absurd (clash (lex x y q) (lex_below x y q (ltb-true x y t)) n)) (λ t. ltb-false x y t) (tested (ltb x y))
