-- Laws of searches and tests below a count. Assumes nothing.
use mathlib.Core.Path.{◌≡◌, refl, sym, ap, ap₂, ◌∙◌}
use mathlib.Core.Bool.{Bool, true, false, cond, ◌&&◌, ◌||◌}
use Prim.Native.Nat.{ℕ, zero, suc, ◌+◌, ◌≤◌, ◌<◌}
use native.Mathlib.Nat.{le_refl, le_step, not-suc-le-zero}
use native.Mathlib.Decide.{ℕ_discrete}
use native.Mathlib.Numerals.{add-one}
use native.Mathlib.Omega.{arith}
use borrow.Author.Tests.{ltb-true, ltb-false, lt-ltb, le-ltb}
use lib.Dec.{ltb}
use Rattle.laws.specs.Search.{first, every, some}
use Rattle.laws.proofs.Tests.{both, clash}

pub first_le : (p : ℕ → Bool) (n : ℕ) → first p n ≤ n
unfolding first
first_le p zero = le_refl _
first_le p (suc n) = go (ltb (first p n) n) (p n) (first_le p n)
  where
    go : (a b : Bool) → first p n ≤ n → cond a (first p n) (cond b n (suc n)) ≤ suc n
    go true b ih = omega arith
    go false true ih = omega arith
    go false false ih = omega arith

pub first_holds : (p : ℕ → Bool) (n : ℕ) → first p n < n → p (first p n) ≡ true
unfolding first
first_holds p zero l = absurd (not-suc-le-zero l)
first_holds p (suc n) l = go (ltb (first p n) n) (p n) refl refl (first_holds p n) l
  where
    go : (a b : Bool) → ltb (first p n) n ≡ a → p n ≡ b → (first p n < n → p (first p n) ≡ true)
        → cond a (first p n) (cond b n (suc n)) < suc n → p (cond a (first p n) (cond b n (suc n))) ≡ true
    go true b e q ih l = ih (ltb-true _ _ e)
    go false true e q ih l = q
    go false false e q ih l = absurd (omega arith)

-- nothing below the first passes
pub first_below : (p : ℕ → Bool) (n j : ℕ) → j < first p n → p j ≡ false
unfolding first
first_below p zero j l = absurd (not-suc-le-zero l)
first_below p (suc n) j l = go (ltb (first p n) n) (p n) refl refl (first_below p n j) (ℕ_discrete j n) l
  where
    go : (a b : Bool) → ltb (first p n) n ≡ a → p n ≡ b → (j < first p n → p j ≡ false) → Dec (j ≡ n)
        → j < cond a (first p n) (cond b n (suc n)) → p j ≡ false
    go true b e q ih d l = ih l
    go false true e q ih d l = ih (omega (arith, ltb-false (first p n) n e))
    go false false e q ih (yes w) l = ap p w ∙ q
    go false false e q ih (no w) l = ih (omega (arith, ltb-false (first p n) n e))

-- found at i
pub first_found : (p : ℕ → Bool) (i n : ℕ) → first p i ≡ i → p i ≡ true → i < n → first p n ≡ i
unfolding first
first_found p i zero e t l = absurd (omega arith)
first_found p i (suc n) e t l = go (ℕ_discrete i n) (first_found p i n e t)
  where
    go : Dec (i ≡ n) → (i < n → first p n ≡ i) → cond (ltb (first p n) n) (first p n) (cond (p n) n (suc n)) ≡ i
    go (yes q) _ = rw (← q, e, le-ltb i i (le_refl i), t)
    go (no q) ih = let h : first p n ≡ i = ih (omega arith) in rw (h, lt-ltb i n (omega arith))

pub every_all : (p : ℕ → Bool) (n : ℕ) → ((i : ℕ) → i < n → p i ≡ true) → every p n ≡ true
unfolding every
every_all p zero e = refl
every_all p (suc n) e = rw (every_all p n (λ i l. e i (omega arith)), e n (omega arith))

pub every_at : (p : ℕ → Bool) (n i : ℕ) → every p n ≡ true → i < n → p i ≡ true
unfolding every
every_at p zero i e l = absurd (not-suc-le-zero l)
every_at p (suc n) i e l = go (ℕ_discrete i n) (both (every p n) (p n) e) (every_at p n i)
  where
    go : Dec (i ≡ n) → (every p n ≡ true) × (p n ≡ true) → (every p n ≡ true → i < n → p i ≡ true) → p i ≡ true
    go (yes q) h _ = ap p q ∙ h.1
    go (no q) h ih = ih h.0 (omega arith)

-- a loop that tests each place: the start, one place more, a place that fails, the end
pub every_start : (p : ℕ → Bool) → every p 0 ≡ true
unfolding every
every_start p = refl

pub every_more : (p : ℕ → Bool) (i : ℕ) → every p i ≡ true → p i ≡ true → every p (i + 1) ≡ true
unfolding every
every_more p i e f = rw add-one (rw (e, f))

pub every_not : (p : ℕ → Bool) (n i : ℕ) → i < n → p i ≡ false → false ≡ every p n
every_not p n i l e = go (every p n) refl
  where
    go : (x : Bool) → every p n ≡ x → false ≡ x
    go false h = refl
    go true h = sym e ∙ every_at p n i h l

-- the same for a loop that looks for one place
pub some_start : (p : ℕ → Bool) → some p 0 ≡ false
unfolding some
some_start p = refl

pub some_more : (p : ℕ → Bool) (i : ℕ) → some p i ≡ false → p i ≡ false → some p (i + 1) ≡ false
unfolding some
some_more p i e f = rw add-one (rw (e, f))

pub some_at : (p : ℕ → Bool) (n i : ℕ) → i < n → p i ≡ true → true ≡ some p n
unfolding some
some_at p zero i l e = absurd (not-suc-le-zero l)
some_at p (suc n) i l e = go (ℕ_discrete i n) (some p n) refl (λ m. some_at p n i m e)
  where
    go : Dec (i ≡ n) → (x : Bool) → some p n ≡ x → (i < n → true ≡ some p n) → true ≡ (x || p n)
    go d true h ih = refl
    go (yes q) false h ih = sym e ∙ ap p q
    go (no q) false h ih = absurd (clash false (sym (ih (omega arith) ∙ h)) refl)

-- tests that agree below n
pub some_same : (p q : ℕ → Bool) (n : ℕ) → ((i : ℕ) → i < n → p i ≡ q i) → some p n ≡ some q n
unfolding some
some_same p q zero h = refl
some_same p q (suc n) h = ap₂ ◌||◌ (some_same p q n (λ i l. h i (le_step l))) (h n (le_refl (suc n)))

-- two tests of every number
pub every_both : (p q : ℕ → Bool) (n : ℕ) → every (λ i. p i && q i) n ≡ (every p n && every q n)
unfolding every
every_both p q zero = refl
every_both p q (suc n) = ap (λ (b : Bool). b && (p n && q n)) (every_both p q n) ∙ swap (every p n) (every q n) (p n) (q n)
  where
    swap : (a b c d : Bool) → ((a && b) && (c && d)) ≡ ((a && c) && (b && d))
    swap true true c d = refl
    swap true false true d = refl
    swap true false false d = refl
    swap false b c d = refl
