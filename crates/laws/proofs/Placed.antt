-- Where a number stands in a list, and how many stand in a list's start. Assumes nothing.
use mathlib.Core.Path.{◌≡◌}
use mathlib.Core.Logic.{⊎_elim}
use mathlib.Core.Bool.{Bool, true}
use mathlib.Core.List.{List, [], ◌∷◌, ◌++◌}
use Prim.Native.Nat.{ℕ, ◌+◌, ◌≤◌, ◌<◌}
use native.Mathlib.Omega.{arith}
use borrow.Author.Tests.{eqb-true, eq-eqb}
use lib.Dec.{eqb}
use lib.ListN.{length, get_or}
use Rattle.laws.specs.Sums.{only}
use Rattle.laws.specs.Search.{first}
use Rattle.laws.proofs.Tests.{clash, lt_or_le}
use Rattle.laws.proofs.Search.{first_holds, first_below}
use Rattle.laws.proofs.Sort.{sum_in}
use Rattle.laws.proofs.Ranked.{count_in}

-- one element more at the end of a list
pub count_in_last : (p : ℕ → Bool) (l : List ℕ) (x : ℕ) → count_in p (l ++ (x ∷ [])) ≡ count_in p l + only (p x) 1
unfolding sum_in
count_in_last p [] x = omega arith
count_in_last p (y ∷ l) x = omega (arith, count_in_last p l x)

-- the one number below n that passes is the first
pub first_is : (p : ℕ → Bool) (n k : ℕ) → k < n → p k ≡ true → ((j : ℕ) → j < n → p j ≡ true → j ≡ k) → first p n ≡ k
first_is p n k h t one =
    ⊎_elim (λ (l : first p n < n). one (first p n) l (first_holds p n l))
    (λ (g : n ≤ first p n). absurd (clash (p k) t (first_below p n k (omega arith))))
    (lt_or_le (first p n) n)

-- a number that stands in a list at one place stands there first
pub first_place : (l : List ℕ) (i k : ℕ) → k < length l → get_or l k 0 ≡ i → ((j : ℕ) → j < length l → get_or l j 0 ≡ i → j ≡ k)
    → first (λ j. eqb (get_or l j 0) i) (length l) ≡ k
first_place l i k h e one = first_is (λ j. eqb (get_or l j 0) i) (length l) k h (eq-eqb (get_or l k 0) i e) (λ j m t. one j m (eqb-true (get_or l j 0) i t))
