-- How many fills there are at most: as many as the lots above 0, and one fewer where both lines end at one sum. Assumes nothing.
use mathlib.Core.Path.{◌≡◌, refl, ap, ◌∙◌}
use mathlib.Core.Bool.{true, false≢true}
use mathlib.Core.List.{List, [], ◌∷◌, ◌++◌}
use Prim.Native.Nat.{ℕ, zero, suc, ◌+◌, ◌≤◌, ◌<◌, zero-le}
use native.Mathlib.Omega.{arith}
use lib.Dec.{ltb}
use lib.ListN.{length, length-append, length-map}
use Rattle.std.proofs.lemmas.Grind.{common_steps}
use Rattle.laws.specs.Sums.{sum_below, only, count}
use Rattle.laws.specs.Lists.{table, keep, has}
use Rattle.laws.proofs.Sums.{sum_head}
use Rattle.laws.proofs.Gathering.{keep_short}
use Rattle.laws.proofs.Members.{has_append}
use Rattle.fills.specs.FillCount.{partial_sums, distinct}
use Rattle.fills.specs.Steps.{nonzero, fills_of}
use Rattle.fills.proofs.Fills.{nonzero_some, nonzero_none, has_up}

-- no more distinct values than values
distinct_few : (l : List ℕ) → distinct l ≤ length l
unfolding distinct
distinct_few [] = zero-le
distinct_few (x ∷ l) = grind (arith, distinct_few l)

-- a partial sum for each lot
length_sums : (l : List ℕ) → length (partial_sums l) ≡ length l
unfolding partial_sums
length_sums [] = refl
length_sums (x ∷ l) = ap suc (length-map (partial_sums l) (λ s. x + s) ∙ length_sums l)

-- a value that stands in both lists is counted once
shared : (l k : List ℕ) (x : ℕ) → has l x ≡ true → has k x ≡ true → distinct (l ++ k) < length l + length k
unfolding distinct has
shared [] k x p q = absurd (false≢true p)
shared (y ∷ l) k x p q = grind (arith, common_steps, shared l k x, has_append, distinct_few, length-append)

-- the last sum of a line is all its lots together
last_sum : (f : ℕ → ℕ) (n : ℕ) → 0 < sum_below f n → has (partial_sums (nonzero (table f n))) (sum_below f n) ≡ true
unfolding table sum_below partial_sums has
last_sum f zero h = absurd (omega (arith, h))
last_sum f (suc n) h = grind (arith, common_steps, last_sum (λ i. f (suc i)) n, sum_head f n, nonzero_none (f 0), nonzero_some (f 0), has_up)

-- the lots kept are those above 0
length_nonzero : (f : ℕ → ℕ) (n : ℕ) → length (nonzero (table f n)) ≡ count (λ i. ltb 0 (f i)) n
unfolding nonzero keep table count sum_below
length_nonzero f zero = refl
length_nonzero f (suc n) = grind (arith, common_steps, length_nonzero (λ i. f (suc i)) n, sum_head (λ i. only (ltb 0 (f i)) 1) n)

-- no more fills than lots
pub fills_few : (l k : List ℕ) → fills_of l k ≤ length l + length k
unfolding fills_of nonzero
fills_few l k = grind (arith, common_steps, distinct_few, length_sums, keep_short (λ x. ltb 0 x))

-- two lines of one sum above 0 have fewer fills than lots above 0
pub fills_below : (f g : ℕ → ℕ) (n : ℕ) → sum_below f n ≡ sum_below g n → 0 < sum_below f n
    → fills_of (table f n) (table g n) < count (λ i. ltb 0 (f i)) n + count (λ i. ltb 0 (g i)) n
unfolding fills_of
fills_below f g n e h =
    let L = nonzero (table f n) in
    let K = nonzero (table g n) in
    omega (
      arith,
      shared (partial_sums L) (partial_sums K) (sum_below f n) (last_sum f n h) (rw e (last_sum g n (omega (arith, h, e)))),
      length_sums L,
      length_sums K,
      length_nonzero f n,
      length_nonzero g n,
    )
