-- Sums of numbers of k bits, for every k: they stay small, so a sum that is kept modulo m is the sum itself. Assumes nothing.
use mathlib.Core.Path.{◌≡◌, sym, ◌∙◌, ap, subst}
use Prim.Native.Nat.{ℕ, zero, suc, ◌+◌, ◌*◌, ◌%◌, ◌^◌, ◌≤◌, ◌<◌}
use native.Mathlib.Nat.{mul-le-mul_right, suc-mul, mod-eq_of_lt, lt_of_lt_of_le, le_of_lt, le_refl, le_antisymm}
use native.Mathlib.Numerals.{add-one}
use native.Mathlib.Omega.{arith}
use lib.Pow.{pow_pos}
use Rattle.laws.specs.Sums.{sum_below}
use Rattle.laws.proofs.Sums.{sum_none, sum_suc, sum_more, sum_step, sum_le}

-- v is at most what i numbers of k bits come to
unfoldable pub AtMost : (k i v : ℕ) → Type 0
AtMost k i v = v ≤ i * 2 ^ k

module _ (k : ℕ) where
  pub none_at_most : (v : ℕ) → v ≡ 0 → AtMost k 0 v
  unfolding AtMost
  none_at_most v e = omega (arith, e)

  pub one_at_most : (v x : ℕ) → v ≡ x → x < 2 ^ k → AtMost k 1 v
  unfolding AtMost
  one_at_most v x e h = omega (arith, e)

  pub one_more : (i v x : ℕ) → AtMost k i v → x < 2 ^ k → AtMost k (i + 1) (v + x)
  unfolding AtMost
  one_more i v x h f = omega (arith, suc-mul i (2 ^ k), ap (λ (m : ℕ). m * 2 ^ k) (add-one i))

  -- one term more stays below what n terms come to
  pub below : (i v x n : ℕ) → AtMost k i v → x < 2 ^ k → i < n → v + x < n * 2 ^ k
  unfolding AtMost
  below i v x n h f l = omega (arith, mul-le-mul_right (2 ^ k) l, suc-mul i (2 ^ k))

  -- n numbers come to less than n times 2 ^ k
  pub sum_below_lem : (f : ℕ → ℕ) (n : ℕ) → ((i : ℕ) → f i < 2 ^ k) → 0 < n → sum_below f n < n * 2 ^ k
  unfolding AtMost
  sum_below_lem f zero h l = absurd (omega arith)
  sum_below_lem f (suc n) h l = rw (sum_suc f n) (below n (sum_below f n) (f n) (suc n) (sum_le (2 ^ k) f n (λ i _. le_of_lt (h i))) (h n) (le_refl (suc n)))

-- v is the sum of the first i of the numbers f, each of k bits
pub record Summing (k : ℕ) (f : ℕ → ℕ) (i v : ℕ) : Type 0 where
  pub is : v ≡ sum_below f i
  pub short : AtMost k i v

module _ {k : ℕ} {f : ℕ → ℕ} where
  pub summing : {v : ℕ} → v ≡ 0 → Summing k f 0 v
  summing {v} e = record { is = e ∙ sym (sum_none f); short = none_at_most k v e }

  pub summing_more : {i v : ℕ} (x v' : ℕ) → Summing k f i v → x ≡ f i → x < 2 ^ k → v' ≡ v + x → Summing k f (i + 1) v'
  summing_more {i} {v} x v' s e h a = record { is = sum_step f i v x v' a s.is e; short = subst (λ (n : ℕ). AtMost k (i + 1) n) (sym a) (one_more k i v x s.short h) }

  -- the same for a sum that is kept modulo m, where n terms fit
  pub summing_mod : (m n : ℕ) → n * 2 ^ k ≤ m → {i v : ℕ} (x v' : ℕ) → Summing k f i v → i < n → x ≡ f i → x < 2 ^ k → v' ≡ (v + x) % m → Summing k f (i + 1) v'
  summing_mod m n fits {i} {v} x v' s l e h a =
      summing_more x v' s e h (a ∙ mod-eq_of_lt (lt_of_lt_of_le (below k i v x n s.short h l) fits))

-- v is the sum of s and the first i of the numbers f, all of k bits
pub record SummingFrom (k s : ℕ) (f : ℕ → ℕ) (i v : ℕ) : Type 0 where
  pub is : v ≡ s + sum_below f i
  pub short : AtMost k (i + 1) v

module _ {k s : ℕ} {f : ℕ → ℕ} where
  pub summing_from : {v : ℕ} → v ≡ s → s < 2 ^ k → SummingFrom k s f 0 v
  summing_from {v} e h = record { is = omega (arith, e, sum_none f); short = one_at_most k v s e h }

  pub summing_from_mod : (m n : ℕ) → (n + 1) * 2 ^ k ≤ m → {i v : ℕ} (x v' : ℕ) → SummingFrom k s f i v → i < n → x ≡ f i → x < 2 ^ k → v' ≡ (v + x) % m → SummingFrom k s f (i + 1) v'
  summing_from_mod m n fits {i} {v} x v' t l e h a =
      let b : v' ≡ v + x = a ∙ mod-eq_of_lt (lt_of_lt_of_le (below k (i + 1) v x (n + 1) t.short h (omega arith)) fits) in
      record {
        is = omega (arith, b, e, t.is, sum_more f i);
        short = subst (λ (w : ℕ). AtMost k (i + 1 + 1) w) (sym b) (one_more k (i + 1) v x t.short h);
      }

  -- a term of 0 leaves the sum as it is
  pub summing_from_skip : {i v : ℕ} (v' : ℕ) → SummingFrom k s f i v → f i ≡ 0 → v' ≡ v → SummingFrom k s f (i + 1) v'
  summing_from_skip {i} {v} v' t z e = record {
    is = omega (arith, e, z, t.is, sum_more f i);
    short = subst (λ (w : ℕ). AtMost k (i + 1 + 1) w) (omega (arith, e)) (one_more k (i + 1) v 0 t.short (pow_pos k));
  }

  pub summed_from : {i v : ℕ} (n : ℕ) → SummingFrom k s f i v → i ≤ n → n ≤ i → v ≡ s + sum_below f n
  summed_from {i} {v} n t l h = t.is ∙ ap (λ (m : ℕ). s + sum_below f m) (le_antisymm l h)
