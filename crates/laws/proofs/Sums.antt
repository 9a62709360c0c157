-- Laws of sums and counts below a number. Assumes nothing.
use mathlib.Core.Path.{◌≡◌, refl, sym, ◌∙◌, ap, ap₂}
use mathlib.Core.Logic.{◌≢◌, ⊎_elim}
use mathlib.Core.Bool.{Bool, true, false}
use mathlib.Core.List.{List, ◌∷◌}
use Prim.Native.Nat.{ℕ, zero, suc, ◌+◌, ◌*◌, ◌≤◌, ◌<◌, zero-le}
use native.Mathlib.Nat.{le_refl, le_step, suc-mul, eq-or-lt_of_le, le_of_suc-le-suc, eq-zero-or-pos}
use native.Mathlib.Decide.{ℕ_discrete}
use native.Mathlib.Numerals.{add-one}
use native.Mathlib.Omega.{arith}
use borrow.Author.Tests.{lt-ltb}
use lib.Dec.{ltb}
use lib.ListN.{length, get_or, set}
use lib.Seq.{get_or-set_same, get_or-set_other}
use Rattle.laws.specs.Sums.{sum_below, only, count, sum_over}
use Rattle.laws.proofs.Tests.{clash}

pub sum_none : (f : ℕ → ℕ) → sum_below f 0 ≡ 0
unfolding sum_below
sum_none f = refl

pub sum_suc : (f : ℕ → ℕ) (n : ℕ) → sum_below f (suc n) ≡ sum_below f n + f n
unfolding sum_below
sum_suc f n = refl

pub sum_more : (f : ℕ → ℕ) (n : ℕ) → sum_below f (n + 1) ≡ sum_below f n + f n
sum_more f n = ap (λ (m : ℕ). sum_below f m) (add-one n) ∙ sum_suc f n

-- the first term apart
pub sum_head : (f : ℕ → ℕ) (n : ℕ) → sum_below f (suc n) ≡ f 0 + sum_below (λ i. f (suc i)) n
unfolding sum_below
sum_head f zero = omega arith
sum_head f (suc n) = omega (arith, sum_head f n)

-- a loop that adds up: one more term, and the end
pub sum_step : (f : ℕ → ℕ) (i s x s' : ℕ) → s' ≡ s + x → s ≡ sum_below f i → x ≡ f i → s' ≡ sum_below f (i + 1)
sum_step f i s x s' e g h = omega (arith, sum_more f i)

-- terms that agree below n
pub sum_same : (f g : ℕ → ℕ) (n : ℕ) → ((i : ℕ) → i < n → f i ≡ g i) → sum_below f n ≡ sum_below g n
unfolding sum_below
sum_same f g zero e = refl
sum_same f g (suc n) e = ap₂ ◌+◌ (sum_same f g n (λ i l. e i (le_step l))) (e n (le_refl (suc n)))

pub sum_zero : (f : ℕ → ℕ) (n : ℕ) → ((i : ℕ) → i < n → f i ≡ 0) → sum_below f n ≡ 0
unfolding sum_below
sum_zero f zero e = refl
sum_zero f (suc n) e = omega (arith, sum_zero f n (λ i l. e i (le_step l)), e n (le_refl (suc n)))

pub sum_add : (f g : ℕ → ℕ) (n : ℕ) → sum_below (λ i. f i + g i) n ≡ sum_below f n + sum_below g n
unfolding sum_below
sum_add f g zero = refl
sum_add f g (suc n) = omega (arith, sum_add f g n)

-- a term is at most the sum, and a sum of larger terms is larger
pub sum_ge : (f : ℕ → ℕ) (n i : ℕ) → i < n → f i ≤ sum_below f n
unfolding sum_below
sum_ge f zero i l = absurd (omega (arith, l))
sum_ge f (suc n) i l =
    ⊎_elim (λ (e : i ≡ n). omega (arith, ap f e)) (λ (m : i < n). omega (arith, sum_ge f n i m)) (eq-or-lt_of_le (le_of_suc-le-suc l))

pub sum_le_sum : (f g : ℕ → ℕ) (n : ℕ) → ((i : ℕ) → i < n → f i ≤ g i) → sum_below f n ≤ sum_below g n
unfolding sum_below
sum_le_sum f g zero e = zero-le
sum_le_sum f g (suc n) e = omega (arith, sum_le_sum f g n (λ i l. e i (le_step l)), e n (le_refl (suc n)))

-- n terms of at most m come to at most n m
pub sum_le : (m : ℕ) (f : ℕ → ℕ) (n : ℕ) → ((i : ℕ) → i < n → f i ≤ m) → sum_below f n ≤ n * m
unfolding sum_below
sum_le m f zero h = zero-le
sum_le m f (suc n) h = omega (arith, sum_le m f n (λ i l. h i (le_step l)), h n (le_refl (suc n)), suc-mul n m)

-- fewer terms, a smaller sum
pub sum_mono : (f : ℕ → ℕ) (i n : ℕ) → i ≤ n → sum_below f i ≤ sum_below f n
unfolding sum_below
sum_mono f i zero h = let e : i ≡ 0 = omega (arith, h) in omega (arith, ap (λ (m : ℕ). sum_below f m) e)
sum_mono f i (suc n) h =
    ⊎_elim (λ (e : i ≡ suc n). omega (arith, ap (λ (m : ℕ). sum_below f m) e)) (λ (l : i < suc n). omega (arith, sum_mono f i n (le_of_suc-le-suc l))) (eq-or-lt_of_le h)

-- terms that differ at one place only
pub sum_at : (f g : ℕ → ℕ) (n i : ℕ) → i < n → ((j : ℕ) → j < n → j ≢ i → f j ≡ g j) → sum_below f n + g i ≡ sum_below g n + f i
unfolding sum_below
sum_at f g zero i l e = absurd (omega (arith, l))
sum_at f g (suc n) i l e = go (ℕ_discrete i n) (λ k. sum_at f g n i k (λ j m. e j (omega arith)))
  where
    go : Dec (i ≡ n) → (i < n → sum_below f n + g i ≡ sum_below g n + f i) → (sum_below f n + f n) + g i ≡ (sum_below g n + g n) + f i
    go (yes p) _ = omega (arith, ap f p, ap g p, sum_same f g n (λ j k. e j (omega arith) (omega arith)))
    go (no q) ih = omega (arith, e n (omega arith) (omega arith), ih (omega arith))

-- a list that is added up, the first apart
pub over_cons : {A : Type 0} (f : A → ℕ) (d x : A) (l : List A) (n : ℕ) → sum_over f d (x ∷ l) (suc n) ≡ f x + sum_over f d l n
unfolding sum_over
over_cons f d x l n = sum_head (λ i. f (get_or (x ∷ l) i d)) n

-- stores to a list that is added up: below the count, at or past it, at the count itself
module _ {A : Type 0} (f : A → ℕ) (d : A) where
  pub over_set : (l : List A) (n i : ℕ) (a : A) → i < n → i < length l → sum_over f d (set l i a) n + f (get_or l i d) ≡ sum_over f d l n + f a
  unfolding sum_over
  over_set l n i a i<n i<l =
      omega (
        arith,
        ap f (get_or-set_same l i a d i<l),
        sum_at (λ j. f (get_or (set l i a) j d)) (λ j. f (get_or l j d)) n i i<n (λ j _ q. ap f (get_or-set_other l i j a d q)),
      )

  pub over_push : (l : List A) (n : ℕ) (a : A) → n < length l → sum_over f d (set l n a) (suc n) ≡ sum_over f d l n + f a
  unfolding sum_over sum_below
  over_push l n a h =
      ap₂ ◌+◌ (sum_same (λ j. f (get_or (set l n a) j d)) (λ j. f (get_or l j d)) n (λ j k. ap f (get_or-set_other l n j a d (omega arith)))) (ap f (get_or-set_same l n a d h))

-- a number where a test holds
pub only_none : (b : Bool) → only b 0 ≡ 0
only_none true = refl
only_none false = refl

-- counts
pub only_le : (a b : Bool) → (a ≡ true → b ≡ true) → only a 1 ≤ only b 1
only_le true true f = le_refl 1
only_le true false f = absurd (clash false (f refl) refl)
only_le false b f = zero-le

pub only_one : (a : Bool) → only a 1 ≤ 1
only_one true = le_refl 1
only_one false = zero-le

pub count_le : (p : ℕ → Bool) (n : ℕ) → count p n ≤ n
unfolding count sum_below
count_le p zero = le_refl 0
count_le p (suc n) = omega (arith, count_le p n, only_one (p n))

pub count_mono : (p q : ℕ → Bool) (n : ℕ) → ((i : ℕ) → i < n → p i ≡ true → q i ≡ true) → count p n ≤ count q n
unfolding count sum_below
count_mono p q zero h = le_refl 0
count_mono p q (suc n) h = omega (arith, count_mono p q n (λ i l. h i (le_step l)), only_le (p n) (q n) (h n (le_refl (suc n))))

-- one place more passes
pub count_more : (p q : ℕ → Bool) (n k : ℕ) → k < n → p k ≡ false → q k ≡ true → ((i : ℕ) → i < n → p i ≡ true → q i ≡ true) → count p n < count q n
unfolding count sum_below
count_more p q zero k l a b h = absurd (omega (arith, l))
count_more p q (suc n) k l a b h =
    ⊎_elim
    (λ (e : k ≡ n).
    omega (
      arith,
      count_mono p q n (λ i m. h i (le_step m)),
      ap (λ (c : Bool). only c 1) (sym (ap p e) ∙ a),
      ap (λ (c : Bool). only c 1) (sym (ap q e) ∙ b),
    ))
    (λ (m : k < n). omega (arith, count_more p q n k m a b (λ i r. h i (le_step r)), only_le (p n) (q n) (h n (le_refl (suc n)))))
    (eq-or-lt_of_le (le_of_suc-le-suc l))

pub count_same : (p q : ℕ → Bool) (n : ℕ) → ((i : ℕ) → i < n → p i ≡ q i) → count p n ≡ count q n
unfolding count
count_same p q n h = sum_same (λ i. only (p i) 1) (λ i. only (q i) 1) n (λ i l. ap (λ (c : Bool). only c 1) (h i l))

-- a sum above 0 has a term above 0
pub some_above : (f : ℕ → ℕ) (k : ℕ) → 0 < sum_below f k → 0 < count (λ i. ltb 0 (f i)) k
unfolding sum_below count
some_above f zero h = absurd (omega arith)
some_above f (suc k) h =
    ⊎_elim (λ (e : f k ≡ 0). omega (arith, some_above f k (omega arith))) (λ (p : 0 < f k). omega (arith, ap (λ (b : Bool). only b 1) (lt-ltb 0 (f k) p))) (eq-zero-or-pos (f k))
