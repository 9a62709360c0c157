-- Laws of numbers of two digits to the base 2 ^ k, for every k.
-- Assumes nothing.
use Rattle.std.proofs.Common.{◌≡◌, ℕ, zero, suc, ◌+◌, ◌-◌, ◌*◌, ◌%◌, ◌^◌, ◌<◌, ◌≤◌, eqb, ltb, cond, Less, Equal, Greater, sym, refl, ap, ◌∙◌, le_of_lt, mul-le-mul_right, mod-eq_of_lt, suc-mul, add-mul, lt_of_not-le, zero-mul, sub-add_cancel, add-one, arith, pow_pos, le-ltb, lt-ltb}
use Rattle.std.specs.Ordering.{nat_cmp, ordering_then}
use Rattle.std.proofs.lemmas.Bool.Decides.{nat_tests}
use native.Mathlib.Decide.{ℕ_discrete}
use lib.Arith.{digits_lt, digits_div, digits_mod, lt_of_le-ne, mod-mul}
use lib.Dec.{eqb-suc-zero}
use Rattle.laws.proofs.Tests.{ltb_same}
use Rattle.wide.specs.Value.{digits}

-- a larger upper digit is a whole base more
pub above : (b : ℕ) {x y : ℕ} → x < y → x * b + b ≤ y * b
above b {x} {y} h = omega (arith, mul-le-mul_right b h, suc-mul x b)

pub split_up : (b : ℕ) {x y : ℕ} → x ≤ y → (y - x) * b + x * b ≡ y * b
split_up b {x} {y} h = sym (add-mul (y - x) x b) ∙ ap (λ (n : ℕ). n * b) (sub-add_cancel h)

module _ (k : ℕ) (h l : ℕ) where
  -- past the largest number of two digits the upper digit starts again at 0
  pub wraps : l < 2 ^ k → digits k (h % 2 ^ k) l ≡ digits k h l % (2 ^ k * 2 ^ k)
  wraps f =
      sym (mod-mul (digits k h l) (pow_pos k) (pow_pos k) ∙ rw (digits_div h f, digits_mod h f))

  -- a sum whose lower digits need no carry, and one whose lower digits leave s and carry one
  pub add_fits : (x : ℕ) → h < 2 ^ k → l + x < 2 ^ k → digits k h (l + x) ≡ (digits k h l + x) % (2 ^ k * 2 ^ k)
  add_fits x g f = let e : digits k h l + x ≡ digits k h (l + x) = omega arith in rw (e, mod-eq_of_lt (digits_lt g f))

  pub carries : (x s : ℕ) → s + 2 ^ k ≡ l + x → digits k (h + 1) s ≡ digits k h l + x
  carries x s e = omega (arith, suc-mul h (2 ^ k), ap (λ (n : ℕ). n * 2 ^ k) (add-one h))

  -- a number below m bases has an upper digit below m
  pub upper_short : (m : ℕ) → digits k h l < m * 2 ^ k → h < m
  upper_short m s = lt_of_not-le (λ (c : m ≤ h). omega (arith, mul-le-mul_right (2 ^ k) c))

  pub zero_low : h ≡ 0 → l ≡ digits k h l
  zero_low e = omega (arith, ap (λ (n : ℕ). n * 2 ^ k) e, zero-mul (2 ^ k))

  pub zero_high : digits k h l ≡ 0 → h ≡ 0
  zero_high e = omega (arith, upper_short 1 (omega (arith, pow_pos k)))

  pub low_is : digits k h l < 2 ^ k → l ≡ digits k h l
  low_is f = zero_low (omega (arith, upper_short 1 (omega arith)))

  module _ (h' l' : ℕ) where
    pub upper_le : l < 2 ^ k → digits k h' l' ≤ digits k h l → h' ≤ h
    upper_le f s = omega (arith, lt_of_not-le (λ (c : suc h ≤ h'). omega (arith, above (2 ^ k) c)))

    pub upper_lt : l < l' → digits k h' l' ≤ digits k h l → h' < h
    upper_lt f s = lt_of_not-le (λ (c : h ≤ h'). omega (arith, mul-le-mul_right (2 ^ k) c))

    pub less_low : h ≡ h' → ltb l l' ≡ ltb (digits k h l) (digits k h' l')
    less_low e =
        let m : h * 2 ^ k ≡ h' * 2 ^ k = ap (λ (n : ℕ). n * 2 ^ k) e in
        ltb_same {a = l} {b = l'} {c = digits k h l} {d = digits k h' l'} (λ f. omega arith) (λ f. omega arith)

    pub less_high : l < 2 ^ k → l' < 2 ^ k → (h ≡ h' → ⊥) → ltb h h' ≡ ltb (digits k h l) (digits k h' l')
    less_high f f' n =
        ltb_same {a = h} {b = h'} {c = digits k h l} {d = digits k h' l'}
        (λ s. omega (arith, above (2 ^ k) s))
        (λ s. omega (arith, above (2 ^ k) (lt_of_le-ne s (λ e. n (sym e)))))

    pub subtracts : l' ≤ l → h' ≤ h → digits k (h - h') (l - l') ≡ digits k h l - digits k h' l'
    subtracts f s = omega (arith, split_up (2 ^ k) s)

    pub borrows : l' < 2 ^ k → l < l' → h' < h → digits k (h - h' - 1) (2 ^ k - 1 - (l' - l - 1)) ≡ digits k h l - digits k h' l'
    borrows g f s =
        omega (arith, split_up (2 ^ k) (le_of_lt s), suc-mul (h - h' - 1) (2 ^ k), ap (λ (n : ℕ). n * 2 ^ k) (one_more (h - h') (omega arith)))
      where
        one_more : (n : ℕ) → zero < n → suc (n - 1) ≡ n
        one_more n p = omega arith

-- the sum whose lower digits carry one
pub add_carries : (k h l x s : ℕ) → s < 2 ^ k → s + 2 ^ k ≡ l + x → digits k ((h + 1) % 2 ^ k) s ≡ (digits k h l + x) % (2 ^ k * 2 ^ k)
add_carries k h l x s f e = wraps k (h + 1) s f ∙ ap (λ (n : ℕ). n % (2 ^ k * 2 ^ k)) (carries k h l x s e)

-- a number fits one digit where its upper digit is 0
pub fits_low : (k h l : ℕ) → l < 2 ^ k → eqb h 0 ≡ ltb (digits k h l) (2 ^ k)
fits_low k zero l f = sym (lt-ltb (digits k zero l) (2 ^ k) (omega (arith, zero_low k zero l refl)))
fits_low k (suc h) l f = eqb-suc-zero h ∙ sym (le-ltb (digits k (suc h) l) (2 ^ k) (omega (arith, suc-mul h (2 ^ k))))

-- an answer of the order, by its two tests
by_tests : (a b : ℕ) → nat_cmp a b ≡ cond (ltb a b) Less (cond (ltb b a) Greater Equal)
by_tests a b = grind (arith, nat_tests)

-- the upper digits decide where they differ, else the lower
pub compares : (k h l h' l' : ℕ) → l < 2 ^ k → l' < 2 ^ k → ordering_then (nat_cmp h h') (nat_cmp l l') ≡ nat_cmp (digits k h l) (digits k h' l')
compares k h l h' l' f f' = rw (by_tests (digits k h l) (digits k h' l')) (go (ℕ_discrete h h'))
  where
    go : Dec (h ≡ h') → ordering_then (nat_cmp h h') (nat_cmp l l') ≡ cond (ltb (digits k h l) (digits k h' l')) Less (cond (ltb (digits k h' l') (digits k h l)) Greater Equal)
    go (yes e) = rw (← less_low k h l h' l' e, ← less_low k h' l' h l (sym e)) (grind (arith, nat_tests))
    go (no n) = rw (← less_high k h l h' l' f f' n, ← less_high k h' l' h l f' f (λ e. n (sym e))) (grind (arith, nat_tests))
