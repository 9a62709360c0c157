-- Different numbers have different digits, and no digit is a byte of at most 32: for every number. Assumes nothing.
use mathlib.Core.Path.{◌≡◌, refl, sym, ap, ◌∙◌, subst}
use mathlib.Core.Logic.{⊎_elim}
use mathlib.Core.List.{List, [], ◌∷◌, ◌++◌}
use Prim.Native.Nat.{ℕ, zero, suc, ◌+◌, ◌-◌, ◌*◌, ◌/◌, ◌%◌, ◌≤◌, ◌<◌}
use native.Mathlib.Omega.{arith}
use borrow.Author.Tests.{lt-ltb, le-ltb}
use Rattle.laws.proofs.Tests.{lt_or_le}
use Rattle.octets.specs.Decimal.{digits, decimal}
use Rattle.octets.proofs.Decimal.{decimal_one}

-- as many digits as there are, whatever more is allowed
digits_enough : (k m x : ℕ) → x < k → x < m → digits k x ≡ digits m x
unfolding digits
digits_enough zero m x hk hm = absurd (omega arith)
digits_enough (suc k) zero x hk hm = absurd (omega arith)
digits_enough (suc k) (suc m) x hk hm =
    ⊎_elim
    (λ (l : x < 10). rw (lt-ltb x 10 l))
    (λ (l : 10 ≤ x). rw (le-ltb x 10 l) (ap (λ (d : List ℕ). d ++ ((48 + x % 10) ∷ [])) (digits_enough k m (x / 10) (omega arith) (omega arith))))
    (lt_or_le x 10)

-- the last digit after those of the tenth
decimal_last : (x : ℕ) → 10 ≤ x → decimal x ≡ decimal (x / 10) ++ ((48 + x % 10) ∷ [])
unfolding decimal digits
decimal_last x h =
    rw (le-ltb x 10 h) (ap (λ (d : List ℕ). d ++ ((48 + x % 10) ∷ [])) (digits_enough x (suc (x / 10)) (x / 10) (omega arith) (omega arith)))

-- a number read from its digits, after those before them
read_from : (before : ℕ) → List ℕ → ℕ
read_from n [] = n
read_from n (d ∷ l) = read_from (n * 10 + (d - 48)) l

read_last : (l : List ℕ) (n d : ℕ) → read_from n (l ++ (d ∷ [])) ≡ read_from n l * 10 + (d - 48)
unfolding read_from
read_last [] n d = refl
read_last (x ∷ l) n d = read_last l (n * 10 + (x - 48)) d

read_decimal : (k x : ℕ) → x < k → read_from 0 (decimal x) ≡ x
unfolding read_from
read_decimal zero x h = absurd (omega arith)
read_decimal (suc k) x h =
    ⊎_elim
    (λ (l : x < 10). ap (read_from 0) (decimal_one x l) ∙ omega arith)
    (λ (l : 10 ≤ x).
    ap (read_from 0) (decimal_last x l) ∙ read_last (decimal (x / 10)) 0 (48 + x % 10) ∙ omega (arith, read_decimal k (x / 10) (omega arith)))
    (lt_or_le x 10)

pub decimal_same : (x y : ℕ) → decimal x ≡ decimal y → x ≡ y
decimal_same x y e = sym (read_decimal (suc x) x (omega arith)) ∙ ap (read_from 0) e ∙ read_decimal (suc y) y (omega arith)

-- every byte is above 32, the space
abbrev pub Plain : List ℕ → Type 0
Plain [] = Unit
Plain (x ∷ l) = (32 < x) × Plain l

plain_last : (l : List ℕ) (d : ℕ) → Plain l → 32 < d → Plain (l ++ (d ∷ []))
plain_last [] d p h = (h, tt)
plain_last (x ∷ l) d p h = (p.0, plain_last l d p.1 h)

plain_below : (k x : ℕ) → x < k → Plain (decimal x)
plain_below zero x h = absurd (omega arith)
plain_below (suc k) x h =
    ⊎_elim
    (λ (l : x < 10). subst Plain (sym (decimal_one x l)) (omega arith, tt))
    (λ (l : 10 ≤ x). subst Plain (sym (decimal_last x l)) (plain_last (decimal (x / 10)) (48 + x % 10) (plain_below k (x / 10) (omega arith)) (omega arith)))
    (lt_or_le x 10)

pub plain_decimal : (x : ℕ) → Plain (decimal x)
plain_decimal x = plain_below (suc x) x (omega arith)
