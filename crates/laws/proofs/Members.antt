-- Membership of a number in a list as a test, and what it says of lists with the same members. Assumes nothing.
use mathlib.Core.Path.{◌≡◌, refl, sym, ap, ◌∙◌, subst}
use mathlib.Core.Logic.{◌≢◌, ◌↔◌, inl, inr, ⊎_elim}
use mathlib.Core.Bool.{Bool, true, false, ◌&&◌, ◌||◌, or-true, or_assoc}
use mathlib.Core.List.{List, [], ◌∷◌, ◌++◌}
use Prim.Native.Nat.{ℕ, ◌+◌, ◌<◌}
use native.Mathlib.Omega.{arith}
use lib.Dec.{eqb}
use borrow.Author.Tests.{eqb-true, eq-eqb, ne_eqb}
use Rattle.laws.specs.Sums.{sum_below, only, count}
use Rattle.laws.specs.Lists.{Member, has}
use Rattle.laws.proofs.Tests.{both, clash, is_false}
use Rattle.laws.proofs.Sums.{sum_at}

pub has_head : (i : ℕ) (l : List ℕ) → has (i ∷ l) i ≡ true
unfolding has
has_head i l = rw (eq-eqb i i refl)

pub has_tail : (i j : ℕ) (l : List ℕ) → j ≢ i → has (i ∷ l) j ≡ has l j
unfolding has
has_tail i j l q = rw (ne_eqb i j (λ e. q (sym e)))

pub has_append : (l k : List ℕ) (i : ℕ) → has (l ++ k) i ≡ (has l i || has k i)
unfolding has
has_append [] k i = refl
has_append (x ∷ l) k i = ap (λ b. eqb x i || b) (has_append l k i) ∙ sym (or_assoc (eqb x i) (has l i) (has k i))

-- the test is membership
pub member_has : (l : List ℕ) (i : ℕ) → Member i l → has l i ≡ true
unfolding has
member_has [] i m = absurd m
member_has (x ∷ l) i m = ⊎_elim (λ (e : i ≡ x). rw (eq-eqb x i (sym e))) (λ k. rw (member_has l i k) (or-true (eqb x i))) m

pub has_member : (l : List ℕ) (i : ℕ) → has l i ≡ true → Member i l
unfolding has
has_member [] i h = absurd (clash false h refl)
has_member (x ∷ l) i h = go (eqb x i) refl h (has_member l i)
  where
    go : (b : Bool) → eqb x i ≡ b → b || has l i ≡ true → (has l i ≡ true → Member i l) → Member i (x ∷ l)
    go true e h ih = inl (sym (eqb-true x i e))
    go false e h ih = inr (ih h)

-- lists with the same members pass the same tests
pub has_same : (l k : List ℕ) (i : ℕ) → Member i l ↔ Member i k → has l i ≡ has k i
has_same l k i e = go (has l i) refl
  where
    go : (b : Bool) → has l i ≡ b → b ≡ has k i
    go true h = sym (member_has k i (e.0 (has_member l i h)))
    go false h = sym (is_false (has k i) (λ t. clash (has l i) (member_has l i (e.1 (has_member k i t))) h))

-- each number of one list stands in another
unfoldable pub all_in : (l k : List ℕ) → Bool
all_in [] k = true
all_in (x ∷ l) k = has k x && all_in l k

pub member_in : (l k : List ℕ) → all_in l k ≡ true → (n : ℕ) → Member n l → Member n k
unfolding all_in
member_in [] k h n m = absurd m
member_in (x ∷ l) k h n m =
    let b = both (has k x) (all_in l k) h in
    ⊎_elim (λ (e : n ≡ x). subst (λ (i : ℕ). Member i k) (sym e) (has_member k x b.0)) (λ r. member_in l k b.1 n r) m

-- a sum over the members, with one more
pub has_sum : (f : ℕ → ℕ) (n i : ℕ) (l : List ℕ) → i < n → has l i ≡ false → sum_below (λ j. only (has (i ∷ l) j) (f j)) n ≡ sum_below (λ j. only (has l j) (f j)) n + f i
has_sum f n i l h e =
    omega (
      arith,
      sum_at (λ j. only (has (i ∷ l) j) (f j)) (λ j. only (has l j) (f j)) n i h (λ j _ q. ap (λ (x : Bool). only x (f j)) (has_tail i j l q)),
      ap (λ (x : Bool). only x (f i)) (has_head i l),
      ap (λ (x : Bool). only x (f i)) e,
    )

pub has_count : (n i : ℕ) (l : List ℕ) → i < n → has l i ≡ false → count (has (i ∷ l)) n ≡ count (has l) n + 1
unfolding count
has_count n i l h e = has_sum (λ _. 1) n i l h e
