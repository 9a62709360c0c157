-- Places ranked by a strict total order: of n places, r have a rank below r. Assumes nothing.
use mathlib.Core.Path.{◌≡◌, refl, sym, ◌∙◌, ap}
use mathlib.Core.Logic.{◌⊎◌, inl, inr, ⊎_elim}
use mathlib.Core.Bool.{Bool, true, false}
use Prim.Native.Nat.{ℕ, zero, suc, ◌+◌, ◌-◌, ◌<◌, ◌≤◌, min}
use native.Mathlib.Nat.{ne_of_lt}
use native.Mathlib.Omega.{arith}
use lib.Dec.{ltb}
use borrow.Author.Tests.{lt-ltb, le-ltb}
use Rattle.laws.specs.Sums.{sum_below, only, count}
use Rattle.laws.proofs.Tests.{tested, lt_or_le, ltb_same}
use Rattle.laws.proofs.Sums.{count_le, count_mono, count_more, count_same}

module _ (R : ℕ → ℕ → Bool)
    (irrefl : (i : ℕ) → R i i ≡ false)
    (trans : (i j k : ℕ) → R i j ≡ true → R j k ≡ true → R i k ≡ true)
    (total : (i j : ℕ) → R i j ≡ false → R j i ≡ false → i ≡ j) where
  -- how many of the first n places come before i
  abbrev rank : ℕ → ℕ → ℕ
  rank n i = count (λ j. R j i) n

  -- those below rank r
  abbrev picked : ℕ → ℕ → ℕ
  picked n r = count (λ i. ltb (rank n i) r) n

  before : (n i : ℕ) → i < n → R i n ≡ true → rank n i < rank n n
  before n i l h = count_more (λ j. R j i) (λ j. R j n) n i l (irrefl i) h (λ j _ t. trans j i n t h)

  behind : (n i : ℕ) → R n i ≡ true → rank n n ≤ rank n i
  behind n i h = count_mono (λ j. R j n) (λ j. R j i) n (λ j _ t. trans j n i t h)

  rank_suc : (n i : ℕ) → rank (suc n) i ≡ rank n i + only (R n i) 1
  unfolding count sum_below
  rank_suc n i = refl

  -- i comes before n, or after it
  sides : (n i : ℕ) → i < n → ((R i n ≡ true) × (R n i ≡ false)) ⊎ (R n i ≡ true)
  sides n i l =
      ⊎_elim (λ (t : R n i ≡ true). inr t)
      (λ (t : R n i ≡ false). ⊎_elim (λ (u : R i n ≡ true). inl (u, t)) (λ (u : R i n ≡ false). absurd (ne_of_lt l (total i n u t))) (tested (R i n)))
      (tested (R n i))

  low : (n r i : ℕ) → r ≤ rank n n → i < n → ltb (rank (suc n) i) r ≡ ltb (rank n i) r
  low n r i h l =
      ⊎_elim (λ s. ap (λ (x : ℕ). ltb x r) (omega (arith, rank_suc n i, ap (λ (b : Bool). only b 1) s.1)))
      (λ (s : R n i ≡ true). le-ltb (rank (suc n) i) r (omega (arith, rank_suc n i, behind n i s)) ∙ sym (le-ltb (rank n i) r (omega (arith, behind n i s))))
      (sides n i l)

  high : (n r i : ℕ) → rank n n < r → i < n → ltb (rank (suc n) i) r ≡ ltb (rank n i) (r - 1)
  high n r i h l =
      ⊎_elim
      (λ s. let e : rank (suc n) i ≡ rank n i = omega (arith, rank_suc n i, ap (λ (b : Bool). only b 1) s.1) in
      lt-ltb (rank (suc n) i) r (omega (arith, before n i l s.0)) ∙ sym (lt-ltb (rank n i) (r - 1) (omega (arith, before n i l s.0))))
      (λ (s : R n i ≡ true).
      let e : rank (suc n) i ≡ rank n i + 1 = rank_suc n i ∙ ap (λ (b : Bool). rank n i + only b 1) s in
      ltb_same {a = rank (suc n) i} {b = r} {c = rank n i} {d = r - 1} (λ x. omega (arith, e)) (λ x. omega (arith, e)))
      (sides n i l)

  picked_suc : (n r : ℕ) → picked (suc n) r ≡ count (λ i. ltb (rank (suc n) i) r) n + only (ltb (rank (suc n) n) r) 1
  unfolding count sum_below
  picked_suc n r = refl

  itself : (n : ℕ) → rank (suc n) n ≡ rank n n
  itself n = omega (arith, rank_suc n n, ap (λ (b : Bool). only b 1) (irrefl n))

  none_picked : (r : ℕ) → picked 0 r ≡ 0
  unfolding count sum_below
  none_picked r = refl

  -- of n places, r have a rank below r
  pub picked_all : (n r : ℕ) → picked n r ≡ min r n
  picked_all zero r = omega (arith, none_picked r)
  picked_all (suc n) r =
      ⊎_elim
      (λ (h : rank n n < r).
      omega (
        arith,
        itself n,
        count_same (λ i. ltb (rank (suc n) i) r) (λ i. ltb (rank n i) (r - 1)) n (λ i l. high n r i h l),
        picked_all n (r - 1),
        picked_suc n r,
        ap (λ (b : Bool). only b 1) (lt-ltb (rank (suc n) n) r (omega (arith, itself n))),
      ))
      (λ (h : r ≤ rank n n).
      omega (
        arith,
        itself n,
        count_le (λ j. R j n) n,
        count_same (λ i. ltb (rank (suc n) i) r) (λ i. ltb (rank n i) r) n (λ i l. low n r i h l),
        picked_all n r,
        picked_suc n r,
        ap (λ (b : Bool). only b 1) (le-ltb (rank (suc n) n) r (omega (arith, itself n))),
      ))
      (lt_or_le (rank n n) r)
