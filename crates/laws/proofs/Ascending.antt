-- Two ascents with the same values are one. Assumes nothing.
use mathlib.Core.Path.{◌≡◌, sym, ap, subst}
use mathlib.Core.Logic.{⊎_elim}
use Prim.Native.Nat.{ℕ, zero, suc, ◌≤◌, ◌<◌}
use native.Mathlib.Nat.{le_antisymm, le_of_suc-le-suc, eq-or-lt_of_le}
use native.Mathlib.Omega.{arith}
use Rattle.laws.proofs.Tests.{lt_or_le}

-- each of the first m values is above those before it
abbrev pub Ascends : (ℕ → ℕ) → ℕ → Type 0
Ascends f m = (i k : ℕ) → i < k → k < m → f i < f k

-- each of the first m values of f is one of the first n of g
abbrev pub Among : (f : ℕ → ℕ) (m : ℕ) (g : ℕ → ℕ) (n : ℕ) → Type 0
Among f m g n = (k : ℕ) → k < m → (j : ℕ) × (j < n) × (g j ≡ f k)

-- alike before k, the other reaches k, and is not above there
reaches : (f : ℕ → ℕ) (m : ℕ) (g : ℕ → ℕ) (n : ℕ) → Ascends f m → Ascends g n → Among f m g n → (k : ℕ) → ((i : ℕ) → i < k → f i ≡ g i) → k < m → (k < n) × (g k ≤ f k)
reaches f m g n up up' among k alike h =
    let r = among k h in
    ⊎_elim (λ (a : r.0 < k). let b = up r.0 k a h in absurd (omega (arith, alike r.0 a, r.2)))
    (λ (a : k ≤ r.0). (
      omega (arith, r.1),
      ⊎_elim (λ (e : k ≡ r.0). omega (arith, ap g e, r.2)) (λ (b : k < r.0). let c = up' k r.0 b r.1 in omega (arith, r.2)) (eq-or-lt_of_le a),
    ))
    (lt_or_le r.0 k)

module _ (f : ℕ → ℕ) (m : ℕ) (g : ℕ → ℕ) (n : ℕ) (up : Ascends f m) (up' : Ascends g n) (among : Among f m g n) (among' : Among g n f m) where
  -- alike before k, they are alike at k
  next : (k : ℕ) → ((i : ℕ) → i < k → f i ≡ g i) → k < m → (k < n) × (f k ≡ g k)
  next k before h =
      let r = reaches f m g n up up' among k before h in
      let s = reaches g n f m up' up among' k (λ i a. sym (before i a)) r.0 in (r.0, le_antisymm s.1 r.1)

  -- the first k
  alike : (k i : ℕ) → i < k → i < m → (i < n) × (f i ≡ g i)
  alike zero i h l = absurd (omega (arith, h))
  alike (suc k) i h l =
      ⊎_elim
      (λ (e : i ≡ k). subst (λ (j : ℕ). (j < n) × (f j ≡ g j)) (sym e) (next k (λ j a. (alike k j a (omega arith)).1) (subst (λ (j : ℕ). j < m) e l)))
      (λ (a : i < k). alike k i a l) (eq-or-lt_of_le (le_of_suc-le-suc h))

  no_more : m ≤ n
  no_more = ⊎_elim (λ (h : n < m). let a = (alike (suc n) n (omega arith) h).0 in absurd (omega (arith, a))) (λ (h : m ≤ n). h) (lt_or_le n m)

  alike_all : (k : ℕ) → k < m → f k ≡ g k
  alike_all k h = (alike (suc k) k (omega arith) h).1

-- as many values, and each is the other's
pub one_ascent : (f : ℕ → ℕ) (m : ℕ) (g : ℕ → ℕ) (n : ℕ) → Ascends f m → Ascends g n → Among f m g n → Among g n f m → (m ≡ n) × ((k : ℕ) → k < m → f k ≡ g k)
one_ascent f m g n up up' among among' =
    (le_antisymm (no_more f m g n up up' among among') (no_more g n f m up' up among' among), alike_all f m g n up up' among among')
