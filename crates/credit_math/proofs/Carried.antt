-- A sum carried along the places: after each place, the row of its limit holds the sum so far, and in the end the total of the places up to that limit. Assumes
-- nothing.
use mathlib.Core.Path.{◌≡◌, refl, sym, ◌∙◌, ap}
use mathlib.Core.Logic.{◌≢◌, ⊎_elim}
use mathlib.Core.Bool.{Bool, true, false, ◌&&◌}
use Prim.Native.Nat.{ℕ, zero, suc, ◌+◌, ◌-◌, ◌*◌, ◌^◌, ◌≤◌, ◌<◌}
use native.Mathlib.Nat.{lt_of_le_of_lt, lt_of_lt_of_le, eq-or-lt_of_le}
use native.Mathlib.Decide.{ℕ_discrete}
use native.Mathlib.Omega.{arith}
use lib.Dec.{ltb, leb}
use borrow.Author.Tests.{lt-ltb, le-ltb, lt-leb, le-leb}
use Rattle.laws.specs.Sums.{sum_below, only}
use Rattle.laws.proofs.Tests.{clash, lt_or_le}
use Rattle.laws.proofs.Sums.{sum_none, sum_suc, sum_same, sum_zero, sum_at, sum_le_sum, sum_mono}
use Rattle.laws.proofs.Widths.{sum_below_lem}

-- a term that counts where the rest of its test holds
only_and : (a b : Bool) (x : ℕ) → (a ≡ true → b ≡ true) → only a x ≡ only (a && b) x
only_and true b x h = rw (h refl)
only_and false b x h = refl

-- a term that counts is at most the quantity
pub only_within : (a : Bool) (x : ℕ) → only a x ≤ x
only_within true x = omega arith
only_within false x = omega arith

-- the terms below j
sum_until : (f : ℕ → ℕ) (n j : ℕ) → j ≤ n → sum_below (λ h. only (ltb h j) (f h)) n ≡ sum_below f j
sum_until f zero j l = let z : j ≡ 0 = omega arith in sum_none (λ h. only (ltb h j) (f h)) ∙ sym (ap (λ (m : ℕ). sum_below f m) z ∙ sum_none f)
sum_until f (suc n) j l =
    ⊎_elim
    (λ (e : j ≡ suc n).
    sum_same (λ h. only (ltb h j) (f h)) f (suc n) (λ h g. ap (λ (b : Bool). only b (f h)) (lt-ltb h j (omega arith))) ∙ ap (λ (m : ℕ). sum_below f m) (sym e))
    (λ (g : j < suc n).
    omega (arith, sum_suc (λ h. only (ltb h j) (f h)) n, sum_until f n j (omega arith), ap (λ (b : Bool). only b (f n)) (le-ltb n j (omega arith))))
    (eq-or-lt_of_le l)

-- the tests from j on and from the place behind it on agree at every other place
pub from_next : (j k h : ℕ) → k ≡ suc j → h ≢ j → leb j h ≡ leb k h
from_next j k h e ne =
    ⊎_elim (λ (a : h < j). lt-leb j h a ∙ sym (lt-leb k h (omega arith))) (λ (a : j ≤ h). le-leb j h a ∙ sym (le-leb k h (omega arith))) (lt_or_le h j)

-- the last m terms, from the last on
sum_back : (f : ℕ → ℕ) (n m : ℕ) → m ≤ n → sum_below (λ h. only (leb (n - m) h) (f h)) n ≡ sum_below (λ k. f (n - 1 - k)) m
sum_back f n zero l =
    sum_zero (λ h. only (leb (n - 0) h) (f h)) n (λ h g. ap (λ (b : Bool). only b (f h)) (lt-leb (n - 0) h (omega arith))) ∙ sym (sum_none (λ k. f (n - 1 - k)))
sum_back f n (suc m) l =
    let j = n - suc m in
    omega (
      arith,
      sum_at (λ h. only (leb j h) (f h)) (λ h. only (leb (n - m) h) (f h)) n j (omega arith) (λ h _ ne. ap (λ (b : Bool). only b (f h)) (from_next j (n - m) h (omega arith) ne)),
      ap (λ (b : Bool). only b (f j)) (le-leb j j (omega arith)),
      ap (λ (b : Bool). only b (f j)) (lt-leb (n - m) j (omega arith)),
      sum_back f n m (omega arith),
      sum_suc (λ k. f (n - 1 - k)) m,
      ap f (let e : n - 1 - m ≡ j = omega arith in e),
    )

-- n places, each with its value, what it adds and its row; `le` is the order in which they are passed
module _ (n : ℕ) (v q row : ℕ → ℕ) (le : ℕ → ℕ → Bool) where
  -- some places are done: the sum is theirs, and each row of theirs holds what those up to its value add
  pub record Carrying (done : ℕ → Bool) (sum : ℕ) (out : ℕ → ℕ) : Type 0 where
    pub carried : sum ≡ sum_below (λ h. only (done h) (q h)) n
    pub held : (i : ℕ) → i < n → done i ≡ true → out (row i) ≡ sum_below (λ h. only (done h && le (v h) (v i)) (q h)) n
    pub blank : (m : ℕ) → ((i : ℕ) → i < n → done i ≡ true → row i ≢ m) → out m ≡ 0

  pub carrying : {done : ℕ → Bool} {sum : ℕ} {out : ℕ → ℕ} → ((h : ℕ) → h < n → done h ≡ false) → sum ≡ 0 → ((m : ℕ) → out m ≡ 0) → Carrying done sum out
  carrying {done} {sum} {out} none e z = record {
    carried = e ∙ sym (sum_zero (λ h. only (done h) (q h)) n (λ h l. ap (λ (b : Bool). only b (q h)) (none h l)));
    held = λ i l t. absurd (clash (done i) t (none i l));
    blank = λ m _. z m;
  }

  -- j is next: it is not below any that is done, and above those of other rows
  pub record Next (done done' : ℕ → Bool) (j : ℕ) : Type 0 where
    pub inside : j < n
    pub new : done j ≡ false
    pub now : done' j ≡ true
    pub else : (h : ℕ) → h ≢ j → done' h ≡ done h
    pub order : (h : ℕ) → h < n → done' h ≡ true → le (v h) (v j) ≡ true
    pub apart : (i : ℕ) → i < n → done i ≡ true → row i ≢ row j → le (v j) (v i) ≡ false
    pub same : (i : ℕ) → i < n → row i ≡ row j → v i ≡ v j

  module _ {done done' : ℕ → Bool} {sum : ℕ} {out : ℕ → ℕ} (c : Carrying done sum out) {j : ℕ} (x : Next done done' j) where
    -- the sum with j in it
    with_next : sum + q j ≡ sum_below (λ h. only (done' h) (q h)) n
    with_next =
        omega (
          arith,
          c.carried,
          sum_at (λ h. only (done' h) (q h)) (λ h. only (done h) (q h)) n j x.inside (λ h _ ne. ap (λ (b : Bool). only b (q h)) (x.else h ne)),
          ap (λ (b : Bool). only b (q j)) x.now,
          ap (λ (b : Bool). only b (q j)) x.new,
        )

    -- it fits where all that the places add does
    pub next_fits : (k m bound : ℕ) → n ≤ m → m * 2 ^ k ≤ bound → ((h : ℕ) → q h < 2 ^ k) → sum + q j < bound
    next_fits k m bound few fits short =
        rw with_next
        (lt_of_le_of_lt (sum_le_sum (λ h. only (done' h) (q h)) q n (λ h _. only_within (done' h) (q h)))
        (lt_of_lt_of_le (lt_of_le_of_lt (sum_mono q n m few) (sum_below_lem k q m short (omega (arith, x.inside)))) fits))

    module _ {out' : ℕ → ℕ} (stored : out' (row j) ≡ sum + q j) (others : (m : ℕ) → m ≢ row j → out' m ≡ out m) where
      in_row : (i : ℕ) → i < n → row i ≡ row j → out' (row i) ≡ sum_below (λ h. only (done' h && le (v h) (v i)) (q h)) n
      in_row i l e =
          ap out' e ∙ stored ∙ with_next
          ∙ sum_same (λ h. only (done' h) (q h)) (λ h. only (done' h && le (v h) (v i)) (q h)) n
          (λ h g. only_and (done' h) (le (v h) (v i)) (q h) (λ t. ap (le (v h)) (x.same i l e) ∙ x.order h g t))

      elsewhere : (i : ℕ) → i < n → done i ≡ true → row i ≢ row j → out' (row i) ≡ sum_below (λ h. only (done' h && le (v h) (v i)) (q h)) n
      elsewhere i l t ne =
          others (row i) ne ∙ c.held i l t
          ∙ sum_same (λ h. only (done h && le (v h) (v i)) (q h)) (λ h. only (done' h && le (v h) (v i)) (q h)) n (λ h _. go h (ℕ_discrete h j))
        where
          go : (h : ℕ) → Dec (h ≡ j) → only (done h && le (v h) (v i)) (q h) ≡ only (done' h && le (v h) (v i)) (q h)
          go h (yes e) = rw (e, x.new, x.now, x.apart i l t ne)
          go h (no e) = rw (x.else h e)

      pub carrying_more : (sum' : ℕ) → sum' ≡ sum + q j → Carrying done' sum' out'
      carrying_more sum' e = record {
        carried = e ∙ with_next;
        held = λ i l t. go i l t (ℕ_discrete (row i) (row j));
        blank = λ m none. others m (λ f. none j x.inside x.now (sym f)) ∙ c.blank m (λ i l t. none i l (kept i t));
      }
        where
          kept : (i : ℕ) → done i ≡ true → done' i ≡ true
          kept i t = x.else i (λ f. clash (done j) (ap done (sym f) ∙ t) x.new) ∙ t

          was : (i : ℕ) → done' i ≡ true → row i ≢ row j → done i ≡ true
          was i t ne = sym (x.else i (λ f. ne (ap row f))) ∙ t

          go : (i : ℕ) → i < n → done' i ≡ true → Dec (row i ≡ row j) → out' (row i) ≡ sum_below (λ h. only (done' h && le (v h) (v i)) (q h)) n
          go i l t (yes f) = in_row i l f
          go i l t (no f) = elsewhere i l (was i t f) f

  -- all done: each row holds the total up to its value
  module _ {done : ℕ → Bool} {sum : ℕ} {out : ℕ → ℕ} (c : Carrying done sum out) (all : (h : ℕ) → h < n → done h ≡ true) where
    pub total_held : (i : ℕ) → i < n → out (row i) ≡ sum_below (λ h. only (le (v h) (v i)) (q h)) n
    total_held i l =
        c.held i l (all i l)
        ∙ sum_same (λ h. only (done h && le (v h) (v i)) (q h)) (λ h. only (le (v h) (v i)) (q h)) n (λ h g. ap (λ (b : Bool). only (b && le (v h) (v i)) (q h)) (all h g))

    pub none_held : (m : ℕ) → ((i : ℕ) → i < n → row i < m) → out m ≡ 0
    none_held m h = c.blank m (λ i l t e. omega (arith, h i l))

  -- what is carried up to j is the sum of the places below j; and down to j that of the places from the last on
  pub carried_up : {sum j : ℕ} {out : ℕ → ℕ} → Carrying (λ h. ltb h j) sum out → j ≤ n → sum ≡ sum_below q j
  carried_up {sum} {j} c l = c.carried ∙ sum_until q n j l

  pub carried_down : {sum j : ℕ} {out : ℕ → ℕ} → Carrying (λ h. leb j h) sum out → j ≤ n → sum ≡ sum_below (λ k. q (n - 1 - k)) (n - j)
  carried_down {sum} {j} c l =
      let e : j ≡ n - (n - j) = omega arith in
      c.carried ∙ ap (λ (i : ℕ). sum_below (λ h. only (leb i h) (q h)) n) e ∙ sum_back q n (n - j) (omega arith)
