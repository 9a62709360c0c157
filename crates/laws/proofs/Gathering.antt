-- A loop that gathers what f says of those that pass: each is written at the next place of an array, and the place is kept where it passes. Assumes nothing.
use mathlib.Core.Path.{◌≡◌, refl, sym, ap, ◌∙◌, subst}
use mathlib.Core.Bool.{Bool, true, false, cond}
use mathlib.Core.List.{List, [], ◌∷◌, ◌++◌, map, append-nil}
use Prim.Native.Nat.{ℕ, zero, suc, ◌+◌, ◌≤◌, ◌<◌, zero-le}
use native.Mathlib.Nat.{le_refl, add-zero}
use native.Mathlib.Numerals.{add-one}
use native.Mathlib.Omega.{arith}
use lib.ListN.{length, set, take, length-set, length-append}
use lib.Seq.{take-suc-set, take-set-le}
use Rattle.laws.specs.Sums.{only}
use Rattle.laws.specs.Lists.{table, keep}

pub keep_append : {A : Type 0} (p : A → Bool) (l k : List A) → keep p (l ++ k) ≡ keep p l ++ keep p k
unfolding keep
keep_append p [] k = refl
keep_append p (x ∷ l) k = go (p x) (keep_append p l k)
  where
    go : (b : Bool) → keep p (l ++ k) ≡ keep p l ++ keep p k → cond b (x ∷ keep p (l ++ k)) (keep p (l ++ k)) ≡ cond b (x ∷ keep p l) (keep p l) ++ keep p k
    go true ih = ap (x ∷◌) ih
    go false ih = ih

pub map_append : {A B : Type 0} (f : A → B) (l k : List A) → map f (l ++ k) ≡ map f l ++ map f k
map_append f [] k = refl
map_append f (x ∷ l) k = ap (f x ∷◌) (map_append f l k)

pub keep_short : {A : Type 0} (p : A → Bool) (l : List A) → length (keep p l) ≤ length l
unfolding keep
keep_short p [] = zero-le
keep_short p (x ∷ l) = go (p x) (keep_short p l)
  where
    go : (b : Bool) → length (keep p l) ≤ length l → length (cond b (x ∷ keep p l) (keep p l)) ≤ suc (length l)
    go true ih = omega arith
    go false ih = omega arith

-- a table with one more entry
pub table_more : {A : Type 0} (f : ℕ → A) (n : ℕ) → table f (suc n) ≡ table f n ++ (f n ∷ [])
unfolding table
table_more f zero = refl
table_more f (suc n) = ap (f 0 ∷◌) (table_more (λ i. f (suc i)) n)

-- the first `count` places hold what f says of those of l that pass
pub record Gathering {A B : Type 0} (p : A → Bool) (f : A → B) (n : ℕ) (l : List A) (count : ℕ) (out : List B) : Type 0 where
  pub whole : length out ≡ n
  pub held : count ≡ length (keep p l)
  pub done : take count out ≡ map f (keep p l)

module _ {A B : Type 0} {p : A → Bool} {f : A → B} {n : ℕ} where
  pub gathering : {out : List B} → length out ≡ n → Gathering p f n [] 0 out
  unfolding keep
  gathering e = record { whole = e; held = refl; done = refl }

  module _ {l : List A} {count : ℕ} {out : List B} (x : A) (v : B) (g : Gathering p f n l count out) (room : count < n) (is : v ≡ f x) where
    kept_on : p x ≡ true → keep p (l ++ (x ∷ [])) ≡ keep p l ++ (x ∷ [])
    unfolding keep
    kept_on t = rw (keep_append p l (x ∷ []), t)

    passed : p x ≡ false → keep p (l ++ (x ∷ [])) ≡ keep p l
    unfolding keep
    passed t = rw (keep_append p l (x ∷ []), t) (append-nil (keep p l))

    inside : count < length out
    inside = subst (λ (m : ℕ). count < m) (sym g.whole) room

    go : (b : Bool) → p x ≡ b → Gathering p f n (l ++ (x ∷ [])) (count + only b 1) (set out count v)
    go true t = record {
      whole = length-set out count v ∙ g.whole;
      held = omega (arith, g.held, ap length (kept_on t), length-append (keep p l) (x ∷ []));
      done =
          ap (λ (k : ℕ). take k (set out count v)) (add-one count) ∙ take-suc-set out count v inside ∙ rw (g.done, is) (sym (map_append f (keep p l) (x ∷ [])))
          ∙ ap (map f) (sym (kept_on t));
    }
    go false t = record {
      whole = length-set out count v ∙ g.whole;
      held = omega (arith, g.held, ap length (passed t));
      done = ap (λ (k : ℕ). take k (set out count v)) (add-zero count) ∙ take-set-le count out count v (le_refl count) ∙ g.done ∙ ap (map f) (sym (passed t));
    }

    -- one more, written at the next place
    pub gathering_more : (b : Bool) → b ≡ p x → Gathering p f n (l ++ (x ∷ [])) (count + only b 1) (set out count v)
    gathering_more b e = go b (sym e)
