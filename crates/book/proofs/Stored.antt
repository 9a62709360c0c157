-- Values stored at places, each once: what stands there, and what it adds up to. Assumes nothing.
use mathlib.Core.Path.{◌≡◌, refl, sym, ◌∙◌}
use mathlib.Core.Logic.{inl, inr}
use mathlib.Core.Bool.{Bool, true, false, cond}
use mathlib.Core.List.{List, [], ◌∷◌}
use Prim.Native.Nat.{ℕ, zero, suc, ◌+◌, ◌≤◌, ◌<◌, zero-le}
use native.Mathlib.Nat.{add-zero}
use native.Mathlib.Decide.{ℕ_discrete}
use native.Mathlib.Numerals.{add-one}
use native.Mathlib.Omega.{arith}
use lib.Dec.{eqb}
use lib.ListN.{length, get_or, set, drop, length-set, drop_of_length-le}
use lib.Seq.{drop-cons, get_or-set_other}
use Rattle.std.proofs.lemmas.Bool.Decides.{nat_tests}
use Rattle.std.proofs.lemmas.Grind.{common_steps}
use borrow.Author.Tests.{ne_eqb}
use Rattle.laws.specs.Sums.{sum_below, only, sum_of}
use Rattle.laws.specs.Lists.{table, keep, Member}
use Rattle.laws.proofs.Sums.{sum_zero, sum_at, sum_add, sum_head}
use Rattle.laws.proofs.Lists.{table_place, keep_members}
use Rattle.laws.proofs.Only.{only_eq}
use Rattle.book.specs.Clear.{stored}

-- a store keeps the length
pub length_stored : (places values into : List ℕ) → length (stored places values into) ≡ length into
unfolding stored
length_stored [] values into = refl
length_stored (i ∷ places) [] into = refl
length_stored (i ∷ places) (v ∷ values) into = length_stored places values (set into i v) ∙ length-set into i v

-- storing what is left at i is one store, and storing what is left then
pub stored_more : (places values out : List ℕ) (i : ℕ) → i < length places → length values ≡ length places
    → stored (drop (i + 1) places) (drop (i + 1) values) (set out (get_or places i 0) (get_or values i 0)) ≡ stored (drop i places) (drop i values) out
unfolding stored
stored_more places values out i h e = rw (drop-cons places i 0, drop-cons values i 0 (omega arith), add-one i)

-- with all stored, nothing is left
pub all_stored : (places values out : List ℕ) (i : ℕ) → length places ≤ i → stored (drop i places) values out ≡ out
unfolding stored
all_stored places values out i h = rw (drop_of_length-le places {i = i} h)

-- places that stand once each
abbrev pub Once : List ℕ → Type 0
Once [] = Unit
Once (i ∷ l) = (Member i l → ⊥) × Once l

pub once_keep : (p : ℕ → Bool) (l : List ℕ) → Once l → Once (keep p l)
unfolding keep
once_keep p [] o = o
once_keep p (x ∷ l) o = go (p x) (once_keep p l o.1)
  where
    go : (b : Bool) → Once (keep p l) → Once (cond b (x ∷ keep p l) (keep p l))
    go true ih = (λ m. o.0 ((keep_members p x l).0 m).0, ih)
    go false ih = ih

pub once_table : (f : ℕ → ℕ) (n : ℕ) → ((i j : ℕ) → i < j → f i < f j) → Once (table f n)
unfolding table
once_table f zero up = tt
once_table f (suc n) up =
    (λ m. let r = table_place (λ i. f (suc i)) n (f 0) m in omega (arith, up 0 (suc r.0) (omega arith), r.2), once_table (λ i. f (suc i)) n (λ i j h. up (suc i) (suc j) (omega arith)))

-- what a place is given: its value, or nothing
unfoldable pub value_at : (places values : List ℕ) → ℕ → ℕ
value_at [] values i = 0
value_at (j ∷ places) [] i = 0
value_at (j ∷ places) (v ∷ values) i = only (eqb j i) v + value_at places values i

pub value_none : (places values : List ℕ) (i : ℕ) → (Member i places → ⊥) → value_at places values i ≡ 0
unfolding value_at
value_none [] values i q = refl
value_none (j ∷ places) [] i q = refl
value_none (j ∷ places) (v ∷ values) i q = rw (ne_eqb j i (λ e. q (inl (sym e)))) (omega (arith, value_none places values i (λ m. q (inr m))))

-- one store into a list that has nothing there
store_one : (into : List ℕ) (j v i : ℕ) → j < length into → get_or into j 0 ≡ 0 → get_or (set into j v) i 0 ≡ get_or into i 0 + only (eqb j i) v
store_one into j v i h z = elim (ℕ_discrete i j) [ yes e ↦ grind (arith, common_steps, nat_tests) | no q ↦ grind (arith, common_steps, nat_tests) ]

-- values stored where nothing stands, each place once: each place has its value besides what it had
pub stored_is : (places values into : List ℕ) → Once places → ((j : ℕ) → Member j places → (j < length into) × (get_or into j 0 ≡ 0))
    → (i : ℕ) → get_or (stored places values into) i 0 ≡ get_or into i 0 + value_at places values i
unfolding stored value_at
stored_is [] values into o free i = sym (add-zero (get_or into i 0))
stored_is (j ∷ places) [] into o free i = sym (add-zero (get_or into i 0))
stored_is (j ∷ places) (v ∷ values) into o free i =
    let at = free j (inl refl) in
    let here = store_one into j v i at.0 at.1 in
    let rest = stored_is places values (set into j v) o.1 (λ k m. let f = free k (inr m) in (omega (arith, length-set into j v), get_or-set_other into j k v 0 (λ e. o.0 (rw (← e) m)) ∙ f.1)) i in
    omega arith

-- the values add up
pub sum_value : (places values : List ℕ) (n : ℕ) → length values ≡ length places → ((j : ℕ) → Member j places → j < n) → sum_below (value_at places values) n ≡ sum_of values
unfolding value_at sum_of sum_below
sum_value [] [] n e h = sum_zero (λ _. 0) n (λ i _. refl)
sum_value [] (v ∷ values) n e h = absurd (omega arith)
sum_value (j ∷ places) [] n e h = absurd (omega arith)
sum_value (j ∷ places) (v ∷ values) n e h =
    omega (
      arith,
      sum_add (λ i. only (eqb j i) v) (value_at places values) n,
      sum_at (λ i. only (eqb j i) v) (λ _. 0) n j (h j (inl refl)) (λ i _ q. grind (arith, nat_tests)),
      only_eq j j v refl,
      sum_zero (λ _. 0) n (λ i _. refl),
      sum_value places values n (omega arith) (λ k m. h k (inr m)),
      sum_head (λ i. get_or (v ∷ values) i 0) (length values),
    )

-- a place is given no more than f says, where each value is at most what f says of its place
pub value_within : (f : ℕ → ℕ) (places values : List ℕ) → Once places → ((k : ℕ) → k < length places → get_or values k 0 ≤ f (get_or places k 0)) → (i : ℕ) → value_at places values i ≤ f i
unfolding value_at
value_within f [] values o h i = zero-le
value_within f (j ∷ places) [] o h i = zero-le
value_within f (j ∷ places) (v ∷ values) o h i =
    let rest = value_within f places values o.1 (λ k l. h (suc k) (omega arith)) i in
    let first = h 0 (omega arith) in
    let none = value_none places values j o.0 in
    elim (ℕ_discrete i j) [ yes e ↦ rw e (grind (arith, nat_tests)) | no q ↦ grind (arith, nat_tests) ]
