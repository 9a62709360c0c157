-- Laws of tables, stores, filters and equal lists. Assumes nothing.
use mathlib.Core.Path.{◌≡◌, refl, sym, ap, ap₂, ◌∙◌, subst}
use mathlib.Core.Logic.{◌≢◌, ◌↔◌, inl, inr, ⊎_elim}
use mathlib.Core.Bool.{Bool, true, false, cond, ◌&&◌}
use mathlib.Core.List.{List, [], ◌∷◌, map}
use Prim.Native.Nat.{ℕ, zero, suc, ◌+◌, ◌≤◌, ◌<◌}
use native.Mathlib.Nat.{le_of_suc-le-suc, lt_of_lt_of_le}
use native.Mathlib.Numerals.{add-one}
use native.Mathlib.Omega.{arith}
use lib.Dec.{eqb}
use borrow.Author.Tests.{eqb-true, eq-eqb}
use Rattle.std.proofs.lemmas.List.{get_or-map}
use lib.ListN.{length, get_or, set, drop, replicate, length-map, length-replicate, get_or-replicate, drop_of_length-le, get_or-eq_default}
use lib.Seq.{ext_get_or, drop-cons}
use Rattle.laws.specs.Sums.{sum_below, sum_of, sum_over}
use Rattle.laws.specs.Lists.{table, keep, Member, same}
use Rattle.laws.proofs.Tests.{both, clash, lt_or_le}
use Rattle.laws.proofs.Sums.{sum_same}

pub length_table : {A : Type 0} (f : ℕ → A) (n : ℕ) → length (table f n) ≡ n
unfolding table
length_table f zero = refl
length_table f (suc n) = ap suc (length_table (λ i. f (suc i)) n)

pub get_or_table : {A : Type 0} (f : ℕ → A) (n k : ℕ) (d : A) → k < n → get_or (table f n) k d ≡ f k
unfolding table
get_or_table f zero k d h = absurd (omega (arith, h))
get_or_table f (suc n) zero d h = refl
get_or_table f (suc n) (suc k) d h = get_or_table (λ i. f (suc i)) n k d (le_of_suc-le-suc h)

pub table_same : {A : Type 0} (f g : ℕ → A) (n : ℕ) → ((i : ℕ) → i < n → f i ≡ g i) → table f n ≡ table g n
unfolding table
table_same f g zero h = refl
table_same f g (suc n) h = ap₂ (λ x l. x ∷ l) (h 0 (omega arith)) (table_same (λ i. f (suc i)) (λ i. g (suc i)) n (λ i l. h (suc i) (omega (arith, l))))

-- a list is the table of its places
pub is_table : {A : Type 0} (f : ℕ → A) (n : ℕ) (d : A) (l : List A) → length l ≡ n → ((k : ℕ) → k < n → get_or l k d ≡ f k) → l ≡ table f n
is_table f n d l e h =
    ext_get_or d l (table f n) (e ∙ sym (length_table f n)) (λ k m. let p : k < n = subst (λ (x : ℕ). k < x) e m in h k p ∙ sym (get_or_table f n k d p))

-- the numbers of a table added up
pub sum_table : (f : ℕ → ℕ) (n : ℕ) → sum_of (table f n) ≡ sum_below f n
unfolding sum_of
sum_table f n = rw (length_table f n) (sum_same (λ i. get_or (table f n) i 0) f n (λ i h. get_or_table f n i 0 h))

-- what stands in a table
pub member_table : (f : ℕ → ℕ) (n i : ℕ) → i < n → Member (f i) (table f n)
unfolding table
member_table f zero i h = absurd (omega (arith, h))
member_table f (suc n) zero h = inl refl
member_table f (suc n) (suc i) h = inr (member_table (λ k. f (suc k)) n i (le_of_suc-le-suc h))

pub table_member : (P : ℕ → Type 0) (f : ℕ → ℕ) (n : ℕ) → ((i : ℕ) → P (f i)) → (x : ℕ) → Member x (table f n) → P x
unfolding table
table_member P f zero h x m = absurd m
table_member P f (suc n) h x m = ⊎_elim (λ (e : x ≡ f 0). rw e (h 0)) (λ k. table_member P (λ i. f (suc i)) n (λ i. h (suc i)) x k) m

pub table_place : (f : ℕ → ℕ) (n x : ℕ) → Member x (table f n) → (i : ℕ) × (i < n) × (x ≡ f i)
unfolding table
table_place f zero x m = absurd m
table_place f (suc n) x m =
    ⊎_elim (λ (e : x ≡ f 0). (0, omega arith, e)) (λ k. let r = table_place (λ i. f (suc i)) n x k in (suc r.0, omega (arith, r.1), r.2)) m

-- what stands in a list at a place
pub get_or_member : (l : List ℕ) (k : ℕ) → k < length l → Member (get_or l k 0) l
get_or_member [] k h = absurd (omega (arith, h))
get_or_member (x ∷ l) zero h = inl refl
get_or_member (x ∷ l) (suc k) h = inr (get_or_member l k (le_of_suc-le-suc h))

pub member_place : (x : ℕ) (l : List ℕ) → Member x l → (k : ℕ) × (k < length l) × (x ≡ get_or l k 0)
member_place x [] m = absurd m
member_place x (y ∷ l) m =
    ⊎_elim (λ (e : x ≡ y). (0, omega arith, e)) (λ k. let r = member_place x l k in (suc r.0, omega (arith, r.1), r.2)) m

-- what stands in a list from a place on stands in it
pub member_drop : (x i : ℕ) (l : List ℕ) → Member x (drop i l) → Member x l
member_drop x zero l m = m
member_drop x (suc i) [] m = m
member_drop x (suc i) (y ∷ l) m = inr (member_drop x i l m)

-- zeros stand in a list of zeros, and past its end
pub get_or_nothing : (n i : ℕ) → get_or {A = ℕ} (replicate n 0) i 0 ≡ 0
get_or_nothing n i =
    ⊎_elim (λ (h : i < n). get_or-replicate n i 0 0 h) (λ (h : n ≤ i). get_or-eq_default (replicate n 0) 0 {n = i} (omega (arith, length-replicate {A = ℕ} n 0))) (lt_or_le i n)

-- a list mapped: added up, and what stands in it
pub sum_map : {A : Type 0} (f : A → ℕ) (d : A) (l : List A) → sum_of (map f l) ≡ sum_over f d l (length l)
unfolding sum_of sum_over
sum_map f d l = rw (length-map l f) (sum_same (λ k. get_or (map f l) k 0) (λ k. f (get_or l k d)) (length l) (λ k h. get_or-map f l k d 0 h))

pub map_members : (f : ℕ → ℕ) (x : ℕ) (l : List ℕ) → Member x (map f l) ↔ ((i : ℕ) × Member i l × (x ≡ f i))
map_members f x [] = (absurd, λ h. h.1)
map_members f x (y ∷ l) =
    let ih = map_members f x l in (
      λ m. ⊎_elim (λ (e : x ≡ f y). (y, inl refl, e)) (λ k. let r = ih.0 k in (r.0, inr r.1, r.2)) m,
      λ h. ⊎_elim (λ (e : h.0 ≡ y). inl (h.2 ∙ ap f e)) (λ k. inr (ih.1 (h.0, k, h.2))) h.1,
    )

-- a loop that writes a table: its first i places hold what f says
pub record Writing {A : Type 0} (f : ℕ → A) (d : A) (n i : ℕ) (out : List A) : Type 0 where
  pub whole : length out ≡ n
  pub done : (k : ℕ) → k < i → get_or out k d ≡ f k

module _ {A : Type 0} {f : ℕ → A} {d : A} {n : ℕ} where
  pub written : {i : ℕ} {out : List A} → Writing f d n i out → n ≤ i → out ≡ table f n
  written {i} {out} w h = is_table f n d out w.whole (λ k l. w.done k (lt_of_lt_of_le l h))

-- f does not see a store
pub unseen : {A B : Type 0} (f : A → B) (l : List A) (i : ℕ) (a d : A) → f a ≡ f (get_or l i d) → (j : ℕ) → f (get_or (set l i a) j d) ≡ f (get_or l j d)
unseen f [] i a d e j = refl
unseen f (x ∷ l) zero a d e zero = e
unseen f (x ∷ l) zero a d e (suc j) = refl
unseen f (x ∷ l) (suc i) a d e zero = refl
unseen f (x ∷ l) (suc i) a d e (suc j) = unseen f l i a d e j

-- lists that are the same are equal, and the other way round
pub same_refl : (l : List ℕ) → same l l ≡ true
same_refl [] = refl
same_refl (x ∷ l) = rw (eq-eqb x x refl) (same_refl l)

pub same_true : (l k : List ℕ) → same l k ≡ true → l ≡ k
same_true [] [] e = refl
same_true [] (y ∷ k) e = cc
same_true (x ∷ l) [] e = cc
same_true (x ∷ l) (y ∷ k) e = let h = both _ _ e in ap₂ ◌∷◌ (eqb-true x y h.0) (same_true l k h.1)

pub same_eq : (l k : List ℕ) → l ≡ k → same l k ≡ true
same_eq l k e = rw e (same_refl k)

pub same_ne : (l k : List ℕ) → l ≢ k → same l k ≡ false
same_ne l k q = go (same l k) refl
  where
    go : (x : Bool) → same l k ≡ x → same l k ≡ false
    go true e = absurd (q (same_true l k e))
    go false e = e

-- a loop that compares two lists of length k: what is left decides
abbrev pub SamePast : List ℕ → List ℕ → ℕ → ℕ → Type 0
SamePast a b k i = (i ≤ k) × (same a b ≡ same (drop i a) (drop i b))

module _ (a b : List ℕ) (k i : ℕ) (ha : length a ≡ k) (hb : length b ≡ k) where
  pub same_end : SamePast a b k i → k ≤ i → true ≡ same a b
  same_end v h = rw (v.1, drop_of_length-le a {i = i} (omega arith), drop_of_length-le b {i = i} (omega arith))

  same_next : i < k → same (drop i a) (drop i b) ≡ (eqb (get_or a i 0) (get_or b i 0) && same (drop (suc i) a) (drop (suc i) b))
  same_next h = rw (drop-cons a i 0 (omega arith), drop-cons b i 0 (omega arith))

  pub same_more : i < k → SamePast a b k i → get_or a i 0 ≡ get_or b i 0 → SamePast a b k (i + 1)
  same_more h v e = (omega arith, v.1 ∙ rw (add-one, same_next h, eq-eqb _ _ e))

-- what stands among those that pass: what stands in the list and passes
pub keep_members : (p : ℕ → Bool) (z : ℕ) (l : List ℕ) → Member z (keep p l) ↔ (Member z l × (p z ≡ true))
unfolding keep
keep_members p z [] = (absurd, λ h. h.0)
keep_members p z (x ∷ l) = go (p x) refl (keep_members p z l)
  where
    go : (b : Bool) → p x ≡ b → Member z (keep p l) ↔ (Member z l × (p z ≡ true))
        → Member z (cond b (x ∷ keep p l) (keep p l)) ↔ (Member z (x ∷ l) × (p z ≡ true))
    go true t ih = (
      λ h. ⊎_elim (λ e. (inl e, ap p e ∙ t)) (λ m. (inr (ih.0 m).0, (ih.0 m).1)) h,
      λ h. ⊎_elim inl (λ m. inr (ih.1 (m, h.1))) h.0,
    )
    go false t ih = (
      λ m. (inr (ih.0 m).0, (ih.0 m).1),
      λ h. ⊎_elim (λ e. absurd (clash (p z) h.1 (ap p e ∙ t))) (λ m. ih.1 (m, h.1)) h.0,
    )
