-- A stable sort of the places below n puts each place at its rank, the number of places that come before it. Assumes nothing.
use mathlib.Core.Path.{◌≡◌, refl, sym, ◌∙◌, ap}
use mathlib.Core.Logic.{inl, inr, ⊎_elim}
use mathlib.Core.Bool.{Bool, true, false, cond}
use mathlib.Core.List.{List, [], ◌∷◌}
use Prim.Native.Nat.{ℕ, zero, suc, ◌+◌, ◌<◌}
use native.Mathlib.Nat.{ne_of_lt, zero-add}
use native.Mathlib.Omega.{arith}
use lib.Dec.{ltb, eqb}
use lib.ListN.{take}
use borrow.Author.Tests.{le-ltb, lt-ltb, eq-eqb, ne_eqb}
use Rattle.laws.specs.Sums.{only, count}
use Rattle.laws.specs.Lists.{table, Member}
use Rattle.laws.specs.Sort.{insert, sort}
use Rattle.laws.proofs.Tests.{tested, clash, is_false, ltb_same}
use Rattle.laws.proofs.Lists.{member_table, table_member}
use Rattle.laws.proofs.Sort.{insert_members, sort_members, sum_in, sum_in_table, sum_in_sort}

-- how many elements of a list pass
abbrev pub count_in : (ℕ → Bool) → List ℕ → ℕ
count_in p l = sum_in (λ x. only (p x) 1) l

count_in_none : (p : ℕ → Bool) (l : List ℕ) → ((x : ℕ) → Member x l → p x ≡ false) → count_in p l ≡ 0
unfolding sum_in
count_in_none p [] h = refl
count_in_none p (x ∷ l) h = omega (arith, ap (λ b. only b 1) (h x (inl refl)), count_in_none p l (λ y m. h y (inr m)))

count_in_table : (p : ℕ → Bool) (f : ℕ → ℕ) (n : ℕ) → count_in p (table f n) ≡ count (λ i. p (f i)) n
unfolding count
count_in_table p f n = sum_in_table (λ x. only (p x) 1) f n

member_take : (r i : ℕ) (l : List ℕ) → Member i (take r l) → Member i l
member_take zero i l m = absurd m
member_take (suc r) i [] m = m
member_take (suc r) i (x ∷ l) m = ⊎_elim inl (λ t. inr (member_take r i l t)) m

-- each element comes before all that follow it
abbrev Ascending : (ℕ → ℕ → Bool) → List ℕ → Type 0
Ascending R [] = Unit
Ascending R (x ∷ l) = ((y : ℕ) → Member y l → R x y ≡ true) × Ascending R l

-- R is a strict total order. P may leave ties; where a later place could come first, R says what P says, so that ties go to the earlier place
module _ (P R : ℕ → ℕ → Bool)
    (irrefl : (i : ℕ) → R i i ≡ false)
    (trans : (i j k : ℕ) → R i j ≡ true → R j k ≡ true → R i k ≡ true)
    (total : (i j : ℕ) → R i j ≡ false → R j i ≡ false → i ≡ j)
    (ties : (i j : ℕ) → i < j → R j i ≡ P j i) where
  after : (i j : ℕ) → R i j ≡ true → R j i ≡ false
  after i j h = is_false (R j i) (λ t. clash (R i i) (trans i j i h t) (irrefl i))

  other : (i j : ℕ) → R i j ≡ true → eqb j i ≡ false
  other i j h = ne_eqb j i (λ e. clash (R i i) (ap (R i) (sym e) ∙ h) (irrefl i))

  ascending_insert : (x : ℕ) (l : List ℕ) → ((y : ℕ) → Member y l → x < y) → Ascending R l → Ascending R (insert P x l)
  unfolding insert
  ascending_insert x [] b a = (λ y m. absurd m, tt)
  ascending_insert x (y ∷ l) b a = go (P y x) refl (ascending_insert x l (λ z m. b z (inr m)) a.1)
    where
      go : (t : Bool) → P y x ≡ t → Ascending R (insert P x l) → Ascending R (cond t (y ∷ insert P x l) (x ∷ y ∷ l))
      go true e ih = (λ z m. ⊎_elim (λ q. ap (R y) q ∙ ties x y (b y (inl refl)) ∙ e) (λ k. a.0 z k) ((insert_members P z x l).0 m), ih)
      go false e ih =
          let l' : x < y = b y (inl refl) in
          let h : R x y ≡ true = ⊎_elim (λ (t : R x y ≡ true). t) (λ (t : R x y ≡ false). absurd (ne_of_lt l' (total x y t (ties x y l' ∙ e)))) (tested (R x y)) in
          (λ z m. ⊎_elim (λ q. ap (R x) q ∙ h) (λ k. trans x y z h (a.0 z k)) m, a)

  ascending_table : (f : ℕ → ℕ) (n : ℕ) → ((i j : ℕ) → i < j → f i < f j) → Ascending R (sort P (table f n))
  unfolding table sort
  ascending_table f zero m = tt
  ascending_table f (suc n) m =
      ascending_insert (f 0) (sort P (table (λ i. f (suc i)) n))
      (λ y k. table_member (λ y. f 0 < y) (λ i. f (suc i)) n (λ i. m 0 (suc i) (omega arith)) y ((sort_members P y (table (λ i. f (suc i)) n)).0 k))
      (ascending_table (λ i. f (suc i)) n (λ i j h. m (suc i) (suc j) (omega arith)))

  -- i is once among the first r of l where fewer than r of l come before it
  abbrev AtRank : (r i : ℕ) → List ℕ → Type 0
  AtRank r i l = count_in (λ j. eqb j i) (take r l) ≡ only (ltb (count_in (λ j. R j i) l) r) 1

  -- the first of an ascending list
  at_head : (r i : ℕ) (l : List ℕ) → ((y : ℕ) → Member y l → R i y ≡ true) → AtRank (suc r) i (i ∷ l)
  unfolding sum_in
  at_head r i l a =
      rw (
        eq-eqb i i refl,
        irrefl i,
        count_in_none (λ j. eqb j i) (take r l) (λ y m. other i y (a y (member_take r y l m))),
        count_in_none (λ j. R j i) l (λ y m. after i y (a y m)),
        lt-ltb 0 (suc r) (omega arith),
      )

  -- one behind it
  at_tail : (r i x : ℕ) (l : List ℕ) → R x i ≡ true → AtRank r i l → AtRank (suc r) i (x ∷ l)
  unfolding sum_in
  at_tail r i x l h ih =
      rw (ne_eqb x i (λ e. clash (R x x) (ap (R x) e ∙ h) (irrefl x)), h)
      (zero-add _ ∙ ih ∙ ap (λ (b : Bool). only b 1) (ltb_same {a = count_in (λ j. R j i) l} {b = r} {c = 1 + count_in (λ j. R j i) l} {d = suc r} (λ u. omega arith) (λ u. omega arith)))

  at_rank : (r i : ℕ) (l : List ℕ) → Ascending R l → Member i l → AtRank r i l
  unfolding sum_in
  at_rank r i [] a m = absurd m
  at_rank zero i (x ∷ l) a m = sym (ap (λ (b : Bool). only b 1) (le-ltb (count_in (λ j. R j i) (x ∷ l)) 0 (omega arith)))
  at_rank (suc r) i (x ∷ l) a m =
      ⊎_elim (λ (e : i ≡ x). rw (← e) (at_head r i l (rw (← e) at a.0))) (λ k. at_tail r i x l (a.0 i k) (at_rank r i l a.1 k)) m

  -- of the places below n, sorted: place i is once among the first r where fewer than r places come before it
  pub sorted_at_rank : (n r i : ℕ) → i < n → count_in (λ j. eqb j i) (take r (sort P (table (λ k. k) n))) ≡ only (ltb (count (λ j. R j i) n) r) 1
  sorted_at_rank n r i h =
      at_rank r i (sort P (table (λ k. k) n)) (ascending_table (λ k. k) n (λ _ _ l. l)) ((sort_members P i (table (λ k. k) n)).1 (member_table (λ k. k) n i h))
      ∙ ap (λ (k : ℕ). only (ltb k r) 1) (sum_in_sort P (λ j. only (R j i) 1) (table (λ k. k) n) ∙ count_in_table (λ j. R j i) (λ k. k) n)
