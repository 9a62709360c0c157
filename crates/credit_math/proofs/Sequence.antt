-- The sequence in which the residue is handed out: a place stands in it at its rank. Assumes nothing.
use mathlib.Core.Path.{◌≡◌, refl, sym, ap, ◌∙◌}
use mathlib.Core.Logic.{◌⊎◌, ⊎_elim, inl, inr}
use mathlib.Core.Bool.{Bool, true, false}
use mathlib.Core.List.{List}
use Prim.Native.Nat.{ℕ, suc, ◌+◌, ◌≤◌, ◌<◌}
use native.Mathlib.Omega.{arith}
use borrow.Author.Tests.{eq-eqb, lt-ltb, le-ltb}
use lib.Dec.{ltb, eqb}
use lib.ListN.{length, get_or, take}
use lib.Seq.{take-suc}
use Rattle.laws.specs.Sums.{only}
use Rattle.laws.specs.Lists.{table}
use Rattle.laws.proofs.Tests.{tested, lt_or_le}
use Rattle.laws.proofs.Sums.{only_one, count_mono}
use Rattle.laws.proofs.Lists.{length_table, table_place, member_table, member_place, get_or_member}
use Rattle.laws.proofs.Sort.{length_sort, sort_members}
use Rattle.laws.proofs.Ranked.{count_in}
use Rattle.laws.proofs.Placed.{count_in_last}
use Rattle.credit_math.specs.ProRata.{precedes, turns}
use Rattle.credit_math.specs.Ranks.{before, rank}
use Rattle.credit_math.proofs.Turns.{before_trans, before_total}
use Rattle.credit_math.proofs.Sorted.{turns_at}

module _ (ids qtys : List ℕ) where
  abbrev n : ℕ
  n = length qtys

  abbrev T : List ℕ
  T = turns ids qtys

  -- as many turns as places
  pub length_turns : length T ≡ n
  unfolding turns
  length_turns = length_sort (precedes ids qtys) (table (λ i. i) n) ∙ length_table (λ (i : ℕ). i) n

  -- each turn is a place
  pub turn_below : (k : ℕ) → k < n → get_or T k 0 < n
  unfolding turns
  turn_below k h =
      let m = get_or_member T k (omega (arith, length_turns)) in
      let r = table_place (λ i. i) n (get_or T k 0) ((sort_members (precedes ids qtys) (get_or T k 0) (table (λ i. i) n)).0 m) in
      omega (arith, r.1, r.2)

  -- one place more of the sequence
  turn_more : (k i : ℕ) → k < n → i < n → only (ltb (rank ids qtys i) k) 1 + only (eqb (get_or T k 0) i) 1 ≡ only (ltb (rank ids qtys i) (suc k)) 1
  turn_more k i h g =
      ap (λ (c : ℕ). c + only (eqb (get_or T k 0) i) 1) (sym (turns_at ids qtys k i g))
      ∙ sym (count_in_last (λ j. eqb j i) (take k T) (get_or T k 0))
      ∙ ap (count_in (λ j. eqb j i)) (sym (take-suc T k 0 (omega (arith, length_turns))))
      ∙ turns_at ids qtys (suc k) i g

  -- what stands in it at a place has as many before it
  pub turn_rank : (k : ℕ) → k < n → rank ids qtys (get_or T k 0) ≡ k
  turn_rank k h = go (rank ids qtys (get_or T k 0)) refl (lt_or_le (rank ids qtys (get_or T k 0)) k) (lt_or_le (rank ids qtys (get_or T k 0)) (suc k))
    where
      more : only (ltb (rank ids qtys (get_or T k 0)) k) 1 + 1 ≡ only (ltb (rank ids qtys (get_or T k 0)) (suc k)) 1
      more =
          ap (λ (b : Bool). only (ltb (rank ids qtys (get_or T k 0)) k) 1 + only b 1) (sym (eq-eqb (get_or T k 0) (get_or T k 0) refl))
          ∙ turn_more k (get_or T k 0) h (turn_below k h)

      go : (r : ℕ) → rank ids qtys (get_or T k 0) ≡ r → (r < k) ⊎ (k ≤ r) → (r < suc k) ⊎ (suc k ≤ r) → r ≡ k
      go r e (inl a) b = absurd (omega (arith, rw e at more, ap (λ (b : Bool). only b 1) (lt-ltb r k a), only_one (ltb r (suc k))))
      go r e (inr a) (inl b) = omega arith
      go r e (inr a) (inr b) = absurd (omega (arith, rw e at more, ap (λ (b : Bool). only b 1) (le-ltb r (suc k) b)))

  -- each place stands in it
  stands : (k : ℕ) → k < n → (m : ℕ) × (m < length T) × (k ≡ get_or T m 0)
  unfolding turns
  stands k h = member_place k T ((sort_members (precedes ids qtys) k (table (λ i. i) n)).1 (member_table (λ i. i) n k h))

  -- so its rank is one of its places, and there it stands
  pub rank_below : (k : ℕ) → k < n → rank ids qtys k < n
  rank_below k h = let m = stands k h in omega (arith, m.1, length_turns, ap (rank ids qtys) m.2, turn_rank m.0 (omega (arith, m.1, length_turns)))

  pub rank_turn : (k : ℕ) → k < n → get_or T (rank ids qtys k) 0 ≡ k
  rank_turn k h =
      let m = stands k h in
      ap (λ (r : ℕ). get_or T r 0) (ap (rank ids qtys) m.2 ∙ turn_rank m.0 (omega (arith, m.1, length_turns))) ∙ sym m.2

  -- and of two places the one of lower rank comes before the other
  pub rank_before : (i j : ℕ) → rank ids qtys i < rank ids qtys j → before ids qtys i j ≡ true
  unfolding rank
  rank_before i j h =
      ⊎_elim (λ (t : before ids qtys i j ≡ true). t)
      (λ (t : before ids qtys i j ≡ false).
      ⊎_elim
      (λ (u : before ids qtys j i ≡ true).
      absurd (omega (arith, count_mono (λ m. before ids qtys m j) (λ m. before ids qtys m i) n (λ m _ v. before_trans ids qtys m j i v u))))
      (λ (u : before ids qtys j i ≡ false). absurd (omega (arith, ap (rank ids qtys) (before_total ids qtys i j t u))))
      (tested (before ids qtys j i)))
      (tested (before ids qtys i j))
