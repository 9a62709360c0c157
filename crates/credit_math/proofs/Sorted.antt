-- Handing the residue out by the source's stable sort comes to the lots by rank.
use Rattle.std.proofs.Common.{◌≡◌, ℕ, zero, suc, ◌+◌, ◌<◌, ltb, eqb, arith, List, [], ◌∷◌, length, get_or, set, take, refl}
use Rattle.std.proofs.lemmas.Bool.Decides.{nat_tests}
use Rattle.std.proofs.lemmas.Grind.{common_steps}
use Rattle.laws.specs.Sums.{only, sum_of}
use Rattle.laws.specs.Lists.{table}
use Rattle.laws.proofs.Lists.{length_table, get_or_table, is_table}
use Rattle.laws.proofs.Sort.{sum_in}
use Rattle.laws.proofs.Ranked.{count_in, sorted_at_rank}
use Rattle.credit_math.specs.ProRata.{precedes, hand_out, shares, lots, turns, share}
use Rattle.credit_math.specs.Ranks.{before, rank, lot}
use Rattle.credit_math.proofs.Turns.{before_irrefl, before_trans, before_total, before_later}

-- a unit handed out keeps the length
length_hand_out : (places : List ℕ) (r : ℕ) (out : List ℕ) → length (hand_out places r out) ≡ length out
unfolding hand_out
length_hand_out [] r out = refl
length_hand_out (j ∷ places) zero out = refl
length_hand_out (j ∷ places) (suc r) out = grind (arith, common_steps, length_hand_out places r (set out j (get_or out j 0 + 1)))

-- one unit at a place
unit_at : (out : List ℕ) (j i : ℕ) → i < length out → get_or (set out j (get_or out j 0 + 1)) i 0 ≡ get_or out i 0 + only (eqb j i) 1
unit_at out j i h = grind (arith, common_steps, nat_tests)

-- a place is given a unit for each time that it is among the first r
handed : (places : List ℕ) (r : ℕ) (out : List ℕ) (i : ℕ) → i < length out → get_or (hand_out places r out) i 0 ≡ get_or out i 0 + count_in (λ j. eqb j i) (take r places)
unfolding hand_out sum_in
handed [] zero out i h = omega arith
handed [] (suc r) out i h = omega arith
handed (j ∷ places) zero out i h = omega arith
handed (j ∷ places) (suc r) out i h = grind (arith, common_steps, handed places r (set out j (get_or out j 0 + 1)) i, unit_at out j i h)

module _ (qtys : List ℕ) (total : ℕ) where
  -- each place has its share
  pub shares_at : (i : ℕ) → i < length qtys → get_or (shares qtys total) i 0 ≡ share total (sum_of qtys) (get_or qtys i 0)
  unfolding shares
  shares_at i h = grind (arith, get_or_table)

  -- as many shares as quantities
  pub length_shares : length (shares qtys total) ≡ length qtys
  unfolding shares
  length_shares = grind (arith, length_table)

module _ (ids qtys : List ℕ) where
  -- a place is among the first r where fewer than r places come before it
  pub turns_at : (r i : ℕ) → i < length qtys → count_in (λ j. eqb j i) (take r (turns ids qtys)) ≡ only (ltb (rank ids qtys i) r) 1
  unfolding turns rank
  turns_at r i h = sorted_at_rank (precedes ids qtys) (before ids qtys) (before_irrefl ids qtys) (before_trans ids qtys) (before_total ids qtys) (before_later ids qtys) (length qtys) r i h

module _ (ids qtys : List ℕ) (total : ℕ) where
  -- as many lots as quantities
  pub length_lots : length (lots ids qtys total) ≡ length qtys
  unfolding lots shares
  length_lots = grind (arith, length_hand_out, length_table)

  -- each place has its lot
  pub lots_at_lem : (i : ℕ) → i < length qtys → get_or (lots ids qtys total) i 0 ≡ lot ids qtys total i
  unfolding lots lot
  lots_at_lem i h = grind (arith, handed, length_shares, shares_at, turns_at)

  -- the lots, place by place
  pub lots_table : lots ids qtys total ≡ table (lot ids qtys total) (length qtys)
  lots_table = is_table (lot ids qtys total) (length qtys) 0 (lots ids qtys total) length_lots lots_at_lem
