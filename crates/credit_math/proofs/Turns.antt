-- The order of the places, by larger quantity, lower id and earlier place, is strict and total.
use Rattle.std.proofs.Common.{◌≡◌, ℕ, ◌<◌, ◌≤◌, true, false, ltb, arith, List, length, get_or}
use Rattle.std.proofs.lemmas.Bool.Decides.{nat_tests}
use Rattle.laws.specs.Lex.{lex}
use Rattle.laws.proofs.Sums.{count_mono}
use Rattle.credit_math.specs.ProRata.{precedes}
use Rattle.credit_math.specs.Ranks.{before, rank, filled}

module _ (ids qtys : List ℕ) where
  -- no place comes before itself
  pub before_irrefl : (i : ℕ) → before ids qtys i i ≡ false
  unfolding before lex
  before_irrefl i = grind (arith, nat_tests)

  -- one before another also comes before those behind it
  pub before_trans : (i j k : ℕ) → before ids qtys i j ≡ true → before ids qtys j k ≡ true → before ids qtys i k ≡ true
  unfolding before lex
  before_trans i j k h m = grind (arith, nat_tests)

  -- of two places one comes first
  pub before_total : (i j : ℕ) → before ids qtys i j ≡ false → before ids qtys j i ≡ false → i ≡ j
  unfolding before lex
  before_total i j h k = grind (arith, nat_tests)

  -- a later place comes first by quantity or id alone
  pub before_later : (i j : ℕ) → i < j → before ids qtys j i ≡ precedes ids qtys j i
  unfolding before precedes lex
  before_later i j h = grind (arith, nat_tests)

  -- a place that has a quantity comes before one of 0
  first : (i j : ℕ) → get_or qtys i 0 ≡ 0 → ltb 0 (get_or qtys j 0) ≡ true → before ids qtys j i ≡ true
  unfolding before lex
  first i j e t = grind (arith, nat_tests)

  -- so a place of quantity 0 comes after all that have one
  pub empty_last : (i : ℕ) → get_or qtys i 0 ≡ 0 → filled qtys ≤ rank ids qtys i
  unfolding rank
  empty_last i e = count_mono (λ j. ltb 0 (get_or qtys j 0)) (λ j. before ids qtys j i) (length qtys) (λ j _. first i j e)
