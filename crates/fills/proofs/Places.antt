-- Lots by place: those of one side, and a fill that changes one of them. Assumes nothing.
use mathlib.Core.Path.{◌≡◌, refl, sym, ap, ap₂, ◌∙◌}
use mathlib.Core.Logic.{◌≢◌}
use mathlib.Core.Bool.{Bool, ◌&&◌}
use mathlib.Core.List.{List, [], ◌∷◌, map}
use Prim.Native.Nat.{ℕ, zero, suc, ◌≤◌, ◌<◌}
use native.Mathlib.Omega.{arith}
use borrow.Author.Tests.{le-leb, eq-eqb}
use lib.Dec.{ltb, leb, eqb}
use lib.ListN.{length, get_or}
use Rattle.std.proofs.lemmas.Grind.{common_steps}
use Rattle.laws.specs.Sums.{only}
use Rattle.laws.specs.Search.{every}
use Rattle.laws.specs.Lists.{table, keep}
use Rattle.laws.proofs.Search.{every_all}
use Rattle.laws.proofs.Lists.{length_table, get_or_table, table_same}
use Rattle.laws.proofs.Checking.{check_pass, unless_pass}
use Rattle.credit_math.specs.Limits.{max_orders}
use Rattle.book.specs.Book.{buy_side, sell_side}
use Rattle.fills.specs.FillCount.{lots_on, fill_count, fill_count_refusal, fill_count_answer}
use Rattle.fills.specs.Steps.{nonzero, fills_of, lot_on}
use Rattle.fills.proofs.Fills.{nonzero_none}

-- the lots above 0 of the places that pass
kept_lots : (p : ℕ → Bool) (lot f : ℕ → ℕ) (n : ℕ)
    → map lot (keep (λ i. p i && ltb 0 (lot i)) (table f n)) ≡ nonzero (table (λ i. only (p (f i)) (lot (f i))) n)
unfolding nonzero keep table
kept_lots p lot f zero = refl
kept_lots p lot f (suc n) = grind (arith, common_steps, kept_lots p lot (λ i. f (suc i)) n)

-- a side's lots by place
on_side : (side : ℕ) (lots sides : List ℕ) → lots_on side lots sides ≡ nonzero (table (lot_on side lots sides) (length lots))
unfolding lots_on lot_on
on_side side lots sides = kept_lots (λ i. eqb (get_or sides i 0) side) (λ i. get_or lots i 0) (λ i. i) (length lots)

-- the number of fills is that of the two sides' lots by place
pub count_by_place : (lots sides : List ℕ)
    → fill_count lots sides ≡ fills_of (table (lot_on buy_side lots sides) (length lots)) (table (lot_on sell_side lots sides) (length lots))
unfolding fill_count fills_of
count_by_place lots sides = rw (on_side buy_side lots sides, on_side sell_side lots sides)

module _ (lot side : ℕ → ℕ) (n : ℕ) where
  -- a side's lots of tables by place
  on_table : (x : ℕ) → table (lot_on x (table lot n) (table side n)) (length (table lot n)) ≡ table (λ i. only (eqb (side i) x) (lot i)) n
  unfolding lot_on
  on_table x = rw (length_table lot n) (table_same _ _ n (λ i l. rw (get_or_table side n i 0 l, get_or_table lot n i 0 l)))

  -- the figure of lots and sides that stand in tables
  pub count_table : fill_count (table lot n) (table side n)
      ≡ fills_of (table (λ i. only (eqb (side i) buy_side) (lot i)) n) (table (λ i. only (eqb (side i) sell_side) (lot i)) n)
  count_table = count_by_place (table lot n) (table side n) ∙ ap₂ fills_of (on_table buy_side) (on_table sell_side)

  -- tables of few lots with known sides are not refused
  accepted : n ≤ max_orders → ((i : ℕ) → i < n → side i ≤ 1) → fill_count_refusal (table lot n) (table side n) ≡ 0
  unfolding fill_count_refusal
  accepted few known =
      check_pass _ _ _ (le-leb (length (table lot n)) max_orders (omega (arith, length_table lot n, few)))
      (check_pass _ _ _ (eq-eqb _ _ (length_table side n ∙ sym (length_table lot n)))
      (unless_pass _ _ (ap (every (λ i. leb (get_or (table side n) i 0) 1)) (length_table side n)
      ∙ every_all _ n (λ i l. le-leb (get_or (table side n) i 0) 1 (omega (arith, get_or_table side n i 0 l, known i l))))))

  -- the answer for such tables
  pub answer_table : n ≤ max_orders → ((i : ℕ) → i < n → side i ≤ 1)
      → fill_count_answer (table lot n) (table side n) ≡ record { refusal = 0; count = fill_count (table lot n) (table side n) }
  unfolding fill_count_answer
  answer_table few known = rw (accepted few known)

-- the first lot above 0 stands at i, and h differs from g at i only
pub record Split (g h : ℕ → ℕ) (n i : ℕ) : Type 0 where
  pub rest : List ℕ
  pub old : nonzero (table g n) ≡ nonzero (g i ∷ rest)
  pub new : nonzero (table h n) ≡ nonzero (h i ∷ rest)

-- such a place splits the lots
pub split : (g h : ℕ → ℕ) (n i : ℕ) → i < n → ((j : ℕ) → j < i → g j ≡ 0) → ((j : ℕ) → j < n → j ≢ i → h j ≡ g j) → Split g h n i
unfolding table
split g h zero i l z e = absurd (omega (arith, l))
split g h (suc n) zero l z e =
    record {
      rest = table (λ k. g (suc k)) n;
      old = refl;
      new = ap (λ k. nonzero (h 0 ∷ k)) (table_same (λ k. h (suc k)) (λ k. g (suc k)) n (λ k m. e (suc k) (omega arith) (omega arith)));
    }
split g h (suc n) (suc i) l z e =
    let S = split (λ k. g (suc k)) (λ k. h (suc k)) n i (omega arith) (λ j m. z (suc j) (omega arith)) (λ j m q. e (suc j) (omega arith) (omega arith)) in
    record {
      rest = S.rest;
      old = nonzero_none (g 0) _ (z 0 (omega arith)) ∙ S.old;
      new = nonzero_none (h 0) _ (e 0 (omega arith) (omega arith) ∙ z 0 (omega arith)) ∙ S.new;
    }

-- no lot above 0, no lots
pub nothing : (g : ℕ → ℕ) (n : ℕ) → ((i : ℕ) → i < n → g i ≡ 0) → nonzero (table g n) ≡ []
unfolding table nonzero keep
nothing g zero z = refl
nothing g (suc n) z = grind (arith, common_steps, z 0, nothing (λ i. g (suc i)) n (λ i l. z (suc i) (omega arith)))
