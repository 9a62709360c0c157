-- Answers that `RightPrice` shuts out, on the orders of case L: one that refuses with whatever number, one that fails for whatever reason (NoCross
-- without looking), another price or volume. Assumes nothing.
use mathlib.Core.Path.{◌≡◌, refl, ◌∙◌}
use mathlib.Core.Logic.{◌≢◌}
use mathlib.Core.Bool.{Bool, true, false}
use mathlib.Core.List.{List, [], ◌∷◌}
use Prim.Native.Nat.{ℕ}
use native.Mathlib.Omega.{arith}
use Rattle.laws.specs.Sums.{sum_below}
use Rattle.laws.specs.Lists.{keep}
use Rattle.laws.specs.Sort.{insert, sort, dedup}
use Rattle.laws.specs.Lex.{lex}
use Rattle.laws.specs.Checks.{unless, first_of}
use Rattle.credit_math.specs.Price.{buy, sell, executed, imbalance, executes, better, candidates, clear_price, price_refusal, find_uniform_clear_price, Found, refused, failed, cross}
use Rattle.credit_math.specs.Claims.{RightPrice}
use Rattle.credit_math.proofs.PriceTheorems.{price_is_right}

abbrev is_buy : List Bool
is_buy = true ∷ true ∷ false ∷ false ∷ []

abbrev limits : List ℕ
limits = 12 ∷ 11 ∷ 9 ∷ 11 ∷ []

abbrev qtys : List ℕ
qtys = 5 ∷ 3 ∷ 4 ∷ 3 ∷ []

abbrev Right : Found → Type 0
Right = RightPrice is_buy limits qtys 9 10

finds : find_uniform_clear_price is_buy limits qtys 9 10 ≡ cross 11 7
unfolding find_uniform_clear_price price_refusal clear_price candidates better executes imbalance executed sell buy sum_below keep insert sort dedup lex unless first_of
finds = refl

-- the one answer
the_answer : (a : Found) → Right a → a ≡ cross 11 7
the_answer a h = (price_is_right is_buy limits qtys 9 10).one_answer a h ∙ finds

not_refused : (number : ℕ) → Right (refused number) → ⊥
not_refused number h = let e = the_answer (refused number) h in let z : ◌≡◌ {A = ℕ} 0 1 = cc in omega arith

not_failed : (reason : ℕ) → Right (failed reason) → ⊥
not_failed reason h = let e = the_answer (failed reason) h in let z : ◌≡◌ {A = ℕ} 0 1 = cc in omega arith

not_other_price : (p v : ℕ) → p ≢ 11 → Right (cross p v) → ⊥
not_other_price p v ne h = let e = the_answer (cross p v) h in ne cc

not_other_volume : (p v : ℕ) → v ≢ 7 → Right (cross p v) → ⊥
not_other_volume p v ne h = let e = the_answer (cross p v) h in ne cc
