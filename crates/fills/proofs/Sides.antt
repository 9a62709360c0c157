-- A test of every place of a list is the same as a test of every element. Assumes nothing.
use mathlib.Core.Path.{◌≡◌, refl, ap, ◌∙◌}
use mathlib.Core.Bool.{Bool}
use mathlib.Core.List.{List}
use Prim.Native.Nat.{ℕ, zero, suc, ◌≤◌}
use native.Mathlib.Nat.{le_refl}
use native.Mathlib.Numerals.{add-one}
use native.Mathlib.Omega.{arith}
use lib.ListN.{length, get_or, take}
use Rattle.std.specs.List.{list_all}
use Rattle.std.proofs.lemmas.List.{take_all}
use Rattle.std.proofs.lemmas.List.Folds.{list_all_more}
use Rattle.laws.specs.Search.{every}

module _ {A : Type 0} (p : A → Bool) (d : A) (l : List A) where
  -- of the first n places
  every_take : (n : ℕ) → n ≤ length l → every (λ i. p (get_or l i d)) n ≡ list_all p (take n l)
  unfolding every
  every_take zero h = refl
  every_take (suc n) h = rw (every_take n (omega arith), ← list_all_more p l n d (omega arith), add-one)

  -- of all places
  pub every_list : every (λ i. p (get_or l i d)) (length l) ≡ list_all p l
  every_list = every_take (length l) (le_refl _) ∙ ap (list_all p) (take_all (length l) l (le_refl _))
