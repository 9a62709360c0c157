-- What std says of a chain over a slice, and the tests below a count that the definitions speak of. Assumes nothing.
use Rattle.std.proofs.Common.{◌≡◌, ℕ, zero, suc, ◌≤◌, Bool, List, ◌&&◌, ◌||◌, length, get_or, take, refl, sym, ap, ◌∙◌, add-one, arith}
use Rattle.std.specs.List.{list_all, list_any}
use Rattle.std.proofs.lemmas.List.Folds.{list_all_more, list_any_more}
use Rattle.laws.specs.Search.{every, some}

module _ {A : Type 0} (p : A → Bool) (d : A) (l : List A) where
  -- a test of the first n
  pub every_of : (n : ℕ) → n ≤ length l → list_all p (take n l) ≡ every (λ i. p (get_or l i d)) n
  unfolding every
  every_of zero h = refl
  every_of (suc n) h =
      ap (λ (k : ℕ). list_all p (take k l)) (sym (add-one n)) ∙ list_all_more p l n d (omega arith) ∙ ap (λ (b : Bool). b && p (get_or l n d)) (every_of n (omega arith))

  -- a search among the first n
  pub some_of : (n : ℕ) → n ≤ length l → list_any p (take n l) ≡ some (λ i. p (get_or l i d)) n
  unfolding some
  some_of zero h = refl
  some_of (suc n) h =
      ap (λ (k : ℕ). list_any p (take k l)) (sym (add-one n)) ∙ list_any_more p l n d (omega arith) ∙ ap (λ (b : Bool). b || p (get_or l n d)) (some_of n (omega arith))
