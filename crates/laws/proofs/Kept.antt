-- Laws of filters: of any list, and of the numbers below n, which stay in their order. Assumes nothing.
use mathlib.Core.Path.{◌≡◌, refl, sym, ap, ◌∙◌, subst}
use mathlib.Core.Logic.{◌↔◌, ⊎_elim}
use mathlib.Core.Bool.{Bool, true, false}
use mathlib.Core.List.{List, [], ◌∷◌}
use Prim.Native.Nat.{ℕ, ◌+◌, ◌<◌}
use native.Mathlib.Nat.{zero-add}
use lib.ListN.{length}
use Rattle.laws.specs.Sums.{sum_below, only, sum_over}
use Rattle.laws.specs.Lists.{table, keep, Member}
use Rattle.laws.proofs.Tests.{tested}
use Rattle.laws.proofs.Sums.{over_cons}
use Rattle.laws.proofs.Lists.{member_table, table_place, keep_members}

-- a sum over those that pass
pub sum_keep : {A : Type 0} (f : A → ℕ) (d : A) (p : A → Bool) (l : List A)
    → sum_over f d (keep p l) (length (keep p l)) ≡ sum_over (λ x. only (p x) (f x)) d l (length l)
unfolding keep sum_over sum_below
sum_keep f d p [] = refl
sum_keep f d p (x ∷ l) =
    rw (over_cons (λ x. only (p x) (f x)) d x l (length l))
    (⊎_elim (λ (t : p x ≡ true). rw t (over_cons f d x (keep p l) (length (keep p l)) ∙ ap (f x +◌) (sum_keep f d p l)))
    (λ (t : p x ≡ false). rw t (sum_keep f d p l ∙ sym (zero-add _)))
    (tested (p x)))

pub kept_members : (p : ℕ → Bool) (n x : ℕ) → Member x (keep p (table (λ i. i) n)) ↔ ((x < n) × (p x ≡ true))
kept_members p n x =
    let kept = keep_members p x (table (λ i. i) n) in (
      λ m. let r = table_place (λ i. i) n x (kept.0 m).0 in (subst (λ (y : ℕ). y < n) (sym r.2) r.1, (kept.0 m).1),
      λ h. kept.1 (member_table (λ i. i) n x h.0, h.1),
    )
