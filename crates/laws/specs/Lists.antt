-- Lists of numbers: tables, membership, equality.
use Rattle.std.specs.Cmp.Lexicographic.{pointwise}
use Rattle.std.specs.Prelude.{Bool, false, if◌then◌else◌, ◌||◌, ◌⊎◌, ◌≡◌, List, [], ◌∷◌, ℕ, zero, suc, ◌==◌}

-- f 0, f 1, .., f (n - 1)
unfoldable pub table : {A : Type 0} → (ℕ → A) → ℕ → List A
table f zero = []
table f (suc n) = f 0 ∷ table (λ i. f (suc i)) n

-- those that pass, in their order
unfoldable pub keep : {A : Type 0} → (A → Bool) → List A → List A
keep p [] = []
keep p (x ∷ l) = if p x then x ∷ keep p l else keep p l

-- n stands in the list
abbrev pub Member : ℕ → List ℕ → Type 0
Member n [] = ⊥
Member n (x ∷ l) = (n ≡ x) ⊎ Member n l

-- the same as a test
unfoldable pub has : List ℕ → ℕ → Bool
has [] n = false
has (x ∷ l) n = x == n || has l n

-- two lists are the same: as long, and each number of one equal to the other's at its place
abbrev pub same : List ℕ → List ℕ → Bool
same = pointwise ◌==◌
