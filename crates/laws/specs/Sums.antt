-- Sums and counts over the numbers below a count: what arrays with counts are added up by.
use Rattle.std.specs.Prelude.{Bool, if◌then◌else◌, List, ℕ, zero, suc, ◌+◌, length, slice_index, slice_index_or}

-- f 0 + f 1 + .. + f (n - 1)
unfoldable pub sum_below : (ℕ → ℕ) → ℕ → ℕ
sum_below f zero = 0
sum_below f (suc n) = sum_below f n + f n

-- n where the test holds, else 0
abbrev pub only : Bool → ℕ → ℕ
only test n = if test then n else 0

-- how many of the numbers below n pass
unfoldable pub count : (ℕ → Bool) → ℕ → ℕ
count p n = sum_below (λ i. only (p i) 1) n

-- the numbers of a list added up
unfoldable pub sum_of : List ℕ → ℕ
sum_of l = sum_below (λ i. slice_index l i) (length l)

-- f of the first n elements added up; none stands for an element past the end
unfoldable pub sum_over : {A : Type 0} → (A → ℕ) → A → List A → ℕ → ℕ
sum_over f none l n = sum_below (λ i. f (slice_index_or l i none)) n
