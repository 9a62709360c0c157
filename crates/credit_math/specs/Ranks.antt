-- What the private functions of pro-rata keep on the way. proofs/Sorted.antt shows that it comes to the definition of ProRata.antt.
use Rattle.std.specs.Prelude.{Bool, List, ℕ, ◌+◌, nat_lt, length, slice_index}
use Rattle.laws.specs.Sums.{only, count, sum_of}
use Rattle.laws.specs.Lex.{lex}
use Rattle.credit_math.specs.ProRata.{share, residue}

-- how many quantities are not 0
abbrev pub filled : (qtys : List ℕ) → ℕ
filled qtys = count (λ i. nat_lt 0 (slice_index qtys i)) (length qtys)

-- place j comes before place i: the larger quantity, then the lower id, then the earlier place
unfoldable pub before : (ids qtys : List ℕ) (j i : ℕ) → Bool
before ids qtys j i = lex (slice_index qtys i) (slice_index qtys j) (lex (slice_index ids j) (slice_index ids i) (nat_lt j i))

-- how many places come before i
unfoldable pub rank : (ids qtys : List ℕ) (i : ℕ) → ℕ
rank ids qtys i = count (λ j. before ids qtys j i) (length qtys)

-- a lot: the share, and one unit more where fewer places than the residue come before
unfoldable pub lot : (ids qtys : List ℕ) (total i : ℕ) → ℕ
lot ids qtys total i = share total (sum_of qtys) (slice_index qtys i) + only (nat_lt (rank ids qtys i) (residue qtys total)) 1
