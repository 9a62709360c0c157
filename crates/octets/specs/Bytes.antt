-- 'Numbers are little-endian in files.'
use Rattle.std.specs.Prelude.{Bool, if◌then◌else◌, List, ℕ, zero, suc, ◌+◌, ◌*◌, ◌-◌, ◌^◌, nat_lt, ◌==◌, ℤ, pos, negsuc, slice_index}
use Rattle.laws.specs.Lists.{table}

-- the number of k bytes at a place; bytes past the end are 0
abbrev pub word : (k : ℕ) → List ℕ → (at : ℕ) → ℕ
word zero s at = 0
word (suc k) s at = slice_index s at + 256 * word k s (at + 1)

-- k bytes at a place; past the end they are 0
abbrev pub bytes_at : (k : ℕ) → List ℕ → (at : ℕ) → List ℕ
bytes_at k s at = table (λ i. slice_index s (at + i)) k

-- 'times and `rofr_window` are signed': two's complement of 64 bits
unfoldable pub signed : ℕ → ℤ
signed n = if nat_lt n (2 ^ 63) then pos n else negsuc (2 ^ 64 - 1 - n)

abbrev pub time_at : List ℕ → (at : ℕ) → ℤ
time_at s at = signed (word 8 s at)

-- a flag, 0 or 1
abbrev pub flag_at : List ℕ → (at : ℕ) → Bool
flag_at s at = word 1 s at == 1
