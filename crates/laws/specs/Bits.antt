-- The bits of a word.
use Rattle.std.specs.Prelude.{Bool, ℕ, ◌/◌, ◌%◌, ◌^◌, ◌==◌}
use Rattle.std.specs.Int.Bits.{bit_or}

-- bit i of a word, 0 or 1
unfoldable pub bit : ℕ → ℕ → ℕ
bit word i = word / 2 ^ i % 2

-- bit i is set
abbrev pub is_set : ℕ → ℕ → Bool
is_set word i = bit word i == 1

-- the word with bit i set
unfoldable pub with_bit : ℕ → ℕ → ℕ
with_bit word i = bit_or word (2 ^ i)
