-- The skip word has 32 bits. Assumes nothing.
use Rattle.std.proofs.Common.{◌≡◌, ℕ, ◌^◌, ◌<◌, ◌≤◌}
use Rattle.laws.specs.Bits.{bit}
use Rattle.laws.proofs.Bits.{bit_past}

-- a word of 32 bits has no bit from 32 on
pub no_bit_past : (word i : ℕ) → word < 2 ^ 32 → 32 ≤ i → bit word i ≡ 0
no_bit_past word i h l = bit_past word 32 i h l
