-- The limits of a book, and what follows from them.
use Rattle.std.specs.Prelude.{ℕ}

-- at most 16 orders
abbrev pub max_orders : ℕ
max_orders = 16

-- bits of a side's total: 'Side totals may reach 68 bits, the volume 67'
abbrev pub side_bits : ℕ
side_bits = 68

-- bits of the volume
abbrev pub volume_bits : ℕ
volume_bits = 67
