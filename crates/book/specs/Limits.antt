-- The limit of fills; that of orders is credit_math's.
use Rattle.std.specs.Prelude.{ℕ}

-- at most 24 fills
abbrev pub max_fills : ℕ
max_fills = 24
