-- Lists of checks: the number of the first that fails, 0 where all pass.
use Rattle.std.specs.Prelude.{Bool, if◌then◌else◌, ℕ, ◌==◌}

-- one check: the number n unless the test holds
unfoldable pub unless : Bool → ℕ → ℕ
unless test n = if test then 0 else n

-- checks in order
unfoldable pub first_of : ℕ → ℕ → ℕ
first_of m n = if m == 0 then n else m

infixr 30 ◌then◌
abbrev pub ◌then◌ : ℕ → ℕ → ℕ
m then n = first_of m n
