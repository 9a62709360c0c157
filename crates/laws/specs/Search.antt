-- Searches and tests over the numbers below a count.
use Rattle.std.specs.Prelude.{Bool, true, false, if◌then◌else◌, ◌&&◌, ◌||◌, ℕ, zero, suc, nat_lt}

-- the least number below n that passes; n where none does
unfoldable pub first : (ℕ → Bool) → ℕ → ℕ
first p zero = zero
first p (suc n) = if nat_lt (first p n) n then first p n else if p n then n else suc n

-- every number below n passes
unfoldable pub every : (ℕ → Bool) → ℕ → Bool
every p zero = true
every p (suc n) = every p n && p n

-- some number below n passes
unfoldable pub some : (ℕ → Bool) → ℕ → Bool
some p zero = false
some p (suc n) = some p n || p n
