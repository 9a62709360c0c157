-- 'the listing prints them in base ten'
use Rattle.std.specs.Prelude.{if◌then◌else◌, List, [], ◌∷◌, ◌++◌, ℕ, zero, suc, ◌+◌, ◌/◌, ◌%◌, nat_lt}

-- the last k digits of x at most, with no leading zero
unfoldable pub digits : (k x : ℕ) → List ℕ
digits zero x = []
digits (suc k) x = (if nat_lt x 10 then [] else digits k (x / 10)) ++ ((48 + x % 10) ∷ [])

-- all of them: x has at most x + 1
unfoldable pub decimal : ℕ → List ℕ
decimal x = digits (suc x) x

-- the most digits of a 64-bit number
abbrev pub max_digits : ℕ
max_digits = 20
