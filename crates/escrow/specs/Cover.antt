-- 'Escrow cover when a file is read': document 02, ticket 1, and the source's `gross`.
use Rattle.std.specs.Prelude.{Bool, if◌then◌else◌, not, ◌||◌, ℕ, ◌*◌, ◌^◌, nat_le, ◌==◌, Option, None, Some}
use Rattle.laws.specs.Checks.{unless}
use Rattle.credit_math.specs.Rounding.{ceil_div}
use Rattle.book.specs.Book.{buy_side}
use Rattle.book.specs.declared.Row.{Row}

-- `gross`: 'quantity × limit / 10^decimals, rounded up'
unfoldable pub gross : (qty price decimals : ℕ) → ℕ
gross qty price decimals = ceil_div (qty * price) (10 ^ decimals)

-- what an order's escrow must cover: of a buy that amount at its limit, of a sell the quantity
unfoldable pub needed : (decimals : ℕ) → Row → ℕ
needed decimals row = if row.side == buy_side then gross row.qty row.limit decimals else row.qty

-- 'must be at most its escrow'; an unrevealed order is not tested. An escrow has 64 bits, so an amount above 64 bits, where `gross` fails, is not covered
unfoldable pub covered : (decimals : ℕ) → Row → Bool
covered decimals row = not row.revealed || nat_le (needed decimals row) row.escrowed

-- 'An uncovered order gets 31'; after `SH` none is tested
unfoldable pub cover_refusal : Option ℕ → Row → ℕ
cover_refusal None row = 0
cover_refusal (Some decimals) row = unless (covered decimals row) 31

-- 'decimals, 0 to 19; other values get 4'
abbrev pub max_decimals : ℕ
max_decimals = 19

unfoldable pub decimals_refusal : Option ℕ → ℕ
decimals_refusal None = 0
decimals_refusal (Some decimals) = unless (nat_le decimals max_decimals) 4
