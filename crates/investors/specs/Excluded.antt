-- The declared exclusion, by number.
use Rattle.std.specs.Prelude.{ℕ, Option, Some, None}
use Rattle.investors.specs.Exclusion.{self_trade_exclusion, cap_exclusion}
use Rattle.investors.specs.declared.exclusion.Exclusion.{Exclusion}
use Rattle.investors.specs.declared.exclusion.Exclusion.TheVariants.{SelfTrade, InvestorCapExceeded}

-- 0 where there is none
abbrev pub exclusion_in : Option Exclusion → ℕ
exclusion_in None = 0
exclusion_in (Some SelfTrade) = self_trade_exclusion
exclusion_in (Some InvestorCapExceeded) = cap_exclusion
