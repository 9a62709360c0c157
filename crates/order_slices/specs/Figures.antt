-- The price search's answer as plain numbers, for a host.
use Rattle.std.specs.Prelude.{true, false, Option, Result, Ok, Err, ℕ, ◌/◌, ◌%◌, ◌^◌}
use Rattle.credit_math.specs.Price.{Found, refused, failed, cross, found}
use Rattle.credit_math.specs.declared.allocation.ClearResult.{ClearResult}
use Rattle.order_slices.specs.declared.Figures.{Figures}

-- an answer whose refusal is any number at all
abbrev pub found_by_number : Result (Option ClearResult) ℕ → Found
found_by_number (Err n) = refused n
found_by_number (Ok a) = found (Ok a)

-- a refusal with its number; no price, which has the one reason NoCross; or a cross with its price and the two words of its volume. What is not said is 0.
abbrev pub figures_of : Found → Figures
figures_of (refused number) = record { refusal = number; crosses = false; price = 0; volume_hi = 0; volume_lo = 0 }
figures_of (failed reason) = record { refusal = 0; crosses = false; price = 0; volume_hi = 0; volume_lo = 0 }
figures_of (cross p v) = record { refusal = 0; crosses = true; price = p; volume_hi = v / 2 ^ 64; volume_lo = v % 2 ^ 64 }
