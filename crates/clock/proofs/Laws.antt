-- When a sum of signed 64-bit numbers fits: exactly where the checked sum is some. Assumes nothing.
use mir.Syntax.{w64}
use mir.Val.{SFits}
use lib.IntN.{ℤ, ◌+ℤ◌}
use lib.Signed.{mag}
use Rattle.std.proofs.Common.{◌≡◌, Bool, true, false, ◌^◌, Option, Some, None, refl, sym, ltb, lt-ltb, ltb-true}
use Rattle.std.specs.Option.{is_some, SomeIff}
use Rattle.clock.specs.Clock.{sum_fits}

pub some_where_fits : (r : Option ℤ) (z : ℤ) → SomeIff r (SFits w64 z) z → is_some r ≡ ltb (mag z) (2 ^ 63)
some_where_fits (Some x) z f = sym (lt-ltb _ _ f.0.sfits)
some_where_fits None z n = tested (ltb (mag z) (2 ^ 63)) refl
  where
    tested : (t : Bool) → ltb (mag z) (2 ^ 63) ≡ t → false ≡ ltb (mag z) (2 ^ 63)
    tested true e = absurd (n (record { sfits = ltb-true _ _ e }))
    tested false e = sym e

-- a sum that fits is a signed 64-bit number
pub sum_sfits : (a b : ℤ) → sum_fits a b ≡ true → SFits w64 (a +ℤ b)
unfolding sum_fits
sum_sfits a b h = record { sfits = ltb-true _ _ h }
