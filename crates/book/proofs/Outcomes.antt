-- The search over the live orders is not refused, and what it finds, both sides have.
use mathlib.Core.Path.{◌≡◌}
use Prim.Native.Nat.{ℕ}
use native.Mathlib.Omega.{arith}
use mathlib.Core.List.{List}
use lib.ListN.{length-map}
use Rattle.std.proofs.lemmas.Bool.Decides.{nat_tests}
use Rattle.laws.specs.Checks.{unless, first_of}
use Rattle.credit_math.specs.Price.{Found, executed, cross, price_refusal}
use Rattle.credit_math.specs.Claims.{RightPrice, turned_away, no_crossing, cross_at}
use Rattle.credit_math.proofs.PriceTheorems.{price_is_right}
use Rattle.book.specs.Clear.{searched}
use Rattle.book.specs.Gathered.{buys_of, limits_of, qtys_of, Within}
use Rattle.book.specs.declared.Order.{Order}
use Rattle.book.proofs.Live.{live_few}

module _ (orders : List Order) (n : ℕ) where
  -- the search does not refuse the live orders
  pub accepted : price_refusal (buys_of orders n) (limits_of orders n) (qtys_of orders n) ≡ 0
  unfolding price_refusal unless first_of
  accepted = let few = live_few orders n in simp length-map (grind (arith, nat_tests))

  -- it is right
  pub right_search : (reserve reference : ℕ) → RightPrice (buys_of orders n) (limits_of orders n) (qtys_of orders n) reserve reference (searched orders n reserve reference)
  unfolding searched
  right_search reserve reference = (price_is_right (buys_of orders n) (limits_of orders n) (qtys_of orders n) reserve reference).right

  -- what a price executes, both sides have
  pub executed_within : (p : ℕ) → Within orders n p (executed (buys_of orders n) (limits_of orders n) (qtys_of orders n) p)
  unfolding executed
  executed_within p = record { bought = omega arith; sold = omega arith }

  -- and so a price found comes with a volume that both sides have
  pub found_within : (reserve reference p v : ℕ) → searched orders n reserve reference ≡ cross p v → Within orders n p v
  found_within reserve reference p v = go (searched orders n reserve reference) (right_search reserve reference)
    where
      go : (f : Found) → RightPrice (buys_of orders n) (limits_of orders n) (qtys_of orders n) reserve reference f → f ≡ cross p v → Within orders n p v
      go f (turned_away z e) is = absurd (cc)
      go f (no_crossing z h e) is = absurd (cc)
      go f (cross_at z q h e) is =
          let same : p ≡ q = cc in
          let all : v ≡ executed (buys_of orders n) (limits_of orders n) (qtys_of orders n) q = cc in
          rw (same, all) (executed_within q)
