-- What a writer that answers a length wrote at the start of a part.
use mathlib.Core.Path.{◌≡◌}
use mathlib.Core.List.{List}
use Prim.Native.Nat.{ℕ, ◌≤◌}
use native.Mathlib.Omega.{arith}
use lib.ListN.{length}
use Rattle.std.specs.Prelude.{Ok}
use Rattle.std.proofs.lemmas.Grind.{common_steps}
use Rattle.octets.specs.Writing.{written, Writes}

module _ {text : List ℕ} {n : ℕ} {e e' : List ℕ} where
  -- a writer that answers a length wrote the text, which is no longer than the part
  pub answer_small : Writes text (Ok n) e e' → (n ≡ length text) × (n ≤ length e)
  unfolding written
  answer_small w = let a = w.answer in grind (arith, common_steps)
