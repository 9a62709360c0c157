-- A list of zeros. Assumes nothing.
use Rattle.std.specs.Array.{AllOfLen}
use Rattle.std.proofs.lemmas.List.{length-replicate, get_or-replicate}
use Rattle.std.proofs.lemmas.Grind.{same_number_lists}
use Rattle.std.proofs.Common.{replicate}
use mathlib.Core.Path.{◌≡◌, sym, ◌∙◌}
use mathlib.Core.List.{List}
use Prim.Native.Nat.{ℕ}
use native.Mathlib.Omega.{arith}

-- so many zeros
pub zeros : (l : List ℕ) (n : ℕ) → AllOfLen (λ x. x ≡ 0) l n → l ≡ replicate n 0
zeros l n a =
    same_number_lists l (replicate n 0) (a.long ∙ sym (length-replicate n 0))
    (λ k h. a.at k 0 (omega (arith, h, a.long)) ∙ sym (get_or-replicate n k 0 0 (omega (arith, h, a.long))))
