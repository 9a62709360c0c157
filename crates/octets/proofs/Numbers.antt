-- Numbers of several bytes, the lowest first: past the end there is nothing. Assumes nothing.
use mathlib.Core.Path.{◌≡◌, refl}
use mathlib.Core.List.{List}
use Prim.Native.Nat.{ℕ, zero, suc, ◌+◌, ◌≤◌}
use native.Mathlib.Omega.{arith}
use lib.ListN.{length, get_or-eq_default}
use Rattle.octets.specs.Bytes.{word}

pub word_past : (k : ℕ) (s : List ℕ) (at : ℕ) → length s ≤ at → word k s at ≡ 0
word_past zero s at h = refl
word_past (suc k) s at h = rw (get_or-eq_default s 0 h, word_past k s (at + 1) (omega arith))
