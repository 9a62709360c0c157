-- What the private writers keep on the way.
use Rattle.std.specs.Prelude.{◌≡◌, List, ℕ, ◌+◌, length}
use Rattle.octets.specs.Writing.{splice}

-- a text written from a place on, and the next place
pub record Puts (text : List ℕ) (at next : ℕ) (before left : List ℕ) : Type 0 where
  pub place : next ≡ at + length text
  pub bytes : left ≡ splice at text before
