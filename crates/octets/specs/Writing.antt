-- What a writer answers, and what it leaves in the bytes that it is lent.
use Rattle.std.specs.Prelude.{◌≡◌, if◌then◌else◌, List, ◌++◌, ℕ, ◌+◌, nat_le, length, take, drop, Result, Ok, Err}
use Rattle.refusals.specs.declared.Refusal.{Refusal}
use Rattle.refusals.specs.declared.Refusal.TheVariants.{OutputTooSmall}

-- a text written over a part, from a place on
abbrev pub splice : (at : ℕ) (text part : List ℕ) → List ℕ
splice at text part = take at part ++ (text ++ drop (at + length text) part)

-- 'Line writer | 27 lines longer than their part': the length, or the refusal
unfoldable pub written : (text part : List ℕ) → Result ℕ Refusal
written text part = if nat_le (length text) (length part) then Ok (length text) else Err OutputTooSmall

-- the text at the start of the part; where it is longer, the part as it was
unfoldable pub after : (text part : List ℕ) → List ℕ
after text part = if nat_le (length text) (length part) then splice 0 text part else part

-- both, of a text
pub record Writes (text : List ℕ) (r : Result ℕ Refusal) (before left : List ℕ) : Type 0 where
  pub answer : r ≡ written text before
  pub bytes : left ≡ after text before

-- a text written at a place where it fits, and the place after it; else the part as it was, and the same place
pub record PutAt (text : List ℕ) (at next : ℕ) (before left : List ℕ) : Type 0 where
  pub place : next ≡ (if nat_le (at + length text) (length before) then at + length text else at)
  pub bytes : left ≡ (if nat_le (at + length text) (length before) then splice at text before else before)
