-- Why an order of a session file got its lot, for a host: asked of the session that the file ends with.
use Rattle.std.specs.Prelude.{◌≡◌, if◌then◌else◌, List, ℕ, zero, suc, length, ◌==◌, ℤ, pos, negsuc, Result, IfOk}
use Rattle.laws.specs.Checks.{◌then◌}
use Rattle.octets.specs.Writing.{splice}
use Rattle.refusals.specs.declared.Refusal.{Refusal}
use Rattle.refusals.specs.Number.{refusal_in}
use Rattle.inquiries.specs.Why.{why_refusal, why_line}
use Rattle.session_file.specs.Ended.{session_refusal, session_of}

-- what leaves no session to ask, then what refuses the question
unfoldable pub refusal_of : (input : List ℕ) (order room : ℕ) → ℕ
refusal_of input order room = session_refusal input then why_refusal (session_of input) order room

-- the order's line
abbrev pub line_of : (input : List ℕ) (order : ℕ) → List ℕ
line_of input order = why_line (session_of input) order

-- a number negated: negsuc n is - (n + 1)
abbrev pub negated : ℕ → ℤ
negated zero = pos 0
negated (suc n) = negsuc n

-- the length of the line, at the start of the output; or the refusal negated. 'Here and later, lent memory past an answer stays as it was', and all of
-- it where the question is refused
pub record Entered (input : List ℕ) (order : ℕ) (r : ℤ) (before after : List ℕ) : Type 0 where
  pub answer : r ≡ (if refusal_of input order (length before) == 0 then pos (length (line_of input order)) else negated (refusal_of input order (length before)))
  pub output : after ≡ (if refusal_of input order (length before) == 0 then splice 0 (line_of input order) before else before)

-- the library's function: the same, with the refusal and the length apart
pub record Told (input : List ℕ) (order : ℕ) (r : Result ℕ Refusal) (before after : List ℕ) : Type 0 where
  pub refusal : refusal_in r ≡ refusal_of input order (length before)
  pub len : IfOk r (λ n. n ≡ length (line_of input order))
  pub output : after ≡ (if refusal_of input order (length before) == 0 then splice 0 (line_of input order) before else before)
