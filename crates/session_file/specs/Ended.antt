-- The session that a file ends with: what a question of a file is asked of.
use Rattle.std.specs.Prelude.{◌≡◌, ℕ, if◌then◌else◌, not, List, [], ◌∷◌, length, ◌==◌, nat_le, Result, IfOk}
use Rattle.laws.specs.Checks.{unless, ◌then◌}
use Rattle.refusals.specs.declared.Refusal.{Refusal}
use Rattle.refusals.specs.Number.{refusal_in}
use Rattle.auction_engine.specs.declared.Session.{Session}
use Rattle.session_file.specs.Marks.{no_kind}
use Rattle.session_file.specs.Fields.{Read}
use Rattle.session_file.specs.Reads.{reads}
use Rattle.session_file.specs.File.{State, start, file_refusal, made, left, max_input}

-- the first file refusal of the records in turn; 0 where each lets the file go on
abbrev pub ended_by : State → List Read → ℕ
ended_by f [] = 0
ended_by f (x ∷ l) = if file_refusal f x == 0 then ended_by (made f x) l else file_refusal f x

-- a file that leaves no session: 26; its file refusal; 1, no whole mark, where it has no record
unfoldable pub session_refusal : List ℕ → ℕ
session_refusal s =
    unless (nat_le (length s) max_input) 26
    then ended_by start (reads s)
    then unless (not ((left start (reads s)).stage == no_kind)) 1

-- the session that any other leaves
abbrev pub session_of : List ℕ → Session
session_of s = (left start (reads s)).session

pub record Ended (input : List ℕ) (r : Result Session Refusal) : Type 0 where
  pub refusal : refusal_in r ≡ session_refusal input
  pub session : IfOk r (λ x. x ≡ session_of input)
