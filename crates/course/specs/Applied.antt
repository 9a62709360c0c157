-- The function `apply` and lists of calls: call records applied in turn come to `run`. proofs/Applied.antt proves it.
use Rattle.std.specs.Prelude.{◌≡◌, if◌then◌else◌, List, [], ◌∷◌, nat_le}
use Rattle.auction_engine.specs.declared.Session.{Session}
use Rattle.auction_engine.specs.declared.CallRecord.{CallRecord}
use Rattle.auction_engine.specs.Call.{expire_kind}
use Rattle.auction_engine.specs.declared.Call.{Call}
use Rattle.auction_engine.specs.Engine.{answer, call_of, applied}
use Rattle.course.specs.Course.{begin, run}

-- the session that calls leave, each getting what the one before it answered
abbrev pub session_after : Session → List Call → Session
session_after s [] = s
session_after s (c ∷ calls) = session_after (answer s c).session calls

-- the same for call records
abbrev pub apply_all : Session → List CallRecord → Session
apply_all s [] = s
apply_all s (r ∷ records) = apply_all (applied s r).session records

-- the calls that they say; a kind above 8 says none
abbrev pub calls_of : List CallRecord → List Call
calls_of [] = []
calls_of (r ∷ records) = if nat_le r.kind expire_kind then call_of r ∷ calls_of records else calls_of records

-- the session of a run is what the answers hand on
abbrev pub RunIsAnswers : Type 0
RunIsAnswers = (s : Session) (calls : List Call) → (run (begin s) calls).session ≡ session_after s calls

-- applying the records in turn is `run`
abbrev pub ApplyIsRun : Type 0
ApplyIsRun = (s : Session) (records : List CallRecord) → apply_all s records ≡ (run (begin s) (calls_of records)).session
