-- The session of a run is what the answers hand on, and so what `apply` hands on. Assumes nothing.
use mathlib.Core.Path.{◌≡◌, refl, sym, ap, ◌∙◌}
use mathlib.Core.Bool.{Bool, true, false, cond}
use mathlib.Core.List.{List, [], ◌∷◌}
use lib.Dec.{eqb, leb}
use Rattle.laws.specs.Checks.{◌then◌}
use Rattle.auction_engine.specs.declared.Session.{Session}
use Rattle.auction_engine.specs.declared.CallRecord.{CallRecord}
use Rattle.auction_engine.specs.Call.{expire_kind, limits_refusal}
use Rattle.auction_engine.specs.declared.Call.{Call}
use Rattle.auction_engine.specs.declared.Call.TheVariants.{Screen, Clear, Allocate, Exercise, Close, Settle, Skip, Finish, Expire}
use Rattle.auction_engine.specs.Engine.{refusal, effect, events, refused_by, answer, call_of, applied}
use Rattle.course.specs.Course.{Run, begin, note, advance, run}
use Rattle.course.specs.Applied.{session_after, apply_all, calls_of, RunIsAnswers, ApplyIsRun}

-- a noted call hands on its session
pub note_session : (r : Run) (s : Session) (c : Call) → (note r s c).session ≡ s
unfolding note
note_session r s (Screen now i side verdict has_id id) = refl
note_session r s (Clear now) = refl
note_session r s (Allocate now n) = refl
note_session r s (Exercise now issuer i q) = refl
note_session r s (Close now caller) = refl
note_session r s (Settle i) = refl
note_session r s (Skip now i reason) = refl
note_session r s (Finish now) = refl
note_session r s (Expire now) = refl

-- a call of a list, noted or refused, leaves the session that it answers
pub advance_session : (r : Run) (c : Call) → (advance r c).session ≡ (answer r.session c).session
unfolding advance answer
advance_session r c = go (eqb (refusal r.session c) 0)
  where
    go : (x : Bool) → (cond x (note r (effect r.session c) c) r).session
        ≡ (cond x (record { refusal = 0; session = effect r.session c; events = events r.session c }) (refused_by r.session (refusal r.session c))).session
    go true = note_session r (effect r.session c) c
    go false = refl

pub run_session : (r : Run) (calls : List Call) → (run r calls).session ≡ session_after r.session calls
run_session r [] = refl
run_session r (c ∷ calls) = run_session (advance r c) calls ∙ ap (λ s. session_after s calls) (advance_session r c)

pub run_is_answers : RunIsAnswers
run_is_answers s calls = run_session (begin s) calls

records_session : (s : Session) (records : List CallRecord) → apply_all s records ≡ session_after s (calls_of records)
unfolding applied
records_session s [] = refl
records_session s (r ∷ records) = go (leb r.kind expire_kind) (records_session (answer s (call_of r)).session records) (records_session s records)
  where
    go : (x : Bool) → apply_all (answer s (call_of r)).session records ≡ session_after (answer s (call_of r)).session (calls_of records)
        → apply_all s records ≡ session_after s (calls_of records)
        → apply_all (cond x (answer s (call_of r)) (refused_by s (limits_refusal s then 4))).session records ≡ session_after s (cond x (call_of r ∷ calls_of records) (calls_of records))
    go true h k = h
    go false h k = k

pub apply_is_run : ApplyIsRun
apply_is_run s records = records_session s records ∙ sym (run_session (begin s) (calls_of records))
