-- What any call answers: its refusal, the session that it hands back, its events.
use Rattle.std.specs.Prelude.{◌≡◌, Bool, true, false, if◌then◌else◌, List, [], ℕ, ◌==◌, nat_le, Result, Ok, Err}
use Rattle.refusals.specs.declared.Refusal.{Refusal}
use Rattle.refusals.specs.declared.Refusal.TheVariants.{BadField}
use Rattle.refusals.specs.Number.{refusal_in}
use Rattle.laws.specs.Checks.{unless, ◌then◌}
use Rattle.events.specs.declared.Event.{Event}
use Rattle.auction_engine.specs.declared.Session.{Session}
use Rattle.auction_engine.specs.declared.Answer.{Answer}
use Rattle.auction_engine.specs.declared.Said.{Said}
use Rattle.auction_engine.specs.declared.Said.TheVariants.{Few, Many}
use Rattle.auction_engine.specs.declared.CallRecord.{CallRecord}
use Rattle.auction_engine.specs.Call.{screen_kind, clear_kind, allocate_kind, exercise_kind, close_kind, settle_kind, skip_kind, finish_kind, expire_kind, limits_refusal, fields_refusal, arguments_refusal}
use Rattle.auction_engine.specs.declared.Call.{Call}
use Rattle.auction_engine.specs.declared.Call.TheVariants.{Screen, Clear, Allocate, Exercise, Close, Settle, Skip, Finish, Expire}
use Rattle.auction_engine.specs.Screening.{screen_refusal, screen_effect, screen_events}
use Rattle.auction_engine.specs.Clearing.{clear_refusal, clear_effect, clear_events}
use Rattle.auction_engine.specs.Matching.{allocate_refusal, allocate_effect, allocate_events}
use Rattle.auction_engine.specs.Rofr.{exercise_refusal, exercise_effect, exercise_events, close_refusal, close_effect, close_events}
use Rattle.auction_engine.specs.Settlement.{settle_refusal, settle_effect, settle_events, skip_refusal, skip_effect, skip_events, finish_refusal, finish_effect, finish_events, expire_refusal, expire_effect, expire_events}

-- the row of the call's own kind
unfoldable pub own_refusal : Session → Call → ℕ
own_refusal s (Screen now i side verdict has_id id) = screen_refusal s now i side
own_refusal s (Clear now) = clear_refusal s now
own_refusal s (Allocate now n) = allocate_refusal s n
own_refusal s (Exercise now issuer i q) = exercise_refusal s now issuer i q
own_refusal s (Close now caller) = close_refusal s now caller
own_refusal s (Settle i) = settle_refusal s i
own_refusal s (Skip now i reason) = skip_refusal s i reason
own_refusal s (Finish now) = finish_refusal s
own_refusal s (Expire now) = expire_refusal s now

-- 'Library call, any' | all of 9, then all of 4, then the call's own row; 0 where the call is accepted
unfoldable pub refusal : Session → Call → ℕ
refusal s c = limits_refusal s then fields_refusal s then arguments_refusal c then own_refusal s c

-- the session after an accepted call
unfoldable pub effect : Session → Call → Session
effect s (Screen now i side verdict has_id id) = screen_effect s i verdict has_id id
effect s (Clear now) = clear_effect s
effect s (Allocate now n) = allocate_effect s n
effect s (Exercise now issuer i q) = exercise_effect s issuer i q
effect s (Close now caller) = close_effect s
effect s (Settle i) = settle_effect s i
effect s (Skip now i reason) = skip_effect s i
effect s (Finish now) = finish_effect s
effect s (Expire now) = expire_effect s

-- the events of an accepted call
unfoldable pub events : Session → Call → List Event
events s (Screen now i side verdict has_id id) = screen_events s i verdict has_id id
events s (Clear now) = clear_events s
events s (Allocate now n) = allocate_events s n
events s (Exercise now issuer i q) = exercise_events s i q
events s (Close now caller) = close_events s
events s (Settle i) = settle_events s i
events s (Skip now i reason) = skip_events s i reason
events s (Finish now) = finish_events s
events s (Expire now) = expire_events s

-- an answer: the number of its refusal or 0, the session that it hands back, its events
pub record Answered : Type 0 where
  pub refusal : ℕ
  pub session : Session
  pub events : List Event

-- the events of what is said; of a refusal none
abbrev pub events_in : Result (List Event) Refusal → List Event
events_in (Ok es) = es
events_in (Err r) = []

-- a session and what was said, and an answer, which holds both
abbrev pub told : Session → Result (List Event) Refusal → Answered
told s said = record { refusal = refusal_in said; session = s; events = events_in said }

abbrev pub answered : Answer → Answered
answered a = told a.session a.said

-- what is said of any call
abbrev pub said_by : Result Said Refusal → Result (List Event) Refusal
said_by (Ok (Few es)) = Ok es
said_by (Ok (Many es)) = Ok es
said_by (Err r) = Err r

-- an allocate may say more than two events
abbrev pub is_many : Said → Bool
is_many (Few es) = false
is_many (Many es) = true

abbrev pub is_allocate : Call → Bool
is_allocate (Screen now i side verdict has_id id) = false
is_allocate (Clear now) = false
is_allocate (Allocate now n) = true
is_allocate (Exercise now issuer i q) = false
is_allocate (Close now caller) = false
is_allocate (Settle i) = false
is_allocate (Skip now i reason) = false
is_allocate (Finish now) = false
is_allocate (Expire now) = false

-- 'A refused call returns the session as given', with no event
abbrev pub refused_by : Session → ℕ → Answered
refused_by s number = record { refusal = number; session = s; events = [] }

-- what a call answers
unfoldable pub answer : Session → Call → Answered
answer s c =
    if refusal s c == 0
    then record { refusal = 0; session = effect s c; events = events s c }
    else refused_by s (refusal s c)

-- the call that a record says, by its kind
unfoldable pub call_of : CallRecord → Call
call_of r =
    if r.kind == screen_kind then Screen r.now r.order r.side r.verdict r.has_id r.id
    else if r.kind == clear_kind then Clear r.now
    else if r.kind == allocate_kind then Allocate r.now r.max_fills
    else if r.kind == exercise_kind then Exercise r.now r.wallet r.fill r.qty
    else if r.kind == close_kind then Close r.now r.wallet
    else if r.kind == settle_kind then Settle r.fill
    else if r.kind == skip_kind then Skip r.now r.fill r.reason
    else if r.kind == finish_kind then Finish r.now
    else Expire r.now

-- reading a call record as a call: 4 for a kind above 8
abbrev pub RecordedCall : CallRecord → Result Call Refusal → Type 0
RecordedCall r c = c ≡ (if nat_le r.kind expire_kind then Ok (call_of r) else Err BadField)

-- 4 for an argument of a call record: a kind above 8 is outside its values too
unfoldable pub record_arguments : CallRecord → ℕ
record_arguments r = unless (nat_le r.kind expire_kind) 4 then arguments_refusal (call_of r)

-- what a call record answers; one of a kind above 8 is refused as any library call is: 9, then 4
unfoldable pub applied : Session → CallRecord → Answered
applied s r = if nat_le r.kind expire_kind then answer s (call_of r) else refused_by s (limits_refusal s then 4)
