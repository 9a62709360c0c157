-- What the records of a file make, what is said of each, and the listing.
use Rattle.std.specs.Prelude.{ℕ, ◌+◌, false, if◌then◌else◌, not, List, [], ◌∷◌, ◌++◌, length, pos, ◌==◌, nat_le, None, Option}
use Rattle.book.specs.Book.{no_wallet}
use Rattle.events.specs.declared.Event.{Event}
use Rattle.events.specs.declared.Event.TheVariants.{Opened, Ordered, Refused}
use Rattle.listing.specs.Lines.{record_lines, end_line}
use Rattle.auction_engine.specs.declared.Session.{Session}
use Rattle.auction_engine.specs.Session.{fresh}
use Rattle.auction_engine.specs.Call.{arguments_refusal}
use Rattle.auction_engine.specs.Engine.{refusal, events, answer}
use Rattle.auction_engine.specs.Opening.{header_refusal, order_refusal, with_order}
use Rattle.session_file.specs.Marks.{no_kind, header_kind, order_kind, call_kind}
use Rattle.session_file.specs.Fields.{Read, refused, header, order, call}
use Rattle.session_file.specs.Reads.{reads}

-- what a file carries from record to record: the kind of the record before, what its header asks of escrows, and the session
pub record State : Type 0 where
  pub stage : ℕ
  pub cover : Option ℕ
  pub session : Session

abbrev pub state : (stage : ℕ) → Option ℕ → Session → State
state stage cover s = record { stage = stage; cover = cover; session = s }

-- before the first record: no header yet, so the session is not shown to anybody
unfoldable pub unopened : Session
unopened =
    fresh
    (record { reveal_end = pos 0; rofr_window = pos 0; settle_deadline = pos 0; max_cash = 0; min_reveals = 0; forced = false; rofr_authority = no_wallet })
    (record { mark = false; reserve = 0; reference = 0; policy = 0; band_bps = 0 })

abbrev pub start : State
start = state no_kind None unopened

-- a file refusal: of reading, of the rows `SH`, `SI` and `OR`, or a call's '4 a field outside its values'; 0 lets the file go on
unfoldable pub file_refusal : State → Read → ℕ
file_refusal f (refused number) = number
file_refusal f (header p g cover) = header_refusal p g cover
file_refusal f (order row) = order_refusal f.session f.cover row
file_refusal f (call c) = arguments_refusal c

-- what a file carries on after a record that lets it go on
unfoldable pub made : State → Read → State
made f (refused number) = f
made f (header p g cover) = state header_kind cover (fresh p g)
made f (order row) = state order_kind f.cover (with_order f.session row)
made f (call c) = state call_kind f.cover (answer f.session c).session

-- what is said of such a record: 'a refused call lets the file go on'
unfoldable pub said_by : State → Read → List Event
said_by f (refused number) = Refused number ∷ []
said_by f (header p g cover) = Opened ∷ []
said_by f (order row) = Ordered f.session.order_count ∷ []
said_by f (call c) = if refusal f.session c == 0 then events f.session c else Refused (refusal f.session c) ∷ []

-- what is said of any record
unfoldable pub said_of : State → Read → List Event
said_of f x = if file_refusal f x == 0 then said_by f x else Refused (file_refusal f x) ∷ []

-- the records in turn: what is said of each, and what the file has made at the end. 'After a file refusal's line only the `end` line follows'
abbrev pub told : State → List Read → List (List Event)
told f [] = []
told f (x ∷ l) = said_of f x ∷ (if file_refusal f x == 0 then told (made f x) l else [])

abbrev pub left : State → List Read → State
left f [] = f
left f (x ∷ l) = if file_refusal f x == 0 then left (made f x) l else f

-- 'A line starts with its record's number from 0'
abbrev pub numbered : (number : ℕ) → List (List Event) → List ℕ
numbered number [] = []
numbered number (x ∷ l) = record_lines number x ++ numbered (number + 1) l

-- the last line
abbrev pub last_line : State → List ℕ
last_line f = end_line (not (f.stage == no_kind)) f.session.phase f.session.skipped_fills

-- 'Whole input | 26 above 65,536 bytes'
abbrev pub max_input : ℕ
max_input = 65536

-- the listing of a file: 'For 26 the program prints `0 refused 26`, `end none`'
unfoldable pub listing : List ℕ → List ℕ
listing s =
    if nat_le (length s) max_input
    then numbered 0 (told start (reads s)) ++ last_line (left start (reads s))
    else numbered 0 ((Refused 26 ∷ []) ∷ []) ++ last_line start
