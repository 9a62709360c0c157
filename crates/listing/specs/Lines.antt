-- 'Listing': the lines of a record, and the last line.
use Rattle.std.specs.Prelude.{Bool, if◌then◌else◌, List, [], ◌∷◌, ◌++◌, ℕ, ◌+◌, ◌*◌, Option, None, Some}
use Rattle.std.specs.Int.Count.{ones}
use Rattle.laws.specs.Sums.{only}
use Rattle.octets.specs.Decimal.{decimal, max_digits}
use Rattle.events.specs.Events.{max_events}
use Rattle.events.specs.declared.Event.{Event}
use Rattle.events.specs.declared.Event.TheVariants.{Nothing, OrderScreened, Cleared, SessionFailed, FillAllocated, RofrExercised, RofrClosed, FillSettled, FillSkipped, ClearingPrint, PhaseChanged, Opened, Ordered, Refused}
use Rattle.listing.specs.Words.{open_word, order_word, screen_word, clear_word, failed_word, fill_word, rofr_word, close_word, settle_word, skip_word, print_word, phase_word, refused_word, none_word, end_word, space, newline}

-- numbers, with a space before each
unfoldable pub fields : List ℕ → List ℕ
fields [] = []
fields (n ∷ ns) = (space ∷ decimal n) ++ fields ns

-- 'A line starts with its record's number': the number, a word, numbers, one newline
unfoldable pub line : (number : ℕ) (word nums : List ℕ) → List ℕ
line number word nums = (((decimal number ++ (space ∷ [])) ++ word) ++ fields nums) ++ (newline ∷ [])

-- the same 'without record number'
abbrev pub bare_line : (word nums : List ℕ) → List ℕ
bare_line word nums = (word ++ fields nums) ++ (newline ∷ [])

-- the line of an event; and `open`, `order I`, `refused R`, which are no events of the source
abbrev pub event_line : (number : ℕ) → Event → List ℕ
event_line number Nothing = line number none_word []
event_line number (OrderScreened order exclusion) = line number screen_word (order ∷ exclusion ∷ [])
event_line number (Cleared price volume reserve reference) = line number clear_word (price ∷ volume ∷ reserve ∷ reference ∷ [])
event_line number (SessionFailed reason) = line number failed_word (reason ∷ [])
event_line number (FillAllocated fill buy sell qty) = line number fill_word (fill ∷ buy ∷ sell ∷ qty ∷ [])
event_line number (RofrExercised fill new qty price) = line number rofr_word (fill ∷ new ∷ qty ∷ price ∷ [])
event_line number (RofrClosed qty) = line number close_word (qty ∷ [])
event_line number (FillSettled fill qty price) = line number settle_word (fill ∷ qty ∷ price ∷ [])
event_line number (FillSkipped fill qty reason) = line number skip_word (fill ∷ qty ∷ reason ∷ [])
event_line number (ClearingPrint p) =
    line number print_word (p.price ∷ p.volume ∷ p.n_investor_ids ∷ only p.forced_sale 1 ∷ p.policy ∷ only p.partial 1 ∷ [])
event_line number (PhaseChanged from to) = line number phase_word (from ∷ to ∷ [])
event_line number Opened = line number open_word []
event_line number (Ordered order) = line number order_word (order ∷ [])
event_line number (Refused refusal) = line number refused_word (refusal ∷ [])

-- what is said where the source emits nothing, or of an event
abbrev pub said_line : (number : ℕ) → Option Event → List ℕ
said_line number None = line number none_word []
said_line number (Some e) = event_line number e

-- 'Event order is the source's'
unfoldable pub event_lines : (number : ℕ) → List Event → List ℕ
event_lines number [] = []
event_lines number (e ∷ es) = event_line number e ++ event_lines number es

-- the lines of a record: `none` where the source emits nothing
abbrev pub record_lines : (number : ℕ) → List Event → List ℕ
record_lines number [] = line number none_word []
record_lines number (e ∷ es) = event_lines number (e ∷ es)

-- 'Last: `end P S`, phase and the number of skipped fills counted from the bitmap, or `end none` without an accepted header'
unfoldable pub end_line : (accepted : Bool) (phase skipped : ℕ) → List ℕ
end_line accepted phase skipped =
    if accepted
    then bare_line end_word (phase ∷ ones skipped ∷ [])
    else (end_word ++ (space ∷ none_word)) ++ (newline ∷ [])

-- the most letters of a word, and figures of a line
abbrev pub max_letters : ℕ
max_letters = 10

abbrev pub max_figures : ℕ
max_figures = 6

-- a line at its longest after its number and a space, the whole line, and a record's lines
abbrev pub max_rest : ℕ
max_rest = max_letters + max_figures * (1 + max_digits) + 1

abbrev pub max_line : ℕ
max_line = max_digits + 1 + max_rest

abbrev pub max_record : ℕ
max_record = max_events * max_line
