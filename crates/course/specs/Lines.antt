-- What a list of calls has done is what its lines say: each note of `Run` is told by the events of the answers. proofs/Lines.antt proves it.
use Rattle.std.specs.Prelude.{◌≡◌, Bool, false, if◌then◌else◌, not, ◌&&◌, ◌||◌, List, [], ◌∷◌, ◌++◌, ℕ, ◌+◌, ◌==◌}
use Rattle.laws.specs.Lists.{Member}
use Rattle.disclosure.specs.Disclosure.{disclose_answer}
use Rattle.events.specs.declared.Event.{Event}
use Rattle.events.specs.declared.Event.TheVariants.{Nothing, OrderScreened, Cleared, SessionFailed, FillAllocated, RofrExercised, RofrClosed, FillSettled, FillSkipped, ClearingPrint, PhaseChanged, Opened, Ordered, Refused}
use Rattle.events.specs.declared.Print.{Print}
use Rattle.auction_engine.specs.declared.Session.{Session}
use Rattle.auction_engine.specs.Session.{allocating, failed}
use Rattle.auction_engine.specs.declared.Call.{Call}
use Rattle.auction_engine.specs.declared.Call.TheVariants.{Screen, Clear, Allocate, Exercise, Close, Settle, Skip, Finish, Expire}
use Rattle.auction_engine.specs.Engine.{refusal, events, answer}
use Rattle.course.specs.Course.{Purchase, Run}
use Rattle.course.specs.Demand3.{after}

-- the events of a call's answer, in their order: none where it is refused
abbrev pub said_by : Session → Call → List Event
said_by s c = if refusal s c == 0 then events s c else []

-- those of a list: 'each call gets the session that the one before it handed back'
abbrev pub lines_of : Session → List Call → List Event
lines_of s [] = []
lines_of s (c ∷ calls) = said_by s c ++ lines_of (answer s c).session calls

-- what lines tell; lists in it have the latest first, as in `Run`
pub record Told : Type 0 where
  pub purchases : List Purchase
  pub skipped : List ℕ
  pub skipped_qty : ℕ
  pub crank_fills : ℕ
  pub prints : List Print
  pub complete : Bool

-- what is told, by its parts
abbrev pub told_of : List Purchase → (skipped : List ℕ) (skipped_qty crank_fills : ℕ) → List Print → (complete : Bool) → Told
told_of bs sk sq n ps c = record { purchases = bs; skipped = sk; skipped_qty = sq; crank_fills = n; prints = ps; complete = c }

-- before the first line
abbrev pub nothing_told : Told
nothing_told = told_of [] [] 0 0 [] false

-- one line more: `rofr F NEW QTY PRICE` is a purchase of QTY of F; `skip F QTY REASON` skips F and its QTY; `fill ..` is a crank's fill; 'the
-- print is the numbers after the word'; the matching is complete from a change of phase out of Allocating until Deadline, `failed 4`
abbrev pub tell : Told → Event → Told
tell t Nothing = t
tell t (OrderScreened order exclusion) = t
tell t (Cleared price volume reserve reference) = t
tell t (SessionFailed reason) =
    told_of t.purchases t.skipped t.skipped_qty t.crank_fills t.prints (t.complete && not (reason == 4))
tell t (FillAllocated fill buy sell qty) =
    told_of t.purchases t.skipped t.skipped_qty (t.crank_fills + 1) t.prints t.complete
tell t (RofrExercised fill new qty price) =
    told_of (record { fill = fill; qty = qty } ∷ t.purchases) t.skipped t.skipped_qty t.crank_fills t.prints t.complete
tell t (RofrClosed qty) = t
tell t (FillSettled fill qty price) = t
tell t (FillSkipped fill qty reason) =
    told_of t.purchases (fill ∷ t.skipped) (t.skipped_qty + qty) t.crank_fills t.prints t.complete
tell t (ClearingPrint print) =
    told_of t.purchases t.skipped t.skipped_qty t.crank_fills (print ∷ t.prints) t.complete
tell t (PhaseChanged from to) =
    told_of t.purchases t.skipped t.skipped_qty t.crank_fills t.prints (t.complete || (from == allocating && not (to == failed)))
tell t Opened = t
tell t (Ordered order) = t
tell t (Refused refusal) = t

-- lines in turn
abbrev pub tell_all : Told → List Event → Told
tell_all t [] = t
tell_all t (e ∷ es) = tell_all (tell t e) es

-- the notes of a run that lines tell
abbrev pub notes_of : Run → Told
notes_of r =
    told_of r.purchases r.skipped r.skipped_qty r.crank_fills r.prints r.complete

-- 'Settled .. fills are the fill numbers of the accepted settles', the latest first: a fill that the issuer took whole is settled without a line
abbrev pub settled_by : Session → Call → List ℕ
settled_by s (Screen now i side verdict has_id id) = []
settled_by s (Clear now) = []
settled_by s (Allocate now n) = []
settled_by s (Exercise now issuer i q) = []
settled_by s (Close now caller) = []
settled_by s (Settle i) = if (answer s (Settle i)).refusal == 0 then i ∷ [] else []
settled_by s (Skip now i reason) = []
settled_by s (Finish now) = []
settled_by s (Expire now) = []

abbrev pub settled_in : Session → List Call → List ℕ
settled_in s [] = []
settled_in s (c ∷ calls) = settled_in (answer s c).session calls ++ settled_by s c

-- every note of a list of calls from s
pub record ToldByLines (s : Session) (l : List Call) : Type 0 where
  -- purchases, skipped fills and their quantity, the cranks' fills, the print, and whether the matching is complete
  pub told : notes_of (after s l) ≡ tell_all nothing_told (lines_of s l)
  pub settled : (after s l).settled ≡ settled_in s l
  -- `settle F QTY PRICE` names a fill that is settled
  pub settle_line : (i qty price : ℕ) (before rest : List Event) → lines_of s l ≡ before ++ (FillSettled i qty price ∷ rest) → Member i (after s l).settled
  -- 'Printed quantity is the volume that the accepted finish gives to `disclose`': there is one print at most, and it shows what `disclose` answers
  pub printed : (print : Print) (others : List Print) → (after s l).prints ≡ print ∷ others
      → (others ≡ [])
      × (disclose_answer s.given.policy s.given.band_bps (after s l).session.cleared.clear_price (after s l).printed_qty
      ≡ record { refusal = 0; price = print.price; volume = print.volume })
  pub unprinted : (after s l).prints ≡ [] → (after s l).printed_qty ≡ 0

abbrev pub LinesTell : Type 0
LinesTell = (s : Session) (l : List Call) → ToldByLines s l
