-- 'Lists of calls': what a list of calls makes of a session, and what two lists are compared by.
use Rattle.std.specs.Prelude.{Bool, false, if◌then◌else◌, not, ◌||◌, List, [], ◌∷◌, ℕ, ◌+◌, ◌-◌, ◌==◌}
use Rattle.events.specs.declared.Print.{Print}
use Rattle.auction_engine.specs.declared.Session.{Session}
use Rattle.auction_engine.specs.Session.{fill_at, allocating}
use Rattle.auction_engine.specs.declared.Call.{Call}
use Rattle.auction_engine.specs.declared.Call.TheVariants.{Screen, Clear, Allocate, Exercise, Close, Settle, Skip, Finish, Expire}
use Rattle.auction_engine.specs.Settlement.{moved_volume, print_of}
use Rattle.auction_engine.specs.Engine.{refusal, effect}

-- 'A purchase is an accepted exercise, told by fill number and quantity'
pub record Purchase : Type 0 where
  pub fill : ℕ
  pub qty : ℕ

-- what a list has done so far; lists in it have the latest first
pub record Run : Type 0 where
  -- the session that the last call handed back
  pub session : Session
  pub purchases : List Purchase
  -- 'Settled and skipped fills are the fill numbers of the accepted settles and skips'
  pub settled : List ℕ
  pub skipped : List ℕ
  -- 'skipped quantity adds up QTY over the accepted skips'
  pub skipped_qty : ℕ
  -- 'the cranks' fills are those that the list's allocates made'
  pub crank_fills : ℕ
  -- 'The print is the numbers after the word in the `print` line'
  pub prints : List Print
  -- 'Printed quantity is the volume that the accepted finish gives to `disclose`'
  pub printed_qty : ℕ
  -- 'The matching is complete from the allocate that leaves phase 2 until an accepted expire'
  pub complete : Bool

-- a run, by its parts
abbrev pub run_of : Session → List Purchase → (settled skipped : List ℕ) (skipped_qty crank_fills : ℕ) → List Print → (printed_qty : ℕ) (complete : Bool) → Run
run_of s bs st sk sq n ps pq c =
    record { session = s; purchases = bs; settled = st; skipped = sk; skipped_qty = sq; crank_fills = n; prints = ps; printed_qty = pq; complete = c }

-- nothing done yet
abbrev pub begin : Session → Run
begin s = run_of s [] [] [] 0 0 [] 0 false

abbrev pub with_session : Run → Session → Run
with_session r s = run_of s r.purchases r.settled r.skipped r.skipped_qty r.crank_fills r.prints r.printed_qty r.complete

-- an accepted call that hands back s, noted
unfoldable pub note : Run → Session → Call → Run
note r s (Screen now i side verdict has_id id) = with_session r s
note r s (Clear now) = with_session r s
note r s (Allocate now n) =
    run_of s r.purchases r.settled r.skipped r.skipped_qty (r.crank_fills + (s.fill_count - r.session.fill_count))
    r.prints r.printed_qty (r.complete || not (s.phase == allocating))
note r s (Exercise now issuer i q) =
    run_of s (record { fill = i; qty = q } ∷ r.purchases) r.settled r.skipped r.skipped_qty r.crank_fills r.prints r.printed_qty r.complete
note r s (Close now caller) = with_session r s
note r s (Settle i) =
    run_of s r.purchases (i ∷ r.settled) r.skipped r.skipped_qty r.crank_fills r.prints r.printed_qty r.complete
note r s (Skip now i reason) =
    run_of s r.purchases r.settled (i ∷ r.skipped) (r.skipped_qty + (fill_at r.session i).qty) r.crank_fills r.prints r.printed_qty r.complete
note r s (Finish now) =
    run_of s r.purchases r.settled r.skipped r.skipped_qty r.crank_fills
    (print_of r.session ∷ r.prints) (r.printed_qty + moved_volume r.session) r.complete
note r s (Expire now) =
    run_of s r.purchases r.settled r.skipped r.skipped_qty r.crank_fills r.prints r.printed_qty false

-- 'each call gets the session that the one before it handed back'; a refused call leaves all as it was
unfoldable pub advance : Run → Call → Run
advance r c = if refusal r.session c == 0 then note r (effect r.session c) c else r

-- a list of calls, in turn
abbrev pub run : Run → List Call → Run
run r [] = r
run r (c ∷ calls) = run (advance r c) calls
