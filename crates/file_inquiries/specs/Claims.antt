-- What is proved of the questions of a file: proofs/Theorems.antt.
use Rattle.std.specs.Prelude.{◌≡◌, List, [], ◌∷◌, ◌++◌, ℕ, ℤ, slice_index}
use Rattle.laws.specs.Lists.{Member}
use Rattle.events.specs.declared.Event.{Event}
use Rattle.events.specs.declared.Event.TheVariants.{Cleared}
use Rattle.auction_engine.specs.declared.Session.{Session}
use Rattle.auction_engine.specs.declared.Call.TheVariants.{Clear}
use Rattle.auction_engine.specs.Session.{allocating}
use Rattle.auction_engine.specs.Clearing.{outcome}
use Rattle.inquiries.specs.Why.{price, lot_of}
use Rattle.inquiries.specs.Claims.{Asked}
use Rattle.session_file.specs.Fields.{Read, call}
use Rattle.session_file.specs.Reads.{reads}
use Rattle.session_file.specs.File.{start, said_of}
use Rattle.session_file.specs.Claims.{made_all}
use Rattle.session_file.specs.Ended.{session_refusal, session_of}
use Rattle.file_inquiries.specs.Entry.{refusal_of}

-- the numbers that refuse the question of a file: of the whole input, of each record, and of the rows `SH`, `SI` and `OR`; then the question's own
abbrev pub RefusedByNumber : Type 0
RefusedByNumber = (input : List ℕ) (order room : ℕ)
    → Member (refusal_of input order room) (0 ∷ 26 ∷ 1 ∷ 2 ∷ 3 ∷ 4 ∷ 5 ∷ 6 ∷ 31 ∷ 7 ∷ 8 ∷ 10 ∷ 12 ∷ 27 ∷ [])

-- no session that a file leaves is refused with 9 or 4
abbrev pub RefusedByQuestion : Type 0
RefusedByQuestion = (input : List ℕ) (order room : ℕ) → session_refusal input ≡ 0 → Member (refusal_of input order room) (0 ∷ 10 ∷ 12 ∷ 27 ∷ [])

-- nothing about the session t refuses the question, and price and lots are those of a clear of s
pub record ToldByClear (s t : Session) (clear_price : ℕ) : Type 0 where
  pub asked : Asked t
  pub price_is : price t ≡ clear_price
  pub lot_is : (i : ℕ) → lot_of t i ≡ slice_index (outcome s).lots i

-- 'For a session just cleared': a file with a `clear` line that no file refusal ends, and whose session is Allocating at its end, is told by that clear
abbrev pub ClearedFileIsTold : Type 0
ClearedFileIsTold =
    (input : List ℕ) (l k : List Read) (now : ℤ) (clear_price volume reserve reference : ℕ) (others : List Event)
    → session_refusal input ≡ 0
    → reads input ≡ l ++ (call (Clear now) ∷ k)
    → said_of (made_all start l) (call (Clear now)) ≡ Cleared clear_price volume reserve reference ∷ others
    → (session_of input).phase ≡ allocating
    → ToldByClear (made_all start l).session (session_of input) clear_price
