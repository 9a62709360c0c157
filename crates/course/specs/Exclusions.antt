-- 'Exclusion kinds, 1 to 8 or 0, must be kept in the order from screening on'. proofs/Exclusions.antt proves it.
use Rattle.std.specs.Prelude.{◌≡◌, Bool, true, List, ℕ, ℤ}
use Rattle.book.specs.Book.{kind_fits}
use Rattle.auction_engine.specs.declared.Session.{Session}
use Rattle.auction_engine.specs.declared.Call.{Call}
use Rattle.auction_engine.specs.declared.Call.TheVariants.{Screen}
use Rattle.auction_engine.specs.Session.{order_at}
use Rattle.auction_engine.specs.Screening.{exclusion_of}
use Rattle.auction_engine.specs.Engine.{refusal, effect}
use Rattle.auction_engine.specs.Opening.{Opening, opened}
use Rattle.course.specs.Demand3.{after}

-- no session that calls reach from an opening has a kind above 8 or at odds with the order's being excluded: no call of a file is refused for one
abbrev pub KindsFit : Type 0
KindsFit = (o : Opening) (l : List Call) (i : ℕ) → kind_fits (order_at (after (opened o) l).session i) ≡ true

-- kept from screening on, by any list of calls on any session
pub record KindIsKept : Type 0 where
  -- an accepted screen keeps the exclusion that its line says
  pub stored : (s : Session) (now : ℤ) (i side verdict : ℕ) (has_id : Bool) (id : List ℕ) → refusal s (Screen now i side verdict has_id id) ≡ 0
      → (order_at (effect s (Screen now i side verdict has_id id)) i).exclusion ≡ exclusion_of s i verdict has_id id
  -- and no call changes that of an order that is screened
  pub kept : (s : Session) (l : List Call) (i : ℕ) → (order_at s i).screened ≡ true → (order_at (after s l).session i).exclusion ≡ (order_at s i).exclusion
