-- Case L of document 01, by definition: what each call answers. proofs/CaseL.antt proves it.
use Rattle.std.specs.Prelude.{◌≡◌, true, false, List, [], ◌∷◌, ℕ, pos, replicate, None}
use Rattle.book.specs.Book.{no_wallet}
use Rattle.book.specs.declared.Params.{Params}
use Rattle.book.specs.declared.Given.{Given}
use Rattle.book.specs.declared.Row.{Row}
use Rattle.events.specs.declared.Event.{Event}
use Rattle.events.specs.declared.Event.TheVariants as event
use Rattle.auction_engine.specs.declared.Session.{Session}
use Rattle.auction_engine.specs.Session.{fresh}
use Rattle.auction_engine.specs.declared.Call.{Call}
use Rattle.auction_engine.specs.declared.Call.TheVariants.{Screen, Clear, Allocate, Settle, Skip, Finish}
use Rattle.auction_engine.specs.Engine.{refusal, effect, events}
use Rattle.auction_engine.specs.Opening.{header_refusal, with_rows, RowsAccepted}

-- 'Header: 100, 0, 200, cash 1000, 2 reveals, unforced, no authority'
abbrev pub params : Params
params =
    record {
      reveal_end = pos 100;
      rofr_window = pos 0;
      settle_deadline = pos 200;
      max_cash = 1000;
      min_reveals = 2;
      forced = false;
      rofr_authority = no_wallet;
    }

-- 'mark 1, reserve 9, reference 10, Banded 2500'
abbrev pub given : Given
given = record { mark = true; reserve = 9; reference = 10; policy = 1; band_bps = 2500 }

abbrev pub row : (owner side escrowed limit qty : ℕ) → Row
row owner side escrowed limit qty = record { owner = replicate 32 owner; side = side; escrowed = escrowed; revealed = true; limit = limit; qty = qty }

-- 'Orders, four owners: buy 5 at 12 (escrow 60), buy 3 at 11 (40), sell 4 at 9 (4), sell 3 at 11 (3)'
abbrev pub rows : List Row
rows = row 1 0 60 12 5 ∷ row 2 0 40 11 3 ∷ row 3 1 4 9 4 ∷ row 4 1 3 11 3 ∷ []

abbrev pub passed : (order side id : ℕ) → Call
passed order side id = Screen (pos 150) order side 0 true (replicate 16 id)

-- 'Four passed screens with distinct ids, CL, AL 2, AL 5, ST 0, ST 1, SK 2 reason 6, FN; now is 150'
abbrev pub calls : List Call
calls =
    passed 0 0 1
    ∷ passed 1 0 2
    ∷ passed 2 1 3
    ∷ passed 3 1 4
    ∷ Clear (pos 150)
    ∷ Allocate (pos 150) 2
    ∷ Allocate (pos 150) 5
    ∷ Settle 0
    ∷ Settle 1
    ∷ Skip (pos 150) 2 6
    ∷ Finish (pos 150)
    ∷ []

-- each call is accepted, with these events
abbrev pub Accepts : Session → List Call → List (List Event) → Type 0
Accepts s [] [] = Unit
Accepts s [] (e ∷ es) = ⊥
Accepts s (c ∷ cs) [] = ⊥
Accepts s (c ∷ cs) (e ∷ es) = (refusal s c ≡ 0) × (events s c ≡ e) × Accepts (effect s c) cs es

-- the lines of the listing
abbrev pub lines : List (List Event)
lines =
    (event.PhaseChanged 1 7 ∷ event.OrderScreened 0 0 ∷ [])
    ∷ (event.OrderScreened 1 0 ∷ [])
    ∷ (event.OrderScreened 2 0 ∷ [])
    ∷ (event.OrderScreened 3 0 ∷ [])
    ∷ (event.Cleared 11 7 9 10 ∷ event.PhaseChanged 7 2 ∷ [])
    ∷ (event.FillAllocated 0 0 2 4 ∷ event.FillAllocated 1 0 3 1 ∷ [])
    ∷ (event.FillAllocated 2 1 3 2 ∷ event.PhaseChanged 2 4 ∷ [])
    ∷ (event.FillSettled 0 4 11 ∷ [])
    ∷ (event.FillSettled 1 1 11 ∷ [])
    ∷ (event.FillSkipped 2 2 6 ∷ [])
    ∷ (event.ClearingPrint (record { price = 10; volume = 5; n_investor_ids = 3; forced_sale = false; policy = 1; partial = true }) ∷ event.PhaseChanged 4 5 ∷ [])
    ∷ []

-- the header and the orders are accepted, and so is each call, with its lines
pub record CaseL : Type 0 where
  pub header_accepted : header_refusal params given None ≡ 0
  pub rows_accepted : RowsAccepted (fresh params given) None rows
  pub course : Accepts (with_rows (fresh params given) rows) calls lines
