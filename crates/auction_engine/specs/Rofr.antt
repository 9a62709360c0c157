-- Exercise and close: the issuer's right of first refusal.
use Rattle.std.specs.Prelude.{true, not, ◌||◌, List, [], ◌∷◌, ℕ, ◌+◌, ◌-◌, ◌^◌, min, nat_lt, nat_le, ℤ, set}
use Rattle.std.specs.Int.Signed.{lt_z, le_z}
use Rattle.laws.specs.Lists.{same}
use Rattle.laws.specs.Checks.{unless, ◌then◌}
use Rattle.book.specs.Limits.{max_fills}
use Rattle.book.specs.declared.Fill.{Fill}
use Rattle.events.specs.declared.Event.{Event}
use Rattle.events.specs.declared.Event.TheVariants.{RofrExercised, RofrClosed, PhaseChanged}
use Rattle.auction_engine.specs.declared.Session.{Session}
use Rattle.auction_engine.specs.Session.{fill_at, rofr_end, remake, at_phase, settling}
use Rattle.auction_engine.specs.Call.{exercise_kind, close_kind, admits}

-- Exercise | 10; 11 at or after rofr end; 19 not the authority; 20 qty 0; 18 24 held; 21 no fill, or already rofr or settled; 22 qty above the fill
unfoldable pub exercise_refusal : Session → (now : ℤ) (issuer : List ℕ) (i q : ℕ) → ℕ
exercise_refusal s now issuer i q =
    unless (admits s.phase exercise_kind) 10
    then unless (lt_z now (rofr_end s)) 11
    then unless (same issuer s.params.rofr_authority) 19
    then unless (nat_lt 0 q) 20
    then unless (nat_lt s.fill_count max_fills) 18
    then unless (nat_lt i s.fill_count) 21
    then unless (not (fill_at s i).rofr) 21
    then unless (not (fill_at s i).settled) 21
    then unless (nat_le q (fill_at s i).qty) 22

-- the fill with q less
abbrev pub less_qty : Fill → ℕ → Fill
less_qty f q = record { buyer = f.buyer; seller = f.seller; qty = f.qty - q; rofr = f.rofr; settled = f.settled }

-- the issuer takes q of fill i, as a fill of its own that is settled at once; `rofr_qty` stops at 64 bits
unfoldable pub exercise_effect : Session → (issuer : List ℕ) (i q : ℕ) → Session
exercise_effect s issuer i q =
    remake s s.cleared s.phase (min (s.rofr_qty + q) (2 ^ 64 - 1)) s.fills_settled s.skipped_fills s.orders
    (set (set s.fills i (less_qty (fill_at s i) q)) s.fill_count
    (record { buyer = issuer; seller = (fill_at s i).seller; qty = q; rofr = true; settled = true }))
    (s.fill_count + 1)

-- `rofr F NEW QTY PRICE`
unfoldable pub exercise_events : Session → (i q : ℕ) → List Event
exercise_events s i q = RofrExercised i s.fill_count q s.cleared.clear_price ∷ []

-- Close | 10; 19 neither authority nor rofr end reached
unfoldable pub close_refusal : Session → (now : ℤ) (caller : List ℕ) → ℕ
close_refusal s now caller =
    unless (admits s.phase close_kind) 10
    then unless (same caller s.params.rofr_authority || le_z (rofr_end s) now) 19

unfoldable pub close_effect : Session → Session
close_effect s = at_phase s settling

-- `close QTY`, then the change of phase
unfoldable pub close_events : Session → List Event
close_events s = RofrClosed s.rofr_qty ∷ PhaseChanged s.phase settling ∷ []
