-- Settle, skip, finish and expire.
use Rattle.std.specs.Prelude.{true, if◌then◌else◌, not, List, [], ◌∷◌, ℕ, ◌+◌, ◌-◌, ◌^◌, min, nat_lt, ◌==◌, ℤ, set}
use Rattle.std.specs.Int.Signed.{le_z}
use Rattle.laws.specs.Sums.{sum_below, only}
use Rattle.laws.specs.Search.{every}
use Rattle.laws.specs.Bits.{is_set, with_bit}
use Rattle.laws.specs.Checks.{unless, ◌then◌}
use Rattle.book.specs.declared.Fill.{Fill}
use Rattle.investors.specs.Participants.{distinct_participants}
use Rattle.disclosure.specs.Disclosure.{shown, Disclosed}
use Rattle.events.specs.declared.Event.{Event}
use Rattle.events.specs.declared.Event.TheVariants.{FillSettled, FillSkipped, ClearingPrint, SessionFailed, PhaseChanged}
use Rattle.events.specs.declared.Print.{Print}
use Rattle.auction_engine.specs.declared.Session.{Session}
use Rattle.auction_engine.specs.Session as session
use Rattle.auction_engine.specs.Session.{fill_at, remake, at_phase}
use Rattle.auction_engine.specs.Call.{settle_kind, skip_kind, finish_kind, expire_kind, admits}

-- Settle | 10; 21 no fill; 23 settled
unfoldable pub settle_refusal : Session → (i : ℕ) → ℕ
settle_refusal s i =
    unless (admits s.phase settle_kind) 10
    then unless (nat_lt i s.fill_count) 21
    then unless (not (fill_at s i).settled) 23

abbrev pub as_settled : Fill → Fill
as_settled f = record { buyer = f.buyer; seller = f.seller; qty = f.qty; rofr = f.rofr; settled = true }

-- the fill is settled, and counted; `fills_settled` stops at 32 bits, and purchases and skips are not counted
unfoldable pub settle_effect : Session → (i : ℕ) → Session
settle_effect s i =
    remake s s.cleared s.phase s.rofr_qty (min (s.fills_settled + 1) (2 ^ 32 - 1)) s.skipped_fills s.orders
    (set s.fills i (as_settled (fill_at s i))) s.fill_count

-- `settle F QTY PRICE`; nothing for a fill that the issuer took whole
unfoldable pub settle_events : Session → (i : ℕ) → List Event
settle_events s i = if (fill_at s i).qty == 0 then [] else FillSettled i (fill_at s i).qty s.cleared.clear_price ∷ []

-- Skip | 10; 21; 23; 24 reason 0
unfoldable pub skip_refusal : Session → (i reason : ℕ) → ℕ
skip_refusal s i reason =
    unless (admits s.phase skip_kind) 10
    then unless (nat_lt i s.fill_count) 21
    then unless (not (fill_at s i).settled) 23
    then unless (nat_lt 0 reason) 24

-- the fill is settled, and its bit of the skip word set
unfoldable pub skip_effect : Session → (i : ℕ) → Session
skip_effect s i =
    remake s s.cleared s.phase s.rofr_qty s.fills_settled (with_bit s.skipped_fills i) s.orders
    (set s.fills i (as_settled (fill_at s i))) s.fill_count

-- `skip F QTY REASON`
unfoldable pub skip_events : Session → (i reason : ℕ) → List Event
skip_events s i reason = FillSkipped i (fill_at s i).qty reason ∷ []

-- the volume that moved: the fills that were not skipped
unfoldable pub moved_volume : Session → ℕ
moved_volume s = sum_below (λ i. only (not (is_set s.skipped_fills i)) (fill_at s i).qty) s.fill_count

-- Finish | 10; 25 a fill unsettled; 17 volume sum unfit
unfoldable pub finish_refusal : Session → ℕ
finish_refusal s =
    unless (admits s.phase finish_kind) 10
    then unless (every (λ i. (fill_at s i).settled) s.fill_count) 25
    then unless (nat_lt (moved_volume s) (2 ^ 64)) 17

unfoldable pub finish_effect : Session → Session
finish_effect s = at_phase s session.printed

abbrev pub disclosed : Session → Disclosed
disclosed s = shown s.given.policy s.given.band_bps s.cleared.clear_price (moved_volume s)

-- `print PRICE VOLUME COUNT FORCED POLICY PARTIAL`
unfoldable pub print_of : Session → Print
print_of s =
    record {
      price = (disclosed s).price;
      volume = (disclosed s).volume;
      n_investor_ids = distinct_participants s.orders s.order_count s.fills s.skipped_fills s.fill_count;
      forced_sale = s.params.forced;
      policy = s.given.policy;
      partial = not (s.skipped_fills == 0);
    }

unfoldable pub finish_events : Session → List Event
finish_events s = ClearingPrint (print_of s) ∷ PhaseChanged s.phase session.printed ∷ []

-- Expire | 10; 11: 'expire from that deadline'
unfoldable pub expire_refusal : Session → (now : ℤ) → ℕ
expire_refusal s now =
    unless (admits s.phase expire_kind) 10
    then unless (le_z s.params.settle_deadline now) 11

unfoldable pub expire_effect : Session → Session
expire_effect s = at_phase s session.failed

-- 'Deadline 4 is expire's', then the change of phase
unfoldable pub expire_events : Session → List Event
expire_events s = SessionFailed 4 ∷ PhaseChanged s.phase session.failed ∷ []
