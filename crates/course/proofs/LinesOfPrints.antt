-- A run prints once at most, and its print shows what `disclose` answers of the printed quantity. Assumes nothing.
use mathlib.Core.Path.{◌≡◌, refl, sym, ap, ◌∙◌}
use mathlib.Core.Bool.{Bool, true, false, cond, false≢true}
use mathlib.Core.List.{List, [], ◌∷◌}
use Prim.Native.Nat.{ℕ}
use native.Mathlib.Nat.{zero-add}
use native.Mathlib.Omega.{arith}
use borrow.Author.Tests.{le-leb, eqb-true}
use lib.Dec.{eqb}
use lib.IntN.{ℤ}
use lib.ListN.{length}
use Rattle.book.specs.declared.Given.{Given}
use Rattle.disclosure.specs.Disclosure.{shown, disclose_answer, Disclosed}
use Rattle.events.specs.declared.Print.{Print}
use Rattle.auction_engine.specs.declared.Session.{Session}
use Rattle.auction_engine.specs.Session.{printed}
use Rattle.auction_engine.specs.Call.{admits}
use Rattle.auction_engine.specs.declared.Call.{Call}
use Rattle.auction_engine.specs.declared.Call.TheVariants.{Screen, Clear, Allocate, Exercise, Close, Settle, Skip, Finish, Expire}
use Rattle.auction_engine.specs.Screening.{screen_effect}
use Rattle.auction_engine.specs.Clearing.{outcome, cleared_by}
use Rattle.auction_engine.specs.Matching.{after_fills, done, allocate_effect}
use Rattle.auction_engine.specs.Rofr.{exercise_effect, close_effect}
use Rattle.auction_engine.specs.Settlement.{moved_volume, print_of, settle_effect, skip_effect, finish_effect, expire_effect}
use Rattle.auction_engine.specs.Engine.{refusal, effect}
use Rattle.auction_engine.proofs.Prints.{finish_passed}
use Rattle.course.specs.Course.{Run, begin, note, advance, run}
use Rattle.course.specs.Demand3.{after}
use Rattle.course.proofs.Fills.{after_fills_given}
use Rattle.course.proofs.Applied.{note_session}
use Rattle.course.proofs.Accepted.{noted, early_screen, early_clear, at_allocate, exercised, at_close, settles, skips, at_finish, at_expire}

-- Printed admits no call
closed : (s : Session) (c : Call) → s.phase ≡ printed → refusal s c ≡ 0 → ⊥
unfolding admits
closed s (Screen now i side verdict has_id id) h e = false≢true (rw h at (early_screen s now i side verdict has_id id e))
closed s (Clear now) h e = false≢true (rw h at (early_clear s now e))
closed s (Allocate now n) h e = omega (arith, at_allocate s now n e)
closed s (Exercise now issuer i q) h e = omega (arith, (exercised s now issuer i q e).at)
closed s (Close now caller) h e = omega (arith, at_close s now caller e)
closed s (Settle i) h e = omega (arith, (settles s i e).at)
closed s (Skip now i reason) h e = omega (arith, (skips s now i reason e).at)
closed s (Finish now) h e = omega (arith, at_finish s now e)
closed s (Expire now) h e = false≢true (rw h at (at_expire s now e))

-- no call changes what the venue gives
either_given : (x : Bool) (s t u : Session) → t.given ≡ s.given → u.given ≡ s.given → (cond x t u).given ≡ s.given
either_given true s t u h k = h
either_given false s t u h k = k

effect_given : (s : Session) (c : Call) → (effect s c).given ≡ s.given
unfolding effect screen_effect cleared_by allocate_effect exercise_effect close_effect settle_effect skip_effect finish_effect expire_effect
effect_given s (Screen now i side verdict has_id id) = refl
effect_given s (Clear now) = either_given (eqb (outcome s).failed 0) s _ _ refl refl
effect_given s (Allocate now n) = either_given (done (after_fills n s)) s _ _ (after_fills_given n s) (after_fills_given n s)
effect_given s (Exercise now issuer i q) = refl
effect_given s (Close now caller) = refl
effect_given s (Settle i) = refl
effect_given s (Skip now i reason) = refl
effect_given s (Finish now) = refl
effect_given s (Expire now) = refl

-- showing is never refused
either_refusal : (x : Bool) (a b : Disclosed) → a.refusal ≡ 0 → b.refusal ≡ 0 → (cond x a b).refusal ≡ 0
either_refusal true a b h k = h
either_refusal false a b h k = k

shown_refusal : (policy band price volume : ℕ) → (shown policy band price volume).refusal ≡ 0
unfolding shown
shown_refusal policy band price volume =
    either_refusal (eqb policy 0) _ _ refl (either_refusal (eqb policy 1) _ _ refl (either_refusal (eqb policy 2) _ _ refl refl))

-- a print shows what `disclose` answers of a price and a volume
abbrev pub Shows : Given → (price volume : ℕ) → Print → Type 0
Shows g price volume print =
    disclose_answer g.policy g.band_bps price volume ≡ record { refusal = 0; price = print.price; volume = print.volume }

finish_shows : (s : Session) (now : ℤ) → refusal s (Finish now) ≡ 0 → Shows s.given s.cleared.clear_price (moved_volume s) (print_of s)
unfolding disclose_answer print_of
finish_shows s now e =
    let passed = finish_passed s now e in
    let d : Disclosed = shown s.given.policy s.given.band_bps s.cleared.clear_price (moved_volume s) in
    rw (le-leb _ _ passed.1, le-leb _ _ passed.2) (ap (λ (n : ℕ). record { refusal = n; price = d.price; volume = d.volume }) (shown_refusal _ _ _ _))

-- before a print, and after it
record Unprinted (g : Given) (r : Run) : Type 0 where
  pub given : r.session.given ≡ g
  pub prints : r.prints ≡ []
  pub volume : r.printed_qty ≡ 0

record Printed (g : Given) (r : Run) : Type 0 where
  pub at : r.session.phase ≡ printed
  pub print : Print
  pub prints : r.prints ≡ print ∷ []
  pub shows : Shows g r.session.cleared.clear_price r.printed_qty print

data AtMostOnce (g : Given) (r : Run) : Type 0 where
  not_yet : Unprinted g r → AtMostOnce g r
  once : Printed g r → AtMostOnce g r

-- a call that notes no print
still : (g : Given) (r : Run) (c : Call) → Unprinted g r → (noted r c).prints ≡ r.prints → (noted r c).printed_qty ≡ r.printed_qty → AtMostOnce g (noted r c)
still g r c U p q =
    not_yet (record {
      given = ap (λ (s : Session). s.given) (note_session r (effect r.session c) c) ∙ effect_given r.session c ∙ U.given;
      prints = p ∙ U.prints;
      volume = q ∙ U.volume;
    })

finish_prints : (g : Given) (r : Run) (now : ℤ) → Unprinted g r → refusal r.session (Finish now) ≡ 0 → AtMostOnce g (noted r (Finish now))
unfolding note effect finish_effect
finish_prints g r now U e =
    once (record {
      at = refl;
      print = print_of r.session;
      prints = ap (λ l. print_of r.session ∷ l) U.prints;
      shows = rw (← U.given, U.volume, zero-add) (finish_shows r.session now e);
    })

call_prints : (g : Given) (r : Run) (c : Call) → AtMostOnce g r → refusal r.session c ≡ 0 → AtMostOnce g (noted r c)
unfolding note
call_prints g r c (once P) e = absurd (closed r.session c P.at e)
call_prints g r (Screen now i side verdict has_id id) (not_yet U) e = still g r (Screen now i side verdict has_id id) U refl refl
call_prints g r (Clear now) (not_yet U) e = still g r (Clear now) U refl refl
call_prints g r (Allocate now n) (not_yet U) e = still g r (Allocate now n) U refl refl
call_prints g r (Exercise now issuer i q) (not_yet U) e = still g r (Exercise now issuer i q) U refl refl
call_prints g r (Close now caller) (not_yet U) e = still g r (Close now caller) U refl refl
call_prints g r (Settle i) (not_yet U) e = still g r (Settle i) U refl refl
call_prints g r (Skip now i reason) (not_yet U) e = still g r (Skip now i reason) U refl refl
call_prints g r (Finish now) (not_yet U) e = finish_prints g r now U e
call_prints g r (Expire now) (not_yet U) e = still g r (Expire now) U refl refl

advance_prints : (g : Given) (r : Run) (c : Call) → AtMostOnce g r → AtMostOnce g (advance r c)
unfolding advance
advance_prints g r c I = go (eqb (refusal r.session c) 0) refl
  where
    go : (x : Bool) → eqb (refusal r.session c) 0 ≡ x → AtMostOnce g (cond x (noted r c) r)
    go true e = call_prints g r c I (eqb-true _ _ e)
    go false e = I

run_prints : (g : Given) (l : List Call) (r : Run) → AtMostOnce g r → AtMostOnce g (run r l)
run_prints g [] r I = I
run_prints g (c ∷ l) r I = run_prints g l (advance r c) (advance_prints g r c I)

-- so after every list of calls
prints_once : (s : Session) (l : List Call) → AtMostOnce s.given (after s l)
prints_once s l = run_prints s.given l (begin s) (not_yet (record { given = refl; prints = refl; volume = refl }))

pub printed_once : (s : Session) (l : List Call) (print : Print) (others : List Print) → (after s l).prints ≡ print ∷ others
    → (others ≡ []) × Shows s.given (after s l).session.cleared.clear_price (after s l).printed_qty print
printed_once s l print others e = go (prints_once s l)
  where
    r : Run
    r = after s l

    go : AtMostOnce s.given r → (others ≡ []) × Shows s.given r.session.cleared.clear_price r.printed_qty print
    go (not_yet U) = absurd (omega (arith, ap length e, ap length U.prints))
    go (once P) =
        let both : P.print ∷ [] ≡ print ∷ others = sym P.prints ∙ e in
        let it : P.print ≡ print = cc in
        (cc, rw it at P.shows)

pub none_printed : (s : Session) (l : List Call) → (after s l).prints ≡ [] → (after s l).printed_qty ≡ 0
none_printed s l e = go (prints_once s l)
  where
    go : AtMostOnce s.given (after s l) → (after s l).printed_qty ≡ 0
    go (not_yet U) = U.volume
    go (once P) = absurd (omega (arith, ap length e, ap length P.prints))
