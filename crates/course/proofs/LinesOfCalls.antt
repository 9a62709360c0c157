-- An accepted call's events tell what it is noted with. Assumes nothing.
use mathlib.Core.Path.{◌≡◌, refl, sym, ap, ◌∙◌}
use mathlib.Core.Logic.{◌≢◌, ⊎_elim}
use mathlib.Core.Bool.{Bool, true, false, cond, not, ◌&&◌, ◌||◌, false≢true, and-true, and-false, or-false}
use mathlib.Core.List.{List, [], ◌∷◌, ◌++◌}
use Prim.Native.Nat.{ℕ, zero, suc, ◌+◌, ◌-◌, ◌≤◌}
use native.Mathlib.Omega.{arith}
use borrow.Author.Tests.{eq-eqb, ne_eqb}
use lib.Dec.{eqb}
use lib.IntN.{ℤ}
use lib.ListN.{length}
use Rattle.laws.specs.Lists.{same}
use Rattle.laws.proofs.Tests.{tested, lt_or_le}
use Rattle.book.specs.Book.{no_wallet}
use Rattle.book.specs.Clear.{live_orders, Outcome}
use Rattle.book.specs.Claims as book
use Rattle.book.proofs.Theorems.{clear_is_right}
use Rattle.events.specs.declared.Event.{Event}
use Rattle.events.specs.declared.Event.TheVariants.{OrderScreened, SessionFailed, ClearingPrint, PhaseChanged}
use Rattle.auction_engine.specs.declared.Session.{Session}
use Rattle.auction_engine.specs.Session.{fill_at, at_phase, allocating, issuer_rofr, settling, printed, failed, clearing}
use Rattle.auction_engine.specs.Call.{admits}
use Rattle.auction_engine.specs.declared.Call.{Call}
use Rattle.auction_engine.specs.declared.Call.TheVariants.{Screen, Clear, Allocate, Exercise, Close, Settle, Skip, Finish, Expire}
use Rattle.auction_engine.specs.Screening.{exclusion_of, screen_events, screen_lines}
use Rattle.auction_engine.specs.Clearing.{outcome, clear_lines}
use Rattle.auction_engine.specs.Matching.{due, one, after_fills, done, phase_after, allocate_effect, fill_events, allocate_events}
use Rattle.auction_engine.specs.Rofr.{exercise_events, close_events}
use Rattle.auction_engine.specs.Settlement.{print_of, settle_events, skip_events, finish_events, expire_events}
use Rattle.auction_engine.specs.Engine.{refusal, effect, events}
use Rattle.auction_engine.proofs.Fills.{due_event, idle_after_fills, idle_events, due_count, due_events}
use Rattle.course.specs.Course.{Run, note}
use Rattle.course.specs.Lines.{Told, tell, tell_all, notes_of}
use Rattle.course.proofs.Fills.{after_fills_grows, after_fills_phase}
use Rattle.course.proofs.Accepted.{noted, Early, early_screen, early_clear, at_allocate, at_close, at_finish}

-- lines told in two parts
pub tell_append : (t : Told) (es fs : List Event) → tell_all t (es ++ fs) ≡ tell_all (tell_all t es) fs
tell_append t [] fs = refl
tell_append t (e ∷ es) fs = tell_append (tell t e) es fs

-- the same with another note of completeness, and with another number of fills
abbrev completed : Told → Bool → Told
completed t b =
    record { purchases = t.purchases; skipped = t.skipped; skipped_qty = t.skipped_qty; crank_fills = t.crank_fills; prints = t.prints; complete = b }

abbrev filled : Told → ℕ → Told
filled t n =
    record { purchases = t.purchases; skipped = t.skipped; skipped_qty = t.skipped_qty; crank_fills = n; prints = t.prints; complete = t.complete }

-- a change of phase that is not out of Allocating tells nothing, and no failure but Deadline does
other_phase : (t : Told) (from to : ℕ) → from ≢ allocating → tell t (PhaseChanged from to) ≡ t
other_phase t from to h = ap (λ x. completed t (t.complete || (x && not (eqb to failed)))) (ne_eqb from allocating h) ∙ ap (completed t) (or-false t.complete)

other_reason : (t : Told) (reason : ℕ) → reason ≢ 4 → tell t (SessionFailed reason) ≡ t
other_reason t reason h = ap (λ x. completed t (t.complete && not x)) (ne_eqb reason 4 h) ∙ ap (completed t) (and-true t.complete)

-- lines of which either tells nothing
either_tells : (t : Told) (x : Bool) (es fs : List Event) → t ≡ tell_all t es → t ≡ tell_all t fs → t ≡ tell_all t (cond x es fs)
either_tells t true es fs h k = h
either_tells t false es fs h k = k

-- screen and clear start from another phase
before_matching : (phase : ℕ) → Early phase → phase ≢ allocating
unfolding admits
before_matching phase e h = false≢true (rw h at e)

screen_tells : (t : Told) (from i exclusion : ℕ) → from ≢ allocating → t ≡ tell_all t (screen_lines from i exclusion)
screen_tells t from i exclusion h = go (eqb from clearing)
  where
    go : (x : Bool) → t ≡ tell_all t (cond x [] (PhaseChanged from clearing ∷ []) ++ (OrderScreened i exclusion ∷ []))
    go true = refl
    go false = sym (other_phase t from clearing h)

-- a clear fails with 1, 2 or 3
right_reason : (s : Session) (o : Outcome) → book.RightClear s.params s.given s.orders s.order_count o → o.failed ≢ 4
right_reason s o (book.no_crossing h e) = rw e (omega arith)
right_reason s o (book.too_large q b h e) = rw e (omega arith)
right_reason s o (book.has_price h) = omega (arith, h.failed)

clear_reason : (s : Session) → (outcome s).failed ≢ 4
clear_reason s =
    let C = clear_is_right s.params s.given s.orders s.order_count in
    let unmarked : Bool = not s.params.forced && not s.given.mark in
    ⊎_elim (λ h. rw (C.too_few h) (omega arith))
    (λ (h : s.params.min_reveals ≤ length (live_orders s.orders s.order_count)).
    ⊎_elim (λ (t : unmarked ≡ true). rw (C.unmarked h t) (omega arith))
    (λ (t : unmarked ≡ false). right_reason s (outcome s) (C.right (record { enough = h; marked = t })))
    (tested unmarked))
    (lt_or_le (length (live_orders s.orders s.order_count)) s.params.min_reveals)

clear_tells : (t : Told) (s : Session) (found : Outcome) → s.phase ≢ allocating → found.failed ≢ 4 → t ≡ tell_all t (clear_lines s found)
unfolding clear_lines
clear_tells t s found h f =
    either_tells t (eqb found.failed 0) _ _ (sym (other_phase t s.phase allocating h))
    (sym (ap (λ u. tell u (PhaseChanged s.phase failed)) (other_reason t found.failed f) ∙ other_phase t s.phase failed h))

-- each fill of a crank is told once
fills_tell : (n : ℕ) (s : Session) (t : Told) → tell_all t (fill_events n s) ≡ filled t (t.crank_fills + ((after_fills n s).fill_count - s.fill_count))
unfolding after_fills fill_events
fills_tell zero s t = ap (filled t) (omega arith)
fills_tell (suc n) s t = go (due s) refl (λ u. fills_tell n (one s) u)
  where
    go : (x : Bool) → due s ≡ x
        → ((u : Told) → tell_all u (fill_events n (one s)) ≡ filled u (u.crank_fills + ((after_fills n (one s)).fill_count - (one s).fill_count)))
        → tell_all t (fill_events (suc n) s) ≡ filled t (t.crank_fills + ((after_fills (suc n) s).fill_count - s.fill_count))
    go true d ih =
        ap (tell_all t) (due_events s d n) ∙ ih (tell t (due_event s)) ∙ ap (filled t) (omega (arith, due_count s d, after_fills_grows n (one s)))
    go false d ih = ap (tell_all t) (idle_events s d (suc n)) ∙ ap (filled t) (omega (arith, ap (λ (u : Session). u.fill_count) (idle_after_fills s d (suc n))))

-- the matching leaves Allocating for IssuerRofr or Settling
goes_on : (s : Session) → (phase_after s ≢ allocating) × (phase_after s ≢ failed)
unfolding phase_after
goes_on s = go (same s.params.rofr_authority no_wallet)
  where
    go : (y : Bool) → (cond y settling issuer_rofr ≢ allocating) × (cond y settling issuer_rofr ≢ failed)
    go true = (omega arith, omega arith)
    go false = (omega arith, omega arith)

allocate_tells : (r : Run) (now : ℤ) (n : ℕ) → r.session.phase ≡ allocating → notes_of (noted r (Allocate now n)) ≡ tell_all (notes_of r) (allocate_events r.session n)
unfolding note effect allocate_effect allocate_events
allocate_tells r now n h =
    go (done t)
    ∙ ap (λ u. tell_all u (cond (done t) (PhaseChanged s.phase (phase_after s) ∷ []) [])) (sym (fills_tell n s (notes_of r)))
    ∙ sym (tell_append (notes_of r) (fill_events n s) (cond (done t) (PhaseChanged s.phase (phase_after s) ∷ []) []))
  where
    s : Session
    s = r.session

    t : Session
    t = after_fills n s

    phase : t.phase ≡ allocating
    phase = after_fills_phase n s ∙ h

    after : Session → Told
    after u =
        completed (filled (notes_of r) (r.crank_fills + (u.fill_count - s.fill_count))) (r.complete || not (eqb u.phase allocating))

    go : (x : Bool) → after (cond x (at_phase t (phase_after t)) t)
        ≡ tell_all (filled (notes_of r) (r.crank_fills + (t.fill_count - s.fill_count))) (cond x (PhaseChanged s.phase (phase_after s) ∷ []) [])
    go true = rw (ne_eqb (phase_after t) allocating (goes_on t).0, ne_eqb (phase_after s) failed (goes_on s).1, eq-eqb s.phase allocating h)
    go false = rw (eq-eqb t.phase allocating phase, or-false)

-- every call, by kind
pub call_tells : (r : Run) (c : Call) → refusal r.session c ≡ 0 → notes_of (noted r c) ≡ tell_all (notes_of r) (events r.session c)
unfolding note events screen_events exercise_events close_events settle_events skip_events finish_events expire_events
call_tells r (Screen now i side verdict has_id id) e =
    screen_tells (notes_of r) r.session.phase i (exclusion_of r.session i verdict has_id id) (before_matching _ (early_screen r.session now i side verdict has_id id e))
call_tells r (Clear now) e = clear_tells (notes_of r) r.session (outcome r.session) (before_matching _ (early_clear r.session now e)) (clear_reason r.session)
call_tells r (Allocate now n) e = allocate_tells r now n (at_allocate r.session now n e)
call_tells r (Exercise now issuer i q) e = refl
call_tells r (Close now caller) e = sym (other_phase (notes_of r) r.session.phase settling (omega (arith, at_close r.session now caller e)))
call_tells r (Settle i) e = either_tells (notes_of r) (eqb (fill_at r.session i).qty 0) [] _ refl refl
call_tells r (Skip now i reason) e = refl
call_tells r (Finish now) e =
    sym (other_phase (tell (notes_of r) (ClearingPrint (print_of r.session))) r.session.phase printed (omega (arith, at_finish r.session now e)))
call_tells r (Expire now) e = rw (and-false r.complete, and-false (eqb r.session.phase allocating))
