-- What an accepted call has passed. Assumes nothing.
use mathlib.Core.Path.{◌≡◌}
use mathlib.Core.Bool.{Bool, true, false}
use mathlib.Core.List.{List}
use Prim.Native.Nat.{ℕ, ◌≤◌, ◌<◌}
use borrow.Author.Tests.{ltb-true, leb-true, eqb-true, not-true}
use lib.IntN.{ℤ}
use Rattle.laws.proofs.Lists.{same_true}
use Rattle.laws.proofs.Checking.{then_zero, check_zero, unless_zero}
use Rattle.book.specs.Limits.{max_fills}
use Rattle.auction_engine.specs.declared.Session.{Session}
use Rattle.auction_engine.specs.Session.{order_at, fill_at, allocating, issuer_rofr, settling}
use Rattle.auction_engine.specs.Call.{admits, limits_refusal, fields_refusal, arguments_refusal}
use Rattle.auction_engine.specs.declared.Call.{Call}
use Rattle.auction_engine.specs.declared.Call.TheVariants.{Screen, Clear, Allocate, Exercise, Close, Settle, Skip, Finish, Expire}
use Rattle.auction_engine.specs.Screening.{screen_refusal}
use Rattle.auction_engine.specs.Clearing.{outcome, all_ready, clear_checks, clear_refusal}
use Rattle.auction_engine.specs.Matching.{overfull, allocate_refusal}
use Rattle.auction_engine.specs.Rofr.{exercise_refusal, close_refusal}
use Rattle.auction_engine.specs.Settlement.{settle_refusal, skip_refusal, finish_refusal, expire_refusal}
use Rattle.auction_engine.specs.Engine.{own_refusal, refusal, effect}
use Rattle.course.specs.Course.{Run, note}

-- an accepted call, done and noted
abbrev pub noted : Run → Call → Run
noted r c = note r (effect r.session c) c

-- all of 9, all of 4, and the call's own row
module _ (s : Session) (c : Call) (e : refusal s c ≡ 0) where
  pub limits_pass : limits_refusal s ≡ 0
  unfolding refusal
  limits_pass = (then_zero (limits_refusal s) _ e).0

  pub fields_pass : fields_refusal s ≡ 0
  unfolding refusal
  fields_pass = (then_zero (fields_refusal s) _ (then_zero (limits_refusal s) _ e).1).0

  arguments_pass : arguments_refusal c ≡ 0
  unfolding refusal
  arguments_pass = (then_zero (arguments_refusal c) _ (then_zero (fields_refusal s) _ (then_zero (limits_refusal s) _ e).1).1).0

  own_passes : own_refusal s c ≡ 0
  unfolding refusal
  own_passes = (then_zero (arguments_refusal c) _ (then_zero (fields_refusal s) _ (then_zero (limits_refusal s) _ e).1).1).1

-- the phase of a call: 0, 1 or 7 for screen and clear
abbrev pub Early : ℕ → Type 0
Early phase = admits phase 0 ≡ true

pub early_screen : (s : Session) (now : ℤ) (i side verdict : ℕ) (has_id : Bool) (id : List ℕ) → refusal s (Screen now i side verdict has_id id) ≡ 0 → Early s.phase
unfolding own_refusal screen_refusal
early_screen s now i side verdict has_id id e = (check_zero _ _ _ (check_zero _ _ _ (own_passes s (Screen now i side verdict has_id id) e)).1).0

-- a screen
pub record Screens (s : Session) (i verdict : ℕ) : Type 0 where
  pub known : verdict ≤ 6
  pub revealed : (order_at s i).revealed ≡ true
  pub unscreened : (order_at s i).screened ≡ false

pub screens : (s : Session) (now : ℤ) (i side verdict : ℕ) (has_id : Bool) (id : List ℕ) → refusal s (Screen now i side verdict has_id id) ≡ 0 → Screens s i verdict
unfolding own_refusal screen_refusal arguments_refusal
screens s now i side verdict has_id id e =
    let a = check_zero _ _ _ (check_zero _ _ _ (arguments_pass s (Screen now i side verdict has_id id) e)).1 in
    let b = check_zero _ _ _ (check_zero _ _ _ (check_zero _ _ _ (own_passes s (Screen now i side verdict has_id id) e)).1).1 in
    let c = check_zero _ _ _ (check_zero _ _ _ b.1).1 in
    record { known = leb-true _ _ a.0; revealed = c.0; unscreened = not-true _ (unless_zero _ _ c.1) }

pub early_clear : (s : Session) (now : ℤ) → refusal s (Clear now) ≡ 0 → Early s.phase
unfolding own_refusal clear_refusal admits
early_clear s now e = (check_zero _ _ _ (check_zero _ _ _ (then_zero (clear_checks s now) (outcome s).refusal (own_passes s (Clear now) e)).0).1).0

pub all_screened : (s : Session) (now : ℤ) → refusal s (Clear now) ≡ 0 → all_ready s ≡ true
unfolding own_refusal clear_refusal
all_screened s now e = unless_zero _ _ (check_zero _ _ _ (check_zero _ _ _ (then_zero (clear_checks s now) (outcome s).refusal (own_passes s (Clear now) e)).0).1).1

pub outcome_passes : (s : Session) (now : ℤ) → refusal s (Clear now) ≡ 0 → (outcome s).refusal ≡ 0
unfolding own_refusal clear_refusal
outcome_passes s now e = (then_zero (clear_checks s now) (outcome s).refusal (own_passes s (Clear now) e)).1

pub at_allocate : (s : Session) (now : ℤ) (n : ℕ) → refusal s (Allocate now n) ≡ 0 → s.phase ≡ allocating
unfolding own_refusal allocate_refusal admits
at_allocate s now n e = eqb-true _ _ (check_zero _ _ _ (own_passes s (Allocate now n) e)).0

pub not_full : (s : Session) (now : ℤ) (n : ℕ) → refusal s (Allocate now n) ≡ 0 → overfull n s ≡ false
unfolding own_refusal allocate_refusal
not_full s now n e = not-true _ (unless_zero _ _ (check_zero _ _ _ (own_passes s (Allocate now n) e)).1)

-- a purchase
pub record Exercised (s : Session) (issuer : List ℕ) (i q : ℕ) : Type 0 where
  pub at : s.phase ≡ issuer_rofr
  pub by : issuer ≡ s.params.rofr_authority
  pub free : s.fill_count < max_fills
  pub i<n : i < s.fill_count
  pub fits : q ≤ (fill_at s i).qty

pub exercised : (s : Session) (now : ℤ) (issuer : List ℕ) (i q : ℕ) → refusal s (Exercise now issuer i q) ≡ 0 → Exercised s issuer i q
unfolding own_refusal exercise_refusal admits
exercised s now issuer i q e =
    let a = check_zero _ _ _ (own_passes s (Exercise now issuer i q) e) in
    let b = check_zero _ _ _ (check_zero _ _ _ a.1).1 in
    let c = check_zero _ _ _ (check_zero _ _ _ b.1).1 in
    let d = check_zero _ _ _ c.1 in
    let f = check_zero _ _ _ (check_zero _ _ _ d.1).1 in
    record {
      at = eqb-true _ _ a.0;
      by = same_true _ _ b.0;
      free = ltb-true _ _ c.0;
      i<n = ltb-true _ _ d.0;
      fits = leb-true _ _ (unless_zero _ _ f.1);
    }

pub at_close : (s : Session) (now : ℤ) (caller : List ℕ) → refusal s (Close now caller) ≡ 0 → s.phase ≡ issuer_rofr
unfolding own_refusal close_refusal admits
at_close s now caller e = eqb-true _ _ (check_zero _ _ _ (own_passes s (Close now caller) e)).0

-- a fill that is settled or skipped
pub record Unsettled (s : Session) (i : ℕ) : Type 0 where
  pub at : s.phase ≡ settling
  pub i<n : i < s.fill_count
  pub free : (fill_at s i).settled ≡ false

pub settles : (s : Session) (i : ℕ) → refusal s (Settle i) ≡ 0 → Unsettled s i
unfolding own_refusal settle_refusal admits
settles s i e =
    let a = check_zero _ _ _ (own_passes s (Settle i) e) in
    let b = check_zero _ _ _ a.1 in
    record { at = eqb-true _ _ a.0; i<n = ltb-true _ _ b.0; free = not-true _ (unless_zero _ _ b.1) }

pub skips : (s : Session) (now : ℤ) (i reason : ℕ) → refusal s (Skip now i reason) ≡ 0 → Unsettled s i
unfolding own_refusal skip_refusal admits
skips s now i reason e =
    let a = check_zero _ _ _ (own_passes s (Skip now i reason) e) in
    let b = check_zero _ _ _ a.1 in
    record { at = eqb-true _ _ a.0; i<n = ltb-true _ _ b.0; free = not-true _ (check_zero _ _ _ b.1).0 }

pub at_finish : (s : Session) (now : ℤ) → refusal s (Finish now) ≡ 0 → s.phase ≡ settling
unfolding own_refusal finish_refusal admits
at_finish s now e = eqb-true _ _ (check_zero _ _ _ (own_passes s (Finish now) e)).0

pub at_expire : (s : Session) (now : ℤ) → refusal s (Expire now) ≡ 0 → admits s.phase 8 ≡ true
unfolding own_refusal expire_refusal
at_expire s now e = (check_zero _ _ _ (own_passes s (Expire now) e)).0
