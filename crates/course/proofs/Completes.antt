-- Allowances that add up to the fills to come complete every matching that no expire ends. Assumes nothing.
use mathlib.Core.Path.{◌≡◌, refl, sym, ap, ◌∙◌, subst}
use mathlib.Core.Logic.{◌≢◌, ◌⊎◌, inl, inr}
use mathlib.Core.Bool.{Bool, true, false, cond, not, ◌&&◌, ◌||◌, or-true, false≢true}
use mathlib.Core.List.{List, [], ◌∷◌}
use Prim.Native.Nat.{ℕ, ◌+◌, ◌≤◌}
use native.Mathlib.Nat.{add_assoc, add-zero}
use native.Mathlib.Omega.{arith}
use borrow.Author.Tests.{eqb-true, eqb-false, ne_eqb}
use lib.Dec.{eqb}
use lib.IntN.{ℤ}
use Rattle.laws.specs.Lists.{same}
use Rattle.laws.proofs.Tests.{neither}
use Rattle.laws.proofs.Checking.{then_both, check_pass, unless_pass}
use Rattle.book.specs.Book.{no_wallet}
use Rattle.auction_engine.specs.declared.Session.{Session}
use Rattle.auction_engine.specs.Session.{allocating, issuer_rofr, settling}
use Rattle.auction_engine.specs.Call.{admits, arguments_refusal}
use Rattle.auction_engine.specs.declared.Call.{Call}
use Rattle.auction_engine.specs.declared.Call.TheVariants.{Screen, Clear, Allocate, Exercise, Close, Settle, Skip, Finish, Expire}
use Rattle.auction_engine.specs.Matching.{after_fills, allocate_refusal, done, phase_after, matched, allocate_effect}
use Rattle.auction_engine.specs.Engine.{own_refusal, refusal, effect}
use Rattle.course.specs.Course.{Run, begin, note, advance, run}
use Rattle.course.specs.Demand3.{after, allowance, allowances, is_expire, expires}
use Rattle.course.proofs.Matching.{Allotted}
use Rattle.course.proofs.ToCome.{to_come, room, kept_by_fills}
use Rattle.course.proofs.Fills.{after_fills_add, after_fills_phase, after_fills_params, after_fills_given}
use Rattle.course.proofs.Rows.{after_fills_kept}
use Rattle.course.proofs.Checked.{limits_kept, fields_kept}
use Rattle.course.proofs.Accepted.{noted, Early, early_screen, early_clear, exercised, at_close, settles, skips, at_finish}
use Rattle.course.proofs.Enough.{enough, open_start, never_full}
use Rattle.course.proofs.Applied.{advance_session}

matched_open : (t : Session) → done t ≡ false → matched t ≡ t
matched_open t e = rw e

matched_phase : (t : Session) → done t ≡ true → (matched t).phase ≢ allocating
unfolding phase_after
matched_phase t e = rw e (go (same t.params.rofr_authority no_wallet))
  where
    go : (x : Bool) → cond x settling issuer_rofr ≢ allocating
    go true h = omega arith
    go false h = omega arith

module _ (s : Session) (A : Allotted s) where
  -- while the matching is open no allocate is refused
  pub never_refused : (k : ℕ) (now : ℤ) (n : ℕ) → refusal (after_fills k s) (Allocate now n) ≡ 0
  unfolding refusal arguments_refusal own_refusal allocate_refusal admits
  never_refused k now n =
      let t = after_fills k s in
      let C = kept_by_fills s A k in
      let phase : t.phase ≡ allocating = after_fills_phase k s ∙ A.at in
      then_both _ _ (limits_kept s t C.kept.orders (after_fills_given k s) (after_fills_params k s) (omega (arith, room s t A C)) A.limits)
      (then_both _ _ (fields_kept s t C.kept.orders (after_fills_given k s) (omega (arith, phase)) (λ i _. (after_fills_kept k s).orders i) A.fields)
      (then_both _ _ refl (check_pass _ _ _ (rw phase) (unless_pass _ _ (rw (never_full s A n t C))))))

  -- while the matching is open, the session is the start with k fills, k the allowances so far
  record Going (r : Run) (k : ℕ) : Type 0 where
    is : r.session ≡ after_fills k s
    unfinished : done (after_fills k s) ≡ false

  abbrev On : Run → ℕ → Type 0
  On r k = Going r k ⊎ (r.complete ≡ true)

  going_at : (r : Run) (k : ℕ) → Going r k → r.session.phase ≡ allocating
  going_at r k G = ap (λ (t : Session). t.phase) G.is ∙ after_fills_phase k s ∙ A.at

  going_late : (r : Run) (k : ℕ) → Going r k → Early r.session.phase → ⊥
  unfolding admits
  going_late r k G e = false≢true (rw (going_at r k G) at e)

  -- an accepted call other than expire
  goes_on : (r : Run) (c : Call) (k : ℕ) → Going r k → refusal r.session c ≡ 0 → is_expire c ≡ false → On (noted r c) (k + allowance c)
  unfolding note effect allocate_effect
  goes_on r (Screen now i side verdict has_id id) k G e x = absurd (going_late r k G (early_screen r.session now i side verdict has_id id e))
  goes_on r (Clear now) k G e x = absurd (going_late r k G (early_clear r.session now e))
  goes_on r (Allocate now n) k G e x = go (done (after_fills (k + n) s)) refl
    where
      w : after_fills n r.session ≡ after_fills (k + n) s
      w = ap (after_fills n) G.is ∙ sym (after_fills_add k n s)

      go : (y : Bool) → done (after_fills (k + n) s) ≡ y → On (noted r (Allocate now n)) (k + n)
      go false d = inl (record { is = ap matched w ∙ matched_open (after_fills (k + n) s) d; unfinished = d })
      go true d =
          let p : (matched (after_fills n r.session)).phase ≢ allocating = rw w (matched_phase (after_fills (k + n) s) d) in
          inr (ap (λ y. r.complete || not y) (ne_eqb _ allocating p) ∙ or-true r.complete)
  goes_on r (Exercise now issuer i q) k G e x = absurd (omega (arith, going_at r k G, (exercised r.session now issuer i q e).at))
  goes_on r (Close now caller) k G e x = absurd (omega (arith, going_at r k G, at_close r.session now caller e))
  goes_on r (Settle i) k G e x = absurd (omega (arith, going_at r k G, (settles r.session i e).at))
  goes_on r (Skip now i reason) k G e x = absurd (omega (arith, going_at r k G, (skips r.session now i reason e).at))
  goes_on r (Finish now) k G e x = absurd (omega (arith, going_at r k G, at_finish r.session now e))
  goes_on r (Expire now) k G e x = absurd (false≢true (sym x))

  stays_complete : (r : Run) (c : Call) → r.complete ≡ true → is_expire c ≡ false → (noted r c).complete ≡ true
  unfolding note
  stays_complete r (Screen now i side verdict has_id id) h x = h
  stays_complete r (Clear now) h x = h
  stays_complete r (Allocate now n) h x = rw h
  stays_complete r (Exercise now issuer i q) h x = h
  stays_complete r (Close now caller) h x = h
  stays_complete r (Settle i) h x = h
  stays_complete r (Skip now i reason) h x = h
  stays_complete r (Finish now) h x = h
  stays_complete r (Expire now) h x = absurd (false≢true (sym x))

  accepted_on : (r : Run) (c : Call) (k : ℕ) → On r k → refusal r.session c ≡ 0 → is_expire c ≡ false → On (noted r c) (k + allowance c)
  accepted_on r c k (inl G) e x = goes_on r c k G e x
  accepted_on r c k (inr h) e x = inr (stays_complete r c h x)

  -- a refused call is no allocate while the matching is open
  refused_none : (r : Run) (c : Call) (k : ℕ) → Going r k → (refusal r.session c ≡ 0 → ⊥) → allowance c ≡ 0
  refused_none r (Screen now i side verdict has_id id) k G e = refl
  refused_none r (Clear now) k G e = refl
  refused_none r (Allocate now n) k G e = absurd (e (rw G.is (never_refused k now n)))
  refused_none r (Exercise now issuer i q) k G e = refl
  refused_none r (Close now caller) k G e = refl
  refused_none r (Settle i) k G e = refl
  refused_none r (Skip now i reason) k G e = refl
  refused_none r (Finish now) k G e = refl
  refused_none r (Expire now) k G e = refl

  refused_on : (r : Run) (c : Call) (k : ℕ) → On r k → (refusal r.session c ≡ 0 → ⊥) → On r (k + allowance c)
  refused_on r c k (inl G) e = inl (rw (refused_none r c k G e, add-zero k) G)
  refused_on r c k (inr h) e = inr h

  advance_on : (r : Run) (c : Call) (k : ℕ) → On r k → is_expire c && eqb (refusal r.session c) 0 ≡ false → On (advance r c) (k + allowance c)
  unfolding advance
  advance_on r c k o = go (is_expire c) (eqb (refusal r.session c) 0) refl refl
    where
      go : (x y : Bool) → is_expire c ≡ x → eqb (refusal r.session c) 0 ≡ y → x && y ≡ false → On (cond y (noted r c) r) (k + allowance c)
      go true true ex e h = absurd (false≢true (sym h))
      go false true ex e h = accepted_on r c k o (eqb-true _ _ e) ex
      go x false ex e h = refused_on r c k o (eqb-false _ _ e)

  run_on : (l : List Call) (r : Run) (k : ℕ) → On r k → expires r.session l ≡ false → On (run r l) (k + allowances l)
  run_on [] r k o x = rw add-zero o
  run_on (c ∷ l) r k o x =
      let w = neither (is_expire c && eqb (refusal r.session c) 0) (expires (advance (begin r.session) c).session l) x in
      -- the session after a call is the same for any run on the session before it
      let e : (advance (begin r.session) c).session ≡ (advance r c).session = advance_session (begin r.session) c ∙ sym (advance_session r c) in
      rw add_assoc at (run_on l (advance r c) (k + allowance c) (advance_on r c k o w.0) (subst (λ t. expires t l ≡ false) e w.1))

  pub completes : (l : List Call) → to_come s ≤ allowances l → expires s l ≡ false → (after s l).complete ≡ true
  unfolding after_fills
  completes l m x = go (run_on l (begin s) 0 (inl start) x)
    where
      start : Going (begin s) 0
      start = record { is = refl; unfinished = open_start s A }

      go : On (after s l) (0 + allowances l) → (after s l).complete ≡ true
      go (inr c) = c
      go (inl G) = absurd (false≢true (sym G.unfinished ∙ enough s A (0 + allowances l) (omega (arith, m))))
