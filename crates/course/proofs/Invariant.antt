-- What holds of every list of calls on a session just cleared: at each phase the run is told by the start, the number of fills cranked, the
-- purchases, and the sets of fills settled and skipped. Assumes nothing.
use mathlib.Core.Path.{◌≡◌, refl, sym, ap, ap₂, ◌∙◌, subst}
use mathlib.Core.Bool.{Bool, true, false, cond, not, false≢true}
use mathlib.Core.List.{List, [], ◌∷◌}
use Prim.Native.Nat.{ℕ, ◌+◌, ◌-◌, ◌≤◌}
use native.Mathlib.Omega.{arith}
use borrow.Author.Tests.{eqb-true}
use lib.Dec.{eqb}
use lib.IntN.{ℤ}
use lib.ListN.{length}
use Rattle.laws.specs.Lists.{same}
use Rattle.book.specs.Limits.{max_fills}
use Rattle.book.specs.Book.{no_wallet}
use Rattle.auction_engine.specs.declared.Session.{Session}
use Rattle.auction_engine.specs.Session.{fill_at, at_phase, allocating, issuer_rofr, settling, printed, failed}
use Rattle.auction_engine.specs.Call.{admits}
use Rattle.auction_engine.specs.declared.Call.{Call}
use Rattle.auction_engine.specs.declared.Call.TheVariants.{Screen, Clear, Allocate, Exercise, Close, Settle, Skip, Finish, Expire}
use Rattle.auction_engine.specs.Matching.{after_fills, done, matched, phase_after, allocate_effect}
use Rattle.auction_engine.specs.Rofr.{exercise_effect, close_effect}
use Rattle.auction_engine.specs.Settlement.{settle_effect, skip_effect, finish_effect, expire_effect, moved_volume, print_of}
use Rattle.auction_engine.specs.Engine.{refusal, effect}
use Rattle.course.specs.Course.{Run, run_of, begin, note, advance, run}
use Rattle.course.specs.Demand3.{after}
use Rattle.course.proofs.Matching.{Allotted, Kept}
use Rattle.course.proofs.ToCome.{to_come, room, kept_by_fills, at_most}
use Rattle.course.proofs.Fills.{after_fills_add, after_fills_grows, after_fills_phase, after_fills_settled, after_fills_skipped}
use Rattle.course.proofs.Purchases.{bought, exercise_kept}
use Rattle.course.proofs.Marks.{Marked, unmarked, settle_marked, skip_marked}
use Rattle.course.proofs.Accepted.{noted, Early, early_screen, early_clear, at_allocate, Exercised, exercised, at_close, Unsettled, settles, skips, at_finish, at_expire}

-- a run that has only cranked: s with n fills
abbrev cranking : Session → ℕ → Bool → Run
cranking s n complete = run_of s [] [] [] 0 n [] 0 complete

-- Allocating: k fills were allowed
pub record Matching (s₀ : Session) (r : Run) : Type 0 where
  pub at : r.session.phase ≡ allocating
  pub k : ℕ
  pub is : r ≡ cranking (after_fills k s₀) (after_fills k s₀).fill_count false

-- b is the session in which the matching is complete and the purchases are made
pub record Base (s₀ b : Session) (r : Run) : Type 0 where
  pub k : ℕ
  pub full : done (after_fills k s₀) ≡ true
  pub is : b ≡ bought r.purchases (after_fills k s₀)
  pub kept : Kept s₀ b
  pub few : b.fill_count ≤ max_fills
  pub made : r.crank_fills ≡ (after_fills k s₀).fill_count
  pub none_settled : b.fills_settled ≡ 0
  pub none_skipped : b.skipped_fills ≡ 0

-- IssuerRofr
pub record Buying (s₀ : Session) (r : Run) : Type 0 where
  pub at : r.session.phase ≡ issuer_rofr
  pub b : Session
  pub base : Base s₀ b r
  pub is : r.session ≡ at_phase b issuer_rofr
  pub settled : r.settled ≡ []
  pub skipped : r.skipped ≡ []
  pub lost : r.skipped_qty ≡ 0
  pub prints : r.prints ≡ []
  pub volume : r.printed_qty ≡ 0

-- fills are settled and skipped
pub record Settlement (s₀ : Session) (r : Run) : Type 0 where
  pub b : Session
  pub base : Base s₀ b r
  pub marks : Marked b r.settled r.skipped r.skipped_qty r.session

-- Settling
pub record Settling (s₀ : Session) (r : Run) : Type 0 where
  pub at : r.session.phase ≡ settling
  pub settlement : Settlement s₀ r
  pub prints : r.prints ≡ []
  pub volume : r.printed_qty ≡ 0

-- Printed
pub record Printed (s₀ : Session) (r : Run) : Type 0 where
  pub at : r.session.phase ≡ printed
  pub settlement : Settlement s₀ r
  pub prints : r.prints ≡ print_of r.session ∷ []
  pub volume : r.printed_qty ≡ moved_volume r.session

-- Failed, by an expire
pub record Failed (s₀ : Session) (r : Run) : Type 0 where
  pub at : r.session.phase ≡ failed
  pub made : r.crank_fills ≤ to_come s₀
  pub prints : r.prints ≡ []
  pub complete : r.complete ≡ false

pub data Stage (s₀ : Session) (r : Run) : Type 0 where
  in_matching : Matching s₀ r → Stage s₀ r
  in_rofr : Buying s₀ r → Stage s₀ r
  in_settling : Settling s₀ r → Stage s₀ r
  in_print : Printed s₀ r → Stage s₀ r
  in_failure : Failed s₀ r → Stage s₀ r

-- the stage that a phase says
module _ {s₀ : Session} {r : Run} where
  pub is_matching : Stage s₀ r → r.session.phase ≡ allocating → Matching s₀ r
  is_matching (in_matching m) e = m
  is_matching (in_rofr m) e = absurd (omega (arith, m.at))
  is_matching (in_settling m) e = absurd (omega (arith, m.at))
  is_matching (in_print m) e = absurd (omega (arith, m.at))
  is_matching (in_failure m) e = absurd (omega (arith, m.at))

  is_buying : Stage s₀ r → r.session.phase ≡ issuer_rofr → Buying s₀ r
  is_buying (in_matching m) e = absurd (omega (arith, m.at))
  is_buying (in_rofr m) e = m
  is_buying (in_settling m) e = absurd (omega (arith, m.at))
  is_buying (in_print m) e = absurd (omega (arith, m.at))
  is_buying (in_failure m) e = absurd (omega (arith, m.at))

  is_settling : Stage s₀ r → r.session.phase ≡ settling → Settling s₀ r
  is_settling (in_matching m) e = absurd (omega (arith, m.at))
  is_settling (in_rofr m) e = absurd (omega (arith, m.at))
  is_settling (in_settling m) e = m
  is_settling (in_print m) e = absurd (omega (arith, m.at))
  is_settling (in_failure m) e = absurd (omega (arith, m.at))

  pub phase_after_clear : Stage s₀ r → Early r.session.phase → ⊥
  unfolding admits
  phase_after_clear (in_matching m) e = false≢true (rw m.at at e)
  phase_after_clear (in_rofr m) e = false≢true (rw m.at at e)
  phase_after_clear (in_settling m) e = false≢true (rw m.at at e)
  phase_after_clear (in_print m) e = false≢true (rw m.at at e)
  phase_after_clear (in_failure m) e = false≢true (rw m.at at e)

  -- no print where an expire is admitted
  no_print : Stage s₀ r → admits r.session.phase 8 ≡ true → r.prints ≡ []
  unfolding admits
  no_print (in_matching m) e = ap (λ (x : Run). x.prints) m.is
  no_print (in_rofr m) e = m.prints
  no_print (in_settling m) e = m.prints
  no_print (in_print m) e = absurd (false≢true (rw m.at at e))
  no_print (in_failure m) e = m.prints

module _ (s₀ : Session) (A : Allotted s₀) where
  -- the cranks make no more fills than were to come
  pub few_made : (r : Run) → Stage s₀ r → r.crank_fills ≤ to_come s₀
  few_made r (in_matching m) = omega (arith, at_most s₀ A m.k, ap (λ (x : Run). x.crank_fills) m.is)
  few_made r (in_rofr m) = omega (arith, at_most s₀ A m.base.k, m.base.made)
  few_made r (in_settling m) = omega (arith, at_most s₀ A m.settlement.base.k, m.settlement.base.made)
  few_made r (in_print m) = omega (arith, at_most s₀ A m.settlement.base.k, m.settlement.base.made)
  few_made r (in_failure m) = m.made

  -- the matching is just complete
  first_base : (k : ℕ) → done (after_fills k s₀) ≡ true → (r : Run) → r.purchases ≡ [] → r.crank_fills ≡ (after_fills k s₀).fill_count → Base s₀ (after_fills k s₀) r
  first_base k d r e m =
      record {
        k = k;
        full = d;
        is = rw e;
        kept = (kept_by_fills s₀ A k).kept;
        few = omega (arith, room s₀ (after_fills k s₀) A (kept_by_fills s₀ A k));
        made = m;
        none_settled = after_fills_settled k s₀ ∙ A.none_settled;
        none_skipped = after_fills_skipped k s₀ ∙ A.none_skipped;
      }

  first_settlement : (b : Session) (r : Run) → Base s₀ b r → r.session ≡ at_phase b settling → r.settled ≡ [] → r.skipped ≡ [] → r.skipped_qty ≡ 0 → Settlement s₀ r
  first_settlement b r B e es ek el =
      record { b = b; base = B; marks = rw (e, es, ek, el) (unmarked b (at_phase b settling) refl refl B.none_settled B.none_skipped) }

  -- the base does not change where the purchases and the number of fills cranked do not
  same_base : (b : Session) (r t : Run) → t.purchases ≡ r.purchases → t.crank_fills ≡ r.crank_fills → Base s₀ b r → Base s₀ b t
  same_base b r t e m B =
      record {
        k = B.k;
        full = B.full;
        is = rw e B.is;
        kept = B.kept;
        few = B.few;
        made = m ∙ B.made;
        none_settled = B.none_settled;
        none_skipped = B.none_skipped;
      }

  allocated : (k : ℕ) → Stage s₀ (cranking (matched (after_fills k s₀)) (after_fills k s₀).fill_count (not (eqb (matched (after_fills k s₀)).phase allocating)))
  unfolding phase_after
  allocated k = go (done (after_fills k s₀)) (same (after_fills k s₀).params.rofr_authority no_wallet) refl
    where
      t : Session
      t = after_fills k s₀

      phase : t.phase ≡ allocating
      phase = after_fills_phase k s₀ ∙ A.at

      go : (x y : Bool) → done t ≡ x
          → Stage s₀ (cranking (cond x (at_phase t (cond y settling issuer_rofr)) t) t.fill_count (not (eqb (cond x (at_phase t (cond y settling issuer_rofr)) t).phase allocating)))
      go false y d = in_matching (record { at = phase; k = k; is = ap (λ p. cranking t t.fill_count (not (eqb p allocating))) phase })
      go true true d =
          in_settling (record { at = refl; settlement = first_settlement t _ (first_base k d _ refl refl) refl refl refl refl; prints = refl; volume = refl })
      go true false d =
          in_rofr (record {
            at = refl;
            b = t;
            base = first_base k d _ refl refl;
            is = refl;
            settled = refl;
            skipped = refl;
            lost = refl;
            prints = refl;
            volume = refl;
          })

  matched_count : (t : Session) → (matched t).fill_count ≡ t.fill_count
  matched_count t = go (done t)
    where
      go : (x : Bool) → (cond x (at_phase t (phase_after t)) t).fill_count ≡ t.fill_count
      go true = refl
      go false = refl

  allocate_keeps : (r : Run) (now : ℤ) (n : ℕ) → Matching s₀ r → Stage s₀ (noted r (Allocate now n))
  unfolding note effect allocate_effect
  allocate_keeps r now n M =
      let t = after_fills M.k s₀ in
      let e : after_fills (M.k + n) s₀ ≡ after_fills n t = after_fills_add M.k n s₀ in
      let m : t.fill_count + ((matched (after_fills n t)).fill_count - t.fill_count) ≡ (after_fills n t).fill_count =
      omega (arith, after_fills_grows n t, matched_count (after_fills n t)) in
      subst (λ x. Stage s₀ (noted x (Allocate now n))) (sym M.is)
      (rw m (subst (λ x. Stage s₀ (cranking (matched x) x.fill_count (not (eqb (matched x).phase allocating)))) e (allocated (M.k + n))))

  exercise_keeps : (r : Run) (now : ℤ) (issuer : List ℕ) (i q : ℕ) → Buying s₀ r → Exercised r.session issuer i q → Stage s₀ (noted r (Exercise now issuer i q))
  unfolding note effect exercise_effect
  exercise_keeps r now issuer i q B E =
      let b = B.b in
      let n : r.session.fill_count ≡ b.fill_count = ap (λ (t : Session). t.fill_count) B.is in
      let by : issuer ≡ b.params.rofr_authority = E.by ∙ ap (λ (t : Session). t.params.rofr_authority) B.is in
      let has : (fill_at r.session i).qty ≡ (fill_at b i).qty = ap (λ (t : Session). (fill_at t i).qty) B.is in
      in_rofr (record {
        at = E.at;
        b = exercise_effect b b.params.rofr_authority i q;
        base = record {
          k = B.base.k;
          full = B.base.full;
          is = ap (λ t. exercise_effect t t.params.rofr_authority i q) B.base.is;
          kept = exercise_kept s₀ b B.base.kept b.params.rofr_authority i q (omega (arith, E.i<n)) (omega (arith, E.free)) (omega (arith, E.fits));
          few = omega (arith, E.free);
          made = B.base.made;
          none_settled = B.base.none_settled;
          none_skipped = B.base.none_skipped;
        };
        is = ap₂ (λ t w. exercise_effect t w i q) B.is by;
        settled = B.settled;
        skipped = B.skipped;
        lost = B.lost;
        prints = B.prints;
        volume = B.volume;
      })

  close_keeps : (r : Run) (now : ℤ) (caller : List ℕ) → Buying s₀ r → Stage s₀ (noted r (Close now caller))
  unfolding note effect close_effect
  close_keeps r now caller B =
      in_settling (record {
        at = refl;
        settlement = first_settlement B.b _ (same_base B.b r _ refl refl B.base) (ap (λ t. at_phase t settling) B.is) B.settled B.skipped B.lost;
        prints = B.prints;
        volume = B.volume;
      })

  module _ (r : Run) (S : Settlement s₀ r) (i : ℕ) (U : Unsettled r.session i) where
    fills_few : r.session.fill_count ≤ max_fills
    fills_few = omega (arith, ap (λ (t : Session). t.fill_count) S.marks.rest, S.base.few)

    fill_places : length r.session.fills ≡ max_fills
    fill_places = S.marks.places ∙ S.base.kept.fill_places

    settle_keeps : Settlement s₀ (noted r (Settle i))
    unfolding note effect
    settle_keeps =
        record {
          b = S.b;
          base = same_base S.b r _ refl refl S.base;
          marks = settle_marked S.b r.settled r.skipped r.skipped_qty r.session S.marks i U.i<n fills_few fill_places U.free;
        }

    skip_keeps : (now : ℤ) (reason : ℕ) → Settlement s₀ (noted r (Skip now i reason))
    unfolding note effect
    skip_keeps now reason =
        record {
          b = S.b;
          base = same_base S.b r _ refl refl S.base;
          marks = skip_marked S.b r.settled r.skipped r.skipped_qty r.session S.marks i U.i<n fills_few fill_places U.free;
        }

  finish_keeps : (r : Run) (now : ℤ) → Settling s₀ r → Stage s₀ (noted r (Finish now))
  unfolding note effect finish_effect print_of moved_volume
  finish_keeps r now S =
      let M = S.settlement.marks in
      in_print (record {
        at = refl;
        settlement = record {
          b = S.settlement.b;
          base = same_base S.settlement.b r _ refl refl S.settlement.base;
          marks = record { rest = M.rest; places = M.places; each = M.each; tally = M.tally; bits = M.bits; lose = M.lose };
        };
        prints = ap (λ l. print_of r.session ∷ l) S.prints;
        volume = omega (arith, S.volume);
      })

  keeps : (r : Run) (c : Call) → Stage s₀ r → refusal r.session c ≡ 0 → Stage s₀ (noted r c)
  unfolding note effect settle_effect skip_effect expire_effect
  keeps r (Screen now i side verdict has_id id) I e = absurd (phase_after_clear I (early_screen r.session now i side verdict has_id id e))
  keeps r (Clear now) I e = absurd (phase_after_clear I (early_clear r.session now e))
  keeps r (Allocate now n) I e = allocate_keeps r now n (is_matching I (at_allocate r.session now n e))
  keeps r (Exercise now issuer i q) I e =
      let E = exercised r.session now issuer i q e in exercise_keeps r now issuer i q (is_buying I E.at) E
  keeps r (Close now caller) I e = close_keeps r now caller (is_buying I (at_close r.session now caller e))
  keeps r (Settle i) I e =
      let U = settles r.session i e in
      let S = is_settling I U.at in
      in_settling (record { at = U.at; settlement = settle_keeps r S.settlement i U; prints = S.prints; volume = S.volume })
  keeps r (Skip now i reason) I e =
      let U = skips r.session now i reason e in
      let S = is_settling I U.at in
      in_settling (record { at = U.at; settlement = skip_keeps r S.settlement i U now reason; prints = S.prints; volume = S.volume })
  keeps r (Finish now) I e = finish_keeps r now (is_settling I (at_finish r.session now e))
  keeps r (Expire now) I e =
      in_failure (record { at = refl; made = few_made r I; prints = no_print I (at_expire r.session now e); complete = refl })

  advance_keeps : (r : Run) (c : Call) → Stage s₀ r → Stage s₀ (advance r c)
  unfolding advance
  advance_keeps r c I = go (eqb (refusal r.session c) 0) refl
    where
      go : (x : Bool) → eqb (refusal r.session c) 0 ≡ x → Stage s₀ (cond x (noted r c) r)
      go true e = keeps r c I (eqb-true _ _ e)
      go false e = I

  run_keeps : (l : List Call) (r : Run) → Stage s₀ r → Stage s₀ (run r l)
  run_keeps [] r I = I
  run_keeps (c ∷ l) r I = run_keeps l (advance r c) (advance_keeps r c I)

  -- after every list
  pub reached : (l : List Call) → Stage s₀ (after s₀ l)
  unfolding after_fills
  reached l = run_keeps l (begin s₀) (in_matching (record { at = A.at; k = 0; is = ap (λ n. cranking s₀ n false) (sym A.no_fills) }))
