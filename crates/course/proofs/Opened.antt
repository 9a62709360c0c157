-- From an opening to the clear: no call touches fills, counts or owners before it, and no two orders have one owner. Assumes nothing.
use Rattle.std.specs.Prelude.{Option}
use mathlib.Core.Path.{◌≡◌, refl, sym, ap, ◌∙◌}
use mathlib.Core.Bool.{Bool, true, false, cond, false≢true}
use mathlib.Core.List.{List, [], ◌∷◌}
use Prim.Native.Nat.{ℕ, ◌+◌, ◌<◌}
use native.Mathlib.Decide.{ℕ_discrete}
use native.Mathlib.Omega.{arith}
use borrow.Author.Tests.{ltb-true, eqb-true, not-true}
use lib.Dec.{eqb}
use lib.ListN.{length, length-set, length-replicate}
use Rattle.laws.specs.Search.{some}
use Rattle.laws.specs.Lists.{same}
use Rattle.laws.proofs.Tests.{clash}
use Rattle.laws.proofs.Search.{some_at}
use Rattle.laws.proofs.Lists.{unseen, same_eq}
use Rattle.laws.proofs.Checking.{then_zero, check_zero, unless_zero}
use Rattle.credit_math.specs.Limits.{max_orders}
use Rattle.book.specs.Limits.{max_fills}
use Rattle.book.specs.Book.{no_order, no_wallet, empty_order, empty_fill}
use Rattle.book.specs.declared.Order.{Order}
use Rattle.book.specs.declared.Row.{Row}
use Rattle.book.specs.declared.Params.{Params}
use Rattle.book.specs.declared.Given.{Given}
use Rattle.auction_engine.specs.declared.Session.{Session}
use Rattle.auction_engine.specs.Session.{order_at, fresh, at_phase, allocating, issuer_rofr, settling}
use Rattle.auction_engine.specs.Call.{admits}
use Rattle.auction_engine.specs.declared.Call.{Call}
use Rattle.auction_engine.specs.declared.Call.TheVariants.{Screen, Clear, Allocate, Exercise, Close, Settle, Skip, Finish, Expire}
use Rattle.auction_engine.specs.Screening.{screen_effect}
use Rattle.auction_engine.specs.Clearing.{outcome, cleared_by, clear_effect}
use Rattle.auction_engine.specs.Matching.{after_fills, done, phase_after, allocate_effect}
use Rattle.auction_engine.specs.Rofr.{exercise_effect, close_effect}
use Rattle.auction_engine.specs.Settlement.{settle_effect, skip_effect, finish_effect, expire_effect}
use Rattle.auction_engine.specs.Engine.{refusal, effect}
use Rattle.auction_engine.specs.Opening.{row_refusal, order_refusal, with_order, Opening, opened}
use Rattle.course.specs.Course.{Run, begin, note, advance, run}
use Rattle.course.specs.Demand3.{after}
use Rattle.course.proofs.Fills.{after_fills_phase}
use Rattle.course.proofs.Rows.{last_row, old_row, rows_keep}
use Rattle.course.proofs.Accepted.{noted, Early, early_screen, at_allocate, exercised, settles, skips}

-- nothing is filled, settled or skipped, and owners are distinct
pub record Unfilled (s : Session) : Type 0 where
  pub order_places : length s.orders ≡ max_orders
  pub fill_places : length s.fills ≡ max_fills
  pub no_fills : s.fill_count ≡ 0
  pub none_settled : s.fills_settled ≡ 0
  pub none_skipped : s.skipped_fills ≡ 0
  pub owners : (i j : ℕ) → i < s.order_count → j < s.order_count → (order_at s i).owner ≡ (order_at s j).owner → i ≡ j

fresh_unfilled : (p : Params) (g : Given) → Unfilled (fresh p g)
unfolding fresh
fresh_unfilled p g =
    record {
      order_places = length-replicate max_orders empty_order;
      fill_places = length-replicate max_fills empty_fill;
      no_fills = refl;
      none_settled = refl;
      none_skipped = refl;
      owners = λ i j l. absurd (omega (arith, l));
    }

module _ (s : Session) (cover : Option ℕ) (row : Row) (e : order_refusal s cover row ≡ 0) (U : Unfilled s) where
  -- the checks 7 and 8
  checks : (s.order_count < max_orders) × (some (λ i. same (order_at s i).owner row.owner) s.order_count ≡ false)
  unfolding order_refusal
  checks =
      let a = check_zero _ _ _ (then_zero (row_refusal cover row) _ e).1 in
      (ltb-true _ _ a.0, not-true _ (unless_zero _ _ a.1))

  unseen_owner : (i : ℕ) → i < s.order_count → (order_at s i).owner ≡ row.owner → ⊥
  unseen_owner i l h =
      clash (some (λ i. same (order_at s i).owner row.owner) s.order_count)
      (sym (some_at (λ i. same (order_at s i).owner row.owner) s.order_count i l (same_eq (order_at s i).owner row.owner h))) checks.1

  last_owner : (order_at (with_order s row) s.order_count).owner ≡ row.owner
  last_owner = ap (λ (r : Row). r.owner) (last_row s row (omega (arith, checks.0, U.order_places)))

  old_owner : (i : ℕ) → i < s.order_count → (order_at (with_order s row) i).owner ≡ (order_at s i).owner
  old_owner i l = ap (λ (r : Row). r.owner) (old_row s row i (omega arith))

  owners_more : (i j : ℕ) → i < s.order_count + 1 → j < s.order_count + 1 → (order_at (with_order s row) i).owner ≡ (order_at (with_order s row) j).owner → i ≡ j
  owners_more i j li lj h = go (ℕ_discrete i s.order_count) (ℕ_discrete j s.order_count)
    where
      last : (k : ℕ) → k ≡ s.order_count → (order_at (with_order s row) k).owner ≡ row.owner
      last k q = ap (λ m. (order_at (with_order s row) m).owner) q ∙ last_owner

      go : Dec (i ≡ s.order_count) → Dec (j ≡ s.order_count) → i ≡ j
      go (yes p) (yes q) = p ∙ sym q
      go (yes p) (no q) = absurd (unseen_owner j (omega arith) (sym (old_owner j (omega arith)) ∙ sym h ∙ last i p))
      go (no p) (yes q) = absurd (unseen_owner i (omega arith) (sym (old_owner i (omega arith)) ∙ h ∙ last j q))
      go (no p) (no q) = U.owners i j (omega arith) (omega arith) (sym (old_owner i (omega arith)) ∙ h ∙ old_owner j (omega arith))

  order_unfilled : Unfilled (with_order s row)
  unfolding with_order
  order_unfilled =
      record {
        order_places = rw length-set U.order_places;
        fill_places = U.fill_places;
        no_fills = U.no_fills;
        none_settled = U.none_settled;
        none_skipped = U.none_skipped;
        owners = owners_more;
      }

pub opened_unfilled : (o : Opening) → Unfilled (opened o)
opened_unfilled o =
    rows_keep Unfilled o.cover (λ s. order_unfilled s o.cover) (fresh o.params o.given) o.rows o.rows_accepted (fresh_unfilled o.params o.given)

-- so it is while screen and clear are admitted
abbrev BeforeClear : Session → Type 0
BeforeClear s = Early s.phase → Unfilled s

neither_early : (x : Bool) (s t : Session) → (Early s.phase → ⊥) → (Early t.phase → ⊥) → Early (cond x s t).phase → ⊥
neither_early true s t a b e = a e
neither_early false s t a b e = b e

not_early : (s : Session) (p : ℕ) → s.phase ≡ p → (Early p → ⊥) → Early s.phase → ⊥
not_early s p h n e = n (rw h at e)

clear_late : (s : Session) → Early (clear_effect s).phase → ⊥
unfolding cleared_by admits
clear_late s e = neither_early (eqb (outcome s).failed 0) _ _ false≢true false≢true e

allocate_late : (s : Session) (n : ℕ) → s.phase ≡ allocating → Early (allocate_effect s n).phase → ⊥
unfolding allocate_effect phase_after admits
allocate_late s n h e =
    let t = after_fills n s in
    neither_early (done t) (at_phase t (phase_after t)) t (after_late (same t.params.rofr_authority no_wallet))
    (not_early t allocating (after_fills_phase n s ∙ h) false≢true) e
  where
    after_late : (y : Bool) → Early (cond y settling issuer_rofr) → ⊥
    after_late true k = false≢true k
    after_late false k = false≢true k

keeps : (r : Run) (c : Call) → BeforeClear r.session → refusal r.session c ≡ 0 → BeforeClear (noted r c).session
unfolding note effect screen_effect exercise_effect close_effect settle_effect skip_effect finish_effect expire_effect admits
keeps r (Screen now i side verdict has_id id) I e _ =
    let U = I (early_screen r.session now i side verdict has_id id e) in
    let owner : (j : ℕ) → (order_at (noted r (Screen now i side verdict has_id id)).session j).owner ≡ (order_at r.session j).owner =
    λ j. unseen (λ (o : Order). o.owner) r.session.orders i _ no_order refl j in
    record {
      order_places = rw length-set U.order_places;
      fill_places = U.fill_places;
      no_fills = U.no_fills;
      none_settled = U.none_settled;
      none_skipped = U.none_skipped;
      owners = λ j k lj lk h. U.owners j k lj lk (sym (owner j) ∙ h ∙ owner k);
    }
keeps r (Clear now) I e h = absurd (clear_late r.session h)
keeps r (Allocate now n) I e h = absurd (allocate_late r.session n (at_allocate r.session now n e) h)
keeps r (Exercise now issuer i q) I e h = absurd (not_early r.session issuer_rofr (exercised r.session now issuer i q e).at false≢true h)
keeps r (Close now caller) I e h = absurd (false≢true h)
keeps r (Settle i) I e h = absurd (not_early r.session settling (settles r.session i e).at false≢true h)
keeps r (Skip now i reason) I e h = absurd (not_early r.session settling (skips r.session now i reason e).at false≢true h)
keeps r (Finish now) I e h = absurd (false≢true h)
keeps r (Expire now) I e h = absurd (false≢true h)

advance_keeps : (r : Run) (c : Call) → BeforeClear r.session → BeforeClear (advance r c).session
unfolding advance
advance_keeps r c I = go (eqb (refusal r.session c) 0) refl
  where
    go : (x : Bool) → eqb (refusal r.session c) 0 ≡ x → BeforeClear (cond x (noted r c) r).session
    go true e = keeps r c I (eqb-true _ _ e)
    go false e = I

run_keeps : (l : List Call) (r : Run) → BeforeClear r.session → BeforeClear (run r l).session
run_keeps [] r I = I
run_keeps (c ∷ l) r I = run_keeps l (advance r c) (advance_keeps r c I)

-- a list on an opened session
pub still_unfilled : (o : Opening) (l : List Call) → Early (after (opened o) l).session.phase → Unfilled (after (opened o) l).session
still_unfilled o l = run_keeps l (begin (opened o)) (λ _. opened_unfilled o)
