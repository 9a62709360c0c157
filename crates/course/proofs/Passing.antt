-- Every session that an opening and calls come to passes the checks 9 and 4 of any call. Assumes nothing.
use Rattle.std.specs.Prelude.{Option}
use mathlib.Core.Path.{◌≡◌, refl, sym, ◌∙◌, subst}
use mathlib.Core.Logic.{⊎_elim}
use mathlib.Core.Bool.{Bool, true, false, cond}
use mathlib.Core.List.{List, [], ◌∷◌}
use Prim.Native.Nat.{ℕ, zero, suc, ◌+◌, ◌≤◌, ◌<◌}
use native.Mathlib.Omega.{arith}
use borrow.Author.Tests.{leb-true, leb-false, le-leb, eqb-true}
use lib.Dec.{leb, eqb}
use lib.ListN.{length, get_or, set, replicate, length-set, length-replicate}
use Rattle.laws.specs.Search.{every}
use Rattle.laws.specs.Lists.{same}
use Rattle.laws.proofs.Tests.{tested, clash}
use Rattle.laws.proofs.Search.{every_all}
use Rattle.laws.proofs.Checking.{then_zero, check_zero, check_pass, unless_pass}
use Rattle.credit_math.specs.Limits.{max_orders}
use Rattle.book.specs.Limits.{max_fills}
use Rattle.book.specs.Book.{no_wallet, no_order, listed, empty_order, is_excluded, kind_fits}
use Rattle.book.specs.declared.Params.{Params}
use Rattle.book.specs.declared.Given.{Given}
use Rattle.book.specs.declared.Row.{Row}
use Rattle.escrow.specs.Cover.{decimals_refusal}
use Rattle.auction_engine.specs.declared.Session.{Session}
use Rattle.auction_engine.specs.Session.{order_at, fresh, at_phase, issuer_rofr, settling}
use Rattle.auction_engine.specs.Call.{limits_refusal, fields_refusal}
use Rattle.auction_engine.specs.declared.Call.{Call}
use Rattle.auction_engine.specs.declared.Call.TheVariants.{Screen, Clear, Allocate, Exercise, Close, Settle, Skip, Finish, Expire}
use Rattle.auction_engine.specs.Screening.{screen_effect}
use Rattle.auction_engine.specs.Clearing.{outcome, cleared_by}
use Rattle.auction_engine.specs.Matching.{due, one, after_fills, overfull, done, phase_after, matched, allocate_effect}
use Rattle.auction_engine.specs.Rofr.{exercise_effect, close_effect}
use Rattle.auction_engine.specs.Settlement.{settle_effect, skip_effect, finish_effect, expire_effect}
use Rattle.auction_engine.specs.Engine.{refusal, effect, answer}
use Rattle.auction_engine.specs.Opening.{header_refusal, row_refusal, order_refusal, with_order, Opening, opened}
use Rattle.auction_engine.proofs.Orders.{order_room}
use Rattle.auction_engine.proofs.Fills.{due_count, due_full, free_full, idle_after_fills}
use Rattle.course.specs.Applied.{session_after}
use Rattle.course.specs.Demand3.{after}
use Rattle.course.proofs.Fills.{after_fills_phase, after_fills_params, after_fills_given}
use Rattle.course.proofs.Orders.{lots_lotless}
use Rattle.course.proofs.Rows.{OrdersKept, orders_but_for_lots, all_more, rows_keep, after_fills_kept, effect_kept}
use Rattle.course.proofs.Accepted.{at_allocate, not_full, exercised, settles, skips}
use Rattle.course.proofs.Checked.{few_fills, known_sides, limits_kept, fields_kept}
use Rattle.course.proofs.Applied.{run_is_answers}

pub record Passes (s : Session) : Type 0 where
  pub limits : limits_refusal s ≡ 0
  pub fields : fields_refusal s ≡ 0

-- ---- the opening
-- what a value has and what stands past the end, every place of its copies has; and every place of a list has it where all had it and one is set
all_places : {A : Type 0} (n : ℕ) (P : A → Type 0) (x d : A) → P x → P d → (i : ℕ) → P (get_or (replicate n x) i d)
all_places zero P x d p e i = e
all_places (suc n) P x d p e zero = p
all_places (suc n) P x d p e (suc i) = all_places n P x d p e i

set_places : {A : Type 0} (l : List A) (j : ℕ) (P : A → Type 0) (x d : A) → P x → ((i : ℕ) → P (get_or l i d)) → (i : ℕ) → P (get_or (set l j x) i d)
set_places [] j P x d p all i = all i
set_places (y ∷ l) zero P x d p all zero = p
set_places (y ∷ l) zero P x d p all (suc i) = all (suc i)
set_places (y ∷ l) (suc j) P x d p all zero = all 0
set_places (y ∷ l) (suc j) P x d p all (suc i) = set_places l j P x d p (λ k. all (suc k)) i

-- while orders come, each has its place, and no place has a kind at odds
pub record Opens (s : Session) : Type 0 where
  passes : Passes s
  places : length s.orders ≡ max_orders
  pub kinds : (i : ℕ) → kind_fits (order_at s i) ≡ true

listed_fits : (row : Row) → kind_fits (listed row) ≡ true
unfolding kind_fits is_excluded
listed_fits row = refl

no_order_fits : kind_fits no_order ≡ true
unfolding kind_fits is_excluded
no_order_fits = refl

-- an accepted header
header_opens : (p : Params) (g : Given) (cover : Option ℕ) → header_refusal p g cover ≡ 0 → Opens (fresh p g)
unfolding header_refusal limits_refusal fields_refusal fresh every
header_opens p g cover e =
    let forced = check_zero _ 3 _ e in
    let policy = check_zero _ 3 _ forced.1 in
    let band = check_zero _ 3 _ policy.1 in
    let fits = check_zero _ 4 _ (check_zero _ 4 _ (check_zero _ 4 _ (check_zero _ 4 _ (then_zero (decimals_refusal cover) _ band.1).1).1).1).1 in
    record {
      passes = record {
        limits = check_pass _ 9 _ refl (check_pass _ 9 _ refl (check_pass _ 9 _ band.0 (check_pass _ 9 _ forced.0 (unless_pass _ 9 fits.0))));
        fields = check_pass _ 4 _ refl (check_pass _ 4 _ policy.0 (check_pass _ 4 _ refl (unless_pass _ 4 refl)));
      };
      places = length-replicate max_orders empty_order;
      kinds = all_places max_orders (λ o. kind_fits o ≡ true) empty_order no_order (listed_fits _) no_order_fits;
    }

-- an accepted order: its side is in range, and there was a place for it
module _ (s : Session) (cover : Option ℕ) (row : Row) (e : order_refusal s cover row ≡ 0) (o : Opens s) where
  row_side : row.side ≤ 1
  unfolding order_refusal row_refusal
  row_side = leb-true row.side 1 (check_zero _ 3 _ (then_zero (row_refusal cover row) _ e).0).0

  room : s.order_count < max_orders
  room = order_room s cover row e

  sides_more : (i : ℕ) → i < s.order_count + 1 → (order_at (with_order s row) i).side ≤ 1
  sides_more = all_more s row (λ (r : Row). r.side ≤ 1) (omega (arith, room, o.places)) row_side (known_sides s o.passes.fields)

  kinds_more : (i : ℕ) → kind_fits (order_at (with_order s row) i) ≡ true
  unfolding with_order
  kinds_more = set_places s.orders s.order_count (λ o. kind_fits o ≡ true) (listed row) no_order (listed_fits row) o.kinds

  order_opens : Opens (with_order s row)
  unfolding limits_refusal fields_refusal with_order
  order_opens =
      let limits = check_zero _ 8 _ o.passes.limits in
      let fields = check_zero _ 3 _ o.passes.fields in
      record {
        passes = record {
          limits = check_pass _ 9 _ (le-leb (s.order_count + 1) max_orders (omega (arith, room))) limits.1;
          fields =
              check_pass _ 4 _ fields.0
              (check_pass _ 4 _ (check_zero _ 3 _ fields.1).0
              (check_pass _ 4 _ (every_all (λ i. leb (order_at (with_order s row) i).side 1) (s.order_count + 1)
              (λ i l. le-leb (order_at (with_order s row) i).side 1 (sides_more i l)))
              (unless_pass _ 4 (every_all (λ i. kind_fits (order_at (with_order s row) i)) (s.order_count + 1) (λ i _. kinds_more i)))));
        };
        places = rw length-set o.places;
        kinds = kinds_more;
      }

pub opened_opens : (o : Opening) → Opens (opened o)
opened_opens o =
    rows_keep Opens o.cover (λ s. order_opens s o.cover) (fresh o.params o.given) o.rows o.rows_accepted
    (header_opens o.params o.given o.cover o.header_accepted)

-- ---- what calls leave: the number of fills, and a phase
after_fills_few : (n : ℕ) (s : Session) → s.fill_count ≤ max_fills → overfull n s ≡ false → (after_fills n s).fill_count ≤ max_fills
unfolding after_fills
after_fills_few zero s h e = h
after_fills_few (suc n) s h e = go (due s) refl (leb max_fills s.fill_count) refl (after_fills_few n (one s))
  where
    go : (x : Bool) → due s ≡ x → (y : Bool) → leb max_fills s.fill_count ≡ y
        → ((one s).fill_count ≤ max_fills → overfull n (one s) ≡ false → (after_fills n (one s)).fill_count ≤ max_fills) → (after_fills (suc n) s).fill_count ≤ max_fills
    go false d y f ih = rw (idle_after_fills s d (suc n)) h
    go true d false f ih =
        let l : s.fill_count < max_fills = leb-false max_fills s.fill_count f in
        ih (omega (arith, due_count s d)) (sym (free_full n s l) ∙ e)
    go true d true f ih = absurd (clash (overfull (suc n) s) (due_full s d n (leb-true max_fills s.fill_count f)) e)

after_known : (s : Session) → phase_after s ≤ 7
unfolding phase_after
after_known s = go (same s.params.rofr_authority no_wallet)
  where
    go : (x : Bool) → cond x settling issuer_rofr ≤ 7
    go true = omega arith
    go false = omega arith

-- ---- a call
-- t has what the checks read of s, but for fills and phase
still_passes : (s t : Session) → Passes s → OrdersKept s t → t.given ≡ s.given → t.params ≡ s.params → t.fill_count ≤ max_fills → t.phase ≤ 7 → Passes t
still_passes s t P K g p f h =
    record { limits = limits_kept s t K.count g p f P.limits; fields = fields_kept s t K.count g h (λ i _. K.orders i) P.fields }

either : (x : Bool) (s t : Session) → Passes s → Passes t → Passes (cond x s t)
either true s t P Q = P
either false s t P Q = Q

after_fills_passes : (n : ℕ) (s : Session) → Passes s → s.phase ≤ 7 → overfull n s ≡ false → Passes (after_fills n s)
after_fills_passes n s P h e =
    still_passes s (after_fills n s) P (after_fills_kept n s) (after_fills_given n s) (after_fills_params n s)
    (after_fills_few n s (few_fills s P.limits) e) (omega (arith, after_fills_phase n s))

matched_passes : (t : Session) → Passes t → Passes (matched t)
matched_passes t P =
    either (done t) (at_phase t (phase_after t)) t (still_passes t _ P (orders_but_for_lots t _ refl (λ i. refl)) refl refl (few_fills t P.limits) (after_known t)) P

effect_passes : (s : Session) (c : Call) → Passes s → refusal s c ≡ 0 → Passes (effect s c)
unfolding effect screen_effect cleared_by allocate_effect exercise_effect close_effect settle_effect skip_effect finish_effect expire_effect
effect_passes s (Screen now i side verdict has_id id) P e =
    still_passes s _ P (effect_kept s (Screen now i side verdict has_id id) e) refl refl (few_fills s P.limits) (omega arith)
effect_passes s (Clear now) P e =
    either (eqb (outcome s).failed 0) _ _
    (still_passes s _ P (orders_but_for_lots s _ refl (lots_lotless s.orders (outcome s).lots s.order_count)) refl refl (few_fills s P.limits) (omega arith))
    (still_passes s _ P (orders_but_for_lots s _ refl (λ j. refl)) refl refl (few_fills s P.limits) (omega arith))
effect_passes s (Allocate now n) P e = matched_passes (after_fills n s) (after_fills_passes n s P (omega (arith, at_allocate s now n e)) (not_full s now n e))
effect_passes s (Exercise now issuer i q) P e =
    let E = exercised s now issuer i q e in
    still_passes s _ P (effect_kept s (Exercise now issuer i q) e) refl refl (omega (arith, E.free)) (omega (arith, E.at))
effect_passes s (Close now caller) P e = still_passes s _ P (effect_kept s (Close now caller) e) refl refl (few_fills s P.limits) (omega arith)
effect_passes s (Settle i) P e = still_passes s _ P (effect_kept s (Settle i) e) refl refl (few_fills s P.limits) (omega (arith, (settles s i e).at))
effect_passes s (Skip now i reason) P e =
    still_passes s _ P (effect_kept s (Skip now i reason) e) refl refl (few_fills s P.limits) (omega (arith, (skips s now i reason e).at))
effect_passes s (Finish now) P e = still_passes s _ P (effect_kept s (Finish now) e) refl refl (few_fills s P.limits) (omega arith)
effect_passes s (Expire now) P e = still_passes s _ P (effect_kept s (Expire now) e) refl refl (few_fills s P.limits) (omega arith)

-- ---- calls in turn
answer_passes : (s : Session) (c : Call) → Passes s → Passes (answer s c).session
unfolding answer
answer_passes s c P =
    ⊎_elim
    (λ (t : eqb (refusal s c) 0 ≡ true). rw t (effect_passes s c P (eqb-true (refusal s c) 0 t)))
    (λ (t : eqb (refusal s c) 0 ≡ false). rw t P)
    (tested (eqb (refusal s c) 0))

answers_pass : (s : Session) (calls : List Call) → Passes s → Passes (session_after s calls)
answers_pass s [] P = P
answers_pass s (c ∷ calls) P = answers_pass (answer s c).session calls (answer_passes s c P)

pub checks_pass : (o : Opening) (calls : List Call) → Passes (after (opened o) calls).session
checks_pass o calls = subst Passes (sym (run_is_answers (opened o) calls)) (answers_pass (opened o) calls (opened_opens o).passes)
