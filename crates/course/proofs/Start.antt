-- A session just cleared: every lot is whole, each side's lots add up to the volume of the `clear` line, and owners are distinct.
-- Assumes nothing.
use mathlib.Core.Path.{◌≡◌, refl, sym, ap, ◌∙◌, subst}
use mathlib.Core.Bool.{Bool, true, false, cond}
use mathlib.Core.List.{List, ◌∷◌}
use Prim.Native.Nat.{ℕ, ◌<◌}
use native.Mathlib.Omega.{arith}
use borrow.Author.Tests.{eqb-true, eq-eqb}
use lib.Dec.{eqb}
use lib.IntN.{ℤ}
use lib.ListN.{get_or}
use Rattle.laws.specs.Sums.{sum_over}
use Rattle.laws.proofs.Sums.{sum_same}
use Rattle.book.specs.Book.{no_order, buy_side, sell_side}
use Rattle.book.specs.Clear.{floor_of}
use Rattle.book.specs.declared.Order.{Order}
use Rattle.events.specs.declared.Event.{Event}
use Rattle.events.specs.declared.Event.TheVariants.{Cleared, SessionFailed}
use Rattle.auction_engine.specs.declared.Session.{Session}
use Rattle.auction_engine.specs.Session.{order_at, remake, allocating}
use Rattle.auction_engine.specs.Call.{limits_refusal, fields_refusal}
use Rattle.auction_engine.specs.declared.Call.TheVariants.{Clear}
use Rattle.auction_engine.specs.Clearing.{outcome, with_lot, with_lots, cleared_by, clear_effect, clear_lines}
use Rattle.auction_engine.specs.Engine.{effect, events}
use Rattle.auction_engine.specs.Opening.{opened}
use Rattle.course.specs.Demand3.{JustCleared, after, lot_of}
use Rattle.course.proofs.Matching.{Allotted, lot_on}
use Rattle.course.proofs.Orders.{lotless, but_for_lot}
use Rattle.course.proofs.Accepted.{limits_pass, fields_pass, early_clear, outcome_passes}
use Rattle.course.proofs.Opened.{Unfilled, still_unfilled}
use Rattle.course.proofs.Lotted.{lots_places, lots_at_lem}
use Rattle.course.proofs.Lots.{AddUp, side_lots, lots_add_up}
use Rattle.course.proofs.Checked.{few_orders, known_sides, limits_kept, fields_kept}

-- the `clear` line says that the clear did not fail, its price and its volume
line_says : (x : Bool) (p v r m w p' v' r' m' : ℕ) (ks ms others : List Event)
    → cond x (Cleared p v r m ∷ ks) (SessionFailed w ∷ ms) ≡ Cleared p' v' r' m' ∷ others → (x ≡ true) × (p ≡ p') × (v ≡ v')
line_says true p v r m w p' v' r' m' ks ms others e = (refl, cc, cc)
line_says false p v r m w p' v' r' m' ks ms others e = (cc, cc, cc)

-- what a clear with a price hands back
abbrev pub priced : Session → Session
priced s =
    remake s
    (record { clear_price = (outcome s).price; cleared_volume = (outcome s).volume; reserve_price = floor_of s.params s.given; reference_mark = s.given.reference })
    allocating s.rofr_qty s.fills_settled s.skipped_fills (with_lots s.orders (outcome s).lots s.order_count) s.fills s.fill_count

clear_priced : (s : Session) → (outcome s).failed ≡ 0 → clear_effect s ≡ priced s
unfolding cleared_by
clear_priced s e = rw (eq-eqb (outcome s).failed 0 e)

module _ (s : Session) (U : Unfilled s) (limits : limits_refusal s ≡ 0) (fields : fields_refusal s ≡ 0) where
  -- an order with its lot
  order_at_lem : (i : ℕ) → i < s.order_count → order_at (priced s) i ≡ with_lot (order_at s i) (get_or (outcome s).lots i 0)
  order_at_lem i l = lots_at_lem s.orders (outcome s).lots s.order_count i l (λ h. absurd (omega (arith, few_orders s limits, U.order_places)))

  side_lots_lem : (side : ℕ) → sum_over (lot_on side) no_order (priced s).orders s.order_count ≡ side_lots s.params s.given s.orders s.order_count side
  unfolding sum_over
  side_lots_lem side = sum_same (λ i. lot_on side (order_at (priced s) i)) _ s.order_count (λ i l. ap (lot_on side) (order_at_lem i l))

  allotted : AddUp s.params s.given s.orders s.order_count → Allotted (priced s)
  allotted L =
      let owner : (i : ℕ) → i < s.order_count → (order_at (priced s) i).owner ≡ (order_at s i).owner = λ i l. ap (λ (o : Order). o.owner) (order_at_lem i l) in
      let side : (i : ℕ) → i < s.order_count → (order_at (priced s) i).side ≡ (order_at s i).side = λ i l. ap (λ (o : Order). o.side) (order_at_lem i l) in
      record {
        at = refl;
        limits = limits_kept s (priced s) refl refl refl (omega (arith, U.no_fills)) limits;
        fields = fields_kept s (priced s) refl refl (omega arith) (λ i l. but_for_lot (order_at s i) (order_at (priced s) i) (ap lotless (order_at_lem i l))) fields;
        few = few_orders s limits;
        sides = λ i l. omega (arith, side i l, known_sides s fields i l);
        order_places = lots_places s.orders (outcome s).lots s.order_count ∙ U.order_places;
        fill_places = U.fill_places;
        no_fills = U.no_fills;
        none_settled = U.none_settled;
        none_skipped = U.none_skipped;
        owners = λ i j li lj e. U.owners i j li lj (sym (owner i li) ∙ e ∙ owner j lj);
        whole = λ i l. ap (λ (o : Order). o.alloc_left) (order_at_lem i l) ∙ sym (ap (λ (o : Order). o.alloc) (order_at_lem i l));
        traded = L.traded;
        bought = side_lots_lem buy_side ∙ L.bought;
        given = side_lots_lem sell_side ∙ L.sold;
      }

-- what is used of a session just cleared
pub record Starts {s : Session} (j : JustCleared s) : Type 0 where
  pub allotted : Allotted s
  pub volume : s.cleared.cleared_volume ≡ j.volume
  pub lot : (i : ℕ) → i < s.order_count → (order_at s i).alloc ≡ lot_of j i

pub events_say : (s : Session) (now : ℤ) (price volume reserve reference : ℕ) (others : List Event)
    → events s (Clear now) ≡ Cleared price volume reserve reference ∷ others → ((outcome s).failed ≡ 0) × ((outcome s).price ≡ price) × ((outcome s).volume ≡ volume)
unfolding events clear_lines
events_say s now price volume reserve reference others e =
    let h = line_says (eqb (outcome s).failed 0) (outcome s).price (outcome s).volume _ _ (outcome s).failed price volume reserve reference _ _ others e in
    (eqb-true _ _ h.0, h.1, h.2)

pub effect_priced : (s : Session) (now : ℤ) → (outcome s).failed ≡ 0 → effect s (Clear now) ≡ priced s
unfolding effect
effect_priced s now e = clear_priced s e

pub starts : (s : Session) (j : JustCleared s) → Starts j
starts s j =
    let u = (after (opened j.opening) j.calls).session in
    let limits = limits_pass u (Clear j.now) j.accepted in
    let fields = fields_pass u (Clear j.now) j.accepted in
    let U = still_unfilled j.opening j.calls (early_clear u j.now j.accepted) in
    let says = events_say u j.now j.price j.volume j.reserve j.reference j.others j.line in
    let is : s ≡ priced u = j.is ∙ effect_priced u j.now says.0 in
    let L = lots_add_up u.params u.given u.orders u.order_count (few_orders u limits) (known_sides u fields) (outcome_passes u j.now j.accepted) says.0 in
    record {
      allotted = subst Allotted (sym is) (allotted u U limits fields L);
      volume = ap (λ (t : Session). t.cleared.cleared_volume) is ∙ says.2;
      lot = λ i l. ap (λ t. (order_at t i).alloc) is
          ∙ ap (λ (o : Order). o.alloc) (order_at_lem u U limits fields i (omega (arith, ap (λ (t : Session). t.order_count) is)));
    }
