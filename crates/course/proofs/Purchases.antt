-- The issuer's purchases keep what the fills of each seller add up to, and the volume. Assumes nothing.
use mathlib.Core.Path.{◌≡◌, refl}
use mathlib.Core.Bool.{true}
use mathlib.Core.List.{List, [], ◌∷◌}
use Prim.Native.Nat.{ℕ, ◌+◌, ◌≤◌, ◌<◌}
use native.Mathlib.Numerals.{add-one}
use native.Mathlib.Omega.{arith}
use lib.ListN.{set, length-set}
use Rattle.laws.specs.Sums.{sum_over}
use Rattle.laws.specs.Lists.{same}
use Rattle.laws.proofs.Sums.{over_set, over_push}
use Rattle.laws.proofs.Only.{only_split}
use Rattle.book.specs.Limits.{max_fills}
use Rattle.book.specs.Book.{no_fill}
use Rattle.book.specs.declared.Fill.{Fill}
use Rattle.auction_engine.specs.declared.Session.{Session}
use Rattle.auction_engine.specs.Session.{order_at, fill_at}
use Rattle.auction_engine.specs.Rofr.{less_qty, exercise_effect}
use Rattle.course.specs.Course.{Purchase}
use Rattle.course.specs.Demand3.{sold_by}
use Rattle.course.proofs.Matching.{Kept}

-- the session after purchases, the latest first, by the authority
abbrev pub bought : List Purchase → Session → Session
bought [] t = t
bought (p ∷ ps) t = exercise_effect (bought ps t) (bought ps t).params.rofr_authority p.fill p.qty

-- purchases leave the orders alone
pub bought_orders : (ps : List Purchase) (t : Session) → (bought ps t).orders ≡ t.orders
unfolding exercise_effect
bought_orders [] t = refl
bought_orders (p ∷ ps) t = bought_orders ps t

pub bought_count : (ps : List Purchase) (t : Session) → (bought ps t).order_count ≡ t.order_count
unfolding exercise_effect
bought_count [] t = refl
bought_count (p ∷ ps) t = bought_count ps t

module _ (s₀ t : Session) (K : Kept s₀ t) (issuer : List ℕ) (i q : ℕ) (i<n : i < t.fill_count) (free : t.fill_count < max_fills) (fits : q ≤ (fill_at t i).qty) where
  abbrev taken : Fill
  taken = record { buyer = issuer; seller = (fill_at t i).seller; qty = q; rofr = true; settled = true }

  -- a sum over the fills, where the two parts of the fill come to the whole
  fills_sum : (f : Fill → ℕ) → f (less_qty (fill_at t i) q) + f taken ≡ f (fill_at t i)
      → sum_over f no_fill (exercise_effect t issuer i q).fills (exercise_effect t issuer i q).fill_count ≡ sum_over f no_fill t.fills t.fill_count
  unfolding exercise_effect
  fills_sum f e =
      rw (add-one t.fill_count) (omega (
        arith,
        e,
        over_push f no_fill (set t.fills i (less_qty (fill_at t i) q)) t.fill_count taken (rw length-set (omega (arith, K.fill_places))),
        over_set f no_fill t.fills t.fill_count i (less_qty (fill_at t i) q) i<n (omega (arith, K.fill_places)),
      ))

  pub exercise_kept : Kept s₀ (exercise_effect t issuer i q)
  unfolding exercise_effect
  exercise_kept =
      record {
        order_places = K.order_places;
        fill_places = rw (length-set, length-set) K.fill_places;
        orders = K.orders;
        owner = K.owner;
        side = K.side;
        sells = λ j l h. omega (
          arith,
          K.sells j l h,
          fills_sum (sold_by (order_at s₀ j).owner) (only_split (same (fill_at t i).seller (order_at s₀ j).owner) (fill_at t i).qty q fits),
        );
        volume = omega (arith, K.volume, fills_sum (λ f. f.qty) (omega arith));
      }
