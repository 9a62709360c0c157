-- The number of fills, before the crank, as specs/FillCount.antt states it. Assumes nothing.
use mathlib.Core.Path.{◌≡◌, refl, sym, ap, ap₂, ◌∙◌}
use mathlib.Core.Bool.{Bool, true, false, cond, false≢true}
use mathlib.Core.List.{List, [], ◌∷◌, ◌++◌}
use Prim.Native.Nat.{ℕ, ◌≤◌}
use native.Mathlib.Omega.{arith}
use lib.Dec.{eqb}
use Rattle.laws.specs.Sums.{only}
use Rattle.laws.specs.Lists.{table}
use Rattle.laws.proofs.Lists.{table_same}
use Rattle.book.specs.Book.{buy_side, sell_side}
use Rattle.fills.specs.FillCount.{fill_count}
use Rattle.fills.specs.Steps.{fills_of}
use Rattle.fills.proofs.Places.{count_table, answer_table}
use Rattle.auction_engine.specs.declared.Session.{Session}
use Rattle.auction_engine.specs.Session.{order_at}
use Rattle.auction_engine.specs.declared.Call.{Call}
use Rattle.auction_engine.specs.declared.Call.TheVariants.{Screen, Clear, Allocate, Exercise, Close, Settle, Skip, Finish, Expire}
use Rattle.auction_engine.specs.Matching.{after_fills, done}
use Rattle.auction_engine.specs.Engine.{refusal}
use Rattle.course.specs.Course.{Run, begin, note, advance, run}
use Rattle.course.specs.Demand3.{after, JustCleared, lot_of}
use Rattle.course.specs.FillCount.{figure, sides_of, held_lots, ExactFigure, FillsBeforeCrank}
use Rattle.course.proofs.Matching.{Allotted}
use Rattle.course.proofs.ToCome.{lefts, to_come, kept_by_fills, few_to_come, none_to_come}
use Rattle.course.proofs.Fills.{done_left}
use Rattle.course.proofs.Accepted.{noted}
use Rattle.course.proofs.Invariant.{Stage, in_matching, in_rofr, in_settling, in_print, in_failure, few_made, reached}
use Rattle.course.proofs.Completes.{completes}
use Rattle.course.proofs.Start.{Starts, starts}
use Rattle.course.proofs.Demand3.{same_lots}

-- every lot is whole, so that the figure is the fills to come
whole_lefts : (s : Session) → Allotted s → (side : ℕ) → lefts side s ≡ table (λ i. only (eqb (order_at s i).side side) (order_at s i).alloc) s.order_count
whole_lefts s A side = table_same _ _ s.order_count (λ i l. ap (only (eqb (order_at s i).side side)) (A.whole i l))

all_to_come : (s : Session) → Allotted s → to_come s ≡ fill_count (held_lots s) (sides_of s)
all_to_come s A =
    ap₂ fills_of (whole_lefts s A buy_side) (whole_lefts s A sell_side)
    ∙ sym (count_table (λ i. (order_at s i).alloc) (λ i. (order_at s i).side) s.order_count)

held_figure : (s : Session) (j : JustCleared s) → fill_count (held_lots s) (sides_of s) ≡ figure j
held_figure s j = ap (λ lots. fill_count lots (sides_of s)) (table_same (λ i. (order_at s i).alloc) (lot_of j) s.order_count (starts s j).lot)

module _ (s : Session) (A : Allotted s) where
  -- where every lot is paired all are made
  all_made : (k : ℕ) → done (after_fills k s) ≡ true → (after_fills k s).fill_count ≡ to_come s
  all_made k d = omega (arith, (kept_by_fills s A k).all, none_to_come (after_fills k s) (done_left (after_fills k s) d))

  complete_made : (r : Run) → Stage s r → r.complete ≡ true → r.crank_fills ≡ to_come s
  complete_made r (in_matching m) c = absurd (false≢true (sym (ap (λ (x : Run). x.complete) m.is) ∙ c))
  complete_made r (in_rofr m) c = m.base.made ∙ all_made m.base.k m.base.full
  complete_made r (in_settling m) c = m.settlement.base.made ∙ all_made m.settlement.base.k m.settlement.base.full
  complete_made r (in_print m) c = m.settlement.base.made ∙ all_made m.settlement.base.k m.settlement.base.full
  complete_made r (in_failure m) c = absurd (false≢true (sym m.complete ∙ c))

-- the cranks' fills only grow
noted_grows : (r : Run) (c : Call) → r.crank_fills ≤ (noted r c).crank_fills
unfolding note
noted_grows r (Screen now i side verdict has_id id) = omega arith
noted_grows r (Clear now) = omega arith
noted_grows r (Allocate now n) = omega arith
noted_grows r (Exercise now issuer i q) = omega arith
noted_grows r (Close now caller) = omega arith
noted_grows r (Settle i) = omega arith
noted_grows r (Skip now i reason) = omega arith
noted_grows r (Finish now) = omega arith
noted_grows r (Expire now) = omega arith

run_grows : (k : List Call) (r : Run) → r.crank_fills ≤ (run r k).crank_fills
unfolding advance
run_grows [] r = omega arith
run_grows (c ∷ k) r = omega (arith, step (eqb (refusal r.session c) 0), run_grows k (advance r c))
  where
    step : (x : Bool) → r.crank_fills ≤ (cond x (noted r c) r).crank_fills
    step true = noted_grows r c
    step false = omega arith

run_append : (l k : List Call) (r : Run) → run r (l ++ k) ≡ run (run r l) k
run_append [] k r = refl
run_append (c ∷ l) k r = run_append l k (advance r c)

module _ (s : Session) (j : JustCleared s) where
  S : Starts j
  S = starts s j

  A : Allotted s
  A = S.allotted

  is_figure : to_come s ≡ figure j
  is_figure = all_to_come s A ∙ held_figure s j

  most_made : (l : List Call) → (after s l).crank_fills ≤ figure j
  most_made l = omega (arith, few_made s A (after s l) (reached s A l), is_figure)

  exactly_made : (l : List Call) → (after s l).complete ≡ true → (after s l).crank_fills ≡ figure j
  exactly_made l c = complete_made s A (after s l) (reached s A l) c ∙ is_figure

  exact_figure : ExactFigure j
  exact_figure =
      record {
        answered =
            answer_table (λ i. (order_at s i).alloc) (λ i. (order_at s i).side) s.order_count A.few A.sides ∙ ap (λ n. record { refusal = 0; count = n }) (held_figure s j);
        exact = exactly_made;
        completed = λ l m x. completes s A l (omega (arith, m, is_figure)) x;
        stays = λ l k c.
            omega (arith, exactly_made l c, run_grows k (after s l), ap (λ (r : Run). r.crank_fills) (run_append l k (begin s)), most_made (l ++ k));
        most = most_made;
        below = omega (arith, is_figure, few_to_come s A, same_lots j S);
      }

pub fills_before_crank : FillsBeforeCrank
fills_before_crank = exact_figure
