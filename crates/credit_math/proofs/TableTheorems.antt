-- The table of side totals is right, and the sums that are carried along stay small. Assumes nothing.
use mathlib.Core.Path.{◌≡◌, refl, sym, ◌∙◌, ap, subst}
use mathlib.Core.Bool.{Bool}
use mathlib.Core.List.{List, []}
use Prim.Native.Nat.{ℕ, ◌<◌, zero-le}
use native.Mathlib.Nat.{lt_trans, lt_of_le_of_lt}
use native.Mathlib.Omega.{arith}
use lib.ListN.{length, get_or}
use Rattle.laws.specs.Sums.{only}
use Rattle.laws.specs.Lists.{Member}
use Rattle.laws.proofs.Sums.{sum_le_sum, sum_mono}
use Rattle.laws.proofs.Widths.{sum_below_lem}
use Rattle.laws.proofs.Lists.{get_or_member, member_place}
use Rattle.laws.proofs.Ordered.{dedup_up}
use Rattle.laws.proofs.Ascending.{Among, one_ascent}
use Rattle.credit_math.specs.Price.{buy, sell}
use Rattle.credit_math.specs.SideTotals.{Table, distinct_limits, column, totals_at}
use Rattle.credit_math.specs.Claims.{RightTable, SameRows, TableIsRight, RunningSumsFit}
use Rattle.credit_math.proofs.Carried.{only_within}
use Rattle.credit_math.proofs.Columns.{distinct_members, column_at, column_past, table_accepted, table_refused}

module _ (is_buy : List Bool) (limits qtys : List ℕ) where
  -- the rows, in short
  abbrev rows : List ℕ
  rows = distinct_limits limits

  limit_at : (k : ℕ) → k < length rows → get_or (column (λ p. p) rows) k 0 ≡ get_or rows k 0
  limit_at k h = column_at (λ p. p) rows k h

  rows_up : (i k : ℕ) → i < k → k < length rows → get_or rows i 0 < get_or rows k 0
  unfolding distinct_limits
  rows_up i k g h = dedup_up limits i k g h

  right_table : RightTable is_buy limits qtys (totals_at is_buy limits qtys rows)
  unfolding totals_at
  right_table = record {
    exactly = λ p. (
      λ h. (distinct_members limits p).0 (subst (λ (x : ℕ). Member x rows) (sym (limit_at h.0 h.1) ∙ h.2) (get_or_member rows h.0 h.1)),
      λ m. let r = member_place p rows ((distinct_members limits p).1 m) in (r.0, r.1, limit_at r.0 r.1 ∙ sym r.2),
    );
    ascending = λ i k g h. rw (limit_at i (lt_trans g h), limit_at k h) (rows_up i k g h);
    buys = λ k h. column_at (buy is_buy limits qtys) rows k h ∙ ap (buy is_buy limits qtys) (sym (limit_at k h));
    sells = λ k h. column_at (sell is_buy limits qtys) rows k h ∙ ap (sell is_buy limits qtys) (sym (limit_at k h));
  }

  -- the rows of one right table are those of another
  row_of_lem : (t u : Table) → RightTable is_buy limits qtys t → RightTable is_buy limits qtys u → Among (λ k. get_or t.limits k 0) t.count (λ k. get_or u.limits k 0) u.count
  row_of_lem t u r s k h = (s.exactly (get_or t.limits k 0)).1 ((r.exactly (get_or t.limits k 0)).0 (k, h, refl))

  same_rows : (t u : Table) → RightTable is_buy limits qtys t → RightTable is_buy limits qtys u → SameRows t u
  same_rows t u r s =
      let one = one_ascent (λ k. get_or t.limits k 0) t.count (λ k. get_or u.limits k 0) u.count r.ascending s.ascending (row_of_lem t u r s) (row_of_lem u t s r) in
      let there : (k : ℕ) → k < t.count → k < u.count = λ k h. omega (arith, one.0) in
      record {
        counts = one.0;
        limits_too = one.1;
        buys_too = λ k h. r.buys k h ∙ ap (buy is_buy limits qtys) (one.1 k h) ∙ sym (s.buys k (there k h));
        sells_too = λ k h. r.sells k h ∙ ap (sell is_buy limits qtys) (one.1 k h) ∙ sym (s.sells k (there k h));
      }

  no_rows : (totals_at is_buy limits qtys []).count ≡ 0
  unfolding totals_at
  no_rows = refl

  no_figures : (k : ℕ) → (get_or (totals_at is_buy limits qtys []).limits k 0 ≡ 0) × (get_or (totals_at is_buy limits qtys []).buys k 0 ≡ 0) × (get_or (totals_at is_buy limits qtys []).sells k 0 ≡ 0)
  unfolding totals_at
  no_figures k = (column_past (λ p. p) [] k zero-le, column_past (buy is_buy limits qtys) [] k zero-le, column_past (sell is_buy limits qtys) [] k zero-le)

pub table_is_right : (is_buy : List Bool) (limits qtys : List ℕ) → TableIsRight is_buy limits qtys
table_is_right is_buy limits qtys = record {
  right = λ z. rw (table_accepted is_buy limits qtys z) (right_table is_buy limits qtys);
  one_table = λ z t r. rw (table_accepted is_buy limits qtys z) (same_rows is_buy limits qtys t _ r (right_table is_buy limits qtys));
  no_row = λ ne. rw (table_refused is_buy limits qtys ne) (no_rows is_buy limits qtys);
  no_figure = λ ne k. rw (table_refused is_buy limits qtys ne) (no_figures is_buy limits qtys k);
}

pub running_sums_fit : (is_buy : List Bool) (limits qtys : List ℕ) → RunningSumsFit is_buy limits qtys
running_sums_fit is_buy limits qtys n k some few short picked =
    lt_of_le_of_lt (sum_le_sum (λ i. only (picked i) (get_or qtys i 0)) (λ i. get_or qtys i 0) (length is_buy) (λ i _. only_within (picked i) (get_or qtys i 0)))
    (lt_of_le_of_lt (sum_mono (λ i. get_or qtys i 0) (length is_buy) n few) (sum_below_lem k (λ i. get_or qtys i 0) n short some))
