-- `entry_side_totals` meets its contract where the orders are refused: the table then has no row and no figure.
use Rattle.std.proofs.Common.{◌≡◌, ◌≢◌, sym, ◌∙◌, arith}
use Rattle.std.proofs.lemmas.Grind.{common_steps}
use Rattle.refusals.specs.Number.{number}
use Rattle.refusals.specs.declared.Refusal.{Refusal}
use Rattle.refusals.specs.declared.Refusal.TheVariants.{NoRecord, UnknownMark, OutOfOrder, BadField, InvalidSchedule, ZeroFigure, OrdersFull, DuplicateOrder, OverLimit, WrongPhase, OutsideWindow, NoOrder, WrongSide, NotRevealed, AlreadyScreened, ScreeningPending, MathOverflow, FillsFull, NotRofrAuthority, ZeroPurchase, NoFill, RofrExceedsFill, FillSettled, FillSettleable, FillsPending, InputTooLong, OutputTooSmall, InvalidInput, OverAllocation, BadLength, ExceedsEscrow}
use Rattle.credit_math.proofs.TableTheorems.{table_is_right}
use Rattle.harness_entries.proofs.entry_side_totals.Goals as goal

-- every refusal has a number
some_number : (r : Refusal) → number r ≢ 0
some_number NoRecord e = omega arith
some_number UnknownMark e = omega arith
some_number OutOfOrder e = omega arith
some_number BadField e = omega arith
some_number InvalidSchedule e = omega arith
some_number ZeroFigure e = omega arith
some_number OrdersFull e = omega arith
some_number DuplicateOrder e = omega arith
some_number OverLimit e = omega arith
some_number WrongPhase e = omega arith
some_number OutsideWindow e = omega arith
some_number NoOrder e = omega arith
some_number WrongSide e = omega arith
some_number NotRevealed e = omega arith
some_number AlreadyScreened e = omega arith
some_number ScreeningPending e = omega arith
some_number MathOverflow e = omega arith
some_number FillsFull e = omega arith
some_number NotRofrAuthority e = omega arith
some_number ZeroPurchase e = omega arith
some_number NoFill e = omega arith
some_number RofrExceedsFill e = omega arith
some_number FillSettled e = omega arith
some_number FillSettleable e = omega arith
some_number FillsPending e = omega arith
some_number InputTooLong e = omega arith
some_number OutputTooSmall e = omega arith
some_number InvalidInput e = omega arith
some_number OverAllocation e = omega arith
some_number BadLength e = omega arith
some_number ExceedsEscrow e = omega arith

pub returns-in-Err : goal.returns-in-Err
returns-in-Err c =
    let a = c.args in
    let t = table_is_right a.is_buy.now a.limits.now a.qtys.now in
    let refused = λ (e : _). some_number c.in-Err.refusal (c.in-Err.ensures.refusal ∙ e) in
    let none = t.no_figure refused a.row in
    let no_buys : c.default.result.buys ≡ 0 = grind (arith, common_steps) in
    let no_sells : c.default.result.sells ≡ 0 = grind (arith, common_steps) in
    record {
      refusal_is = c.totals_row.ensures.refusal_is ∙ c.number.ensures ∙ c.in-Err.ensures.refusal;
      count_is = c.totals_row.ensures.count_is ∙ sym (t.no_row refused);
      limit_is = c.totals_row.ensures.limit_is ∙ c.default.ensures.0 ∙ sym none.0;
      buy_is = c.totals_row.ensures.buy_is ∙ no_buys ∙ sym none.1;
      sell_is = c.totals_row.ensures.sell_is ∙ no_sells ∙ sym none.2;
    }
