-- 'Turning away, by place': a refusal's number.
use Rattle.std.specs.Prelude.{ℕ, Result, Ok, Err}
use Rattle.refusals.specs.declared.Refusal.{Refusal}
use Rattle.refusals.specs.declared.Refusal.TheVariants.{NoRecord, UnknownMark, OutOfOrder, BadField, InvalidSchedule, ZeroFigure, OrdersFull, DuplicateOrder, OverLimit, WrongPhase, OutsideWindow, NoOrder, WrongSide, NotRevealed, AlreadyScreened, ScreeningPending, MathOverflow, FillsFull, NotRofrAuthority, ZeroPurchase, NoFill, RofrExceedsFill, FillSettled, FillSettleable, FillsPending, InputTooLong, OutputTooSmall, InvalidInput, OverAllocation, BadLength, ExceedsEscrow}

abbrev pub number : Refusal → ℕ
number NoRecord = 1
number UnknownMark = 2
number OutOfOrder = 3
number BadField = 4
number InvalidSchedule = 5
number ZeroFigure = 6
number OrdersFull = 7
number DuplicateOrder = 8
number OverLimit = 9
number WrongPhase = 10
number OutsideWindow = 11
number NoOrder = 12
number WrongSide = 13
number NotRevealed = 14
number AlreadyScreened = 15
number ScreeningPending = 16
number MathOverflow = 17
number FillsFull = 18
number NotRofrAuthority = 19
number ZeroPurchase = 20
number NoFill = 21
number RofrExceedsFill = 22
number FillSettled = 23
number FillSettleable = 24
number FillsPending = 25
number InputTooLong = 26
number OutputTooSmall = 27
number InvalidInput = 28
number OverAllocation = 29
number BadLength = 30
number ExceedsEscrow = 31

-- what an answer is refused by, 0 where it is not
abbrev pub refusal_in : {A : Type 0} → Result A Refusal → ℕ
refusal_in (Ok a) = 0
refusal_in (Err r) = number r
