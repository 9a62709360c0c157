-- Answers to case L's clear that demand 2 shuts out: failing without looking, for whatever reason, refusing with whatever number, another price or
-- volume, no lots. Assumes nothing.
use mathlib.Core.Path.{◌≡◌, refl}
use mathlib.Core.Logic.{◌≢◌}
use Prim.Native.Nat.{ℕ}
use native.Mathlib.Omega.{arith}
use lib.IntN.{pos}
use Rattle.laws.specs.Sums.{sum_below, count, sum_of}
use Rattle.laws.specs.Search.{first, every, some}
use Rattle.laws.specs.Lists.{table, keep}
use Rattle.laws.specs.Sort.{insert, sort, dedup}
use Rattle.laws.specs.Lex.{lex}
use Rattle.laws.specs.Checks.{unless, first_of}
use Rattle.clock.specs.Clock.{sum_fits}
use Rattle.credit_math.specs.Price.{buy, sell, executed, imbalance, executes, better, candidates, clear_price, price_refusal, find_uniform_clear_price}
use Rattle.credit_math.specs.ProRata.{share, shares, residue, precedes, turns, hand_out}
use Rattle.credit_math.specs.ProRata as prorata
use Rattle.book.specs.Book.{is_live, is_excluded, kind_fits}
use Rattle.book.specs.Clear.{stored, live_orders, searched, trades_at, side_orders, side_lots, allocations, allotted, floor_of, compute_clear}
use Rattle.investors.specs.Exclusion.{is_other, self_trade, cash_of, investor_exclusion}
use Rattle.auction_engine.specs.declared.Session.{Session}
use Rattle.auction_engine.specs.Session.{order_at, fresh, allocating, clearing}
use Rattle.auction_engine.specs.Call.{admits, limits_refusal, fields_refusal, arguments_refusal, in_window}
use Rattle.auction_engine.specs.declared.Call.TheVariants.{Clear}
use Rattle.auction_engine.specs.Screening.{exclusion_of, screen_effect}
use Rattle.auction_engine.specs.Clearing.{clear_refusal, with_lots, cleared_by, clear_lines}
use Rattle.auction_engine.specs.Engine.{Answered, own_refusal, refusal, effect, events, refused_by, answer}
use Rattle.auction_engine.specs.Opening.{with_rows, with_order}
use Rattle.course.specs.CaseL.{params, given, rows, passed}
use Rattle.course.specs.Demand2.{checks, fails, RightClear}
use Rattle.course.proofs.Demand2.{demand2}

-- the session after the four screens
abbrev screened : Session
screened = effect (effect (effect (effect (with_rows (fresh params given) rows) (passed 0 0 1)) (passed 1 0 2)) (passed 2 1 3)) (passed 3 1 4)

-- what its clear answers
pub record Fixed (a : Answered) : Type 0 where
  pub phase : a.session.phase ≡ allocating
  pub price : a.session.cleared.clear_price ≡ 11
  pub volume : a.session.cleared.cleared_volume ≡ 7
  pub lot : (order_at a.session 0).alloc ≡ 5
  pub left : (order_at a.session 0).alloc_left ≡ 5

passes : checks screened (pos 150) ≡ 0
unfolding sum_below count first every some unless first_of sum_fits is_live is_excluded kind_fits is_other self_trade cash_of investor_exclusion fresh admits limits_refusal fields_refusal in_window exclusion_of screen_effect effect with_order
passes = refl

in_clearing : screened.phase ≡ clearing
unfolding sum_below count first every some unless first_of is_live is_other self_trade cash_of investor_exclusion fresh exclusion_of screen_effect effect with_order
in_clearing = refl

answered : Fixed (answer screened (Clear (pos 150)))
unfolding sum_below count sum_of first every some table keep insert sort dedup lex unless first_of sum_fits buy sell executed imbalance executes better candidates clear_price price_refusal find_uniform_clear_price share shares residue precedes turns hand_out prorata.lots is_live is_excluded kind_fits stored live_orders searched trades_at side_orders side_lots allocations allotted floor_of compute_clear is_other self_trade cash_of investor_exclusion fresh admits limits_refusal fields_refusal arguments_refusal in_window exclusion_of screen_effect clear_refusal with_lots cleared_by clear_lines own_refusal refusal effect events answer with_order
answered = record { phase = refl; price = refl; volume = refl; lot = refl; left = refl }

-- a right answer is that one
the_answer : (a : Answered) → RightClear screened a → Fixed a
the_answer a h = rw ((demand2 screened (pos 150)).one_answer passes a h) answered

not_failed : (reason : ℕ) → RightClear screened (fails screened reason) → ⊥
not_failed reason h = omega (arith, (the_answer (fails screened reason) h).phase)

not_refused : (number : ℕ) → RightClear screened (refused_by screened number) → ⊥
not_refused number h = omega (arith, (the_answer (refused_by screened number) h).phase, in_clearing)

not_other_price : (a : Answered) → a.session.cleared.clear_price ≢ 11 → RightClear screened a → ⊥
not_other_price a ne h = ne (the_answer a h).price

not_other_volume : (a : Answered) → a.session.cleared.cleared_volume ≢ 7 → RightClear screened a → ⊥
not_other_volume a ne h = ne (the_answer a h).volume

not_without_lots : (a : Answered) → (order_at a.session 0).alloc ≡ 0 → RightClear screened a → ⊥
not_without_lots a e h = omega (arith, e, (the_answer a h).lot)

not_with_none_left : (a : Answered) → (order_at a.session 0).alloc_left ≡ 0 → RightClear screened a → ⊥
not_with_none_left a e h = omega (arith, e, (the_answer a h).left)
