-- The examples compute. Assumes nothing.
use mathlib.Core.Path.{refl}
use Rattle.laws.specs.Sums.{sum_below, count, sum_of}
use Rattle.laws.specs.Search.{first, every, some}
use Rattle.laws.specs.Lists.{table, keep}
use Rattle.laws.specs.Sort.{insert, sort, dedup}
use Rattle.laws.specs.Lex.{lex}
use Rattle.laws.specs.Checks.{unless, first_of}
use Rattle.laws.specs.Bits.{bit, with_bit}
use Rattle.clock.specs.Clock.{sum_fits}
use Rattle.credit_math.specs.Price.{buy, sell, executed, imbalance, executes, better, candidates, clear_price, price_refusal, find_uniform_clear_price}
use Rattle.credit_math.specs.ProRata.{share, shares, residue, precedes, turns, hand_out}
use Rattle.credit_math.specs.ProRata as prorata
use Rattle.book.specs.Book.{is_live, is_excluded, kind_fits}
use Rattle.book.specs.Clear.{stored, live_orders, searched, trades_at, side_orders, side_lots, allocations, allotted, floor_of, compute_clear}
use Rattle.investors.specs.Exclusion.{is_other, self_trade, cash_of, investor_exclusion}
use Rattle.investors.specs.Participants.{contains, moved, first_order, participant, seen, distinct_participants}
use Rattle.disclosure.specs.Disclosure.{width, banded, shown}
use Rattle.escrow.specs.Cover.{decimals_refusal, cover_refusal}
use Rattle.auction_engine.specs.Session.{rofr_end, fresh}
use Rattle.auction_engine.specs.Call.{admits, limits_refusal, fields_refusal, arguments_refusal, in_window}
use Rattle.auction_engine.specs.Screening.{screen_refusal, exclusion_of, screen_effect, screen_events}
use Rattle.auction_engine.specs.Clearing.{clear_refusal, with_lots, cleared_by, clear_lines}
use Rattle.auction_engine.specs.Matching.{due_at, due, pair, one, after_fills, overfull, allocate_refusal, done, phase_after, allocate_effect, fill_events, allocate_events}
use Rattle.auction_engine.specs.Settlement.{settle_refusal, settle_effect, settle_events, skip_refusal, skip_effect, skip_events, moved_volume, finish_refusal, finish_effect, print_of, finish_events}
use Rattle.auction_engine.specs.Engine.{own_refusal, refusal, effect, events}
use Rattle.auction_engine.specs.Opening.{header_refusal, row_refusal, order_refusal, with_order}
use Rattle.octets.specs.Decimal.{digits, decimal}
use Rattle.listing.specs.Lines.{fields}
use Rattle.course.specs.Course.{note, advance}
use Rattle.inquiries.specs.Why.{out_of_price, turns_before, cause_of, why_refusal}
use Rattle.inquiries.specs.Examples.{Examples}

pub examples_hold : Examples
unfolding sum_below count sum_of first every some table keep insert sort dedup lex unless first_of bit with_bit sum_fits buy sell executed imbalance executes better candidates clear_price price_refusal find_uniform_clear_price share shares residue precedes turns hand_out prorata.lots is_live is_excluded kind_fits stored live_orders searched trades_at side_orders side_lots allocations allotted floor_of compute_clear is_other self_trade cash_of investor_exclusion contains moved first_order participant seen distinct_participants width banded shown rofr_end fresh admits limits_refusal fields_refusal arguments_refusal in_window screen_refusal exclusion_of screen_effect screen_events clear_refusal with_lots cleared_by clear_lines due_at due pair one after_fills overfull allocate_refusal done phase_after allocate_effect fill_events allocate_events settle_refusal settle_effect settle_events skip_refusal skip_effect skip_events moved_volume finish_refusal finish_effect print_of finish_events own_refusal refusal effect events header_refusal row_refusal order_refusal with_order decimals_refusal cover_refusal note advance digits decimal fields out_of_price turns_before cause_of why_refusal
examples_hold = record { causes = refl; line = refl; refusals = refl; turns = refl }
