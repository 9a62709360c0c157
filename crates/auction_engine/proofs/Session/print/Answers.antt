-- `auction_engine::Session::print` meets its contract. Past the other checks the volume decides, and nothing else is refused.
use Rattle.std.proofs.Common.{rules, arith, ◌≡◌, ◌≤◌, length, sym, ap, ◌∙◌}
use Rattle.refusals.specs.Number.{refusal_in}
use Rattle.book.specs.Limits.{max_fills}
use Rattle.auction_engine.proofs.Checks.{checked_within}
use Rattle.auction_engine.proofs.Passing.{test_held}
use Rattle.auction_engine.proofs.Steps.{numbered}
use Rattle.auction_engine.proofs.Prints.{settled_every, moved_take, volume_decides, wide_refused, narrow_passes, discloses, print_as}
use Rattle.auction_engine.proofs.Session.print.Goals as goal

pub returns-in_err-moved-clause-refusal : goal.returns-in_err-moved-clause-refusal
returns-in_err-moved-clause-refusal c =
    let s = c.args.self.now in
    let all : length s.fills ≡ max_fills = search rules in
    let h : s.fill_count ≤ length s.fills = omega (arith, c.in_ok-checked.ensures.few.1, all) in
    let said : refusal_in c.from_residual-in_err-moved.result ≡ 17 = search (rules, arith) in
    said
    ∙ volume_decides s c.args.now _ (sym c.checked.ensures.refusal ∙ ap refusal_in c.in_ok-checked.was) (test_held _ _ _ c.in_ok-unless.was (rw c.admits.ensures at c.unless.ensures))
    (test_held _ _ _ c.in_ok-unless-2.was (rw (c.all_settled.ensures, settled_every s h) at c.unless-2.ensures))
    (rw (← moved_take s h) (wide_refused _ _ _ c.in_err-moved.was (rw c.moved_volume.ensures at c.try_from.ensures)))

pub returns-in_err-shown-clause-refusal : goal.returns-in_err-shown-clause-refusal
returns-in_err-shown-clause-refusal c =
    let s = c.args.self.now in
    let w = checked_within s (sym c.checked.ensures.refusal ∙ ap refusal_in c.in_ok-checked.was) in
    absurd (omega (arith, ap (λ d. d.refusal) c.in_err-shown.ensures ∙ discloses s w c.in_ok-moved.moved, numbered c.in_err-shown.field-0.0))

pub returns-clause-refusal : goal.returns-clause-refusal
returns-clause-refusal c =
    let s = c.args.self.now in
    let all : length s.fills ≡ max_fills = search rules in
    let h : s.fill_count ≤ length s.fills = omega (arith, c.in_ok-checked.ensures.few.1, all) in
    volume_decides s c.args.now _ (sym c.checked.ensures.refusal ∙ ap refusal_in c.in_ok-checked.was) (test_held _ _ _ c.in_ok-unless.was (rw c.admits.ensures at c.unless.ensures))
    (test_held _ _ _ c.in_ok-unless-2.was (rw (c.all_settled.ensures, settled_every s h) at c.unless-2.ensures))
    (rw (← moved_take s h) (narrow_passes _ _ _ c.in_ok-moved.was (rw c.moved_volume.ensures at c.try_from.ensures)).1)

pub returns-clause-print : goal.returns-clause-print
returns-clause-print c =
    let s = c.args.self.now in
    let all : length s.fills ≡ max_fills = search rules in
    let h : s.fill_count ≤ length s.fills = omega (arith, c.in_ok-checked.ensures.few.1, all) in
    let w = checked_within s (sym c.checked.ensures.refusal ∙ ap refusal_in c.in_ok-checked.was) in
    print_as s w c.in_ok-moved.moved _ _ _ ((narrow_passes _ _ _ c.in_ok-moved.was c.try_from.ensures).0 ∙ c.moved_volume.ensures ∙ moved_take s h) c.distinct_participants-count.ensures c.in_ok-shown.ensures
