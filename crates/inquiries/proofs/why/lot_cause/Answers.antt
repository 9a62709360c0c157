-- `inquiries::why::lot_cause` meets its contract: a lot that is above the share has a unit.
use Rattle.std.proofs.Common.{◌≤◌, ◌<◌, get_or, arith}
use Rattle.std.proofs.lemmas.Bool.Decides.{nat_tests}
use Rattle.laws.proofs.Sums.{count_le}
use Rattle.inquiries.proofs.Asking.{says_share, says_residue}
use Rattle.inquiries.proofs.why.lot_cause.Goals as goal

pub returns-then-le : goal.returns-then-le
returns-then-le c =
    let a = c.args in
    let r = c.requires in
    let m : get_or a.found.now.lots a.i 0 ≤ c.floor_share.result.quotient = grind (arith, nat_tests) in
    says_share a.session.now a.found.now r.found r.asked r.few a.i r.here r.live r.in_price _ _ c.floor_share.ensures.quotient c.sharing-sum.ensures m

pub overflow_add-turn : goal.overflow_add-turn
overflow_add-turn c =
    let n : c.turns_before-turn.result ≤ c.args.session.now.order_count = rw c.turns_before-turn.ensures (count_le _ _) in
    omega (arith, n, c.requires.few)

pub returns : goal.returns
returns c =
    let a = c.args in
    let r = c.requires in
    let m : c.floor_share.result.quotient < get_or a.found.now.lots a.i 0 = grind (arith, nat_tests) in
    says_residue a.session.now a.found.now r.found r.asked r.few a.i r.here r.live r.in_price _ _ _ c.floor_share.ensures.quotient c.sharing-sum.ensures m
    c.turns_before-turn.ensures
