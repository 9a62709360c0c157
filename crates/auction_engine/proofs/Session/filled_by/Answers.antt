-- `auction_engine::Session::filled_by` meets its contract. With fills left to make, what is left decides (`Going`).
use Rattle.auction_engine.specs.Matching.{pair}
use Rattle.auction_engine.proofs.FillLoop.{going_idle, going_full, going_more, going_end}
use Rattle.auction_engine.proofs.Session.filled_by.Goals.{else-loop-test, then-loop-test+in_default}
use Rattle.auction_engine.proofs.Session.filled_by.Goals as goal

pub returns-then-at-ge-MAX_FILLS : goal.returns-then-at-ge-MAX_FILLS
returns-then-at-ge-MAX_FILLS c =
    let l = c.loop in
    going_full c.args.self.now c.args.n l.counter l.self l.events c.loop-test.true l.invariant c.in-Some.b c.in-Some.a c.in-Some.ensures c.if-at-ge-MAX_FILLS.true

pub loop-preserved : goal.loop-preserved
unfolding pair
loop-preserved c =
    let l = c.loop in
    let b = c.in-Some.b in
    let a = c.in-Some.a in
    rw
    (c.push.ensures, c.fill_event.ensures, c.fill_of.ensures, c.less_left-in-loop.ensures, c.less_left.ensures, c.min-qty.ensures)
    (going_more c.args.self.now c.args.n l.counter l.self l.events c.loop-test.true l.invariant b a c.in-Some.ensures c.if-at-ge-MAX_FILLS.false)

pub returns : goal.returns
returns c =
    let l = c.loop in
    elim c.loop-test.branch [
      | else-loop-test w ↦ going_end c.args.self.now c.args.n l.counter l.self l.events w.loop-test.false l.invariant
      | then-loop-test+in_default w ↦ going_idle c.args.self.now c.args.n l.counter l.self l.events w.loop-test.true l.invariant w.in_default.ensures
    ]
