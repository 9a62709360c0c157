-- The loop's invariant: the fills counted and those to come are all, and an empty hand has nothing ahead.
use Rattle.std.proofs.Common.{◌≡◌, [], ◌+◌, ◌-◌, ◌≤◌, length}
use Rattle.book.specs.Book.{buy_side, sell_side}
use Rattle.fills.specs.FillCount.{fill_count}
use Rattle.fills.specs.Steps.{nonzero, ahead}
use Rattle.fills.proofs.Hands.{fills_ahead}
use Rattle.fills.proofs.lines.Lots.counted.Given as goal

abbrev pub invariant-loop-buy : goal.invariant-loop-buy
invariant-loop-buy l =
    let lots = l.self.lots.now in
    let sides = l.self.sides.now in
    record {
      all : l.count + fills_ahead lots sides l.buy l.sell ≡ fill_count lots sides;
      no_buy : l.buy.left ≡ 0 → nonzero (ahead buy_side lots sides l.buy) ≡ [];
      no_sell : l.sell.left ≡ 0 → nonzero (ahead sell_side lots sides l.sell) ≡ [];
      buys : l.buy.next ≤ length lots;
      sells : l.sell.next ≤ length lots;
    }

abbrev pub decreases-loop-buy : goal.decreases-loop-buy
decreases-loop-buy l = fill_count l.self.lots.now l.self.sides.now - l.count
