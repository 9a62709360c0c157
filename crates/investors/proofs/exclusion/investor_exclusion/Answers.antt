-- Self-trade first, then, for a buy, the cash against the cap.
use Rattle.std.proofs.Common.{◌≡◌, ◌∙◌, arith, le_refl}
use Rattle.std.proofs.lemmas.Bool.Decides.{nat_tests}
use Rattle.book.specs.Book.{order_in, no_order}
use Rattle.investors.specs.Exclusion.{self_trade, cash_of, investor_exclusion}
use Rattle.investors.proofs.Excluding.{self_trade_counted, cash_counted}
use Rattle.investors.proofs.exclusion.investor_exclusion.Goals as goal
use Rattle.investors.proofs.exclusion.investor_exclusion.Goals.{After-trades_itself, After-cash_of, in-Some, in-None}

-- the order's own side and escrow, and whether the investor is on the other side
facts : (c : After-trades_itself)
    → (c.match-get.side ≡ ((order_in c.args.orders.now c.args.index).side, (order_in c.args.orders.now c.args.index).escrowed))
    × (c.trades_itself.result ≡ self_trade c.args.orders.now c.args.order_count c.args.index c.args.id.now)
facts c =
    let o = c.get.ensures.lookup.4 (le_refl c.args.index) no_order in
    let own : c.match-get.side ≡ ((order_in c.args.orders.now c.args.index).side, (order_in c.args.orders.now c.args.index).escrowed) =
    elim c.match-get.branch [ in-Some w ↦ rw (w.side-is, ← o, w.in-Some.is) | in-None w ↦ rw (w.side-is, ← o, w.in-None.is) ] in
    (own, c.trades_itself.ensures ∙ self_trade_counted _ _ _ _ _ c.min.ensures c.told-orders _ own)

pub returns-then-trades_itself : goal.returns-then-trades_itself
unfolding investor_exclusion
returns-then-trades_itself c = let f = facts (goal.at.returns-then-trades_itself c).After-trades_itself in grind (arith, nat_tests)

pub returns-then-side-ne0 : goal.returns-then-side-ne0
unfolding investor_exclusion
returns-then-side-ne0 c = let f = facts (goal.at.returns-then-side-ne0 c).After-trades_itself in grind (arith, nat_tests)

pub returns-then-lt : goal.returns-then-lt
unfolding investor_exclusion
returns-then-lt c =
    let f = facts (goal.at.returns-then-lt c).After-trades_itself in
    let s : c.cash_of.result ≡ cash_of c.args.orders.now c.args.order_count c.args.index c.args.id.now = c.cash_of.ensures ∙ cash_counted _ _ _ _ _ c.min.ensures c.told-orders _ f.0 in
    grind (arith, nat_tests)

pub returns : goal.returns
unfolding investor_exclusion
returns c =
    let f = facts (goal.at.returns c).After-trades_itself in
    let s : c.cash_of.result ≡ cash_of c.args.orders.now c.args.order_count c.args.index c.args.id.now = c.cash_of.ensures ∙ cash_counted _ _ _ _ _ c.min.ensures c.told-orders _ f.0 in
    grind (arith, nat_tests)
