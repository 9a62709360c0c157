-- Those of one more live order that trade stand one behind the other.
use Rattle.std.proofs.Common.{◌≡◌, refl, arith}
use Rattle.std.proofs.lemmas.Grind.{common_steps}
use Rattle.laws.specs.Sums.{only}
use Rattle.laws.proofs.Gathering.{gathering}
use Rattle.book.proofs.Live.{siding_more, sided}
use Rattle.book.proofs.gathered.Live.side_orders.Goals as goal

pub loop-i-init : goal.loop-i-init
loop-i-init c = record { few = omega arith; inside = λ k h. absurd (omega arith); gathered = λ orders n g. record { numbers_too = gathering refl; qtys_too = gathering refl } }

pub loop-i-preserved : goal.loop-i-preserved
loop-i-preserved c =
    let u : c.from-count.result ≡ only c.trades_at.result 1 = grind arith in
    record {
      few = grind arith;
      inside = λ k h. grind (arith, common_steps, c.loop-i.invariant.inside k, c.args.self.now.inside c.loop-i.i);
      gathered = λ orders n g. siding_more orders n _ _ g c.loop-i-test.true (c.loop-i.invariant.gathered orders n g) _ _ (omega arith) c.trades_at.ensures u;
    }

pub returns : goal.returns
returns c = λ orders n g. sided orders n _ _ g (c.loop-i.invariant.gathered orders n g) c.loop-i-test.false
