-- The live ones of one more order stand one behind the other.
use Rattle.std.proofs.Common.{◌≡◌, refl, arith}
use Rattle.std.proofs.lemmas.Grind.{common_steps}
use Rattle.laws.specs.Sums.{only}
use Rattle.book.proofs.Live.{collecting, collecting_more, collected}
use Rattle.book.proofs.clear.live_orders.Goals as goal

pub loop-i-init : goal.loop-i-init
loop-i-init c = record { few = omega arith; inside = λ k h. absurd (omega arith); gathered = collecting _ refl refl refl refl }

pub loop-i-preserved : goal.loop-i-preserved
loop-i-preserved c =
    let u : c.from-count.result ≡ only c.is_live.result 1 = grind arith in
    record {
      few = grind arith;
      inside = λ k h. grind (arith, common_steps, c.loop-i.invariant.inside k);
      gathered = collecting_more _ c.loop-i.invariant.gathered _ _ (omega arith) c.is_live.ensures u;
    }

pub returns : goal.returns
returns c = collected _ c.loop-i.invariant.gathered (omega arith) (omega arith)
