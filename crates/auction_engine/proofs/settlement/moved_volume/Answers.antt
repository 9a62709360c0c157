-- `auction_engine::settlement::moved_volume` meets its contract. The sum goes on by what moved in one fill, and fits two words.
use Rattle.std.proofs.Common.{rules, arith, sym, ◌∙◌}
use Rattle.laws.proofs.Widths.{summing}
use Rattle.auction_engine.proofs.Prints.{moved_on, moved_not, moved_all}
use Rattle.auction_engine.proofs.settlement.moved_volume.Goals.{then-not-is_skipped, else-not-is_skipped}
use Rattle.auction_engine.proofs.settlement.moved_volume.Goals as goal

pub loop-i-init : goal.loop-i-init
loop-i-init c = summing c.from-sum.ensures

pub loop-i-preserved : goal.loop-i-preserved
loop-i-preserved c =
    let a = c.args in
    elim c.if-not-is_skipped.branch [
      | then-not-is_skipped w ↦
          moved_on a.fills.now a.skipped c.loop-i.i c.loop-i.sum _ c.loop-i.invariant (sym c.is_skipped.ensures ∙ w.if-not-is_skipped.true) (omega (arith, c.loop-i-test.true, c.requires)) (search rules)
          (w.sum-is ∙ w.wrapping_add-sum.ensures)
      | else-not-is_skipped w ↦ moved_not a.fills.now a.skipped c.loop-i.i c.loop-i.sum _ c.loop-i.invariant (sym c.is_skipped.ensures ∙ w.if-not-is_skipped.false) w.sum-is
    ]

pub returns : goal.returns
returns c = moved_all c.args.fills.now c.args.skipped c.loop-i.i c.loop-i.sum c.loop-i.invariant (omega arith)
