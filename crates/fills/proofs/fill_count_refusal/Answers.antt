-- `fills::fill_count_refusal` meets its contract: the chain over the sides tests every place.
use Rattle.std.proofs.Common.{rules, tests, arith}
use Rattle.std.proofs.lemmas.Iterator.{YieldsList-from_slice}
use Rattle.std.proofs.lemmas.Iterator.Search.{all_from_yields_List}
use Prim.Native.Nat.{ℕ}
use lib.Dec.{leb}
use Rattle.laws.specs.Checks.{unless, first_of}
use Rattle.fills.specs.FillCount.{fill_count_refusal}
use Rattle.fills.proofs.Sides.{every_list}
use Rattle.fills.proofs.fill_count_refusal.Goals as goal

pub returns : goal.returns
unfolding fill_count_refusal unless first_of
returns c =
    let known = λ (side : ℕ). leb side 1 in
    grind (
      arith,
      every_list known 0 c.args.sides.now,
      all_from_yields_List known _ _ c.all.result c.all.ensures.ran (YieldsList-from_slice c.args.sides.now cc) (λ x b q k. search (rules, tests)),
    )
