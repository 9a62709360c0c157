-- A price found comes with a volume that both sides have.
use Rattle.std.proofs.Common.{◌≡◌, sym, ap, ◌∙◌}
use Rattle.std.specs.Prelude.{Ok}
use Rattle.credit_math.specs.Price.{cross, found}
use Rattle.book.specs.Clear.{allotted, searched}
use Rattle.book.proofs.Outcomes.{found_within}
use Rattle.book.proofs.gathered.Live.clear.Goals as goal

pub returns-in-Some : goal.returns-in-Some
unfolding searched
returns-in-Some c = λ orders n g.
    let e : searched orders n c.args.reserve c.args.reference ≡ cross c.in-Some.cross.clear_price c.in-Some.cross.executed_qty =
    sym (rw (g.sides, g.limits, g.qtys) at c.find_uniform_clear_price.ensures) ∙ ap found (c.in_ok-found.was ∙ ap Ok c.in-Some.is) in
    c.priced.ensures orders n g (found_within orders n _ _ _ _ e) ∙ ap (allotted orders n) (sym e)
