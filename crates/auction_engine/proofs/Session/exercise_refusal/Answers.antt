-- `auction_engine::Session::exercise_refusal` meets its contract. All steps before the last passed.
use Rattle.std.proofs.Common.{sym, ap, ◌∙◌, refl}
use mir.Facts.{to_z-of_z}
use Rattle.refusals.specs.Number.{refusal_in}
use Rattle.auction_engine.specs.Call.{arguments_refusal}
use Rattle.auction_engine.specs.Engine.{own_refusal}
use Rattle.auction_engine.specs.Rofr.{exercise_refusal}
use Rattle.auction_engine.specs.declared.Call.TheVariants as call
use Rattle.auction_engine.proofs.Checks.{own_decides}
use Rattle.auction_engine.proofs.Passing.{step_passed}
use Rattle.auction_engine.proofs.Session.exercise_refusal.Goals as goal

pub returns-clause-refusal : goal.returns-clause-refusal
unfolding arguments_refusal own_refusal exercise_refusal
returns-clause-refusal c =
    let a = c.args in
    let own =
    c.take_refusal.ensures.refusal
    ∙ step_passed _ _ _ c.in_ok-unless-5.was c.unless-5.ensures _
    ∙ step_passed _ _ _ c.in_ok-unless-4.was c.unless-4.ensures _
    ∙ step_passed _ _ _ c.in_ok-unless-3.was (rw (c.eq.ensures) at c.unless-3.ensures) _
    ∙ step_passed _ _ _ c.in_ok-unless-2.was (rw (c.before_rofr_end.ensures, to_z-of_z c.ranges.now) at c.unless-2.ensures) _
    ∙ step_passed _ _ _ c.in_ok-unless.was (rw (c.admits.ensures) at c.unless.ensures) _ in
    own_decides a.self.now (call.Exercise a.now a.issuer.now a.at a.qty) 0 (ap refusal_in (sym c.in_ok-checked.was) ∙ c.checked.ensures.refusal) refl refl _ own
