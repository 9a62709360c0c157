-- `auction_engine::Session::fill_refusal` meets its contract. By its two steps.
use Rattle.std.proofs.Common.{◌∙◌}
use Rattle.auction_engine.proofs.Passing.{step_passed, step_last}
use Rattle.auction_engine.proofs.Session.fill_refusal.Goals as goal

pub returns-clause-refusal : goal.returns-clause-refusal
returns-clause-refusal c = step_last _ _ _ c.unless-2.ensures ∙ step_passed _ _ _ c.in_ok-unless.was c.unless.ensures _
