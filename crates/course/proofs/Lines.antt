-- What a list of calls has done is what its lines say, as specs/Lines.antt states it. Assumes nothing.
use mathlib.Core.Path.{◌≡◌, refl, sym, ap₂, ◌∙◌}
use mathlib.Core.Bool.{Bool, true, false, cond}
use mathlib.Core.List.{List, [], ◌∷◌}
use borrow.Author.Tests.{eqb-true}
use lib.Dec.{eqb}
use Rattle.auction_engine.specs.declared.Call.{Call}
use Rattle.auction_engine.specs.Engine.{refusal, events, answer}
use Rattle.course.specs.Course.{Run, begin, advance, run}
use Rattle.course.specs.Lines.{said_by, lines_of, tell_all, notes_of, LinesTell}
use Rattle.course.proofs.Applied.{advance_session}
use Rattle.course.proofs.Accepted.{noted}
use Rattle.course.proofs.LinesOfCalls.{tell_append, call_tells}
use Rattle.course.proofs.LinesOfSettles.{all_settled, line_settled}
use Rattle.course.proofs.LinesOfPrints.{printed_once, none_printed}

-- a call, accepted or refused
advance_tells : (r : Run) (c : Call) → notes_of (advance r c) ≡ tell_all (notes_of r) (said_by r.session c)
unfolding advance
advance_tells r c = go (eqb (refusal r.session c) 0) refl
  where
    go : (x : Bool) → eqb (refusal r.session c) 0 ≡ x → notes_of (cond x (noted r c) r) ≡ tell_all (notes_of r) (cond x (events r.session c) [])
    go true e = call_tells r c (eqb-true _ _ e)
    go false e = refl

run_tells : (l : List Call) (r : Run) → notes_of (run r l) ≡ tell_all (notes_of r) (lines_of r.session l)
run_tells [] r = refl
run_tells (c ∷ l) r =
    run_tells l (advance r c) ∙ ap₂ (λ t s. tell_all t (lines_of s l)) (advance_tells r c) (advance_session r c)
    ∙ sym (tell_append (notes_of r) (said_by r.session c) (lines_of (answer r.session c).session l))

pub lines_tell : LinesTell
lines_tell s l =
    record {
      told = run_tells l (begin s);
      settled = all_settled s l;
      settle_line = line_settled s l;
      printed = printed_once s l;
      unprinted = none_printed s l;
    }
