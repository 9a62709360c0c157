-- `put_lines` meets its contract, event by event.
use Rattle.std.proofs.Common.{List, ℕ, length, zero-add, arith, length-take, length-drop, le-leb}
use Rattle.std.specs.Prelude.{Ok}
use Rattle.std.proofs.lemmas.Grind.{common_steps}
use Rattle.octets.specs.Puts.{Puts}
use Rattle.octets.specs.Writing.{written, after, Writes}
use Rattle.octets.proofs.Answers.{answer_small}
use Rattle.octets.proofs.Spliced.{puts_part}
use Rattle.listing.proofs.Records.{lines_within, puts_event}
use Rattle.listing.proofs.put_lines.Goals as goal

-- where a length is answered, the text is written
writes_puts : {text e e' : List ℕ} {n : ℕ} → Writes text (Ok n) e e' → Puts text 0 n e e'
unfolding after
writes_puts {text} {e} w =
    let a = answer_small w in
    let fits = le-leb (length text) (length e) (omega arith) in
    record { place = rw zero-add a.0; bytes = rw fits at w.bytes }

pub returns-in_err-k : goal.returns-in_err-k
unfolding written
returns-in_err-k c =
    let within = lines_within c.args.number c.loop-event.event-index c.args.events.now c.loop-event-test.true in
    grind (arith, common_steps)

pub loop-event-preserved : goal.loop-event-preserved
loop-event-preserved c =
    let l = c.loop-event in
    let w = rw c.in_ok-k.was at c.put_said.ensures in
    let small = simp (length-take, length-drop) at (answer_small w).1 in
    (omega (arith, small), puts_event c.args.number l.event-index c.args.events.now l.invariant.1 (puts_part l.k l.out (writes_puts w)) (omega arith))
