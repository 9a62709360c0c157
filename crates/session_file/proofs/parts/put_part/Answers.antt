-- `session_file::parts::put_part` meets its contract: nothing more, 26, a record, or the last line.
use Rattle.std.proofs.Common.{arith, le-leb, lt-ltb, le-ltb, length}
use Rattle.octets.specs.Writing.{written, after}
use Rattle.session_file.specs.Parts.{part_at, cursor_after}
use Rattle.session_file.proofs.parts.put_part.Goals as goal

pub returns-then-s-clause-lines : goal.returns-then-s-clause-lines
unfolding part_at written after
returns-then-s-clause-lines c = record { answer = rw (c.if-s.true, le-leb 0 (length c.args.out.now) (omega arith)); bytes = rw (c.if-s.true, le-leb 0 (length c.args.out.now) (omega arith)) }

pub returns-then-s-clause-cursor : goal.returns-then-s-clause-cursor
unfolding cursor_after
returns-then-s-clause-cursor c = rw c.if-s.true

pub returns-then-s-2-clause-lines : goal.returns-then-s-2-clause-lines
unfolding part_at
returns-then-s-2-clause-lines c = rw (c.if-s.false, c.if-s-2.true) (rw c.number.ensures at c.put_events.ensures.lines)

pub returns-then-s-2-clause-cursor : goal.returns-then-s-2-clause-cursor
unfolding cursor_after
returns-then-s-2-clause-cursor c = rw (c.if-s.false, c.if-s-2.true)

pub returns-then-s-input-clause-lines : goal.returns-then-s-input-clause-lines
unfolding part_at
returns-then-s-input-clause-lines c = rw (c.if-s.false, c.if-s-2.false, lt-ltb c.args.s.now.place.at (length c.args.input.now) c.if-s-input.true) c.put_record.ensures.lines

pub returns-then-s-input-clause-cursor : goal.returns-then-s-input-clause-cursor
unfolding cursor_after
returns-then-s-input-clause-cursor c =
    rw (c.if-s.false, c.if-s-2.false, lt-ltb c.args.s.now.place.at (length c.args.input.now) c.if-s-input.true, c.put_record.ensures.place, c.put_record.ensures.session)

pub returns-clause-lines : goal.returns-clause-lines
unfolding part_at
returns-clause-lines c = rw (c.if-s.false, c.if-s-2.false, le-ltb c.args.s.now.place.at (length c.args.input.now) c.if-s-input.false) c.put_last.ensures.line

pub returns-clause-cursor : goal.returns-clause-cursor
unfolding cursor_after
returns-clause-cursor c = rw (c.if-s.false, c.if-s-2.false, le-ltb c.args.s.now.place.at (length c.args.input.now) c.if-s-input.false)
