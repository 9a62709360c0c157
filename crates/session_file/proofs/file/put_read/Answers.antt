-- `session_file::file::put_read` meets its contract: a record that is not read or ends the file, and one that lets it go on.
use Rattle.std.proofs.Common.{◌≡◌, ◌≢◌, ◌+◌, sym, ap, ◌∙◌, arith}
use Rattle.refusals.specs.Number.{number}
use Rattle.auction_engine.proofs.Steps.{numbered}
use Rattle.session_file.specs.Fields.{Read}
use Rattle.session_file.specs.File.{State, file_refusal, made}
use Rattle.session_file.specs.Parts.{state_at}
use Rattle.session_file.specs.Steps.{next_read}
use Rattle.session_file.proofs.Stepping.{cover_header, cover_kept, next_place, goes_on, ends, session_kept, session_made}
use Rattle.session_file.proofs.file.put_read.Goals as goal

pub returns-in_err-r-clause-session : goal.returns-in_err-r-clause-session
unfolding file_refusal
returns-in_err-r-clause-session c =
    let a = c.args in
    let r = c.in_err-r.field-0.0 in
    let z : number r ≢ 0 = λ e. omega (arith, e, numbered r) in
    (ends a.input.now a.place.now a.session.now r (ap (file_refusal (state_at a.place.now a.session.now)) c.in_err-r.ensures.read) z).1

pub returns-in_err-written-clause-session : goal.returns-in_err-written-clause-session
returns-in_err-written-clause-session c =
    let a = c.args in
    let k = c.in_err-written in
    let z : number k.field-0.0 ≢ 0 = λ e. omega (arith, e, numbered k.field-0.0) in
    session_kept a.input.now a.place.now a.session.now c.in_ok-r.r.fields c.in_ok-r.ensures.read c.put_fields.new.session c.put_fields.ensures.session _ k.ensures.refusal z

pub returns-in-Header-clause-place : goal.returns-in-Header-clause-place
returns-in-Header-clause-place c =
    let a = c.args in
    let f : State = state_at a.place.now a.session.now in
    let k = c.in_ok-r in
    let h = c.in-Header in
    next_place a.input.now a.place.now a.session.now _ (c.in_ok-written.ensures.refusal ∙ ap (file_refusal f) k.ensures.read)
    (rw (k.ensures.width, k.ensures.kind, cover_header f h.params h.given h.cover k.r.fields h.is ∙ ap (λ (r : Read). (made f r).cover) k.ensures.read))

pub returns-in-Header-clause-session : goal.returns-in-Header-clause-session
returns-in-Header-clause-session c =
    let a = c.args in
    session_made a.input.now a.place.now a.session.now c.in_ok-r.r.fields c.in_ok-r.ensures.read c.put_fields.new.session c.put_fields.ensures.session c.in_ok-written.ensures.refusal

pub returns-in-Header-clause-lines : goal.returns-in-Header-clause-lines
returns-in-Header-clause-lines c =
    let a = c.args in
    let f : State = state_at a.place.now a.session.now in
    let k = c.in_ok-r in
    let d = goes_on a.input.now a.place.now a.session.now (c.in_ok-written.ensures.refusal ∙ ap (file_refusal f) k.ensures.read) in
    rw (sym d.1, ← k.ensures.read) c.in_ok-written.ensures.lines

pub returns-in_default : goal.returns-in_default
returns-in_default c =
    let a = c.args in
    let f : State = state_at a.place.now a.session.now in
    let k = c.in_ok-r in
    let w = c.in_ok-written in
    let z = w.ensures.refusal ∙ ap (file_refusal f) k.ensures.read in
    let d = goes_on a.input.now a.place.now a.session.now z in
    let cover : a.place.now.cover ≡ (made f (next_read a.input.now a.place.now)).cover =
    cover_kept f k.r.fields c.in_default.not-Header ∙ ap (λ (r : Read). (made f r).cover) k.ensures.read in
    record {
      refusal = z;
      place =
          next_place a.input.now a.place.now a.session.now _ z
          (λ i. record { at = a.place.now.at + k.ensures.width i; stage = k.ensures.kind i; cover = cover i });
      session = session_made a.input.now a.place.now a.session.now k.r.fields k.ensures.read c.put_fields.new.session c.put_fields.ensures.session w.ensures.refusal;
      lines = rw (sym d.1, ← k.ensures.read) w.ensures.lines;
      room = w.ensures.room;
      kept = tt;
    }
