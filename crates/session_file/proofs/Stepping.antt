-- What a record makes and says, as the code comes to it, is what File.antt says of it. Assumes nothing.
use Rattle.std.proofs.Common.{◌≡◌, refl, ℕ, if◌then◌else◌, ◌==◌, List, ap, ◌∙◌, true, false, eqb, ◌≢◌, ◌+◌, drop, length, ⊎_elim, ne_eqb, Option}
use Rattle.laws.proofs.Tests.{tested}
use Rattle.refusals.specs.declared.Refusal.{Refusal}
use Rattle.refusals.specs.Number.{number}
use Rattle.book.specs.declared.Params.{Params}
use Rattle.book.specs.declared.Given.{Given}
use Rattle.auction_engine.specs.declared.Session.{Session}
use Rattle.auction_engine.specs.declared.Call.{Call}
use Rattle.auction_engine.specs.Engine.{refusal, answer}
use Rattle.session_file.specs.declared.fields.Fields.{Fields}
use Rattle.session_file.specs.declared.fields.Fields.TheVariants as fields
use Rattle.session_file.specs.declared.file.Place.{Place}
use Rattle.session_file.specs.Fields.{call}
use Rattle.session_file.specs.Reads.{shape_at}
use Rattle.session_file.specs.File.{State, file_refusal, made, said_by, said_of}
use Rattle.session_file.specs.Parts.{state_at, after_record}
use Rattle.session_file.specs.Steps.{next_read, read_of, said_all, refused_by}

-- what is said of a call
pub said_answer : (p : Place) (x : Session) (c : Call) → said_all (answer x c) ≡ said_by (state_at p x) (call c)
unfolding said_by answer
said_answer p x c =
    ⊎_elim
    (λ (t : eqb (refusal x c) 0 ≡ true). rw t)
    (λ (t : eqb (refusal x c) 0 ≡ false). rw (t, t))
    (tested (eqb (refusal x c) 0))

-- what is asked of escrows after a record
pub cover_header : (f : State) (q : Params) (g : Given) (cover : Option ℕ) (fs : Fields) → fs ≡ fields.Header q g cover → cover ≡ (made f (read_of fs)).cover
unfolding made
cover_header f q g cover fs is = rw is

pub cover_kept : (f : State) (fs : Fields) → ((q : Params) (g : Given) (cover : Option ℕ) → fs ≢ fields.Header q g cover) → f.cover ≡ (made f (read_of fs)).cover
unfolding made
cover_kept f (fields.Header q g cover) h = absurd (h q g cover refl)
cover_kept f (fields.Order row) h = refl
cover_kept f (fields.Call c) h = refl

-- what the record at a place leaves: one that lets the file go on, and one that ends it
module _ (s : List ℕ) (p : Place) (x : Session) where
  abbrev f : State
  f = state_at p x

  pub goes_on : 0 ≡ file_refusal f (next_read s p) → ((made f (next_read s p)).session ≡ (after_record s p x).session) × (said_by f (next_read s p) ≡ (after_record s p x).said)
  unfolding after_record said_of
  goes_on z = rw (← z) (refl, refl)

  pub next_place : (q : Place) → 0 ≡ file_refusal f (next_read s p)
      → q ≡ record { at = p.at + (shape_at (drop p.at s)).width; stage = (shape_at (drop p.at s)).kind; cover = (made f (next_read s p)).cover }
      → q ≡ (after_record s p x).place
  unfolding after_record
  next_place q z is = rw (← z) is

  pub ends : (r : Refusal) → number r ≡ file_refusal f (next_read s p) → number r ≢ 0
      → (record { at = length s; stage = p.stage; cover = p.cover } ≡ (after_record s p x).place) × (x ≡ (after_record s p x).session)
      × (refused_by r ≡ (after_record s p x).said)
  unfolding after_record said_of
  ends r is z = rw (← is, ne_eqb (number r) 0 z) (refl, refl, refl)

  -- the fields fs that were read there, and the session y after them
  module _ (fs : Fields) (read : read_of fs ≡ next_read s p) (y : Session)
      (is : y ≡ (if file_refusal f (read_of fs) == 0 then (made f (read_of fs)).session else x)) where
    pub session_kept : (n : ℕ) → n ≡ file_refusal f (read_of fs) → n ≢ 0 → y ≡ (after_record s p x).session
    unfolding after_record
    session_kept n e z = is ∙ rw (← read, ← e, ne_eqb n 0 z) refl

    pub session_made : 0 ≡ file_refusal f (read_of fs) → y ≡ (after_record s p x).session
    session_made e = is ∙ rw (← e, read) (goes_on (e ∙ ap (file_refusal f) read)).0
