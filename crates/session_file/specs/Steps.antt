-- What the code reads and says of a record, in the words of File.antt.
use Rattle.std.specs.Prelude.{◌≡◌, ℕ, ◌≤◌, if◌then◌else◌, List, [], ◌∷◌, length, drop, ◌==◌, Result, Ok, Err}
use Rattle.refusals.specs.declared.Refusal.{Refusal}
use Rattle.refusals.specs.Number.{number}
use Rattle.events.specs.declared.Event.{Event}
use Rattle.events.specs.declared.Event.TheVariants.{Refused}
use Rattle.octets.specs.Writing.{splice, written}
use Rattle.auction_engine.specs.Engine.{Answered}
use Rattle.session_file.specs.declared.fields.Fields.{Fields}
use Rattle.session_file.specs.declared.fields.Fields.TheVariants as fields
use Rattle.session_file.specs.declared.fields.Record.{Record}
use Rattle.session_file.specs.declared.file.Place.{Place}
use Rattle.session_file.specs.Fields.{Read, refused, header, order, call}
use Rattle.session_file.specs.Reads.{read_next}
use Rattle.session_file.specs.File.{listing}

-- what was read: fields, a record's, or a refusal
abbrev pub read_of : Fields → Read
read_of (fields.Header p g cover) = header p g cover
read_of (fields.Order row) = order row
read_of (fields.Call c) = call c

abbrev pub read_as : Result Fields Refusal → Read
read_as (Ok f) = read_of f
read_as (Err r) = refused (number r)

abbrev pub read_in : Result Record Refusal → Read
read_in (Ok x) = read_of x.fields
read_in (Err r) = refused (number r)

-- what stands next in a file
abbrev pub next_read : List ℕ → Place → Read
next_read s p = read_next p.stage (drop p.at s)

-- what is said of a refusal, and of an answer: the refusal, or the events
abbrev pub refused_by : Refusal → List Event
refused_by r = Refused (number r) ∷ []

abbrev pub said_all : Answered → List Event
said_all a = if a.refusal == 0 then a.events else Refused a.refusal ∷ []

-- the listing of a file that is not too long, where it fits
pub record Ran (input : List ℕ) (r : Result ℕ Refusal) (before after : List ℕ) : Type 0 where
  pub answer : r ≡ written (listing input) before
  pub bytes : length (listing input) ≤ length before → after ≡ splice 0 (listing input) before
  pub same_length : length after ≡ length before
