-- A listing part by part. proofs/PartByPart.antt shows that the parts in turn are the listing.
use Rattle.std.specs.Prelude.{◌≡◌, ℕ, zero, suc, ◌+◌, ◌%◌, ◌^◌, ◌<◌, ◌≤◌, Bool, true, false, if◌then◌else◌, List, [], ◌∷◌, ◌++◌, length, drop, ◌==◌, nat_lt, None}
use Rattle.events.specs.declared.Event.{Event}
use Rattle.events.specs.declared.Event.TheVariants.{Refused}
use Rattle.listing.specs.Lines.{record_lines, max_record}
use Rattle.refusals.specs.Number.{refusal_in}
use Rattle.octets.specs.Writing.{Writes}
use Rattle.auction_engine.specs.declared.Session.{Session}
use Rattle.session_file.specs.declared.file.Place.{Place}
use Rattle.session_file.specs.declared.parts.Cursor.{Cursor}
use Rattle.session_file.specs.declared.parts.Part.{Part}
use Rattle.session_file.specs.Marks.{no_kind}
use Rattle.session_file.specs.Fields.{Read}
use Rattle.session_file.specs.Reads.{shape_at, read_next}
use Rattle.session_file.specs.File.{State, state, unopened, file_refusal, made, said_of, last_line, max_input, listing}

-- what a file carries on at a place
abbrev pub state_at : Place → Session → State
state_at p x = state p.stage p.cover x

-- before the first record
abbrev pub first_place : Place
first_place = record { at = 0; stage = no_kind; cover = None }

-- what the record at a place leaves, where s is the file and x the session: the place after it, the session, and what is said
pub record AfterRecord : Type 0 where
  pub place : Place
  pub session : Session
  pub said : List Event

unfoldable pub after_record : List ℕ → Place → Session → AfterRecord
after_record s p x =
    let rest : List ℕ = drop p.at s in
    let f : State = state_at p x in
    let r : Read = read_next p.stage rest in
    record {
      place =
          if file_refusal f r == 0
          then record { at = p.at + (shape_at rest).width; stage = (shape_at rest).kind; cover = (made f r).cover }
          else record { at = length s; stage = p.stage; cover = p.cover };
      session = if file_refusal f r == 0 then (made f r).session else x;
      said = said_of f r;
    }

-- a listing at a place of the file, with so many records behind it
abbrev pub cursor_at : Place → Session → (number : ℕ) (too_long ended : Bool) → Cursor
cursor_at p x number too_long ended = record { place = p; number = number; too_long = too_long; ended = ended; session = x }

-- before the first part
unfoldable pub begun : (too_long : Bool) → Cursor
begun too_long = cursor_at first_place unopened 0 too_long false

-- the next part: 'For 26 .. `0 refused 26`, `end none`'; a record's lines while bytes are left; then the last line, and nothing after it
unfoldable pub part_at : List ℕ → Cursor → List ℕ
part_at s t =
    if t.ended then []
    else if t.too_long then record_lines t.number (Refused 26 ∷ [])
    else if nat_lt t.place.at (length s) then record_lines t.number (after_record s t.place t.session).said
    else last_line (state_at t.place t.session)

-- the number of the next record, in 64 bits
abbrev pub next_number : ℕ → ℕ
next_number n = (n + 1) % 2 ^ 64

-- where the listing stands after that part
unfoldable pub cursor_after : List ℕ → Cursor → Cursor
cursor_after s t =
    if t.ended then t
    else if t.too_long then cursor_at (record { at = length s; stage = t.place.stage; cover = t.place.cover }) t.session (next_number t.number) false false
    else if nat_lt t.place.at (length s)
    then cursor_at (after_record s t.place t.session).place (after_record s t.place t.session).session (next_number t.number) false false
    else cursor_at t.place t.session t.number false true

-- what putting the next part does: a part that does not fit leaves the listing where it stood, and with room for any record's lines every part fits
pub record PartPut (s : List ℕ) (t : Cursor) (r : Part) (before left : List ℕ) : Type 0 where
  pub writes : Writes (part_at s t) r.written before left
  pub cursor : r.cursor ≡ (if refusal_in r.written == 0 then cursor_after s t else t)
  pub fits : max_record ≤ length before → refusal_in r.written ≡ 0

-- n parts in turn
abbrev pub parts_from : (n : ℕ) → List ℕ → Cursor → List ℕ
parts_from zero s t = []
parts_from (suc n) s t = part_at s t ++ parts_from n s (cursor_after s t)

-- where the listing stands after them
abbrev pub cursor_from : (n : ℕ) → List ℕ → Cursor → Cursor
cursor_from zero s t = t
cursor_from (suc n) s t = cursor_from n s (cursor_after s t)

-- the parts in turn are the listing of the input, and after at most one part for each byte and two more the last line was put; for an input above the limit
-- they are its listing, whichever part of it is lent
pub record PartsAreListing : Type 0 where
  pub whole : (s : List ℕ) → length s ≤ max_input → (n : ℕ) → length s < n → (parts_from n s (begun false) ≡ listing s) × ((cursor_from n s (begun false)).ended ≡ true)
  pub too_long : (s input : List ℕ) → max_input < length input → (n : ℕ) → 2 ≤ n → (parts_from n s (begun true) ≡ listing input) × ((cursor_from n s (begun true)).ended ≡ true)
