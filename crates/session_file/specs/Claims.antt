-- What ties a file to demand 3, what its escrows cover, and its refusals to their places: proofs/Course.antt, proofs/Refusals.antt.
use Rattle.std.specs.Prelude.{◌≡◌, ℕ, if◌then◌else◌, ◌≢◌, ◌⊎◌, List, [], ◌∷◌, ◌++◌, ℤ, ◌==◌, None, Option, Some}
use Rattle.laws.specs.Lists.{Member}
use Rattle.book.specs.declared.Params.{Params}
use Rattle.book.specs.declared.Given.{Given}
use Rattle.book.specs.declared.Row.{Row}
use Rattle.escrow.specs.Claims.{Covers}
use Rattle.events.specs.declared.Event.{Event}
use Rattle.events.specs.declared.Event.TheVariants.{Cleared, Refused}
use Rattle.auction_engine.specs.Call.{arguments_refusal}
use Rattle.auction_engine.specs.declared.Call.{Call}
use Rattle.auction_engine.specs.declared.Call.TheVariants.{Clear}
use Rattle.auction_engine.specs.Opening.{Opening, opened}
use Rattle.course.specs.Demand3.{after, JustCleared}
use Rattle.course.specs.Refusals.{numbers_of}
use Rattle.session_file.specs.Fields.{Read, refused, header, order, call}
use Rattle.session_file.specs.declared.records.Mark.TheVariants.{SI}
use Rattle.session_file.specs.Reads.{mark_at, reads}
use Rattle.session_file.specs.File.{State, start, file_refusal, made, said_of}

-- the records before the one that ends the file
abbrev pub before_end : State → List Read → List Read
before_end f [] = []
before_end f (x ∷ l) = if file_refusal f x == 0 then x ∷ before_end (made f x) l else []

-- what a file carries on after records that let it go on
abbrev pub made_all : State → List Read → State
made_all f [] = f
made_all f (x ∷ l) = made_all (made f x) l

-- a header's fields
pub record Header : Type 0 where
  pub params : Params
  pub given : Given
  pub cover : Option ℕ

-- the headers, the orders and the calls among records
abbrev pub headers_in : List Read → List Header
headers_in [] = []
headers_in (refused number ∷ l) = headers_in l
headers_in (header p g cover ∷ l) = record { params = p; given = g; cover = cover } ∷ headers_in l
headers_in (order row ∷ l) = headers_in l
headers_in (call c ∷ l) = headers_in l

abbrev pub rows_in : List Read → List Row
rows_in [] = []
rows_in (refused number ∷ l) = rows_in l
rows_in (header p g cover ∷ l) = rows_in l
rows_in (order row ∷ l) = row ∷ rows_in l
rows_in (call c ∷ l) = rows_in l

abbrev pub calls_in : List Read → List Call
calls_in [] = []
calls_in (refused number ∷ l) = calls_in l
calls_in (header p g cover ∷ l) = calls_in l
calls_in (order row ∷ l) = calls_in l
calls_in (call c ∷ l) = c ∷ calls_in l

-- records are a course to f: one header and orders that are an opening of demand 3, what f asks of escrows is what the header asks, and its session
-- is what `run` makes of the calls from there
pub record IsCourse (l : List Read) (f : State) : Type 0 where
  pub opening : Opening
  pub header_is : headers_in l ≡ record { params = opening.params; given = opening.given; cover = opening.cover } ∷ []
  pub rows_are : rows_in l ≡ opening.rows
  pub cover_is : f.cover ≡ opening.cover
  pub session_is : f.session ≡ (after (opened opening) (calls_in l)).session

-- the records of a file up to any that lets it go on, if any, are a course
abbrev pub FileIsCourse : Type 0
FileIsCourse = (s : List ℕ) (l k : List Read) → before_end start (reads s) ≡ l ++ k → (l ≡ []) ⊎ IsCourse l (made_all start l)

-- 'is just cleared when a clear hands it back with a `clear` line': from there the calls of the file are a list that demand 3 speaks of
pub record StartsDemand3 (f : State) (k : List Read) : Type 0 where
  pub just_cleared : JustCleared f.session
  pub calls_after : (m n : List Read) → k ≡ m ++ n → (made_all f m).session ≡ (after f.session (calls_in m)).session

abbrev pub ClearedInFile : Type 0
ClearedInFile =
    (s : List ℕ) (l k : List Read) (now : ℤ) (price volume reserve reference : ℕ) (others : List Event)
    → before_end start (reads s) ≡ l ++ (call (Clear now) ∷ k)
    → said_of (made_all start l) (call (Clear now)) ≡ Cleared price volume reserve reference ∷ others
    → StartsDemand3 (made (made_all start l) (call (Clear now))) k

-- what headers ask of escrows: what the first asks
abbrev pub asked_by : List Header → Option ℕ
asked_by [] = None
asked_by (h ∷ l) = h.cover

-- each record is judged by what the file's own header asks of escrows
abbrev pub HeaderAsks : Type 0
HeaderAsks = (s : List ℕ) (l k : List Read) → before_end start (reads s) ≡ l ++ k → (made_all start l).cover ≡ asked_by (headers_in l)

-- '`SH` files are read as before': in a file that does not begin with `SI` no record is asked for cover, and the rows are document 01's
abbrev pub OnlySIAsks : Type 0
OnlySIAsks = (s : List ℕ) (l k : List Read) → mark_at s ≢ SI → before_end start (reads s) ≡ l ++ k → (made_all start l).cover ≡ None

-- 'With it a revealed buy's .. must be at most its escrow': after `SI` the escrow of an order that the file goes on after covers all that it can ever pay
abbrev pub CoveredInFile : Type 0
CoveredInFile =
    (s : List ℕ) (l k : List Read) (row : Row) (decimals : ℕ) → before_end start (reads s) ≡ l ++ (order row ∷ k)
    → asked_by (headers_in l) ≡ Some decimals → Covers decimals row

-- the numbers of a record's place: 'Each record'; `SH`, `SI`; `OR`, with 31 where cover is asked; of a call 4 where its own arguments are outside
-- their values, else its row. No file comes to 9
abbrev pub order_numbers : Option ℕ → List ℕ
order_numbers None = 4 ∷ 6 ∷ 7 ∷ 8 ∷ []
order_numbers (Some decimals) = 4 ∷ 6 ∷ 31 ∷ 7 ∷ 8 ∷ []

abbrev pub place_numbers : Option ℕ → Read → List ℕ
place_numbers cover (refused number) = 1 ∷ 2 ∷ 3 ∷ 4 ∷ []
place_numbers cover (header p g asked) = 4 ∷ 5 ∷ 6 ∷ []
place_numbers cover (order row) = order_numbers cover
place_numbers cover (call c) = if arguments_refusal c == 0 then numbers_of c else 4 ∷ []

-- each `refused R` line of a file has a number of its place: of the records that let the file go on, and of the one that ends it
abbrev pub RefusedByPlace : Type 0
RefusedByPlace =
    (s : List ℕ) (l k : List Read) (x : Read) (number : ℕ) → reads s ≡ l ++ (x ∷ k) → before_end start l ≡ l
    → said_of (made_all start l) x ≡ Refused number ∷ [] → Member number (place_numbers (made_all start l).cover x)
