-- The lines that are left from a place of a file on: what the loop over its records keeps to. Assumes nothing.
use Rattle.std.proofs.Common.{◌≡◌, ℕ, zero, suc, ◌+◌, ◌<◌, ◌≤◌, true, false, eqb, ◌≢◌, List, ◌++◌, length, drop, sym, refl, ap, ◌∙◌, ⊎_elim, append_assoc, append-nil, arith, length-drop, drop-drop, le-ltb, lt-ltb, eq-eqb, ne_eqb, eqb-true, le-leb}
use borrow.Author.Tests.{eqb-false}
use Rattle.laws.proofs.Tests.{tested}
use Rattle.listing.specs.Lines.{record_lines}
use Rattle.auction_engine.specs.declared.Session.{Session}
use Rattle.session_file.specs.declared.file.Place.{Place}
use Rattle.session_file.specs.Fields.{Read}
use Rattle.session_file.specs.Reads.{shape_at, reading_refusal, read_next, reads_from}
use Rattle.session_file.specs.File.{State, state, unopened, file_refusal, made, said_of, told, left, numbered, last_line, max_input, listing}
use Rattle.session_file.specs.Parts.{state_at, first_place, after_record}
use Rattle.session_file.proofs.Reading.{passed, read_whole, read_kind, made_state}

-- n is at least the number of bytes left
abbrev pub lines_from : (n number before : ℕ) (rest : List ℕ) → State → List ℕ
lines_from n number before rest f = numbered number (told f (reads_from n before rest)) ++ last_line (left f (reads_from n before rest))

-- no byte is left
lines_none : (n number before : ℕ) (rest : List ℕ) (f : State) → length rest ≡ 0 → lines_from n number before rest f ≡ last_line f
unfolding reads_from
lines_none zero number before rest f h = refl
lines_none (suc n) number before rest f h = rw (le-ltb 0 (length rest) (omega arith))

module _ (n number before : ℕ) (rest : List ℕ) (f : State) (h : 0 < length rest) where
  -- a record that lets the file go on: its lines, and those from the next place on
  lines_more : file_refusal f (read_next before rest) ≡ 0 → lines_from (suc n) number before rest f
      ≡ record_lines number (said_of f (read_next before rest))
      ++ lines_from n (number + 1) (shape_at rest).kind (drop (shape_at rest).width rest) (made f (read_next before rest))
  unfolding reads_from
  lines_more z =
      rw (lt-ltb 0 (length rest) h, eq-eqb (reading_refusal before rest) 0 (read_whole before rest f z), eq-eqb (file_refusal f (read_next before rest)) 0 z)
      (append_assoc (record_lines number (said_of f (read_next before rest))) _ _)

  -- one that ends it: its line, and the last
  lines_stop : file_refusal f (read_next before rest) ≢ 0
      → lines_from (suc n) number before rest f ≡ record_lines number (said_of f (read_next before rest)) ++ last_line f
  unfolding reads_from
  lines_stop z = rw (lt-ltb 0 (length rest) h, ne_eqb (file_refusal f (read_next before rest)) 0 z, append-nil)

-- the lines that are left at a place, with a session
abbrev pub lines_at : (n number : ℕ) (s : List ℕ) → Place → Session → List ℕ
lines_at n number s p x = lines_from n number p.stage (drop p.at s) (state_at p x)

-- at the start they are the listing
pub lines_start : (s : List ℕ) → length s ≤ max_input → lines_at (length s) 0 s first_place unopened ≡ listing s
unfolding listing
lines_start s h = rw (le-leb (length s) max_input h)

-- no record is left
pub lines_end : (n number : ℕ) (s : List ℕ) (p : Place) (x : Session) → length s ≤ p.at → lines_at n number s p x ≡ last_line (state_at p x)
lines_end n number s p x h = lines_none n number p.stage (drop p.at s) (state_at p x) (rw length-drop (omega arith))

-- a record moves the place forward, and not past the end of the file
pub record Onward (s : List ℕ) (before then : Place) : Type 0 where
  pub on : before.at < then.at
  pub within : then.at ≤ length s

module _ (s : List ℕ) (p : Place) (x : Session) (h : p.at < length s) where
  abbrev rest : List ℕ
  rest = drop p.at s

  abbrev f : State
  f = state_at p x

  abbrev r : Read
  r = read_next p.stage rest

  pub some : 0 < length rest
  some = rw length-drop (omega arith)

  -- the record goes on, or ends the file
  by_refusal : (A : Type 0) → (file_refusal f r ≡ 0 → A) → (file_refusal f r ≢ 0 → A) → A
  by_refusal A g e = ⊎_elim (λ (t : eqb (file_refusal f r) 0 ≡ true). g (eqb-true _ 0 t)) (λ (t : eqb (file_refusal f r) 0 ≡ false). e (eqb-false _ 0 t)) (tested (eqb (file_refusal f r) 0))

  pub onward : Onward s p (after_record s p x).place
  unfolding after_record
  onward =
      by_refusal (Onward s p (after_record s p x).place)
      (λ z.
      let q = passed p.stage rest (read_whole p.stage rest f z) in
      rw (eq-eqb (file_refusal f r) 0 z) (record { on = omega (arith, q.some); within = omega (arith, q.whole, length-drop p.at s) }))
      (λ z. rw (ne_eqb (file_refusal f r) 0 z) (record { on = h; within = omega arith }))

  -- the state after a record that goes on
  pub after_is : file_refusal f r ≡ 0 → made f r ≡ state (shape_at rest).kind (made f r).cover (made f r).session
  after_is z =
      let g = read_whole p.stage rest f z in
      let k = read_kind p.stage rest g in
      made_state f r (rw k (passed p.stage rest g).known) ∙ ap (λ (i : ℕ). state i (made f r).cover (made f r).session) k

  -- the lines of the next record, and those that are left after it
  pub lines_record : (n number : ℕ) → lines_at (suc n) number s p x
      ≡ record_lines number (after_record s p x).said ++ lines_at n (number + 1) s (after_record s p x).place (after_record s p x).session
  unfolding after_record
  lines_record n number =
      by_refusal _
      (λ z.
      lines_more n number p.stage rest f some z
      ∙ ap (λ (l : List ℕ). record_lines number (said_of f r) ++ l)
      (ap (lines_from n (number + 1) (shape_at rest).kind (drop (shape_at rest).width rest)) (after_is z)
      ∙ ap (λ (l : List ℕ). lines_from n (number + 1) (shape_at rest).kind l (state (shape_at rest).kind (made f r).cover (made f r).session)) (drop-drop (shape_at rest).width p.at s)
      ∙ rw (eq-eqb (file_refusal f r) 0 z)))
      (λ z.
      lines_stop n number p.stage rest f some z
      ∙ ap (λ (l : List ℕ). record_lines number (said_of f r) ++ l)
      (rw (ne_eqb (file_refusal f r) 0 z) (sym (lines_end n (number + 1) s (record { at = length s; stage = p.stage; cover = p.cover }) x (omega arith)))))
