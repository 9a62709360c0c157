-- The records that are left from a place of a file on: what ends the file, and what it leaves. Assumes nothing.
use Rattle.std.proofs.Common.{◌≡◌, ℕ, zero, suc, ◌+◌, ◌<◌, ◌≤◌, ◌≢◌, List, [], length, drop, sym, refl, ap, ◌∙◌, arith, length-drop, drop-drop, le-ltb, lt-ltb, le-leb, eq-eqb, ne_eqb}
use borrow.Author.Tests.{lt-leb}
use Rattle.laws.specs.Checks.{unless, first_of}
use Rattle.auction_engine.specs.declared.Session.{Session}
use Rattle.session_file.specs.declared.file.Place.{Place}
use Rattle.session_file.specs.Marks.{no_kind}
use Rattle.session_file.specs.Fields.{Read}
use Rattle.session_file.specs.Reads.{shape_at, reading_refusal, reads_from, reads}
use Rattle.session_file.specs.File.{State, state, start, unopened, file_refusal, made, left, max_input}
use Rattle.session_file.specs.Parts.{state_at, first_place, after_record}
use Rattle.session_file.specs.Steps.{next_read}
use Rattle.session_file.specs.Ended.{ended_by, session_refusal, session_of}
use Rattle.session_file.proofs.Reading.{read_whole}
use Rattle.session_file.proofs.Lines.{after_is, some, onward}

-- what is left to read at a place, where n is at least the number of bytes left
abbrev reads_at : (n : ℕ) (s : List ℕ) → Place → List Read
reads_at n s p = reads_from n p.stage (drop p.at s)

-- the records read so far leave, with those that are left, what the whole file does
pub record Reading (s : List ℕ) (p : Place) (x : Session) : Type 0 where
  pub fuel : ℕ
  pub enough : length s ≤ p.at + fuel
  pub within : p.at ≤ length s
  pub ends : ended_by (state_at p x) (reads_at fuel s p) ≡ ended_by start (reads s)
  pub leaves : left (state_at p x) (reads_at fuel s p) ≡ left start (reads s)

pub reading_start : (s : List ℕ) (p : Place) (x : Session) → p ≡ first_place → x ≡ unopened → Reading s p x
reading_start s p x at_first is = rw (at_first, is) (record { fuel = length s; enough = omega arith; within = omega arith; ends = refl; leaves = refl })

-- while bytes are left, the next record stands first
more_left : (n : ℕ) (s : List ℕ) (p : Place) → p.at < length s → length s ≤ p.at + n → (m : ℕ) × (n ≡ suc m)
more_left zero s p h e = absurd (omega arith)
more_left (suc m) s p h e = (m, refl)

module _ (s : List ℕ) (p : Place) (x : Session) (h : p.at < length s) where
  abbrev rest : List ℕ
  rest = drop p.at s

  abbrev f : State
  f = state_at p x

  -- one that lets the file go on
  goes_on : (n : ℕ) → file_refusal f (next_read s p) ≡ 0
      → (ended_by f (reads_at (suc n) s p) ≡ ended_by (state_at (after_record s p x).place (after_record s p x).session) (reads_at n s (after_record s p x).place))
      × (left f (reads_at (suc n) s p) ≡ left (state_at (after_record s p x).place (after_record s p x).session) (reads_at n s (after_record s p x).place))
  unfolding reads_from after_record
  goes_on n z =
      let w = eq-eqb (reading_refusal p.stage rest) 0 (read_whole p.stage rest f z) in
      let g = eq-eqb (file_refusal f (next_read s p)) 0 z in
      let l = reads_from n (shape_at rest).kind in
      let on = drop-drop (shape_at rest).width p.at s in
      rw (lt-ltb 0 (length rest) (some s p x h), w, g) (
        ap (λ (k : State). ended_by k (l (drop (shape_at rest).width rest))) (after_is s p x h z)
            ∙ ap (λ (r : List ℕ). ended_by (state (shape_at rest).kind (made f (next_read s p)).cover (made f (next_read s p)).session) (l r)) on,
        ap (λ (k : State). left k (l (drop (shape_at rest).width rest))) (after_is s p x h z)
            ∙ ap (λ (r : List ℕ). left (state (shape_at rest).kind (made f (next_read s p)).cover (made f (next_read s p)).session) (l r)) on,
      )

  -- one that ends it
  stops : (n : ℕ) → file_refusal f (next_read s p) ≢ 0 → ended_by f (reads_at (suc n) s p) ≡ file_refusal f (next_read s p)
  unfolding reads_from
  stops n z = rw (lt-ltb 0 (length rest) (some s p x h), ne_eqb (file_refusal f (next_read s p)) 0 z) refl

  pub reading_more : Reading s p x → file_refusal f (next_read s p) ≡ 0 → Reading s (after_record s p x).place (after_record s p x).session
  reading_more r z =
      let m = more_left r.fuel s p h r.enough in
      let g = goes_on m.0 z in
      let o = onward s p x h in
      record {
        fuel = m.0;
        enough = omega (arith, o.on, r.enough, m.1);
        within = o.within;
        ends = sym g.0 ∙ ap (λ (n : ℕ). ended_by f (reads_at n s p)) (sym m.1) ∙ r.ends;
        leaves = sym g.1 ∙ ap (λ (n : ℕ). left f (reads_at n s p)) (sym m.1) ∙ r.leaves;
      }

  pub reading_stop : Reading s p x → file_refusal f (next_read s p) ≢ 0 → file_refusal f (next_read s p) ≡ ended_by start (reads s)
  reading_stop r z =
      let m = more_left r.fuel s p h r.enough in
      sym (stops m.0 z) ∙ ap (λ (n : ℕ). ended_by f (reads_at n s p)) (sym m.1) ∙ r.ends

-- no byte is left
none_left : (n : ℕ) (s : List ℕ) (p : Place) → length s ≤ p.at → reads_at n s p ≡ []
unfolding reads_from
none_left zero s p h = refl
none_left (suc n) s p h = rw (le-ltb 0 (length (drop p.at s)) (rw length-drop (omega arith)))

module _ (s : List ℕ) (p : Place) (x : Session) (r : Reading s p x) (h : length s ≤ p.at) where
  pub reading_end : (0 ≡ ended_by start (reads s)) × (state_at p x ≡ left start (reads s))
  reading_end =
      let e = none_left r.fuel s p h in
      (sym (ap (ended_by (state_at p x)) e) ∙ r.ends, sym (ap (left (state_at p x)) e) ∙ r.leaves)

-- ---- what refuses
pub by_length : (s : List ℕ) → max_input < length s → 26 ≡ session_refusal s
unfolding session_refusal unless first_of
by_length s h = rw (lt-leb (length s) max_input h) refl

module _ (s : List ℕ) (h : length s ≤ max_input) where
  pub by_record : ended_by start (reads s) ≢ 0 → ended_by start (reads s) ≡ session_refusal s
  unfolding session_refusal unless first_of
  by_record z = rw (le-leb (length s) max_input h, ne_eqb (ended_by start (reads s)) 0 z) refl

  -- where no record ends the file
  module _ (p : Place) (x : Session) (e : (0 ≡ ended_by start (reads s)) × (state_at p x ≡ left start (reads s))) where
    pub by_header : p.stage ≡ no_kind → 1 ≡ session_refusal s
    unfolding session_refusal unless first_of
    by_header z = rw (le-leb (length s) max_input h, ← e.0, ← e.1, eq-eqb p.stage no_kind z) refl

    pub leaves_session : p.stage ≢ no_kind → (0 ≡ session_refusal s) × (x ≡ session_of s)
    unfolding session_refusal unless first_of
    leaves_session z = (rw (le-leb (length s) max_input h, ← e.0, ← e.1, ne_eqb p.stage no_kind z) refl, ap (λ (f : State). f.session) e.1)
