-- The parts of a listing in turn are the listing; and a part as the code comes to it. Assumes nothing.
use Rattle.std.proofs.Common.{◌≡◌, ℕ, zero, suc, ◌+◌, ◌-◌, if◌then◌else◌, ◌<◌, ◌≤◌, true, false, List, [], ◌∷◌, ◌++◌, length, sym, refl, ap, ◌∙◌, ⊎_elim, append-nil, mod-eq_of_lt, arith, le-ltb, lt-ltb, None}
use borrow.Author.Tests.{lt-leb}
use Rattle.laws.proofs.Tests.{tested, lt_or_le}
use Rattle.events.specs.declared.Event.TheVariants.{Refused}
use Rattle.laws.specs.Sums.{only}
use Rattle.listing.specs.Lines.{record_lines}
use Rattle.auction_engine.specs.declared.Session.{Session}
use Rattle.session_file.specs.declared.file.Place.{Place}
use Rattle.session_file.specs.declared.parts.Cursor.{Cursor}
use Rattle.session_file.specs.Marks.{no_kind}
use Rattle.session_file.specs.File.{unopened, start, last_line, max_input, listing}
use Rattle.session_file.specs.Parts.{state_at, first_place, cursor_at, begun, part_at, next_number, cursor_after, parts_from, cursor_from, PartsAreListing, after_record}
use Rattle.session_file.proofs.Lines.{lines_at, lines_start, lines_end, lines_record, onward}

-- what falls with each part
abbrev pub parts_left : List ℕ → Cursor → ℕ
parts_left s t = if t.ended then 0 else suc (only t.too_long 1 + (length s - t.place.at))

-- ---- the parts in turn
-- one part and those after it
module _ (n : ℕ) (s : List ℕ) (t u : Cursor) (text : List ℕ) (part : part_at s t ≡ text) (next : cursor_after s t ≡ u) where
  parts_more : (rest : List ℕ) → parts_from n s u ≡ rest → parts_from (suc n) s t ≡ text ++ rest
  parts_more rest e = ap (λ (l : List ℕ). l ++ parts_from n s (cursor_after s t)) part ∙ ap (λ (v : Cursor). text ++ parts_from n s v) next ∙ ap (λ (l : List ℕ). text ++ l) e

  ends_more : (cursor_from n s u).ended ≡ true → (cursor_from (suc n) s t).ended ≡ true
  ends_more e = ap (λ (v : Cursor). (cursor_from n s v).ended) next ∙ e

-- nothing comes after the last line
module _ (s : List ℕ) (t : Cursor) (h : t.ended ≡ true) where
  done_part : part_at s t ≡ []
  unfolding part_at
  done_part = rw h

  done_after : cursor_after s t ≡ t
  unfolding cursor_after
  done_after = rw h

done_parts : (n : ℕ) (s : List ℕ) (t : Cursor) → t.ended ≡ true → (parts_from n s t ≡ []) × ((cursor_from n s t).ended ≡ true)
done_parts zero s t h = (refl, h)
done_parts (suc n) s t h =
    let d = done_parts n s t h in
    (parts_more n s t t [] (done_part s t h) (done_after s t h) [] d.0, ends_more n s t t [] (done_part s t h) (done_after s t h) d.1)

-- a part at a place of the file
module _ (s : List ℕ) (p : Place) (x : Session) (number : ℕ) where
  abbrev at_place : Cursor
  at_place = cursor_at p x number false false

  record_part : p.at < length s → part_at s at_place ≡ record_lines number (after_record s p x).said
  unfolding part_at
  record_part h = rw (lt-ltb p.at (length s) h)

  record_after : p.at < length s → cursor_after s at_place ≡ cursor_at (after_record s p x).place (after_record s p x).session (next_number number) false false
  unfolding cursor_after
  record_after h = rw (lt-ltb p.at (length s) h)

  last_part : length s ≤ p.at → part_at s at_place ≡ last_line (state_at p x)
  unfolding part_at
  last_part h = rw (le-ltb p.at (length s) h)

  last_after : length s ≤ p.at → cursor_after s at_place ≡ cursor_at p x number false true
  unfolding cursor_after
  last_after h = rw (le-ltb p.at (length s) h)

-- the parts that are left at a place, with no more records behind it than bytes; k is enough for the records that are left
parts_at : (s : List ℕ) → length s ≤ max_input → (n k : ℕ) (p : Place) (x : Session) (number : ℕ) → number ≤ p.at → p.at ≤ length s → length s < p.at + n → length s ≤ p.at + k
    → (parts_from n s (cursor_at p x number false false) ≡ lines_at k number s p x) × ((cursor_from n s (cursor_at p x number false false)).ended ≡ true)
parts_at s short zero k p x number c w m e = absurd (omega arith)
parts_at s short (suc n) k p x number c w m e = ⊎_elim (more k e (parts_at s short n)) ends (lt_or_le p.at (length s))
  where
    Left : ℕ → Type 0
    Left k = (parts_from (suc n) s (cursor_at p x number false false) ≡ lines_at k number s p x) × ((cursor_from (suc n) s (cursor_at p x number false false)).ended ≡ true)

    more : (k : ℕ) → length s ≤ p.at + k
        → ((k : ℕ) (p : Place) (x : Session) (number : ℕ) → number ≤ p.at → p.at ≤ length s → length s < p.at + n → length s ≤ p.at + k
        → (parts_from n s (cursor_at p x number false false) ≡ lines_at k number s p x) × ((cursor_from n s (cursor_at p x number false false)).ended ≡ true))
        → p.at < length s → Left k
    more zero e ih h = absurd (omega arith)
    more (suc j) e ih h =
        let o = onward s p x h in
        let q : next_number number ≡ number + 1 = mod-eq_of_lt (omega arith) in
        let r = ih j (after_record s p x).place (after_record s p x).session (number + 1) (omega (arith, o.on)) o.within (omega (arith, o.on)) (omega (arith, o.on)) in
        let next = record_after s p x number h ∙ ap (λ (m : ℕ). cursor_at (after_record s p x).place (after_record s p x).session m false false) q in (
          parts_more n s _ _ _ (record_part s p x number h) next _ r.0 ∙ sym (lines_record s p x h j number),
          ends_more n s _ _ _ (record_part s p x number h) next r.1,
        )

    ends : length s ≤ p.at → Left k
    ends h =
        let d = done_parts n s (cursor_at p x number false true) refl in (
          parts_more n s _ _ _ (last_part s p x number h) (last_after s p x number h) [] d.0 ∙ append-nil _ ∙ sym (lines_end k number s p x h),
          ends_more n s _ _ _ (last_part s p x number h) (last_after s p x number h) d.1,
        )

-- an input above the limit: 26, and the last line
module _ (s : List ℕ) where
  abbrev refused_place : Place
  refused_place = record { at = length s; stage = no_kind; cover = None }

  refused_part : part_at s (begun true) ≡ record_lines 0 (Refused 26 ∷ [])
  unfolding begun part_at
  refused_part = refl

  refused_after : cursor_after s (begun true) ≡ cursor_at refused_place unopened 1 false false
  unfolding begun cursor_after
  refused_after = refl

too_long_parts : (s input : List ℕ) → max_input < length input → (n : ℕ) → 2 ≤ n → (parts_from n s (begun true) ≡ listing input) × ((cursor_from n s (begun true)).ended ≡ true)
unfolding listing
too_long_parts s input h zero m = absurd (omega arith)
too_long_parts s input h (suc zero) m = absurd (omega arith)
too_long_parts s input h (suc (suc n)) m =
    let p : Place = refused_place s in
    let d = done_parts n s (cursor_at p unopened 1 false true) refl in
    let last = last_part s p unopened 1 (omega arith) in
    let after = last_after s p unopened 1 (omega arith) in
    let e = parts_more n s _ _ _ last after [] d.0 ∙ append-nil _ in
    rw (lt-leb (length input) max_input h) (
      parts_more (suc n) s _ _ _ (refused_part s) (refused_after s) _ e ∙ ap (λ (l : List ℕ). l ++ last_line start) (sym (append-nil (record_lines 0 (Refused 26 ∷ [])))),
      ends_more (suc n) s _ _ _ (refused_part s) (refused_after s) (ends_more n s _ _ _ last after d.1),
    )

pub parts_are_listing : PartsAreListing
unfolding begun
parts_are_listing = record {
  whole = λ s h n m.
      let r = parts_at s h n (length s) first_place unopened 0 (omega arith) (omega arith) (omega arith) (omega arith) in
      (r.0 ∙ lines_start s h, r.1);
  too_long = too_long_parts;
}

-- ---- each part leaves fewer
pub parts_fewer : (s : List ℕ) (t : Cursor) → t.ended ≡ false → parts_left s (cursor_after s t) < parts_left s t
unfolding cursor_after
parts_fewer s t live =
    ⊎_elim
    (λ (h : t.too_long ≡ true). rw (live, h) (omega arith))
    (λ (h : t.too_long ≡ false).
    ⊎_elim
    (λ (l : t.place.at < length s). let o = onward s t.place t.session l in rw (live, h, lt-ltb t.place.at (length s) l) (omega (arith, o.on, o.within)))
    (λ (l : length s ≤ t.place.at). rw (live, h, le-ltb t.place.at (length s) l) (omega arith))
    (lt_or_le t.place.at (length s)))
    (tested t.too_long)
