-- What a record that was read has: a mark that stands in its place, its whole body, and its kind. Assumes nothing.
use Rattle.std.proofs.Common.{◌≡◌, ℕ, ◌<◌, ◌≤◌, Bool, true, false, cond, eqb, ◌≢◌, List, length, refl, ap, ◌∙◌, arith, ltb-true, eq-eqb, eqb-true, leb-true}
use Rattle.laws.proofs.Checking.{check_zero}
use Rattle.session_file.specs.declared.records.Mark.{Mark}
use Rattle.session_file.specs.declared.records.Mark.TheVariants.{Unknown, SH, SI, OR, SC, CL, AL, RX, RC, ST, SK, FN, EX}
use Rattle.session_file.specs.Marks.{shape_of, in_place, no_kind, header_kind, order_kind, call_kind}
use Rattle.session_file.specs.Fields.{Read, refused, header, order, call, fields_of}
use Rattle.session_file.specs.Reads.{mark_at, shape_at, record_at, reading_refusal, read_next}
use Rattle.session_file.specs.File.{State, state, file_refusal, made}

-- the kind of what was read
abbrev pub kind_read : Read → ℕ
kind_read (refused number) = no_kind
kind_read (header p g cover) = header_kind
kind_read (order row) = order_kind
kind_read (call c) = call_kind

-- a record has its mark's kind
pub fields_kind : (m : Mark) (rec : List ℕ) → kind_read (fields_of m rec) ≡ (shape_of m).kind
unfolding fields_of shape_of
fields_kind Unknown rec = refl
fields_kind SH rec = refl
fields_kind SI rec = refl
fields_kind OR rec = refl
fields_kind SC rec = refl
fields_kind CL rec = refl
fields_kind AL rec = refl
fields_kind RX rec = refl
fields_kind RC rec = refl
fields_kind ST rec = refl
fields_kind SK rec = refl
fields_kind FN rec = refl
fields_kind EX rec = refl

-- a record has its mark at least
width_some : (m : Mark) → 2 ≤ (shape_of m).width
unfolding shape_of
width_some Unknown = omega arith
width_some SH = omega arith
width_some SI = omega arith
width_some OR = omega arith
width_some SC = omega arith
width_some CL = omega arith
width_some AL = omega arith
width_some RX = omega arith
width_some RC = omega arith
width_some ST = omega arith
width_some SK = omega arith
width_some FN = omega arith
width_some EX = omega arith

-- the refusals of any record, where they all pass
pub record Passed (before : ℕ) (rest : List ℕ) : Type 0 where
  pub known : 0 < (shape_at rest).kind
  pub placed : in_place before (shape_at rest).kind ≡ true
  pub some : 2 ≤ (shape_at rest).width
  pub whole : (shape_at rest).width ≤ length rest

module _ (before : ℕ) (rest : List ℕ) where
  pub passed : reading_refusal before rest ≡ 0 → Passed before rest
  unfolding reading_refusal
  passed z =
      let a = check_zero _ 0 _ z in
      let b = check_zero _ 1 _ a.1 in
      let c = check_zero _ 2 _ b.1 in
      let d = check_zero _ 0 _ c.1 in
      record {
        known = ltb-true 0 (shape_at rest).kind b.0;
        placed = c.0;
        some = width_some (mark_at rest);
        whole = leb-true (shape_at rest).width (length rest) d.0;
      }

  pub read_good : reading_refusal before rest ≡ 0 → read_next before rest ≡ fields_of (mark_at rest) (record_at rest)
  unfolding read_next
  read_good z = rw (eq-eqb (reading_refusal before rest) 0 z)

  pub read_bad : reading_refusal before rest ≢ 0 → read_next before rest ≡ refused (reading_refusal before rest)
  unfolding read_next
  read_bad z = go (eqb (reading_refusal before rest) 0) refl
    where
      go : (t : Bool) → eqb (reading_refusal before rest) 0 ≡ t → cond t (fields_of (mark_at rest) (record_at rest)) (refused (reading_refusal before rest)) ≡ refused (reading_refusal before rest)
      go true e = absurd (z (eqb-true (reading_refusal before rest) 0 e))
      go false e = refl

  -- a record that lets the file go on was read
  pub read_whole : (f : State) → file_refusal f (read_next before rest) ≡ 0 → reading_refusal before rest ≡ 0
  unfolding read_next file_refusal
  read_whole f = go (eqb (reading_refusal before rest) 0) refl
    where
      go : (t : Bool) → eqb (reading_refusal before rest) 0 ≡ t
          → file_refusal f (cond t (fields_of (mark_at rest) (record_at rest)) (refused (reading_refusal before rest))) ≡ 0 → reading_refusal before rest ≡ 0
      go true e z = eqb-true (reading_refusal before rest) 0 e
      go false e z = z

  pub read_kind : reading_refusal before rest ≡ 0 → kind_read (read_next before rest) ≡ (shape_at rest).kind
  read_kind z = ap kind_read (read_good z) ∙ fields_kind (mark_at rest) (record_at rest)

-- what a file carries on after a record that was read: its kind, what is asked of escrows, and the session
pub made_state : (f : State) (x : Read) → 0 < kind_read x → made f x ≡ state (kind_read x) (made f x).cover (made f x).session
unfolding made
made_state f (refused number) h = absurd (omega arith)
made_state f (header p g cover) h = refl
made_state f (order row) h = refl
made_state f (call c) h = refl
