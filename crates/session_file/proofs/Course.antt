-- The records of a file are a course: one header, orders, and calls from the session that these open; and a clear with a `clear` line is where
-- demand 3 starts. Assumes nothing.
use Rattle.std.proofs.Common.{◌≡◌, ℕ, zero, suc, ◌<◌, ◌≤◌, Bool, true, false, cond, ◌&&◌, eqb, ltb, leb, ◌≢◌, ◌⊎◌, List, [], ◌∷◌, ◌++◌, length, get_or, drop, ℤ, sym, refl, ap, ◌∙◌, subst, inl, inr, ⊎_elim, append_assoc, append-nil, arith, ltb-true, eq-eqb, eqb-true, leb-true, None, Option, Some}
use mathlib.Core.Bool.{false≢true}
use Rattle.laws.proofs.Tests.{both}
use Rattle.book.specs.declared.Row.{Row}
use Rattle.events.specs.declared.Event.{Event}
use Rattle.events.specs.declared.Event.TheVariants.{Cleared, Refused}
use Rattle.auction_engine.specs.declared.Session.{Session}
use Rattle.auction_engine.specs.Session.{fresh}
use Rattle.auction_engine.specs.declared.Call.{Call}
use Rattle.auction_engine.specs.declared.Call.TheVariants.{Clear}
use Rattle.auction_engine.specs.Clearing.{outcome}
use Rattle.auction_engine.specs.Engine.{refusal, effect, events, answer}
use Rattle.auction_engine.specs.Opening.{Opening, opened, with_order, with_rows, RowsAccepted, order_refusal}
use Rattle.auction_engine.proofs.Orders.{accepted_covered}
use Rattle.course.specs.Demand3.{JustCleared, lot_of}
use Rattle.course.specs.Applied.{session_after}
use Rattle.course.proofs.Applied.{run_is_answers}
use Rattle.session_file.specs.Marks.{in_place, no_kind, header_kind, order_kind, call_kind}
use Rattle.session_file.specs.declared.records.Mark.TheVariants.{SI}
use Rattle.session_file.specs.Fields.{Read, refused, header, order, call, fields_of}
use Rattle.session_file.specs.Reads.{mark_at, shape_at, record_at, reading_refusal, read_next, reads_from, reads}
use Rattle.session_file.specs.File.{State, start, file_refusal, made, said_by, said_of}
use Rattle.session_file.specs.Claims.{before_end, made_all, headers_in, rows_in, calls_in, asked_by, IsCourse, FileIsCourse, StartsDemand3, ClearedInFile, HeaderAsks, OnlySIAsks, CoveredInFile}
use Rattle.session_file.proofs.Headers.{cover_read, unasked_read}
use Rattle.session_file.proofs.Reading.{kind_read, passed, read_whole, read_kind}

-- ---- records in the order of their kinds, and records that let the file go on
abbrev pub InOrder : (before : ℕ) → List Read → Type 0
InOrder before [] = Unit
InOrder before (x ∷ l) = (in_place before (kind_read x) ≡ true) × InOrder (kind_read x) l

abbrev pub Accepted : State → List Read → Type 0
Accepted f [] = Unit
Accepted f (x ∷ l) = (file_refusal f x ≡ 0) × Accepted (made f x) l

-- the records of a file before the one that ends it are both
accepted_before_end : (f : State) (l : List Read) → Accepted f (before_end f l)
accepted_before_end f [] = tt
accepted_before_end f (x ∷ l) = go (accepted_before_end (made f x) l) (eqb (file_refusal f x) 0) refl
  where
    go : Accepted (made f x) (before_end (made f x) l) → (t : Bool) → eqb (file_refusal f x) 0 ≡ t → Accepted f (cond t (x ∷ before_end (made f x) l) [])
    go h true e = (eqb-true (file_refusal f x) 0 e, h)
    go h false e = tt

ordered_before_end : (n before : ℕ) (rest : List ℕ) (f : State) → InOrder before (before_end f (reads_from n before rest))
unfolding reads_from
ordered_before_end zero before rest f = tt
ordered_before_end (suc n) before rest f =
    go (λ (g : State). ordered_before_end n (shape_at rest).kind (drop (shape_at rest).width rest) g) (ltb 0 (length rest)) (eqb (file_refusal f x) 0) refl
  where
    x : Read
    x = read_next before rest

    later : List Read
    later = reads_from n (shape_at rest).kind (drop (shape_at rest).width rest)

    go : ((g : State) → InOrder (shape_at rest).kind (before_end g later)) → (u t : Bool) → eqb (file_refusal f x) 0 ≡ t
        → InOrder before (before_end f (cond u (x ∷ cond (eqb (reading_refusal before rest) 0) later []) []))
    go h false t e = tt
    go h true false e = rw e tt
    go h true true e =
        let z : reading_refusal before rest ≡ 0 = read_whole before rest f (eqb-true (file_refusal f x) 0 e) in
        let q : kind_read x ≡ (shape_at rest).kind = read_kind before rest z in
        rw (e, eq-eqb (reading_refusal before rest) 0 z) (
          ap (in_place before) q ∙ (passed before rest z).placed,
          subst (λ (k : ℕ). InOrder k (before_end (made f x) later)) (sym q) (h (made f x)),
        )

-- parts of such lists
first_in_order : (before : ℕ) (l m : List Read) → InOrder before (l ++ m) → InOrder before l
first_in_order before [] m h = tt
first_in_order before (x ∷ l) m h = (h.0, first_in_order (kind_read x) l m h.1)

rest_in_order : (before : ℕ) (l : List Read) (x : Read) (m : List Read) → InOrder before (l ++ (x ∷ m)) → InOrder (kind_read x) m
rest_in_order before [] x m h = h.1
rest_in_order before (y ∷ l) x m h = rest_in_order (kind_read y) l x m h.1

first_accepted : (f : State) (l m : List Read) → Accepted f (l ++ m) → Accepted f l
first_accepted f [] m h = tt
first_accepted f (x ∷ l) m h = (h.0, first_accepted (made f x) l m h.1)

next_accepted : (f : State) (l : List Read) (x : Read) (m : List Read) → Accepted f (l ++ (x ∷ m)) → file_refusal (made_all f l) x ≡ 0
next_accepted f [] x m h = h.0
next_accepted f (y ∷ l) x m h = next_accepted (made f y) l x m h.1

-- ---- places: nothing but a header stands first, a header nowhere else, and a record after no later kind
only_header : (kind : ℕ) → in_place no_kind kind ≡ true → kind ≡ header_kind
unfolding in_place
only_header kind h = go (eqb kind header_kind) refl h
  where
    go : (t : Bool) → eqb kind header_kind ≡ t → cond t (eqb no_kind no_kind) (ltb 0 no_kind && leb no_kind kind) ≡ true → kind ≡ header_kind
    go true e h = eqb-true kind header_kind e
    go false e h = absurd (false≢true h)

header_first : (before : ℕ) → in_place before header_kind ≡ true → before ≡ no_kind
unfolding in_place
header_first before h = eqb-true before no_kind h

not_before : (before kind : ℕ) → kind ≢ header_kind → in_place before kind ≡ true → (0 < before) × (before ≤ kind)
unfolding in_place
not_before before kind d h = go (eqb kind header_kind) refl h
  where
    go : (t : Bool) → eqb kind header_kind ≡ t → cond t (eqb before no_kind) (ltb 0 before && leb before kind) ≡ true → (0 < before) × (before ≤ kind)
    go true e h = absurd (d (eqb-true kind header_kind e))
    go false e h = let b = both (ltb 0 before) (leb before kind) h in (ltb-true 0 before b.0, leb-true before kind b.1)

never_refused : (before : ℕ) → in_place before no_kind ≡ true → ⊥
never_refused before h = omega (arith, not_before before no_kind (λ q. omega arith) h)

-- ---- after a call there are only calls
record OnlyCalls (l : List Read) (f : State) : Type 0 where
  no_header : headers_in l ≡ []
  no_row : rows_in l ≡ []
  cover_is : (made_all f l).cover ≡ f.cover
  session_is : (made_all f l).session ≡ session_after f.session (calls_in l)

only_calls : (f : State) (l : List Read) → InOrder call_kind l → OnlyCalls l f
unfolding made
only_calls f [] v = record { no_header = refl; no_row = refl; cover_is = refl; session_is = refl }
only_calls f (refused n ∷ l) v = absurd (never_refused call_kind v.0)
only_calls f (header p g cover ∷ l) v = absurd (omega (arith, header_first call_kind v.0))
only_calls f (order row ∷ l) v = absurd (omega (arith, not_before call_kind order_kind (λ q. omega arith) v.0))
only_calls f (call c ∷ l) v =
    let r = only_calls (made f (call c)) l v.1 in
    record { no_header = r.no_header; no_row = r.no_row; cover_is = r.cover_is; session_is = r.session_is }

-- ---- orders, then calls
rows_more : (s : Session) (rows : List Row) (row : Row) → with_rows s (rows ++ (row ∷ [])) ≡ with_order (with_rows s rows) row
rows_more s [] row = refl
rows_more s (x ∷ rows) row = rows_more (with_order s x) rows row

accepted_more : (s : Session) (cover : Option ℕ) (rows : List Row) (row : Row) → RowsAccepted s cover rows → order_refusal (with_rows s rows) cover row ≡ 0
    → RowsAccepted s cover (rows ++ (row ∷ []))
accepted_more s cover [] row a z = (z, tt)
accepted_more s cover (x ∷ rows) row a z = (a.0, accepted_more (with_order s x) cover rows row a.1 z)

-- an opening with one order more
abbrev more : (o : Opening) (row : Row) → order_refusal (opened o) o.cover row ≡ 0 → Opening
more o row z =
    record {
      params = o.params;
      given = o.given;
      cover = o.cover;
      rows = o.rows ++ (row ∷ []);
      header_accepted = o.header_accepted;
      rows_accepted = accepted_more (fresh o.params o.given) o.cover o.rows row o.rows_accepted z;
    }

-- what follows an opening whose header and rows stand before
record Follows (o : Opening) (l : List Read) (f : State) : Type 0 where
  opening : Opening
  params_are : opening.params ≡ o.params
  given_are : opening.given ≡ o.given
  asks : opening.cover ≡ o.cover
  rows_are : opening.rows ≡ o.rows ++ rows_in l
  no_header : headers_in l ≡ []
  cover_is : (made_all f l).cover ≡ opening.cover
  session_is : (made_all f l).session ≡ session_after (opened opening) (calls_in l)

follows : (before : ℕ) (o : Opening) (f : State) (l : List Read) → f.cover ≡ o.cover → f.session ≡ opened o → 0 < before → InOrder before l → Accepted f l → Follows o l f
unfolding made file_refusal
follows before o f [] q e h v a =
    record { opening = o; params_are = refl; given_are = refl; asks = refl; cover_is = q; rows_are = sym (append-nil o.rows); no_header = refl; session_is = e }
follows before o f (refused n ∷ l) q e h v a = absurd (never_refused before v.0)
follows before o f (header p g cover ∷ l) q e h v a = absurd (omega (arith, header_first before v.0))
follows before o f (order row ∷ l) q e h v a =
    let z : order_refusal (opened o) o.cover row ≡ 0 = subst (λ (s : Session). order_refusal s o.cover row ≡ 0) e (subst (λ (c : Option ℕ). order_refusal f.session c row ≡ 0) q a.0) in
    let e' : with_order f.session row ≡ opened (more o row z) =
    ap (λ (s : Session). with_order s row) e ∙ sym (rows_more (fresh o.params o.given) o.rows row) in
    let r = follows order_kind (more o row z) (made f (order row)) l q e' (omega arith) v.1 a.1 in
    record {
      opening = r.opening;
      params_are = r.params_are;
      given_are = r.given_are;
      asks = r.asks;
      cover_is = r.cover_is;
      rows_are = r.rows_are ∙ append_assoc o.rows (row ∷ []) (rows_in l);
      no_header = r.no_header;
      session_is = r.session_is;
    }
follows before o f (call c ∷ l) q e h v a =
    let r = only_calls (made f (call c)) l v.1 in
    record {
      opening = o;
      params_are = refl;
      given_are = refl;
      asks = refl;
      cover_is = r.cover_is ∙ q;
      rows_are = sym (append-nil o.rows) ∙ ap (λ (x : List Row). o.rows ++ x) (sym r.no_row);
      no_header = r.no_header;
      session_is = r.session_is ∙ ap (λ (s : Session). session_after (answer s c).session (calls_in l)) e;
    }

-- ---- from the start
course_from : (l : List Read) → InOrder no_kind l → Accepted start l → (l ≡ []) ⊎ IsCourse l (made_all start l)
unfolding made file_refusal
course_from [] v a = inl refl
course_from (refused n ∷ l) v a = absurd (never_refused no_kind v.0)
course_from (header p g cover ∷ l) v a =
    let o : Opening = record { params = p; given = g; cover = cover; rows = []; header_accepted = a.0; rows_accepted = tt } in
    let r = follows header_kind o (made start (header p g cover)) l refl refl (omega arith) v.1 a.1 in
    inr (record {
      opening = r.opening;
      header_is = λ i. record { params = sym r.params_are i; given = sym r.given_are i; cover = sym r.asks i } ∷ r.no_header i;
      rows_are = sym r.rows_are;
      cover_is = r.cover_is;
      session_is = r.session_is ∙ sym (run_is_answers (opened r.opening) (calls_in l));
    })
course_from (order row ∷ l) v a = absurd (omega (arith, only_header order_kind v.0))
course_from (call c ∷ l) v a = absurd (omega (arith, only_header call_kind v.0))

module _ (s : List ℕ) (l k : List Read) (e : before_end start (reads s) ≡ l ++ k) where
  file_in_order : InOrder no_kind (l ++ k)
  file_in_order = subst (InOrder no_kind) e (ordered_before_end (length s) no_kind s start)

  file_accepted : Accepted start (l ++ k)
  file_accepted = subst (Accepted start) e (accepted_before_end start (reads s))

pub file_is_course : FileIsCourse
file_is_course s l k e = course_from l (first_in_order no_kind l k (file_in_order s l k e)) (first_accepted start l k (file_accepted s l k e))

-- before a call there is an opening
pub before_call : (s : List ℕ) (l k : List Read) (c : Call) → before_end start (reads s) ≡ l ++ (call c ∷ k) → IsCourse l (made_all start l)
before_call s l k c e =
    ⊎_elim
    (λ (n : l ≡ []). absurd (omega (arith, only_header call_kind (subst (λ (m : List Read). InOrder no_kind (m ++ (call c ∷ k))) n (file_in_order s l (call c ∷ k) e)).0)))
    (λ (o : IsCourse l (made_all start l)). o)
    (file_is_course s l (call c ∷ k) e)

-- ---- a clear with a `clear` line
-- what is said of a record that lets the file go on
pub said_on : (f : State) (x : Read) → file_refusal f x ≡ 0 → said_of f x ≡ said_by f x
unfolding said_of
said_on f x z = rw (eq-eqb (file_refusal f x) 0 z)

-- a call with a `clear` line is accepted
clear_accepted : (f : State) (c : Call) (price volume reserve reference : ℕ) (others : List Event) → said_by f (call c) ≡ Cleared price volume reserve reference ∷ others
    → (refusal f.session c ≡ 0) × (events f.session c ≡ Cleared price volume reserve reference ∷ others)
unfolding said_by
clear_accepted f c price volume reserve reference others = go (eqb (refusal f.session c) 0) refl
  where
    go : (t : Bool) → eqb (refusal f.session c) 0 ≡ t
        → cond t (events f.session c) (Refused (refusal f.session c) ∷ []) ≡ Cleared price volume reserve reference ∷ others
        → (refusal f.session c ≡ 0) × (events f.session c ≡ Cleared price volume reserve reference ∷ others)
    go true h q = (eqb-true (refusal f.session c) 0 h, q)
    go false h q = (cc, cc)

answer_accepted : (s : Session) (c : Call) → refusal s c ≡ 0 → (answer s c).session ≡ effect s c
unfolding answer
answer_accepted s c z = rw (eq-eqb (refusal s c) 0 z)

cleared_from : (l : List Read) (f : State) → IsCourse l f → (now : ℤ) (price volume reserve reference : ℕ) (others : List Event)
    → said_by f (call (Clear now)) ≡ Cleared price volume reserve reference ∷ others → JustCleared (made f (call (Clear now))).session
unfolding made
cleared_from l f o now price volume reserve reference others q =
    let a = clear_accepted f (Clear now) price volume reserve reference others q in
    record {
      opening = o.opening;
      calls = calls_in l;
      now = now;
      accepted = subst (λ (s : Session). refusal s (Clear now) ≡ 0) o.session_is a.0;
      price = price;
      volume = volume;
      reserve = reserve;
      reference = reference;
      others = others;
      line = subst (λ (s : Session). events s (Clear now) ≡ Cleared price volume reserve reference ∷ others) o.session_is a.1;
      is = answer_accepted f.session (Clear now) a.0 ∙ ap (λ (s : Session). effect s (Clear now)) o.session_is;
    }

-- with the price of the line, and the lots that the clear found
pub record ClearedCourse (f : State) (now : ℤ) (price : ℕ) : Type 0 where
  pub just_cleared : JustCleared (made f (call (Clear now))).session
  pub price_is : just_cleared.price ≡ price
  pub lot_is : (i : ℕ) → lot_of just_cleared i ≡ get_or (outcome f.session).lots i 0

pub cleared_course : (l : List Read) (f : State) → IsCourse l f → (now : ℤ) (price volume reserve reference : ℕ) (others : List Event)
    → said_by f (call (Clear now)) ≡ Cleared price volume reserve reference ∷ others → ClearedCourse f now price
unfolding cleared_from
cleared_course l f o now price volume reserve reference others q =
    record {
      just_cleared = cleared_from l f o now price volume reserve reference others q;
      price_is = refl;
      lot_is = λ i. ap (λ (s : Session). get_or (outcome s).lots i 0) (sym o.session_is);
    }

module _ (s : List ℕ) (l k : List Read) (now : ℤ) (price volume reserve reference : ℕ) (others : List Event)
    (e : before_end start (reads s) ≡ l ++ (call (Clear now) ∷ k))
    (q : said_of (made_all start l) (call (Clear now)) ≡ Cleared price volume reserve reference ∷ others) where
  goes_on : file_refusal (made_all start l) (call (Clear now)) ≡ 0
  goes_on = next_accepted start l (call (Clear now)) k (file_accepted s l (call (Clear now) ∷ k) e)

  pub course_at_clear : ClearedCourse (made_all start l) now price
  course_at_clear =
      cleared_course l (made_all start l) (before_call s l k (Clear now) e) now price volume reserve reference others
      (sym (said_on (made_all start l) (call (Clear now)) goes_on) ∙ q)

  pub calls_from_clear : StartsDemand3 (made (made_all start l) (call (Clear now))) k
  calls_from_clear =
      let f : State = made (made_all start l) (call (Clear now)) in
      let v : InOrder call_kind k = rest_in_order no_kind l (call (Clear now)) k (file_in_order s l (call (Clear now) ∷ k) e) in
      record {
        just_cleared = course_at_clear.just_cleared;
        calls_after = λ m n h. (only_calls f m (first_in_order call_kind m n (subst (InOrder call_kind) h v))).session_is ∙ sym (run_is_answers f.session (calls_in m));
      }

pub cleared_in_file : ClearedInFile
cleared_in_file s l k now price volume reserve reference others e q = calls_from_clear s l k now price volume reserve reference others e q

-- ---- cover
pub header_asks : HeaderAsks
header_asks s l k e =
    ⊎_elim (λ (n : l ≡ []). ap (λ (m : List Read). (made_all start m).cover) n ∙ sym (ap (λ (m : List Read). asked_by (headers_in m)) n))
    (λ (o : IsCourse l (made_all start l)). o.cover_is ∙ sym (ap asked_by o.header_is))
    (file_is_course s l k e)

-- the first record of a file is what is read of its first bytes
first_read : (n : ℕ) (s : List ℕ) (x : Read) (m : List Read) → before_end start (reads_from n no_kind s) ≡ x ∷ m → read_next no_kind s ≡ x
unfolding reads_from
first_read zero s x m e = cc
first_read (suc n) s x m e = go (ltb 0 (length s)) _ e
  where
    y : Read
    y = read_next no_kind s

    kept : (t : Bool) (l : List Read) → cond t (y ∷ l) [] ≡ x ∷ m → y ≡ x
    kept true l e = cc
    kept false l e = cc

    go : (t : Bool) (l : List Read) → before_end start (cond t (y ∷ l) []) ≡ x ∷ m → y ≡ x
    go true l e = kept (eqb (file_refusal start y) 0) _ e
    go false l e = cc

-- a header stands first, and its cover is what is asked
first_asks : (x : Read) (l : List Read) → in_place no_kind (kind_read x) ≡ true → asked_by (headers_in (x ∷ l)) ≡ cover_read x
first_asks (refused n) l v = absurd (never_refused no_kind v)
first_asks (header p g cover) l v = refl
first_asks (order row) l v = absurd (omega (arith, only_header order_kind v))
first_asks (call c) l v = absurd (omega (arith, only_header call_kind v))

next_unasked : (s : List ℕ) → mark_at s ≢ SI → cover_read (read_next no_kind s) ≡ None
unfolding read_next
next_unasked s d = go (eqb (reading_refusal no_kind s) 0)
  where
    go : (t : Bool) → cover_read (cond t (fields_of (mark_at s) (record_at s)) (refused (reading_refusal no_kind s))) ≡ None
    go true = sym (unasked_read (record_at s) (mark_at s) d)
    go false = refl

pub only_si_asks : OnlySIAsks
only_si_asks s [] k d e = refl
only_si_asks s (x ∷ l) k d e =
    header_asks s (x ∷ l) k e ∙ first_asks x l (file_in_order s (x ∷ l) k e).0
    ∙ sym (ap cover_read (first_read (length s) s x (l ++ k) e)) ∙ next_unasked s d

pub covered_in_file : CoveredInFile
unfolding file_refusal
covered_in_file s l k row decimals e asks =
    let f : State = made_all start l in
    let z : order_refusal f.session f.cover row ≡ 0 = next_accepted start l (order row) k (file_accepted s l (order row ∷ k) e) in
    let c : f.cover ≡ Some decimals = header_asks s l (order row ∷ k) e ∙ asks in
    accepted_covered f.session decimals row (subst (λ (a : Option ℕ). order_refusal f.session a row ≡ 0) c z)
