-- Each `refused` line of a file has a number of its record's place; of a call, one of its row or the 4 of its own arguments. Assumes nothing.
use Rattle.std.proofs.Common.{◌≡◌, ℕ, zero, suc, ◌<◌, Bool, true, false, cond, eqb, ltb, ◌≢◌, List, [], ◌∷◌, ◌++◌, length, drop, sym, refl, ap, ◌∙◌, subst, inl, inr, ⊎_elim, arith, eq-eqb, eqb-true, None, Option, Some}
use borrow.Author.Tests.{eqb-false}
use Rattle.laws.specs.Lists.{Member, has}
use Rattle.laws.proofs.Checking.{then_in}
use Rattle.laws.proofs.Tests.{tested}
use Rattle.book.specs.declared.Params.{Params}
use Rattle.book.specs.declared.Given.{Given}
use Rattle.book.specs.declared.Row.{Row}
use Rattle.events.specs.declared.Event.{Event}
use Rattle.events.specs.declared.Event.TheVariants.{OrderScreened, FillAllocated, PhaseChanged, Cleared, SessionFailed, FillSettled, Opened, Ordered, Refused}
use Rattle.escrow.specs.Cover.{decimals_refusal, cover_refusal}
use Rattle.auction_engine.specs.declared.Session.{Session}
use Rattle.auction_engine.specs.Session.{fill_at, clearing}
use Rattle.auction_engine.specs.Call.{arguments_refusal}
use Rattle.auction_engine.specs.declared.Call.{Call}
use Rattle.auction_engine.specs.declared.Call.TheVariants.{Screen, Clear, Allocate, Exercise, Close, Settle, Skip, Finish, Expire}
use Rattle.auction_engine.specs.Screening.{screen_events}
use Rattle.auction_engine.specs.Clearing.{outcome, clear_lines}
use Rattle.auction_engine.specs.Matching.{due, one, after_fills, done, fill_events, allocate_events}
use Rattle.auction_engine.specs.Rofr.{exercise_events, close_events}
use Rattle.auction_engine.specs.Settlement.{settle_events, skip_events, finish_events, expire_events}
use Rattle.auction_engine.specs.Engine.{refusal, events}
use Rattle.auction_engine.specs.Opening.{header_refusal, row_refusal, order_refusal}
use Rattle.course.specs.Refusals.{numbers_of}
use Rattle.course.proofs.Refusals.{check, last, arguments_in, own_numbers}
use Rattle.course.proofs.Passing.{Passes, checks_pass}
use Rattle.session_file.specs.Marks.{no_kind}
use Rattle.session_file.specs.Fields.{Read, refused, header, order, call}
use Rattle.session_file.specs.Reads.{shape_at, record_at, flags_refusal, reading_refusal, read_next, reads_from, reads}
use Rattle.session_file.specs.File.{State, start, file_refusal, made, said_by, said_of}
use Rattle.session_file.specs.Claims.{before_end, made_all, calls_in, IsCourse, order_numbers, place_numbers, RefusedByPlace}
use Rattle.session_file.proofs.Reading.{kind_read, passed, read_bad, read_kind}
use Rattle.session_file.proofs.Course.{before_call}

-- ---- numbers of the rows: checks come to 0 or to one of them
other_than_zero : (n : ℕ) (l : List ℕ) → n ≢ 0 → Member n (0 ∷ l) → Member n l
other_than_zero n l d m = ⊎_elim (λ (z : n ≡ 0). absurd (d z)) (λ k. k) m

same_number : (a n : ℕ) (l : List ℕ) → Member a l → Refused a ∷ [] ≡ Refused n ∷ [] → Member n l
same_number a n l m q = let e : a ≡ n = cc in subst (λ (x : ℕ). Member x l) e m

-- 'Each record'
abbrev pub each_record : List ℕ
each_record = 1 ∷ 2 ∷ 3 ∷ 4 ∷ []

flags_in_lem : (rec flags : List ℕ) → Member (flags_refusal rec flags) (0 ∷ each_record)
unfolding flags_refusal has
flags_in_lem rec [] = inl refl
flags_in_lem rec (i ∷ flags) = check each_record 4 _ _ refl (flags_in_lem rec flags)

reading_in : (before : ℕ) (rest : List ℕ) → Member (reading_refusal before rest) (0 ∷ each_record)
unfolding reading_refusal has
reading_in before rest =
    check each_record 1 _ _ refl
    (check each_record 2 _ _ refl
    (check each_record 3 _ _ refl
    (check each_record 1 _ _ refl
    (flags_in_lem (record_at rest) (shape_at rest).flags))))

decimals_in : (l : List ℕ) → has l 4 ≡ true → (asked : Option ℕ) → Member (decimals_refusal asked) (0 ∷ l)
unfolding decimals_refusal
decimals_in l h None = inl refl
decimals_in l h (Some decimals) = last l 4 _ h

-- `SH`, `SI`
pub header_in : (cover : Option ℕ) (p : Params) (g : Given) (asked : Option ℕ) → Member (header_refusal p g asked) (0 ∷ place_numbers cover (header p g asked))
unfolding header_refusal has
header_in cover p g asked =
    let l : List ℕ = place_numbers cover (header p g asked) in
    check l 4 _ _ refl
    (check l 4 _ _ refl
    (check l 4 _ _ refl
    (then_in l _ _ (decimals_in l refl asked)
    (check l 5 _ _ refl
    (check l 5 _ _ refl
    (check l 5 _ _ refl
    (check l 5 _ _ refl
    (check l 5 _ _ refl
    (check l 5 _ _ refl
    (last l 6 _ refl))))))))))

-- `OR`: of the row by itself, and of its place
row_in : (cover : Option ℕ) (row : Row) → Member (row_refusal cover row) (0 ∷ order_numbers cover)
unfolding row_refusal cover_refusal has
row_in None row =
    let l : List ℕ = order_numbers None in
    check l 4 _ _ refl (check l 6 _ _ refl (check l 6 _ _ refl (inl refl)))
row_in (Some decimals) row =
    let l : List ℕ = order_numbers (Some decimals) in
    check l 4 _ _ refl (check l 6 _ _ refl (check l 6 _ _ refl (last l 31 _ refl)))

has_place : (cover : Option ℕ) → (has (order_numbers cover) 7 ≡ true) × (has (order_numbers cover) 8 ≡ true)
unfolding has
has_place None = (refl, refl)
has_place (Some decimals) = (refl, refl)

pub order_in_lem : (s : Session) (cover : Option ℕ) (row : Row) → Member (order_refusal s cover row) (0 ∷ order_numbers cover)
unfolding order_refusal
order_in_lem s cover row =
    let l : List ℕ = order_numbers cover in
    let h = has_place cover in
    then_in l (row_refusal cover row) _ (row_in cover row) (check l 7 _ _ h.0 (last l 8 _ h.1))

-- ---- a refusal of reading is of 'Each record'
abbrev pub Known : Read → Type 0
Known (refused n) = Member n each_record
Known (header p g cover) = Unit
Known (order row) = Unit
Known (call c) = Unit

abbrev pub AllKnown : List Read → Type 0
AllKnown [] = Unit
AllKnown (x ∷ l) = Known x × AllKnown l

kind_known : (x : Read) → 0 < kind_read x → Known x
kind_known (refused n) h = absurd (omega (arith, h))
kind_known (header p g cover) h = tt
kind_known (order row) h = tt
kind_known (call c) h = tt

next_known : (before : ℕ) (rest : List ℕ) → Known (read_next before rest)
next_known before rest = go (eqb (reading_refusal before rest) 0) refl
  where
    go : (t : Bool) → eqb (reading_refusal before rest) 0 ≡ t → Known (read_next before rest)
    go true e =
        let z : reading_refusal before rest ≡ 0 = eqb-true (reading_refusal before rest) 0 e in
        kind_known (read_next before rest) (omega (arith, read_kind before rest z, (passed before rest z).known))
    go false e =
        let d : reading_refusal before rest ≢ 0 = eqb-false (reading_refusal before rest) 0 e in
        subst Known (sym (read_bad before rest d)) (other_than_zero (reading_refusal before rest) each_record d (reading_in before rest))

pub reads_known : (n before : ℕ) (rest : List ℕ) → AllKnown (reads_from n before rest)
unfolding reads_from
reads_known zero before rest = tt
reads_known (suc n) before rest =
    go (ltb 0 (length rest)) (eqb (reading_refusal before rest) 0) (reads_known n (shape_at rest).kind (drop (shape_at rest).width rest))
  where
    go : (u t : Bool) → AllKnown (reads_from n (shape_at rest).kind (drop (shape_at rest).width rest))
        → AllKnown (cond u (read_next before rest ∷ cond t (reads_from n (shape_at rest).kind (drop (shape_at rest).width rest)) []) [])
    go true true h = (next_known before rest, h)
    go true false h = (next_known before rest, tt)
    go false t h = tt

known_at : (l : List Read) (x : Read) (k : List Read) → AllKnown (l ++ (x ∷ k)) → Known x
known_at [] x k h = h.0
known_at (y ∷ l) x k h = known_at l x k h.1

-- ---- an accepted call has no `refused` line
never : ◌≡◌ {A = ℕ} 0 1 → ⊥
never z = omega (arith, z)

screen_line : (t : Bool) (from i e n : ℕ) → cond t [] (PhaseChanged from clearing ∷ []) ++ (OrderScreened i e ∷ []) ≡ Refused n ∷ [] → ⊥
screen_line true from i e n q = never cc
screen_line false from i e n q = never cc

clear_line : (t : Bool) (price volume reserve reference reason n : ℕ) (l k : List Event)
    → cond t (Cleared price volume reserve reference ∷ l) (SessionFailed reason ∷ k) ≡ Refused n ∷ [] → ⊥
clear_line true price volume reserve reference reason n l k q = never cc
clear_line false price volume reserve reference reason n l k q = never cc

allocate_line : (t u : Bool) (fill buy sell qty from to n : ℕ) (l : List Event)
    → cond t (FillAllocated fill buy sell qty ∷ l) [] ++ cond u (PhaseChanged from to ∷ []) [] ≡ Refused n ∷ [] → ⊥
allocate_line true u fill buy sell qty from to n l q = never cc
allocate_line false true fill buy sell qty from to n l q = never cc
allocate_line false false fill buy sell qty from to n l q = never cc

settle_line : (t : Bool) (fill qty price n : ℕ) → cond t [] (FillSettled fill qty price ∷ []) ≡ Refused n ∷ [] → ⊥
settle_line true fill qty price n q = never cc
settle_line false fill qty price n q = never cc

never_said : (s : Session) (c : Call) (n : ℕ) → events s c ≡ Refused n ∷ [] → ⊥
unfolding events screen_events clear_lines allocate_events fill_events exercise_events close_events settle_events skip_events finish_events expire_events
never_said s (Screen now i side verdict has_id id) n q = screen_line (eqb s.phase clearing) _ _ _ n q
never_said s (Clear now) n q = clear_line (eqb (outcome s).failed 0) _ _ _ _ _ n _ _ q
never_said s (Allocate now zero) n q = allocate_line false (done (after_fills zero s)) 0 0 0 0 _ _ n [] q
never_said s (Allocate now (suc m)) n q = allocate_line (due s) (done (after_fills (suc m) s)) _ _ _ _ _ _ n (fill_events m (one s)) q
never_said s (Exercise now issuer i qty) n q = never cc
never_said s (Close now caller) n q = never cc
never_said s (Settle i) n q = settle_line (eqb (fill_at s i).qty 0) _ _ _ n q
never_said s (Skip now i reason) n q = never cc
never_said s (Finish now) n q = never cc
never_said s (Expire now) n q = never cc

-- ---- a call of a file
-- records that let the file go on, and what comes after them
before_end_more : (f : State) (l k : List Read) → before_end f l ≡ l → before_end f (l ++ k) ≡ l ++ before_end (made_all f l) k
before_end_more f [] k e = refl
before_end_more f (x ∷ l) k e = go (eqb (file_refusal f x) 0) (before_end_more (made f x) l k) e
  where
    go : (t : Bool) → (before_end (made f x) l ≡ l → before_end (made f x) (l ++ k) ≡ l ++ before_end (made_all (made f x) l) k)
        → cond t (x ∷ before_end (made f x) l) [] ≡ x ∷ l → cond t (x ∷ before_end (made f x) (l ++ k)) [] ≡ x ∷ (l ++ before_end (made_all (made f x) l) k)
    go true ih e = ap (λ (m : List Read). x ∷ m) (ih cc)
    go false ih e = cc

-- the session of each call that lets the file go on passes the checks of any call
call_passes : (s : List ℕ) (l k : List Read) (c : Call) → reads s ≡ l ++ (call c ∷ k) → before_end start l ≡ l → file_refusal (made_all start l) (call c) ≡ 0
    → Passes (made_all start l).session
call_passes s l k c e h z =
    let f : State = made_all start l in
    let e' : before_end start (reads s) ≡ l ++ (call c ∷ before_end (made f (call c)) k) =
    ap (before_end start) e ∙ before_end_more start l (call c ∷ k) h
    ∙ ap (λ (t : Bool). l ++ cond t (call c ∷ before_end (made f (call c)) k) []) (eq-eqb (file_refusal f (call c)) 0 z) in
    let o : IsCourse l f = before_call s l (before_end (made f (call c)) k) c e' in
    subst Passes (sym o.session_is) (checks_pass o.opening (calls_in l))

-- so its number is of its row
call_numbers : (f : State) (c : Call) (n : ℕ) → Passes f.session → arguments_refusal c ≡ 0 → said_by f (call c) ≡ Refused n ∷ [] → Member n (numbers_of c)
unfolding said_by
call_numbers f c n P z = go (eqb (refusal f.session c) 0) refl
  where
    go : (t : Bool) → eqb (refusal f.session c) 0 ≡ t → cond t (events f.session c) (Refused (refusal f.session c) ∷ []) ≡ Refused n ∷ [] → Member n (numbers_of c)
    go true e q = absurd (never_said f.session c n q)
    go false e q =
        same_number (refusal f.session c) n (numbers_of c)
        (other_than_zero (refusal f.session c) (numbers_of c) (eqb-false (refusal f.session c) 0 e) (own_numbers f.session c P.limits P.fields z)) q

-- a call that ends the file, by its own arguments
call_in_lem : (cover : Option ℕ) (c : Call) → Member (arguments_refusal c) (0 ∷ place_numbers cover (call c))
call_in_lem cover c =
    ⊎_elim (λ (t : eqb (arguments_refusal c) 0 ≡ true). inl (eqb-true (arguments_refusal c) 0 t))
    (λ (t : eqb (arguments_refusal c) 0 ≡ false). rw t (arguments_in (4 ∷ []) c (inl refl)))
    (tested (eqb (arguments_refusal c) 0))

-- ---- any record
-- the file's refusal has a number of the place, and so has what is said where there is none
said_in : (f : State) (x : Read) (n : ℕ) → let l = place_numbers f.cover x in
    Member (file_refusal f x) (0 ∷ l) → (file_refusal f x ≡ 0 → said_by f x ≡ Refused n ∷ [] → Member n l) → said_of f x ≡ Refused n ∷ [] → Member n l
unfolding said_of
said_in f x n m h = go (eqb (file_refusal f x) 0) refl
  where
    go : (t : Bool) → eqb (file_refusal f x) 0 ≡ t → cond t (said_by f x) (Refused (file_refusal f x) ∷ []) ≡ Refused n ∷ [] → Member n (place_numbers f.cover x)
    go true e q = h (eqb-true (file_refusal f x) 0 e) q
    go false e q =
        same_number (file_refusal f x) n (place_numbers f.cover x) (other_than_zero (file_refusal f x) (place_numbers f.cover x) (eqb-false (file_refusal f x) 0 e) m) q

opened_line : (n : ℕ) → Opened ∷ [] ≡ Refused n ∷ [] → ⊥
opened_line n q = never cc

ordered_line : (i n : ℕ) → Ordered i ∷ [] ≡ Refused n ∷ [] → ⊥
ordered_line i n q = never cc

pub refused_by_place : RefusedByPlace
unfolding file_refusal said_by
refused_by_place s l k (refused a) n e h q =
    let m : Member a each_record = known_at l (refused a) k (subst AllKnown e (reads_known (length s) no_kind s)) in
    said_in (made_all start l) (refused a) n (inr m) (λ z r. same_number a n each_record m r) q
refused_by_place s l k (header p g asked) n e h q =
    said_in (made_all start l) (header p g asked) n (header_in (made_all start l).cover p g asked) (λ z r. absurd (opened_line n r)) q
refused_by_place s l k (order row) n e h q =
    said_in (made_all start l) (order row) n (order_in_lem (made_all start l).session (made_all start l).cover row) (λ z r. absurd (ordered_line _ n r)) q
refused_by_place s l k (call c) n e h q =
    said_in (made_all start l) (call c) n (call_in_lem (made_all start l).cover c)
    (λ z r. subst (λ (t : Bool). Member n (cond t (numbers_of c) (4 ∷ []))) (sym (eq-eqb (arguments_refusal c) 0 z)) (call_numbers (made_all start l) c n (call_passes s l k c e h z) z r)) q
