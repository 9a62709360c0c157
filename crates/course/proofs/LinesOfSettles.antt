-- The fills settled by a list of calls are those of its accepted settles, and each `settle` line names one of them. No call says `Nothing`. Assumes nothing.
use mathlib.Core.Path.{◌≡◌, refl, sym, ap₂, ◌∙◌, subst}
use mathlib.Core.Logic.{inl, inr}
use mathlib.Core.Bool.{Bool, true, false, cond}
use mathlib.Core.List.{List, [], ◌∷◌, ◌++◌, append_assoc, append-nil}
use Prim.Native.Nat.{ℕ, zero, suc}
use lib.Dec.{eqb}
use Rattle.laws.specs.Lists.{Member}
use Rattle.events.specs.declared.Event.{Event}
use Rattle.events.specs.declared.Event.TheVariants.{Nothing, OrderScreened, Cleared, SessionFailed, FillAllocated, RofrExercised, RofrClosed, FillSettled, FillSkipped, ClearingPrint, PhaseChanged, Opened, Ordered, Refused}
use Rattle.auction_engine.specs.declared.Session.{Session}
use Rattle.auction_engine.specs.Session.{fill_at, clearing}
use Rattle.auction_engine.specs.declared.Call.{Call}
use Rattle.auction_engine.specs.declared.Call.TheVariants.{Screen, Clear, Allocate, Exercise, Close, Settle, Skip, Finish, Expire}
use Rattle.auction_engine.specs.Screening.{exclusion_of, screen_events}
use Rattle.auction_engine.specs.Clearing.{outcome, clear_lines}
use Rattle.auction_engine.specs.Matching.{due, one, after_fills, done, fill_events, allocate_events}
use Rattle.auction_engine.specs.Rofr.{exercise_events, close_events}
use Rattle.auction_engine.specs.Settlement.{settle_events, skip_events, finish_events, expire_events}
use Rattle.auction_engine.specs.Engine.{refusal, effect, events, refused_by, answer}
use Rattle.course.specs.Course.{Run, begin, note, advance, run}
use Rattle.course.specs.Demand3.{after}
use Rattle.course.specs.Lines.{said_by, lines_of, settled_by, settled_in}
use Rattle.course.proofs.Applied.{advance_session}
use Rattle.course.proofs.Accepted.{noted}
use Rattle.course.proofs.Refusals.{answers_refusal}

-- one call more, and a list
either_settled : (x : Bool) (r t : Run) → t.settled ≡ r.settled → (cond x t r).settled ≡ r.settled
either_settled true r t h = h
either_settled false r t h = refl

advance_settled : (r : Run) (c : Call) → (advance r c).settled ≡ settled_by r.session c ++ r.settled
unfolding advance note
advance_settled r (Screen now i side verdict has_id id) = either_settled (eqb (refusal r.session (Screen now i side verdict has_id id)) 0) r _ refl
advance_settled r (Clear now) = either_settled (eqb (refusal r.session (Clear now)) 0) r _ refl
advance_settled r (Allocate now n) = either_settled (eqb (refusal r.session (Allocate now n)) 0) r _ refl
advance_settled r (Exercise now issuer i q) = either_settled (eqb (refusal r.session (Exercise now issuer i q)) 0) r _ refl
advance_settled r (Close now caller) = either_settled (eqb (refusal r.session (Close now caller)) 0) r _ refl
advance_settled r (Settle i) = rw (answers_refusal r.session (Settle i)) (go (eqb (refusal r.session (Settle i)) 0))
  where
    go : (x : Bool) → (cond x (noted r (Settle i)) r).settled ≡ cond x (i ∷ []) [] ++ r.settled
    go true = refl
    go false = refl
advance_settled r (Skip now i reason) = either_settled (eqb (refusal r.session (Skip now i reason)) 0) r _ refl
advance_settled r (Finish now) = either_settled (eqb (refusal r.session (Finish now)) 0) r _ refl
advance_settled r (Expire now) = either_settled (eqb (refusal r.session (Expire now)) 0) r _ refl

run_settled : (l : List Call) (r : Run) → (run r l).settled ≡ settled_in r.session l ++ r.settled
run_settled [] r = refl
run_settled (c ∷ l) r =
    run_settled l (advance r c) ∙ ap₂ (λ s k. settled_in s l ++ k) (advance_session r c) (advance_settled r c)
    ∙ sym (append_assoc (settled_in (answer r.session c).session l) (settled_by r.session c) r.settled)

pub all_settled : (s : Session) (l : List Call) → (after s l).settled ≡ settled_in s l
all_settled s l = run_settled l (begin s) ∙ append-nil (settled_in s l)

-- a line that is a `settle` names a fill of the list k, and a line says something; every line does
abbrev Names : List ℕ → Event → Type 0
Names k Nothing = ⊥
Names k (OrderScreened order exclusion) = Unit
Names k (Cleared price volume reserve reference) = Unit
Names k (SessionFailed reason) = Unit
Names k (FillAllocated fill buy sell qty) = Unit
Names k (RofrExercised fill new qty price) = Unit
Names k (RofrClosed qty) = Unit
Names k (FillSettled fill qty price) = Member fill k
Names k (FillSkipped fill qty reason) = Unit
Names k (ClearingPrint print) = Unit
Names k (PhaseChanged from to) = Unit
Names k Opened = Unit
Names k (Ordered order) = Unit
Names k (Refused refusal) = Unit

abbrev Each : List ℕ → List Event → Type 0
Each k [] = Unit
Each k (e ∷ es) = Names k e × Each k es

each_at : (k : List ℕ) (e : Event) (before rest : List Event) → Each k (before ++ (e ∷ rest)) → Names k e
each_at k e [] rest h = h.0
each_at k e (f ∷ before) rest h = each_at k e before rest h.1

each_append : (k : List ℕ) (es fs : List Event) → Each k es → Each k fs → Each k (es ++ fs)
each_append k [] fs h g = g
each_append k (e ∷ es) fs h g = (h.0, each_append k es fs h.1 g)

each_either : (k : List ℕ) (x : Bool) (es fs : List Event) → Each k es → Each k fs → Each k (cond x es fs)
each_either k true es fs h g = h
each_either k false es fs h g = g

each_fill : (k : List ℕ) (n : ℕ) (s : Session) → Each k (fill_events n s)
unfolding fill_events
each_fill k zero s = tt
each_fill k (suc n) s = each_either k (due s) _ [] (tt, each_fill k n (one s)) tt

-- the lines of a call, where every fill that it settles is in k
call_names : (k : List ℕ) (s : Session) (c : Call) → eqb (refusal s c) 0 ≡ true → ((i : ℕ) → Member i (settled_by s c) → Member i k) → Each k (events s c)
unfolding events screen_events clear_lines allocate_events exercise_events close_events settle_events skip_events finish_events expire_events
call_names k s (Screen now i side verdict has_id id) e h =
    let change : List Event = PhaseChanged s.phase clearing ∷ [] in
    each_append k (cond (eqb s.phase clearing) [] change) (OrderScreened i (exclusion_of s i verdict has_id id) ∷ [])
    (each_either k (eqb s.phase clearing) [] change tt (tt, tt)) (tt, tt)
call_names k s (Clear now) e h = each_either k (eqb (outcome s).failed 0) _ _ (tt, (tt, tt)) (tt, (tt, tt))
call_names k s (Allocate now n) e h = each_append k (fill_events n s) _ (each_fill k n s) (each_either k (done (after_fills n s)) _ [] (tt, tt) tt)
call_names k s (Exercise now issuer i q) e h = (tt, tt)
call_names k s (Close now caller) e h = (tt, (tt, tt))
call_names k s (Settle i) e h =
    each_either k (eqb (fill_at s i).qty 0) [] _ tt (h i (rw (answers_refusal s (Settle i), e) (inl refl)), tt)
call_names k s (Skip now i reason) e h = (tt, tt)
call_names k s (Finish now) e h = (tt, (tt, tt))
call_names k s (Expire now) e h = (tt, (tt, tt))

said_names : (k : List ℕ) (s : Session) (c : Call) → ((i : ℕ) → Member i (settled_by s c) → Member i k) → Each k (said_by s c)
said_names k s c h = go (eqb (refusal s c) 0) refl
  where
    go : (x : Bool) → eqb (refusal s c) 0 ≡ x → Each k (cond x (events s c) [])
    go true e = call_names k s c e h
    go false e = tt

-- an answer's events are what is said, and none of them is `Nothing`
events_said : (s : Session) (c : Call) → (answer s c).events ≡ said_by s c
unfolding answer
events_said s c = go (eqb (refusal s c) 0)
  where
    go : (x : Bool) → (cond x (record { refusal = 0; session = effect s c; events = events s c }) (refused_by s (refusal s c))).events ≡ cond x (events s c) []
    go true = refl
    go false = refl

pub never_nothing : (s : Session) (c : Call) (before rest : List Event) → (answer s c).events ≡ before ++ (Nothing ∷ rest) → ⊥
never_nothing s c before rest e =
    let k = settled_by s c in
    each_at k Nothing before rest (subst (Each k) (sym (events_said s c) ∙ e) (said_names k s c (λ _ m. m)))

-- membership in lists that are put together
member_left : (i : ℕ) (l k : List ℕ) → Member i l → Member i (l ++ k)
member_left i [] k m = absurd m
member_left i (x ∷ l) k (inl e) = inl e
member_left i (x ∷ l) k (inr m) = inr (member_left i l k m)

member_right : (i : ℕ) (l k : List ℕ) → Member i k → Member i (l ++ k)
member_right i [] k m = m
member_right i (x ∷ l) k m = inr (member_right i l k m)

-- the lines of a list
lines_name : (k : List ℕ) (s : Session) (l : List Call) → ((i : ℕ) → Member i (settled_in s l) → Member i k) → Each k (lines_of s l)
lines_name k s [] h = tt
lines_name k s (c ∷ l) h =
    let t = (answer s c).session in
    each_append k (said_by s c) (lines_of t l) (said_names k s c (λ i m. h i (member_right i (settled_in t l) (settled_by s c) m)))
    (lines_name k t l (λ i m. h i (member_left i (settled_in t l) (settled_by s c) m)))

pub line_settled : (s : Session) (l : List Call) (i qty price : ℕ) (before rest : List Event) → lines_of s l ≡ before ++ (FillSettled i qty price ∷ rest)
    → Member i (after s l).settled
line_settled s l i qty price before rest e =
    let k = settled_in s l in
    rw (all_settled s l) (each_at k (FillSettled i qty price) before rest (subst (Each k) e (lines_name k s l (λ _ m. m))))
