-- While a session just cleared is still Allocating, its orders are those that were cleared but for their lots. Assumes nothing.
use mathlib.Core.Path.{◌≡◌, sym, ap, ◌∙◌, subst}
use mathlib.Core.Bool.{true}
use mathlib.Core.List.{List}
use Prim.Native.Nat.{ℕ}
use lib.IntN.{pos}
use Rattle.auction_engine.specs.declared.Session.{Session}
use Rattle.auction_engine.specs.Session.{order_at, allocating}
use Rattle.auction_engine.specs.Call.{limits_refusal, fields_refusal}
use Rattle.auction_engine.specs.declared.Call.{Call}
use Rattle.auction_engine.specs.declared.Call.TheVariants.{Allocate}
use Rattle.auction_engine.specs.Clearing.{outcome, all_ready}
use Rattle.auction_engine.specs.Matching.{after_fills}
use Rattle.auction_engine.specs.Opening.{opened}
use Rattle.auction_engine.proofs.Fills.{after_fills_orders}
use Rattle.course.specs.Course.{Run}
use Rattle.course.specs.Demand3.{JustCleared, after}
use Rattle.course.proofs.Fills.{after_fills_phase, after_fills_params, after_fills_given}
use Rattle.course.proofs.Orders.{lotless, lots_lotless, after_fills_lotless}
use Rattle.course.proofs.Accepted.{limits_pass, fields_pass, all_screened, outcome_passes}
use Rattle.course.proofs.Invariant.{is_matching, reached}
use Rattle.course.proofs.Completes.{never_refused}
use Rattle.course.proofs.Start.{priced, events_say, effect_priced, starts}

-- the session that was cleared
abbrev pub cleared : {s : Session} → JustCleared s → Session
cleared j = (after (opened j.opening) j.calls).session

-- t is Allocating, passes the checks 9 and 4 of any call, and has what the clear read
pub record Unmoved {s : Session} (j : JustCleared s) (t : Session) : Type 0 where
  pub limits : limits_refusal t ≡ 0
  pub fields : fields_refusal t ≡ 0
  pub phase : t.phase ≡ allocating
  pub params : t.params ≡ (cleared j).params
  pub given : t.given ≡ (cleared j).given
  pub count : t.order_count ≡ (cleared j).order_count
  pub orders : (i : ℕ) → lotless (order_at t i) ≡ lotless (order_at (cleared j) i)

-- what the clear found
pub record Found {s : Session} (j : JustCleared s) : Type 0 where
  pub at : s.phase ≡ allocating
  pub ready : all_ready (cleared j) ≡ true
  pub refusal : (outcome (cleared j)).refusal ≡ 0
  pub failed : (outcome (cleared j)).failed ≡ 0
  pub price : (outcome (cleared j)).price ≡ j.price

module _ {s : Session} (j : JustCleared s) where
  abbrev u : Session
  u = cleared j

  says : ((outcome u).failed ≡ 0) × ((outcome u).price ≡ j.price) × ((outcome u).volume ≡ j.volume)
  says = events_say u j.now j.price j.volume j.reserve j.reference j.others j.line

  is : s ≡ priced u
  is = j.is ∙ effect_priced u j.now says.0

  pub found : Found j
  found =
      record {
        at = (starts s j).allotted.at;
        ready = all_screened u j.now j.accepted;
        refusal = outcome_passes u j.now j.accepted;
        failed = says.0;
        price = says.1;
      }

  after_fills_unmoved : (k : ℕ) → Unmoved j (after_fills k s)
  after_fills_unmoved k =
      let e = never_refused s (starts s j).allotted k (pos 0) 0 in
      record {
        limits = limits_pass (after_fills k s) (Allocate (pos 0) 0) e;
        fields = fields_pass (after_fills k s) (Allocate (pos 0) 0) e;
        phase = after_fills_phase k s ∙ (starts s j).allotted.at;
        params = after_fills_params k s ∙ ap (λ (t : Session). t.params) is;
        given = after_fills_given k s ∙ ap (λ (t : Session). t.given) is;
        count = after_fills_orders k s ∙ ap (λ (t : Session). t.order_count) is;
        orders = λ i. after_fills_lotless k s i ∙ ap (λ (t : Session). lotless (order_at t i)) is ∙ lots_lotless u.orders (outcome u).lots u.order_count i;
      }

  -- after any calls
  pub unmoved : (l : List Call) → (after s l).session.phase ≡ allocating → Unmoved j (after s l).session
  unmoved l e =
      let M = is_matching (reached s (starts s j).allotted l) e in
      subst (Unmoved j) (sym (ap (λ (r : Run). r.session) M.is)) (after_fills_unmoved M.k)
