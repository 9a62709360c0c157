-- Exclusion kinds fit in every session that calls reach from an opening, and are kept from screening on: from what calls keep of each order
-- (proofs/Rows.antt). Assumes nothing.
use mathlib.Core.Path.{◌≡◌, sym, ap, ◌∙◌}
use mathlib.Core.Bool.{Bool, true, false≢true}
use mathlib.Core.Logic.{⊎_elim}
use mathlib.Core.List.{List}
use Prim.Native.Nat.{ℕ, ◌≤◌, ◌<◌}
use lib.IntN.{ℤ}
use lib.ListN.{length, get_or-eq_default}
use lib.Seq.{get_or-set_same}
use Rattle.laws.proofs.Tests.{lt_or_le}
use Rattle.book.specs.Book.{no_order, order_in}
use Rattle.book.specs.declared.Order.{Order}
use Rattle.auction_engine.specs.declared.Session.{Session}
use Rattle.auction_engine.specs.Session.{order_at}
use Rattle.auction_engine.specs.declared.Call.TheVariants.{Screen}
use Rattle.auction_engine.specs.Screening.{exclusion_of, screen_effect}
use Rattle.auction_engine.specs.Engine.{refusal, effect}
use Rattle.auction_engine.specs.Opening.{opened}
use Rattle.course.specs.Exclusions.{KindsFit, KindIsKept}
use Rattle.course.proofs.Accepted.{screens}
use Rattle.course.proofs.Rows.{calls_kept}
use Rattle.course.proofs.Passing.{opened_opens}

pub kinds_fit : KindsFit
kinds_fit o l i = ((calls_kept (opened o) l).orders i).fits ((opened_opens o).kinds i)

-- a revealed order has a place
revealed_place : (orders : List Order) (i : ℕ) → (order_in orders i).revealed ≡ true → i < length orders
revealed_place orders i e =
    ⊎_elim (λ (l : i < length orders). l)
    (λ (h : length orders ≤ i). absurd (false≢true (sym (ap (λ (o : Order). o.revealed) (get_or-eq_default orders no_order {n = i} h)) ∙ e)))
    (lt_or_le i (length orders))

kind_stored : (s : Session) (now : ℤ) (i side verdict : ℕ) (has_id : Bool) (id : List ℕ) → refusal s (Screen now i side verdict has_id id) ≡ 0
    → (order_at (effect s (Screen now i side verdict has_id id)) i).exclusion ≡ exclusion_of s i verdict has_id id
unfolding effect screen_effect
kind_stored s now i side verdict has_id id e =
    ap (λ (o : Order). o.exclusion) (get_or-set_same s.orders i _ no_order (revealed_place s.orders i (screens s now i side verdict has_id id e).revealed))

pub kind_is_kept : KindIsKept
kind_is_kept = record { stored = kind_stored; kept = λ s l i h. ((calls_kept s l).orders i).kind h }
