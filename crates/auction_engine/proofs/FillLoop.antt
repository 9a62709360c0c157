-- The loop of an allocate: with m fills left to make, what is left decides. Assumes nothing.
use mathlib.Core.Path.{◌≡◌, refl, sym, ◌∙◌, ap, subst}
use mathlib.Core.Bool.{true, false}
use mathlib.Core.List.{List, [], ◌∷◌, ◌++◌, append-nil, append_assoc}
use Prim.Native.Nat.{ℕ, suc, ◌+◌, ◌-◌, ◌<◌, ◌≤◌, min}
use native.Mathlib.Omega.{arith}
use borrow.Author.Tests.{lt-ltb}
use lib.Dec.{ltb}
use lib.ListN.{length, length-append}
use Rattle.std.proofs.Common.{Option, Some, None, if◌then◌else◌, ◌&&◌, Bool}
use Rattle.std.proofs.lemmas.Option.{none-some, some_pair_parts}
use Rattle.credit_math.specs.Limits.{max_orders}
use Rattle.book.specs.Limits.{max_fills}
use Rattle.events.specs.declared.Event.{Event}
use Rattle.events.specs.declared.Event.TheVariants.{FillAllocated}
use Rattle.events.specs.Events.{max_events}
use Rattle.auction_engine.specs.declared.Session.{Session}
use Rattle.auction_engine.specs.Session.{left}
use Rattle.auction_engine.specs.Matching.{buy_at, sell_at, due_at, due, pair, one, after_fills, overfull, fill_events}
use Rattle.auction_engine.specs.Engine.{Answered, refused_by}
use Rattle.auction_engine.specs.NextFill.{next_pair, filled_by}
use Rattle.auction_engine.proofs.Fills.{due_event, one_orders, idle_after_fills, idle_full, idle_events, due_one, due_count, due_events, due_full, after_fills_more, free_full}

-- n fills of s come to m fills of t, after the events v
pub record Going (s : Session) (n m : ℕ) (t : Session) (v : List Event) : Type 0 where
  pub full : overfull n s ≡ overfull m t
  pub session : after_fills n s ≡ after_fills m t
  pub lines : fill_events n s ≡ v ++ fill_events m t
  pub room : length v ≤ t.fill_count
  pub fills : t.fill_count ≤ max_fills
  pub orders : t.order_count ≤ max_orders

-- a fill is due, and a place is free
going_fills : (s : Session) (n m : ℕ) (t : Session) (v : List Event) → Going s n (suc m) t v → due t ≡ true → t.fill_count < max_fills → Going s n m (one t) (v ++ due_event t ∷ [])
going_fills s n m t v g d h =
    let e : Event = due_event t in
    let count : (one t).fill_count ≡ t.fill_count + 1 = due_count t d in
    record {
      full = g.full ∙ free_full m t h;
      session = g.session ∙ after_fills_more m t;
      lines = g.lines ∙ ap (λ (l : List Event). v ++ l) (due_events t d m) ∙ sym (append_assoc v (e ∷ []) (fill_events m (one t)));
      room = omega (arith, g.room, length-append v (e ∷ []));
      fills = omega arith;
      orders = subst (λ (x : ℕ). x ≤ max_orders) (sym (one_orders t)) g.orders;
    }

-- what the code found is what is due
module _ (t : Session) where
  none_due : None ≡ next_pair t.orders t.order_count → due t ≡ false
  unfolding due due_at
  none_due e = go (ltb (buy_at t) t.order_count && ltb (sell_at t) t.order_count) e
    where
      go : (x : Bool) → ◌≡◌ {A = Option (ℕ × ℕ)} None (if x then Some (buy_at t, sell_at t) else None) → x ≡ false
      go true e = absurd (none-some {A = ℕ × ℕ} (buy_at t, sell_at t) e)
      go false e = refl

  pair_due : (b a : ℕ) → Some (b, a) ≡ next_pair t.orders t.order_count → (due t ≡ true) × (b ≡ buy_at t) × (a ≡ sell_at t)
  unfolding due due_at
  pair_due b a e = go (ltb (buy_at t) t.order_count && ltb (sell_at t) t.order_count) e
    where
      go : (x : Bool) → ◌≡◌ {A = Option (ℕ × ℕ)} (Some (b, a)) (if x then Some (buy_at t, sell_at t) else None) → (x ≡ true) × (b ≡ buy_at t) × (a ≡ sell_at t)
      go true e = let p = some_pair_parts b (buy_at t) a (sell_at t) e in (refl, p.0, p.1)
      go false e = absurd (none-some {A = ℕ × ℕ} (b, a) (sym e))

-- a fill as the code comes to it
module _ (s : Session) (n i : ℕ) (t : Session) (v : List Event) (h : i < n) (g : Going s n (n - i) t v) where
  one_left : Going s n (suc (n - (i + 1))) t v
  one_left = let m : n - i ≡ suc (n - (i + 1)) = omega arith in subst (λ (x : ℕ). Going s n x t v) m g

  -- no fill is due
  pub going_idle : None ≡ next_pair t.orders t.order_count → ◌≡◌ {A = Answered} (record { refusal = 0; session = t; events = v }) (filled_by s n)
  going_idle e =
      let m = suc (n - (i + 1)) in
      let g : Going s n m t v = one_left in
      let d : due t ≡ false = none_due t e in
      rw (g.full, idle_full t d m, g.session, idle_after_fills t d m, g.lines, idle_events t d m, append-nil v)

  module _ (b a : ℕ) (e : Some (b, a) ≡ next_pair t.orders t.order_count) where
    -- one is due, and no place is free
    pub going_full : max_fills ≤ t.fill_count → refused_by s 18 ≡ filled_by s n
    going_full h = rw (one_left.full, due_full t (pair_due t b a e).0 (n - (i + 1)) h)

    -- the fill is written in place, and its event has room
    pub going_more : t.fill_count < max_fills
        → let q : ℕ = min (left t b) (left t a) in
        Going s n (n - (i + 1)) (pair t b a q) (if ltb (length v) max_events then v ++ FillAllocated t.fill_count b a q ∷ [] else v)
    going_more f =
        let p = pair_due t b a e in
        rw (p.1, p.2, ← due_one t p.0, lt-ltb (length v) max_events (omega (arith, g.room))) (going_fills s n (n - (i + 1)) t v one_left p.0 f)

pub going_end : (s : Session) (n i : ℕ) (t : Session) (v : List Event) → n ≤ i → Going s n (n - i) t v → ◌≡◌ {A = Answered} (record { refusal = 0; session = t; events = v }) (filled_by s n)
unfolding after_fills overfull fill_events
going_end s n i t v h g =
    let m : n - i ≡ 0 = omega arith in
    let z : Going s n 0 t v = subst (λ (x : ℕ). Going s n x t v) m g in
    rw (z.full, z.session, z.lines, append-nil v)
