-- The live orders gathered: what the loops keep, and what they come to. Assumes nothing.
use mathlib.Core.Path.{◌≡◌, refl, sym, ◌∙◌, ap}
use mathlib.Core.Bool.{Bool, true, false, cond, not, ◌&&◌}
use mathlib.Core.Logic.{◌↔◌, inl, inr}
use mathlib.Core.List.{List, [], ◌∷◌, map, map-id}
use Prim.Native.Nat.{ℕ, ◌+◌, ◌≤◌, ◌<◌, min}
use native.Mathlib.Numerals.{add-one}
use native.Mathlib.Omega.{arith}
use lib.Dec.{eqb, leb}
use lib.ListN.{length, get_or, set, take}
use lib.Seq.{take-suc, get_or-take, take_all, length-take-le}
use Rattle.laws.specs.Sums.{only}
use Rattle.laws.specs.Lists.{table, keep, Member}
use Rattle.std.proofs.lemmas.List.{get_or-map}
use Rattle.laws.proofs.Lists.{length_table, table_place, keep_members}
use Rattle.laws.proofs.Kept.{kept_members}
use Rattle.laws.proofs.Gathering.{table_more, Gathering, gathering, gathering_more, keep_short}
use Rattle.credit_math.specs.Limits.{max_orders}
use Rattle.book.specs.Book.{no_order, order_in, is_live, is_buy}
use Rattle.book.specs.Clear.{live_orders, trades_at, side_orders}
use Rattle.book.specs.Gathered.{Gathered, SideGathered}
use Rattle.book.specs.declared.Order.{Order}
use Rattle.book.specs.declared.gathered.Live.{Live}
use Rattle.book.specs.declared.gathered.Side.{Side}

-- of the first i orders, the live ones with their sides, limits and quantities
module _ (orders : List Order) where
  abbrev Among : {A : Type 0} → (ℕ → A) → ℕ → ℕ → List A → Type 0
  Among f i count out = Gathering (λ k. is_live (order_in orders k)) f max_orders (table (λ k. k) i) count out

  -- one more order
  among_more : {A : Type 0} {f : ℕ → A} {i count : ℕ} {out : List A} → Among f i count out → (v : A) → v ≡ f i → (live : Bool) (u : ℕ) → count < max_orders
      → live ≡ is_live (order_in orders i) → u ≡ only live 1 → Among f (i + 1) (count + u) (set out count v)
  among_more {A} {f} {i} {count} {out} g v is live u room e w = rw (w, add-one i, table_more (λ (k : ℕ). k) i) (gathering_more i v g room is live e)

  pub record Collecting (i count : ℕ) (numbers : List ℕ) (sides : List Bool) (limits qtys : List ℕ) : Type 0 where
    pub numbers_too : Among (λ k. k) i count numbers
    pub sides_too : Among (λ k. is_buy (order_in orders k)) i count sides
    pub limits_too : Among (λ k. (order_in orders k).limit) i count limits
    pub qtys_too : Among (λ k. (order_in orders k).qty) i count qtys

  module _ {i count : ℕ} {numbers : List ℕ} {sides : List Bool} {limits qtys : List ℕ} (c : Collecting i count numbers sides limits qtys) where
    -- one more order
    pub collecting_more : (live : Bool) (u : ℕ) → count < max_orders → live ≡ is_live (order_in orders i) → u ≡ only live 1
        → Collecting (i + 1) (count + u) (set numbers count i) (set sides count (eqb (order_in orders i).side 0)) (set limits count (order_in orders i).limit) (set qtys count (order_in orders i).qty)
    collecting_more live u room e w =
        record {
          numbers_too = among_more c.numbers_too i refl live u room e w;
          sides_too = among_more c.sides_too (is_buy (order_in orders i)) refl live u room e w;
          limits_too = among_more c.limits_too (order_in orders i).limit refl live u room e w;
          qtys_too = among_more c.qtys_too (order_in orders i).qty refl live u room e w;
        }

  -- all orders passed: the live ones are gathered
  module _ {l : Live} {i : ℕ} (c : Collecting i l.count l.numbers l.is_buy l.limits l.qtys) where
    pub collected : i ≡ length orders → i ≤ max_orders → Gathered orders (length orders) l
    unfolding live_orders
    collected e h =
        let all : i ≡ min (length orders) max_orders = omega arith in
        record {
          counted = rw (← all) c.numbers_too.held;
          numbers = rw (← all) (c.numbers_too.done ∙ map-id (keep (λ k. is_live (order_in orders k)) (table (λ k. k) i)));
          sides = rw (← all) c.sides_too.done;
          limits = rw (← all) c.limits_too.done;
          qtys = rw (← all) c.qtys_too.done;
        }

  -- no order passed: nothing is held
  pub collecting : {numbers : List ℕ} {sides : List Bool} {limits qtys : List ℕ} → length numbers ≡ max_orders → length sides ≡ max_orders → length limits ≡ max_orders → length qtys ≡ max_orders
      → Collecting 0 0 numbers sides limits qtys
  unfolding table
  collecting a b c d = record { numbers_too = gathering a; sides_too = gathering b; limits_too = gathering c; qtys_too = gathering d }

-- what is kept of a list goes by what a test says of what stands in it
keep_same : (p q : ℕ → Bool) (l : List ℕ) → ((x : ℕ) → Member x l → p x ≡ q x) → keep p l ≡ keep q l
unfolding keep
keep_same p q [] h = refl
keep_same p q (x ∷ l) h = rw (h x (inl refl), keep_same p q l (λ y m. h y (inr m)))

-- and so does what a function gives of it
map_same : {A : Type 0} (f g : ℕ → A) (l : List ℕ) → ((x : ℕ) → Member x l → f x ≡ g x) → map f l ≡ map g l
map_same f g [] h = refl
map_same f g (x ∷ l) h = rw (h x (inl refl), map_same f g l (λ y m. h y (inr m)))

-- no more than the limit
pub live_few : (orders : List Order) (n : ℕ) → length (live_orders orders n) ≤ max_orders
unfolding live_orders
live_few orders n = omega (arith, keep_short (λ i. is_live (order_in orders i)) (table (λ i. i) (min n max_orders)), length_table (λ (i : ℕ). i) (min n max_orders))

-- a live order is one of the first n
pub live_inside : (orders : List Order) (n x : ℕ) → Member x (live_orders orders n) ↔ ((x < min n max_orders) × (is_live (order_in orders x) ≡ true))
unfolding live_orders
live_inside orders n = kept_members (λ i. is_live (order_in orders i)) (min n max_orders)

-- and so is one of a side, which trades at p
pub side_inside : (orders : List Order) (n : ℕ) (buys : Bool) (p x : ℕ) → Member x (side_orders orders n buys p) ↔ (Member x (live_orders orders n) × (trades_at orders n buys p x ≡ true))
unfolding side_orders
side_inside orders n buys p x = keep_members (trades_at orders n buys p) x (live_orders orders n)

-- what is gathered from the first n orders of a book is gathered from the book
module _ (orders : List Order) (n : ℕ) (w : length orders ≡ max_orders) where
  abbrev m : ℕ
  m = min n max_orders

  abbrev F : List Order
  F = take m orders

  -- they are as many as the count, at most 16
  first_length : length F ≡ m
  first_length = length-take-le m orders (omega arith)

  -- each is the book's
  first_at : {A : Type 0} (f : Order → A) (i : ℕ) → Member i (live_orders orders n) → f (order_in F i) ≡ f (order_in orders i)
  first_at f i k = ap f (get_or-take m orders i no_order ((live_inside orders n i).0 k).0)

  -- their live ones are the book's
  pub first_live : live_orders F (length F) ≡ live_orders orders n
  unfolding live_orders
  first_live =
      rw first_length
      (ap (λ (k : ℕ). keep (λ i. is_live (order_in F i)) (table (λ i. i) k)) (omega arith)
      ∙ keep_same (λ i. is_live (order_in F i)) (λ i. is_live (order_in orders i)) (table (λ i. i) m)
      (λ i k. let r = table_place (λ i. i) m i k in ap is_live (get_or-take m orders i no_order (omega (arith, r.1, r.2)))))

  -- and so is what is gathered from them
  pub from_first : {l : Live} → Gathered F (length F) l → Gathered orders n l
  from_first {l} g = record {
    counted = g.counted ∙ ap length first_live;
    numbers = g.numbers ∙ first_live;
    sides = g.sides ∙ rw first_live (map_same _ _ (live_orders orders n) (first_at is_buy));
    limits = g.limits ∙ rw first_live (map_same _ _ (live_orders orders n) (first_at (λ o. o.limit)));
    qtys = g.qtys ∙ rw first_live (map_same _ _ (live_orders orders n) (first_at (λ o. o.qty)));
  }

-- of the first i live orders, those of a side that trade at p, with their quantities
module _ (orders : List Order) (n : ℕ) (buys : Bool) (p : ℕ) where
  abbrev L : List ℕ
  L = live_orders orders n

  abbrev Part : (ℕ → ℕ) → ℕ → ℕ → List ℕ → Type 0
  Part f i count out = Gathering (trades_at orders n buys p) f max_orders (take i L) count out

  pub record Siding (i count : ℕ) (numbers qtys : List ℕ) : Type 0 where
    pub numbers_too : Part (λ k. k) i count numbers
    pub qtys_too : Part (λ k. (order_in orders k).qty) i count qtys

  module _ {l : Live} (g : Gathered orders n l) where
    module _ {i : ℕ} (h : i < l.count) where
      abbrev x : ℕ
      x = get_or L i 0

      -- it is one of the live orders
      in_list : i < length L
      in_list = omega (arith, g.counted)

      -- what an array has at i, where its first places hold what f says of the live orders
      at_place : {A : Type 0} (f : ℕ → A) (d : A) (xs : List A) → take l.count xs ≡ map f L → get_or xs i d ≡ f x
      at_place f d xs e = sym (get_or-take l.count xs i d h) ∙ ap (λ k. get_or k i d) e ∙ get_or-map f L i 0 d in_list

      -- one more live order
      pub siding_more : {count : ℕ} {numbers qtys : List ℕ} → Siding i count numbers qtys → (b : Bool) (u : ℕ) → count < max_orders
          → b ≡ cond buys (get_or l.is_buy i false && leb p (get_or l.limits i 0)) (not (get_or l.is_buy i false) && leb (get_or l.limits i 0) p) → u ≡ only b 1
          → Siding (i + 1) (count + u) (set numbers count (get_or l.numbers i 0)) (set qtys count (get_or l.qtys i 0))
      unfolding trades_at
      siding_more {count} {numbers} {qtys} s b u room e w =
          let t : b ≡ trades_at orders n buys p x = e ∙ rw (at_place (λ k. is_buy (order_in orders k)) false l.is_buy g.sides, at_place (λ k. (order_in orders k).limit) 0 l.limits g.limits) in
          record {
            numbers_too =
                rw (w, add-one i, take-suc L i 0 in_list)
                (gathering_more x (get_or l.numbers i 0) s.numbers_too room (at_place (λ k. k) 0 l.numbers (g.numbers ∙ sym (map-id L))) b t);
            qtys_too =
                rw (w, add-one i, take-suc L i 0 in_list)
                (gathering_more x (get_or l.qtys i 0) s.qtys_too room (at_place (λ k. (order_in orders k).qty) 0 l.qtys g.qtys) b t);
          }

    -- all live orders passed: those of the side are gathered
    pub sided : {i : ℕ} {r : Side} → Siding i r.count r.numbers r.qtys → l.count ≤ i → SideGathered orders n buys p r
    unfolding side_orders
    sided {i} {r} s h =
        let all : take i L ≡ L = take_all i L (omega (arith, g.counted)) in
        record {
          counted = s.numbers_too.held ∙ ap (λ (k : List ℕ). length (keep (trades_at orders n buys p) k)) all;
          numbers = s.numbers_too.done ∙ map-id (keep (trades_at orders n buys p) (take i L)) ∙ ap (keep (trades_at orders n buys p)) all;
          qtys = s.qtys_too.done ∙ ap (λ (k : List ℕ). map (λ j. (order_in orders j).qty) (keep (trades_at orders n buys p) k)) all;
        }
