-- What is proved of the causes: proofs/Theorems.antt. That no two lines are equal is `OneToOne` of the listing.
use Rattle.std.specs.Prelude.{◌≡◌, ◌⊎◌, Bool, true, false, ℕ, ◌+◌, ◌≤◌, ◌<◌, slice_index}
use Rattle.laws.specs.Sums.{sum_of}
use Rattle.credit_math.specs.ProRata.{share}
use Rattle.book.specs.Book.{is_live, is_buy, is_excluded, max_kind}
use Rattle.listing.specs.declared.causes.Cause.{Cause}
use Rattle.listing.specs.declared.causes.Cause.TheVariants.{Unrevealed, Excluded, Priced, Share, Residue}
use Rattle.auction_engine.specs.declared.Session.{Session}
use Rattle.auction_engine.specs.Session.{order_at, allocating}
use Rattle.auction_engine.specs.Call.{limits_refusal, fields_refusal}
use Rattle.auction_engine.specs.Clearing.{outcome, all_ready}
use Rattle.inquiries.specs.Why.{price, lot_of, quantities, units_of, in_turn, cause_of, gives_lots}

module _ (s : Session) where
  -- nothing about the session refuses the question: it passes 9, 4 and 10
  pub record Asked : Type 0 where
    pub limits : limits_refusal s ≡ 0
    pub fields : fields_refusal s ≡ 0
    pub phase : s.phase ≡ allocating
    pub ready : all_ready s ≡ true
    pub lots : gives_lots s ≡ true

  -- the limit lies on the wrong side of the price, and on the right one
  abbrev pub Beyond : ℕ → Type 0
  Beyond i = (is_buy (order_at s i) ≡ true → (order_at s i).limit < price s) × (is_buy (order_at s i) ≡ false → price s < (order_at s i).limit)

  abbrev pub Within : ℕ → Type 0
  Within i = (is_buy (order_at s i) ≡ true → price s ≤ (order_at s i).limit) × (is_buy (order_at s i) ≡ false → (order_at s i).limit ≤ price s)

  -- 'Share = floor(total × quantity / sum)': of the volume, by the quantities that share it on the order's side
  abbrev pub share_of : ℕ → ℕ
  share_of i = share (outcome s).volume (sum_of (quantities s (is_buy (order_at s i)))) (order_at s i).qty

  -- the turn is the order's: so many units of its side go to the orders before it, and one to it
  pub record HasTurn (i turn : ℕ) : Type 0 where
    pub before : ℕ
    pub from_one : turn ≡ before + 1
    pub some_left : before < units_of s (is_buy (order_at s i))
    pub stands : slice_index (in_turn s (is_buy (order_at s i))) before ≡ i

  -- what is so of an order whose true cause it is
  abbrev pub TrueCause : ℕ → Cause → Type 0
  TrueCause i Unrevealed = (order_at s i).revealed ≡ false
  TrueCause i (Excluded kind) =
      ((order_at s i).revealed ≡ true) × (is_excluded (order_at s i) ≡ true) × (kind ≡ (order_at s i).exclusion) × (0 < kind) × (kind ≤ max_kind)
  TrueCause i (Priced limit p) = (is_live (order_at s i) ≡ true) × Beyond i × (limit ≡ (order_at s i).limit) × (p ≡ price s)
  TrueCause i (Share lot) = (is_live (order_at s i) ≡ true) × Within i × (lot ≡ lot_of s i) × (lot ≡ share_of i)
  TrueCause i (Residue lot turn) =
      (is_live (order_at s i) ≡ true) × Within i × (lot ≡ lot_of s i) × (lot ≡ share_of i + 1) × HasTurn i turn

  -- 'largest quantity first, ties to the lower id': order i comes before order j
  abbrev pub Precedes : (i j : ℕ) → Type 0
  Precedes i j = ((order_at s j).qty < (order_at s i).qty) ⊎ (((order_at s i).qty ≡ (order_at s j).qty) × (i < j))

  -- a turn of a side is told to one order of it
  pub record TurnTold (buys : Bool) (turn : ℕ) : Type 0 where
    pub order : ℕ
    pub below : order < s.order_count
    pub side : is_buy (order_at s order) ≡ buys
    pub told : cause_of s order ≡ Residue (lot_of s order) turn

  -- two orders of one side
  pub record Beside (i j : ℕ) : Type 0 where
    pub first_below : i < s.order_count
    pub second_below : j < s.order_count
    pub one_side : is_buy (order_at s i) ≡ is_buy (order_at s j)

  pub record TrueCauses : Type 0 where
    -- 'Each order gets exactly one line, its true cause'
    pub right : (i : ℕ) → i < s.order_count → TrueCause i (cause_of s i)
    pub one_cause : (i : ℕ) → i < s.order_count → (c : Cause) → TrueCause i c → c ≡ cause_of s i
    -- 'turns from 1': the turns of a side are 1 up to the units of its residue, each once
    pub each : (buys : Bool) (turn : ℕ) → 0 < turn → turn ≤ units_of s buys → TurnTold buys turn
    pub once : (i j : ℕ) → Beside i j → (a b turn : ℕ) → cause_of s i ≡ Residue a turn → cause_of s j ≡ Residue b turn → i ≡ j
    pub no_other : (i : ℕ) → i < s.order_count → (a turn : ℕ) → cause_of s i ≡ Residue a turn → (0 < turn) × (turn ≤ units_of s (is_buy (order_at s i)))
    -- and they go by the rule of the residue: an earlier turn to an order that comes before, and a share alone to one that comes behind all units
    pub in_order : (i j : ℕ) → Beside i j → (a b t u : ℕ) → cause_of s i ≡ Residue a t → cause_of s j ≡ Residue b u → t < u → Precedes i j
    pub behind : (i j : ℕ) → Beside i j → (a b t : ℕ) → cause_of s i ≡ Residue a t → cause_of s j ≡ Share b → Precedes i j

abbrev pub CausesAreTrue : Type 0
CausesAreTrue = (s : Session) → Asked s → TrueCauses s
