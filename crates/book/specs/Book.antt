-- Orders and fills.
use Rattle.std.specs.Prelude.{Bool, false, if◌then◌else◌, not, ◌&&◌, List, [], ℕ, ◌==◌, nat_lt, nat_le, slice_index_or, replicate}
use Rattle.book.specs.declared.Order.{Order}
use Rattle.book.specs.declared.Fill.{Fill}
use Rattle.book.specs.declared.Row.{Row}

-- sides: Buy 0, Sell 1
abbrev pub buy_side : ℕ
buy_side = 0

abbrev pub sell_side : ℕ
sell_side = 1

-- 'rofr_authority 32 (zeros: none)'
abbrev pub no_wallet : List ℕ
no_wallet = replicate 32 0

-- '`NO_INVESTOR` is taken as sixteen zero bytes'
abbrev pub no_investor : List ℕ
no_investor = replicate 16 0

-- what stands past the end of an array, by the language: array fields are then empty
abbrev pub no_order : Order
no_order =
    record {
      owner = [];
      side = 0;
      escrowed = 0;
      revealed = false;
      limit = 0;
      qty = 0;
      alloc = 0;
      alloc_left = 0;
      screened = false;
      eligible = false;
      exclusion = 0;
      investor_id = [];
    }

abbrev pub no_fill : Fill
no_fill = record { buyer = []; seller = []; qty = 0; rofr = false; settled = false }

abbrev pub order_in : List Order → ℕ → Order
order_in orders i = slice_index_or orders i no_order

abbrev pub fill_in : List Fill → ℕ → Fill
fill_in fills i = slice_index_or fills i no_fill

-- an order as a file lists it: not screened, with no lot, no exclusion kind and no id
abbrev pub listed : Row → Order
listed row =
    record {
      owner = row.owner;
      side = row.side;
      escrowed = row.escrowed;
      revealed = row.revealed;
      limit = row.limit;
      qty = row.qty;
      alloc = 0;
      alloc_left = 0;
      screened = false;
      eligible = false;
      exclusion = 0;
      investor_id = no_investor;
    }

-- an order with other values in the fields that calls write
abbrev pub reorder : Order → (alloc left : ℕ) (screened eligible : Bool) (exclusion : ℕ) (id : List ℕ) → Order
reorder o a left screened eligible exclusion id =
    record {
      owner = o.owner;
      side = o.side;
      escrowed = o.escrowed;
      revealed = o.revealed;
      limit = o.limit;
      qty = o.qty;
      alloc = a;
      alloc_left = left;
      screened = screened;
      eligible = eligible;
      exclusion = exclusion;
      investor_id = id;
    }

-- unused places of the two arrays
abbrev pub empty_order : Order
empty_order = listed (record { owner = no_wallet; side = 0; escrowed = 0; revealed = false; limit = 0; qty = 0 })

abbrev pub empty_fill : Fill
empty_fill = record { buyer = no_wallet; seller = no_wallet; qty = 0; rofr = false; settled = false }

-- `is_live`: takes part in the clear
unfoldable pub is_live : Order → Bool
is_live o = o.revealed && o.screened && o.eligible

-- 'the order's being excluded': it was screened, and does not take part
unfoldable pub is_excluded : Order → Bool
is_excluded o = o.screened && not o.eligible

-- 'Exclusion kinds, 1 to 8 or 0': Blocklisted 1 to NotSeasoned 6, SelfTrade 7, InvestorCapExceeded 8
abbrev pub max_kind : ℕ
max_kind = 8

-- no kind 'above 8 or at odds with the order's being excluded': an excluded order has one, any other has none
unfoldable pub kind_fits : Order → Bool
kind_fits o = if is_excluded o then nat_lt 0 o.exclusion && nat_le o.exclusion max_kind else o.exclusion == 0

abbrev pub is_buy : Order → Bool
is_buy o = o.side == buy_side
