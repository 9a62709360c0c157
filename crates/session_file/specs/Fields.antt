-- The fields of a record, by its mark. `rec` is the record's bytes, its mark first.
use Rattle.std.specs.Prelude.{ℕ, List, None, Option, Some}
use Rattle.book.specs.declared.Params.{Params}
use Rattle.book.specs.declared.Given.{Given}
use Rattle.book.specs.declared.Row.{Row}
use Rattle.auction_engine.specs.declared.Call.{Call}
use Rattle.auction_engine.specs.declared.Call.TheVariants.{Screen, Clear, Allocate, Exercise, Close, Settle, Skip, Finish, Expire}
use Rattle.session_file.specs.declared.records.Mark.{Mark}
use Rattle.session_file.specs.declared.records.Mark.TheVariants.{Unknown, SH, SI, OR, SC, CL, AL, RX, RC, ST, SK, FN, EX}
use Rattle.octets.specs.Bytes.{word, bytes_at, time_at, flag_at}

-- `SH`: reveal_end 8, rofr_window 8, settle_deadline 8, max_cash 8, min_reveals 1, forced 1, rofr_authority 32
unfoldable pub params_of : List ℕ → Params
params_of rec =
    record {
      reveal_end = time_at rec 2;
      rofr_window = time_at rec 10;
      settle_deadline = time_at rec 18;
      max_cash = word 8 rec 26;
      min_reveals = word 1 rec 34;
      forced = flag_at rec 35;
      rofr_authority = bytes_at 32 rec 36;
    }

-- mark 1, reserve 8, reference 8, policy 1, band_bps 8
unfoldable pub given_of : List ℕ → Given
given_of rec =
    record {
      mark = flag_at rec 68;
      reserve = word 8 rec 69;
      reference = word 8 rec 77;
      policy = word 1 rec 85;
      band_bps = word 8 rec 86;
    }

-- `OR`: owner 32, side 1, escrowed 8, revealed 1, limit 8, qty 8
unfoldable pub row_of : List ℕ → Row
row_of rec =
    record {
      owner = bytes_at 32 rec 2;
      side = word 1 rec 34;
      escrowed = word 8 rec 35;
      revealed = flag_at rec 43;
      limit = word 8 rec 44;
      qty = word 8 rec 52;
    }

-- what reading finds: a refusal of 'Each record', or a header, an order or a call
pub data Read : Type 0 where
  refused : (refusal : ℕ) → Read
  header : Params → Given → Option ℕ → Read
  order : Row → Read
  call : Call → Read

-- the fields of each kind: '`SI` is `SH` plus one byte, decimals'; `SC` now 8, order 1, side 1, gate verdict 1, has-id 1, id 16; `CL` `FN` `EX` now; `AL` now, max_fills 1;
-- `RX` now, issuer 32, fill 4, qty 8; `RC` now, caller 32; `ST` fill 4; `SK` now, fill 4, reason 1
unfoldable pub fields_of : Mark → List ℕ → Read
fields_of Unknown rec = refused 2
fields_of SH rec = header (params_of rec) (given_of rec) None
fields_of SI rec = header (params_of rec) (given_of rec) (Some (word 1 rec 94))
fields_of OR rec = order (row_of rec)
fields_of SC rec =
    call (Screen (time_at rec 2) (word 1 rec 10) (word 1 rec 11) (word 1 rec 12) (flag_at rec 13) (bytes_at 16 rec 14))
fields_of CL rec = call (Clear (time_at rec 2))
fields_of AL rec = call (Allocate (time_at rec 2) (word 1 rec 10))
fields_of RX rec = call (Exercise (time_at rec 2) (bytes_at 32 rec 10) (word 4 rec 42) (word 8 rec 46))
fields_of RC rec = call (Close (time_at rec 2) (bytes_at 32 rec 10))
fields_of ST rec = call (Settle (word 4 rec 2))
fields_of SK rec = call (Skip (time_at rec 2) (word 4 rec 10) (word 1 rec 14))
fields_of FN rec = call (Finish (time_at rec 2))
fields_of EX rec = call (Expire (time_at rec 2))
