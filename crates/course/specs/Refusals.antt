-- The numbers with which a call is refused, by row of 'Turning away'. proofs/Refusals.antt proves it.
use Rattle.std.specs.Prelude.{if◌then◌else◌, List, [], ◌∷◌, ℕ, nat_le}
use Rattle.laws.specs.Lists.{Member}
use Rattle.auction_engine.specs.declared.Session.{Session}
use Rattle.auction_engine.specs.declared.CallRecord.{CallRecord}
use Rattle.auction_engine.specs.Call.{expire_kind}
use Rattle.auction_engine.specs.declared.Call.{Call}
use Rattle.auction_engine.specs.declared.Call.TheVariants.{Screen, Clear, Allocate, Exercise, Close, Settle, Skip, Finish, Expire}
use Rattle.auction_engine.specs.Engine.{answer, call_of, applied}

-- the numbers of a call's row, in the order of its checks
abbrev pub numbers_of : Call → List ℕ
numbers_of (Screen now i side verdict has_id id) = 11 ∷ 10 ∷ 12 ∷ 13 ∷ 14 ∷ 15 ∷ []
numbers_of (Clear now) = 11 ∷ 10 ∷ 16 ∷ 17 ∷ []
numbers_of (Allocate now n) = 10 ∷ 18 ∷ []
numbers_of (Exercise now issuer i q) = 10 ∷ 11 ∷ 19 ∷ 20 ∷ 18 ∷ 21 ∷ 22 ∷ []
numbers_of (Close now caller) = 10 ∷ 19 ∷ []
numbers_of (Settle i) = 10 ∷ 21 ∷ 23 ∷ []
numbers_of (Skip now i reason) = 10 ∷ 21 ∷ 23 ∷ 24 ∷ []
numbers_of (Finish now) = 10 ∷ 25 ∷ 17 ∷ []
numbers_of (Expire now) = 10 ∷ 11 ∷ []

-- a call answers 0, where it is accepted, or 9 or 4 ('Library call, any'), or a number of its row
abbrev pub RefusedByItsRow : Type 0
RefusedByItsRow = (s : Session) (c : Call) → Member (answer s c).refusal (0 ∷ 9 ∷ 4 ∷ numbers_of c)

-- the same of a call record; one of a kind above 8 has no row
abbrev pub record_numbers : CallRecord → List ℕ
record_numbers r = if nat_le r.kind expire_kind then numbers_of (call_of r) else []

abbrev pub RecordRefusedByItsRow : Type 0
RecordRefusedByItsRow = (s : Session) (r : CallRecord) → Member (applied s r).refusal (0 ∷ 9 ∷ 4 ∷ record_numbers r)
