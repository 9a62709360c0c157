-- The declared kinds of calls and phases, by number.
use Rattle.std.specs.Prelude.{ℕ}
use Rattle.auction_engine.specs.Call.{screen_kind, clear_kind, allocate_kind, exercise_kind, close_kind, settle_kind, skip_kind, finish_kind, expire_kind}
use Rattle.auction_engine.specs.declared.Kind.{Kind}
use Rattle.auction_engine.specs.declared.Phase.{Phase}
use Rattle.auction_engine.specs.declared.Phase.TheVariants.{Commit, Reveal, Allocating, IssuerRofr, Settling, Printed, Failed, Clearing}
use Rattle.auction_engine.specs.declared.Kind.TheVariants.{Screen, Clear, Allocate, Exercise, Close, Settle, Skip, Finish, Expire}

abbrev pub kind_number : Kind → ℕ
kind_number Screen = screen_kind
kind_number Clear = clear_kind
kind_number Allocate = allocate_kind
kind_number Exercise = exercise_kind
kind_number Close = close_kind
kind_number Settle = settle_kind
kind_number Skip = skip_kind
kind_number Finish = finish_kind
kind_number Expire = expire_kind

-- 'Commit 0, Reveal 1, Allocating 2, IssuerRofr 3, Settling 4, Printed 5, Failed 6, Clearing 7'
abbrev pub phase_number : Phase → ℕ
phase_number Commit = 0
phase_number Reveal = 1
phase_number Allocating = 2
phase_number IssuerRofr = 3
phase_number Settling = 4
phase_number Printed = 5
phase_number Failed = 6
phase_number Clearing = 7
