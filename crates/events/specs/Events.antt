-- A call's events are a list.
use Rattle.std.specs.Prelude.{ℕ, ◌+◌}
use Rattle.book.specs.Limits.{max_fills}

-- the most events of one call: every fill, and the change of phase
abbrev pub max_events : ℕ
max_events = max_fills + 1
