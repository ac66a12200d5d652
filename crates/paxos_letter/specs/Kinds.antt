-- The kinds of packets by their numbers. Source: docs/WIRE.md.
use Rattle.std.specs.Prelude.{ℕ}

-- the kind of a prepare
abbrev pub prepare : ℕ
prepare = 1

-- the kind of a promise
abbrev pub promise : ℕ
promise = 2

-- the kind of a vote that a promise reports
abbrev pub old_vote_kind : ℕ
old_vote_kind = 3

-- the kind of an accept
abbrev pub accept : ℕ
accept = 4

-- the kind of an accepted
abbrev pub accepted : ℕ
accepted = 5

-- the kind of a refusal
abbrev pub nack : ℕ
nack = 6

-- the kind of a chosen entry
abbrev pub known : ℕ
known = 7

-- the kind of a question for entries
abbrev pub ask_from : ℕ
ask_from = 8

-- the kind of a snapshot
abbrev pub snap : ℕ
snap = 9

-- the kind of a row of a snapshot
abbrev pub snap_row : ℕ
snap_row = 10

-- the kind of a leader's announcement
abbrev pub lead : ℕ
lead = 11
