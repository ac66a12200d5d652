-- How a reader goes over the records of an area, one after another. Private functions alone cite it.
use Rattle.std.specs.Prelude.{ℕ, ◌+◌, Bool, true, false, ◌&&◌, ◌||◌, ◌==◌, nat_lt, nat_le, max, if◌then◌else◌, Option, None, Some, unwrap_or, List, [], ◌∷◌, ◌++◌, length}
use Rattle.std.specs.Option.{option_or}
use Rattle.paxos_base.specs.declared.rows.TableSize.{TableSize}
use Rattle.paxos_base.specs.declared.durable.Durable.{Durable}
use Rattle.paxos_base.specs.declared.entry.Vote.{Vote}
use Rattle.paxos_base.specs.declared.rows.JobRow.{JobRow}
use Rattle.paxos_base.specs.Ballot.{round_of}
use Rattle.paxos_base.specs.Rows.{fits_table, row_count}
use Rattle.paxos_base.specs.Vote.{votes_below, put_vote}
use Rattle.store_format.specs.Area.{rows_of_group}
use Rattle.store_format.specs.declared.body.Record.{Record}
use Rattle.store_format.specs.declared.body.Record.TheVariants.{Tried, Promised, Voted, Base, Row}
use Rattle.store_format.specs.declared.place.Place.{Place}
use Rattle.store_format.specs.declared.place.Place.TheVariants.{Start, Rows, CopyStart, CopyTried, CopyPromised, CopyVotes, Log}

-- the ballot is above the promise
abbrev pub is_above : ℕ → Option ℕ → Bool
is_above ballot None = true
is_above ballot (Some promised) = nat_lt promised ballot

-- the ballot is the promised one or above it
abbrev pub is_at_least : ℕ → Option ℕ → Bool
is_at_least ballot None = true
is_at_least ballot (Some promised) = nat_le promised ballot

-- the change of the record may follow what is kept
abbrev pub keeps_order : Durable → Record → Bool
keeps_order kept (Tried ballot) = nat_lt kept.tried (round_of ballot) && is_above ballot kept.promised
keeps_order kept (Promised ballot) = is_above ballot kept.promised
keeps_order kept (Voted vote) = is_at_least vote.ballot kept.promised && nat_le kept.base vote.slot
keeps_order kept (Base slot count) = false
keeps_order kept (Row slot row) = false

-- the group of a base may have so many rows: those of a table of that size, or those of its jobs alone
abbrev pub may_have_rows : TableSize → ℕ → Bool
may_have_rows size count = (count == row_count size) || (count == size.jobs)

-- the place behind so many rows of a group, which has this many in all
abbrev pub group_place : ℕ → ℕ → Place
group_place total count = if count == total then CopyStart else Rows total

-- rows of a group are to come
abbrev pub is_in_group : Place → Bool
is_in_group (Rows total) = true
is_in_group place = false

-- the row may be the next of its group: the rows are in the order of their numbers, and the last is the table's own
abbrev pub is_next_row : TableSize → Durable → ℕ → JobRow → Bool
is_next_row size kept slot row = (slot == kept.base) && ((row.job == length kept.rows) && fits_table size row)

-- the copy may go on with a Tried
abbrev pub takes_own : Place → Bool
takes_own CopyStart = true
takes_own place = false

-- the copy may go on with a Promised
abbrev pub takes_promise : Place → Bool
takes_promise CopyStart = true
takes_promise CopyTried = true
takes_promise place = false

-- the copy may go on with votes
abbrev pub takes_votes : Place → Bool
takes_votes Start = false
takes_votes (Rows total) = false
takes_votes Log = false
takes_votes place = true

-- all votes are below the slot
abbrev pub is_behind : ℕ → List Vote → Bool
is_behind slot votes = length (votes_below slot votes) == length votes

-- the place in the copy behind the record, where the copy goes on with it
abbrev pub copy_place : Place → Durable → Record → Option Place
copy_place place kept (Tried ballot) = if takes_own place then Some CopyTried else None
copy_place place kept (Promised ballot) = if takes_promise place && is_above ballot kept.promised then Some CopyPromised else None
copy_place place kept (Voted vote) =
    if takes_votes place && (nat_le kept.base vote.slot && is_behind vote.slot kept.votes) then Some CopyVotes else None
copy_place place kept (Base slot count) = None
copy_place place kept (Row slot row) = None

-- the place in the log behind the record, where the log goes on with it
abbrev pub log_place : Durable → Record → Option Place
log_place kept item = if keeps_order kept item then Some Log else None

-- the place behind the record, where it may come next
abbrev pub next_place : TableSize → Place → Durable → Record → Option Place
next_place size Start kept (Base slot count) = if may_have_rows size count then Some (group_place count 0) else None
next_place size (Rows total) kept (Row slot row) =
    if is_next_row size kept slot row then Some (group_place total (length kept.rows + 1)) else None
next_place size (Rows total) kept item = None
next_place size place kept item = option_or (copy_place place kept item) (log_place kept item)

-- the rows of a group at a place in it or behind it: behind it the table's own is added, if it is lacking
abbrev pub rows_at : TableSize → Place → List JobRow → List JobRow
rows_at size place rows = if takes_own place then rows_of_group size rows else rows

-- what is kept after the record, which leads to the place: the greatest ballot is promised
abbrev pub taken : TableSize → Place → Record → Durable → Durable
taken size place (Tried ballot) kept = record kept { tried = round_of ballot; promised = Some ballot }
taken size place (Promised ballot) kept = record kept { promised = Some ballot }
taken size place (Voted vote) kept =
    record kept { promised = Some (max (unwrap_or kept.promised 0) vote.ballot); votes = put_vote vote kept.votes }
taken size place (Base slot count) kept = record kept { base = slot; rows = rows_at size place [] }
taken size place (Row slot row) kept = record kept { rows = rows_at size place (kept.rows ++ row ∷ []) }
