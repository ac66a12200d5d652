-- What the records of an area stand for, and the first of them that is at fault. Source: docs/WIRE.md.
use Rattle.std.specs.Prelude.{◌≡◌, ◌⊎◌, ℕ, ◌+◌, ◌<◌, ◌≤◌, ◌==◌, nat_lt, if◌then◌else◌, Option, None, Some, List, [], ◌∷◌, ◌++◌, length, map, take, All, Contains, IfSome}
use Rattle.std.specs.List.{filter_map}
use Rattle.paxos_base.specs.declared.rows.TableSize.{TableSize}
use Rattle.paxos_base.specs.declared.durable.Durable.{Durable}
use Rattle.paxos_base.specs.declared.entry.Vote.{Vote}
use Rattle.paxos_base.specs.declared.rows.JobRow.{JobRow}
use Rattle.paxos_base.specs.Rows.{AreNumbered, RowsStand, fresh_row, fresh_rows, row_count}
use Rattle.paxos_base.specs.Vote.{SlotsRise, votes_from}
use Rattle.paxos_base.specs.Ballot.{IsAbove}
use Rattle.store_format.specs.declared.body.Record.{Record}
use Rattle.store_format.specs.declared.body.Record.TheVariants.{Tried, Promised, Voted, Base, Row}
use Rattle.store_format.specs.Order.{IsChangeLog, own_round}
use Rattle.store_format.specs.Records.{AreRecords, IsRecord, record_ballot, own_ballot}

-- what a replica keeps at first: nothing was tried, promised or voted for, and each row is fresh
abbrev pub fresh_kept : TableSize → Durable
fresh_kept size = record { tried = 0; promised = None; votes = []; base = 0; rows = fresh_rows (row_count size) }

-- the group of a base: its slot and how many rows follow, and then the rows, each with that slot
abbrev pub group_of : ℕ → List JobRow → List Record
group_of slot rows = Base slot (length rows) ∷ map (λ row. Row slot row) rows

-- The rows of a group are those of a table of that size, in format 2, or those of its jobs alone, one for each in the order of
-- their numbers, in format 1.
abbrev pub GroupStands : TableSize → List JobRow → Type 0
GroupStands size rows = RowsStand rows size ⊎ AreNumbered rows size.jobs

-- the rows that those of a group stand for: behind those of the jobs alone the table's own is added, with nothing in it
abbrev pub rows_of_group : TableSize → List JobRow → List JobRow
rows_of_group size rows = if length rows == size.jobs then rows ++ fresh_row size.jobs ∷ [] else rows

-- a copy of what a replica kept beside the rows: its own ballot, a promise and its votes
pub record Copy : Type 0 where
  pub tried : Option ℕ
  pub promised : Option ℕ
  pub votes : List Vote

-- the record of a round that was tried, if one was
abbrev pub tried_records : Option ℕ → List Record
tried_records None = []
tried_records (Some ballot) = Tried ballot ∷ []

-- the record of a promise, if there is one
abbrev pub promised_records : Option ℕ → List Record
promised_records None = []
promised_records (Some ballot) = Promised ballot ∷ []

-- the records of a copy: at most one Tried, then at most one Promised, then the votes
abbrev pub copy_records : Copy → List Record
copy_records copy =
    tried_records copy.tried ++ (promised_records copy.promised ++ map (λ vote. Voted vote) copy.votes)

-- The copy may stand after the group of a base: its promise is above its own ballot, and its votes are at slots that rise,
-- from the base on. Their ballots may be any.
pub record IsCopy (base : ℕ) (copy : Copy) : Type 0 where
  pub above : IfSome copy.promised (λ ballot. IsAbove ballot copy.tried)
  pub rise : SlotsRise copy.votes
  pub from_base : All (λ vote. base ≤ vote.slot) copy.votes

-- no copy that the records begin with is longer
abbrev pub IsLongest : ℕ → Copy → List Record → Type 0
IsLongest base copy items =
    (other : Copy) (rest : List Record) → IsCopy base other → items ≡ copy_records other ++ rest
    → length (copy_records other) ≤ length (copy_records copy)

-- the greatest of ballots; None where there are none
abbrev pub IsGreatest : Option ℕ → List ℕ → Type 0
IsGreatest None ballots = ballots ≡ []
IsGreatest (Some greatest) ballots = Contains ballots greatest × All (λ ballot. ballot ≤ greatest) ballots

-- what is kept after a base's group and a copy
abbrev pub after_copy : ℕ → List JobRow → Copy → Option ℕ → Durable
after_copy slot rows copy promised =
    record { tried = own_round copy.tried; promised = promised; votes = copy.votes; base = slot; rows = rows }

-- The records begin with the group of a base, whose rows stand in one of the two formats. After it stands a copy, the longest
-- there, after which the greatest ballot in it is promised; and after that a log.
pub record StandsFromBase (size : TableSize) (items : List Record) (kept : Durable) : Type 0 where
  pub slot : ℕ
  pub rows : List JobRow
  pub copy : Copy
  pub promised : Option ℕ
  pub log : List Record
  pub parts : items ≡ group_of slot rows ++ (copy_records copy ++ log)
  pub rows_stand : GroupStands size rows
  pub is_copy : IsCopy slot copy
  pub longest : IsLongest slot copy (copy_records copy ++ log)
  pub greatest : IsGreatest promised (filter_map record_ballot (copy_records copy))
  pub is_log : IsChangeLog size (after_copy slot (rows_of_group size rows) copy promised) log kept

-- The records stand for what is kept, of a table of that size: they are a log from the fresh state on, or begin with the
-- group of a base.
abbrev pub Stands : TableSize → List Record → Durable → Type 0
Stands size items kept = IsChangeLog size (fresh_kept size) items kept ⊎ StandsFromBase size items kept

-- bodies stand for what is kept and the replica's own ballot
pub record StandFor (size : TableSize) (bodies : List (List ℕ)) (kept : Durable) (own : Option ℕ) : Type 0 where
  pub items : List Record
  pub are_records : AreRecords bodies items
  pub stands : Stands size items kept
  pub own_is : own ≡ own_ballot items

-- the bodies begin with a base of format 1, whose group has a row for each job and none of the table's own
abbrev pub BeginsInFormat1 : TableSize → List (List ℕ) → Type 0
BeginsInFormat1 size [] = ⊥
BeginsInFormat1 size (body ∷ bodies) = (slot : ℕ) × IsRecord body (Base slot size.jobs)

-- some list of bodies that begins with these stands for a state
pub record BodiesMayStand (size : TableSize) (bodies : List (List ℕ)) : Type 0 where
  pub rest : List (List ℕ)
  pub kept : Durable
  pub own : Option ℕ
  pub stand : StandFor size (bodies ++ rest) kept own

-- The first record at fault is the least k such that no list of bodies that begins with bodies 0 to k stands for a state;
-- where there is none, and yet the bodies stand for no state, it is their number.
pub record IsFirstRecordAtFault (size : TableSize) (bodies : List (List ℕ)) (k : ℕ) : Type 0 where
  pub within : k ≤ length bodies
  pub earlier : (j : ℕ) → j < k → BodiesMayStand size (take (j + 1) bodies)
  pub here : k < length bodies → BodiesMayStand size (take (k + 1) bodies) → ⊥
  pub for_none : (kept : Durable) (own : Option ℕ) → StandFor size bodies kept own → ⊥

-- the promise, where it is above the replica's own ballot
abbrev pub promise_above : Option ℕ → Option ℕ → Option ℕ
promise_above own None = None
promise_above None (Some promised) = Some promised
promise_above (Some ballot) (Some promised) = if nat_lt ballot promised then Some promised else None

-- The records of what is kept after a base: its group, the replica's own ballot, the promise where it is above that, and
-- the votes from the base on.
abbrev pub base_records : Durable → Option ℕ → ℕ → List JobRow → List Record
base_records kept own slot rows =
    group_of slot rows ++ copy_records (record { tried = own; promised = promise_above own kept.promised; votes = votes_from slot kept.votes })
