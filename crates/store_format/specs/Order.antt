-- Which changes may follow what is kept, and what a log of changes leads to.
-- Source: "Paxos Made Simple", section 2.2: an acceptor remembers its highest promise and its latest vote; docs/WIRE.md.
use Rattle.std.specs.Prelude.{◌≡◌, ℕ, ◌<◌, ◌≤◌, Option, None, Some, List, map, take, slice_get, All, IfSome, IsSomeAnd}
use Rattle.std.specs.List.{fold}
use Rattle.paxos_base.specs.declared.rows.TableSize.{TableSize}
use Rattle.paxos_base.specs.declared.durable.Delta.{Delta}
use Rattle.paxos_base.specs.declared.durable.Delta.TheVariants.{Tried as TriedDelta, Promised as PromisedDelta, Voted as VotedDelta, Base as BaseDelta}
use Rattle.paxos_base.specs.declared.durable.Durable.{Durable}
use Rattle.paxos_base.specs.Ballot.{round_of, IsAbove, IsAtLeast}
use Rattle.paxos_base.specs.Durable.{after_delta}
use Rattle.paxos_base.specs.Rows.{RowsStand}
use Rattle.paxos_base.specs.Vote.{SlotsRise}
use Rattle.store_format.specs.declared.body.Record.{Record}
use Rattle.store_format.specs.declared.body.Record.TheVariants.{Tried, Promised, Voted}

-- The change may follow what is kept. A round that is tried is above every earlier one, a ballot that is tried or promised
-- is above the promise, and a ballot that is voted in is the promised one or above it. A vote is at a slot from the base
-- on. A base is above the one before it, and has the rows of a table of that size.
abbrev pub ChangeMayFollow : TableSize → Durable → Delta → Type 0
ChangeMayFollow size kept (TriedDelta ballot) = (kept.tried < round_of ballot) × IsAbove ballot kept.promised
ChangeMayFollow size kept (PromisedDelta ballot) = IsAbove ballot kept.promised
ChangeMayFollow size kept (VotedDelta vote) = IsAtLeast vote.ballot kept.promised × (kept.base ≤ vote.slot)
ChangeMayFollow size kept (BaseDelta slot rows) = (kept.base < slot) × RowsStand rows size

-- the record of a change; a base has none of its own, since it begins an area anew
abbrev pub delta_record : Delta → Option Record
delta_record (TriedDelta ballot) = Some (Tried ballot)
delta_record (PromisedDelta ballot) = Some (Promised ballot)
delta_record (VotedDelta vote) = Some (Voted vote)
delta_record (BaseDelta slot rows) = None

-- what is kept after changes, one after another
abbrev pub after_deltas : List Delta → Durable → Durable
after_deltas changes kept = fold (λ now change. after_delta change now) kept changes

-- The records lead from one state to another: they are those of changes, and each change may follow the state that the
-- changes before it leave.
pub record IsChangeLog (size : TableSize) (first : Durable) (items : List Record) (last : Durable) : Type 0 where
  pub changes : List Delta
  pub are_changes : map delta_record changes ≡ map (λ item. Some item) items
  pub may_follow : (k : ℕ) (change : Delta) → slice_get changes k ≡ Some change → ChangeMayFollow size (after_deltas (take k changes) first) change
  pub after : last ≡ after_deltas changes first

-- the round of the replica's own ballot, or 0 where it has none
abbrev pub own_round : Option ℕ → ℕ
own_round None = 0
own_round (Some ballot) = round_of ballot

-- the ballot is the promised one or below it
abbrev pub IsWithinPromise : Option ℕ → ℕ → Type 0
IsWithinPromise promised ballot = IsSomeAnd promised (λ other. ballot ≤ other)

-- Of what is kept, the highest round is that of the replica's own ballot, no ballot is above the promise, and the votes are
-- at slots from the base on.
pub record IsKeptSound (kept : Durable) (own : Option ℕ) : Type 0 where
  pub round : kept.tried ≡ own_round own
  pub own_promised : IfSome own (λ ballot. IsWithinPromise kept.promised ballot)
  pub votes_promised : All (λ vote. IsWithinPromise kept.promised vote.ballot) kept.votes
  pub votes_rise : SlotsRise kept.votes
  pub votes_from_base : All (λ vote. kept.base ≤ vote.slot) kept.votes

-- the replica's own ballot after a change
abbrev pub own_after : Delta → Option ℕ → Option ℕ
own_after (TriedDelta ballot) own = Some ballot
own_after (PromisedDelta ballot) own = own
own_after (VotedDelta vote) own = own
own_after (BaseDelta slot rows) own = own
