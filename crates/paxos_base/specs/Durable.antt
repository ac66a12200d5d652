-- What a replica keeps on its disk, and how it changes. Source: "Paxos Made Simple"; the base is this project's.
use Rattle.std.specs.Prelude.{Some}
use Rattle.paxos_base.specs.declared.durable.Delta.{Delta}
use Rattle.paxos_base.specs.declared.durable.Delta.TheVariants.{Tried, Promised, Voted, Base}
use Rattle.paxos_base.specs.declared.durable.Durable.{Durable}
use Rattle.paxos_base.specs.Ballot.{round_of}
use Rattle.paxos_base.specs.Vote.{put_vote, votes_from}

-- What is kept after a change: a ballot that was tried, promised or voted for is promised; a vote takes its slot's place;
-- a new base brings its rows, and the votes below it go.
unfoldable pub after_delta : Delta → Durable → Durable
after_delta (Tried ballot) kept = record kept { tried = round_of ballot; promised = Some ballot }
after_delta (Promised ballot) kept = record kept { promised = Some ballot }
after_delta (Voted vote) kept = record kept { promised = Some vote.ballot; votes = put_vote vote kept.votes }
after_delta (Base slot rows) kept = record kept { votes = votes_from slot kept.votes; base = slot; rows = rows }
