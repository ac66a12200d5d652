-- The numbers of replicas and messages of a world that is bounded.
use Rattle.std.proofs.Common.{ℕ, ◌+◌, ◌<◌, ◌≤◌, Some, None, List, length, arith}
use Rattle.paxos_base.specs.Ballot.{round_of}
use Rattle.paxos_base.specs.declared.entry.Vote.{Vote}
use Rattle.paxos_base.specs.declared.rows.JobRow.{JobRow}
use Rattle.due_set.specs.Table.{Table}
use Rattle.term_core.specs.declared.term.Term.{Term}
use Rattle.term_core.specs.declared.term.Term.TheVariants.{Follower, Candidate, Leader}
use Rattle.launch_machine.specs.Clerk.{first_rows}
use Rattle.step_spec.specs.Coherent.{FitsTerm, IsOwn}
use Rattle.step_spec.specs.May.{HasSaid}
use Rattle.step_spec.specs.Message.{Message, Prepare, Promise, Accept, Accepted, Nack, Known, AskFrom, Snap, Lead, Mention}
use Rattle.step_spec.specs.State.{prefix_of}
use Rattle.step_spec.specs.Step.{IsLaunchTable}
use Rattle.agreement.specs.Agree.{HasCast}
use Rattle.agreement.specs.World.{CastVote, World}
use Rattle.agreement.proofs.Kept.{Kept}
use Rattle.agreement.proofs.Tables.{IsTableAt, all_of}
use Rattle.agreement.proofs.Told.{AreBacked, HasHeard}
use Rattle.agreement.proofs.Transitions.{IsFollowed}
use Rattle.history.specs.Numbers.{AreRowsWithin, AreVotesWithin, IsMessageWithin, IsTermWithin, IsVoteWithin, IsWithin}
use Rattle.history.proofs.Bounded.{Bounded, ended_in, prefix_low}
use Rattle.history.proofs.Counts.{all_in, applied_within, first_within, rows_more}

-- a vote that was cast
pub vote_within : (most n : ℕ) (w : World) (q : ℕ) (vote : Vote) → Kept n w → Bounded most n w → HasCast w.cast q vote → IsVoteWithin most vote
vote_within most n w q vote kept bounded has =
    let low = bounded.low q (kept.members q vote has) in
    record { round = omega (arith, kept.below q vote has, low.promised); slot = bounded.votes q vote has }

backed_within : (most n : ℕ) (w : World) (ballot : ℕ) (votes : List Vote) → Kept n w → Bounded most n w → AreBacked w.cast ballot votes → AreVotesWithin most votes
backed_within most n w ballot votes kept bounded backed = all_in (IsVoteWithin most) votes (λ vote has.
    let (q, cast, lower) = backed vote has in vote_within most n w q vote kept bounded cast)

-- the rows of a launch table after the entries below a slot
pub table_within : (most n : ℕ) (table : Table) (cast : List CastVote) (slot : ℕ) (rows : List JobRow) → slot ≤ most → IsTableAt n table (first_rows table) cast slot rows → AreRowsWithin most rows
table_within most n table cast slot rows low at =
    rows_more (0 + length at.entries) most rows (omega (arith, at.long, low)) (applied_within table 0 (first_rows table) at.entries rows (first_within table) at.applied)

own_within : (most n q : ℕ) (w : World) (ballot : ℕ) → q < n → Bounded most n w → IsOwn (record { me = q; members = n }) (w.replicas q).kept ballot → round_of ballot ≤ most
own_within most n q w ballot member bounded own = rw (← own.promised) (bounded.low q member).promised

term_within : (most n : ℕ) (w : World) (q : ℕ) (term : Term) → q < n → Kept n w → Bounded most n w → prefix_of (w.replicas q) ≤ most → FitsTerm (record { me = q; members = n }) (w.replicas q).kept (prefix_of (w.replicas q)) term
    → HasHeard n w (prefix_of (w.replicas q)) term → round_of (ended_in term) ≤ most → IsTermWithin most term
term_within most n w q (Follower None) member kept bounded prefix fits heard ended = tt
term_within most n w q (Follower (Some ballot)) member kept bounded prefix fits heard ended = ended
term_within most n w q (Candidate ballot first set best) member kept bounded prefix fits heard ended =
    (own_within most n q w ballot member bounded fits, omega (arith, heard.up, prefix), backed_within most n w ballot best kept bounded heard.backed)
term_within most n w q (Leader ballot best None) member kept bounded prefix fits heard ended =
    (own_within most n q w ballot member bounded fits.0, backed_within most n w ballot best kept bounded heard.rallied.backed, tt)
term_within most n w q (Leader ballot best (Some flight)) member kept bounded prefix fits heard ended =
    (own_within most n q w ballot member bounded fits.0, backed_within most n w ballot best kept bounded heard.rallied.backed, omega (arith, fits.1.slot, prefix))

pub replica_within : (most n : ℕ) (table : Table) (w : World) (q : ℕ) → n ≤ 7 → q < n → IsFollowed n table (first_rows table) w → Bounded most n w → IsWithin most (w.replicas q)
replica_within most n table w q few member followed bounded =
    let low = bounded.low q member in
    let prefix = prefix_low most n table (first_rows table) w q few followed bounded in
    record {
      tried = low.tried;
      promised = low.promised;
      seen = low.seen;
      votes = all_in (IsVoteWithin most) (w.replicas q).kept.votes (λ vote has. vote_within most n w q vote followed.whole.kept bounded (followed.whole.kept.stored q vote has));
      term = term_within most n w q (w.replicas q).term member followed.whole.kept bounded prefix (followed.whole.kept.sound q member).term (followed.whole.told.terms q member) low.ended;
      base = omega (arith, prefix);
      prefix = prefix;
      rows = table_within most n table w.cast (w.replicas q).kept.base (w.replicas q).kept.rows (omega (arith, prefix)) (followed.tables.bases q);
    }

pub launches_within : (most n : ℕ) (table : Table) (w : World) (q : ℕ) (rows : List JobRow) → n ≤ 7 → IsFollowed n table (first_rows table) w → Bounded most n w → IsLaunchTable table (w.replicas q) rows → AreRowsWithin most rows
launches_within most n table w q rows few followed bounded is_table =
    table_within most n table w.cast (prefix_of (w.replicas q)) rows (prefix_low most n table (first_rows table) w q few followed bounded)
    (all_of n table (first_rows table) w q rows followed.whole.known followed.tables is_table)

pub message_within : (most n : ℕ) (table : Table) (w : World) (q : ℕ) (message : Message) → IsFollowed n table (first_rows table) w → Bounded most n w → HasSaid w.said q message → IsMessageWithin most message
message_within most n table w q message followed bounded has = go message has
  where
    kept : Kept n w
    kept = followed.whole.kept

    go : (message : Message) → HasSaid w.said q message → IsMessageWithin most message
    go (Prepare ballot slot) has = let told = bounded.said q (Prepare ballot slot) has in (told.round, told.slot)
    go (Promise ballot slot votes) has =
        let told = bounded.said q (Promise ballot slot votes) has in
        (told.round, told.slot, backed_within most n w ballot votes kept bounded (followed.whole.told.promises q ballot slot votes has).backed)
    go (Accept vote) has = vote_within most n w q vote kept bounded (kept.accepts q vote has).0
    go (Accepted ballot slot) has = let told = bounded.said q (Accepted ballot slot) has in (told.round, told.slot)
    go (Nack ballot promised) has = let told = bounded.said q (Nack ballot promised) has in (told.refused, told.round)
    go (Known slot entry) has = (bounded.said q (Known slot entry) has).slot
    go (AskFrom slot) has = (bounded.said q (AskFrom slot) has).slot
    go (Snap slot rows) has =
        let told = bounded.said q (Snap slot rows) has in
        (told.slot, table_within most n table w.cast slot rows told.slot (followed.tables.snaps q slot rows has))
    go (Lead ballot slot) has = let told = bounded.said q (Lead ballot slot) has in (told.round, told.slot)
    go (Mention ballot) has = (bounded.said q (Mention ballot) has).round
