-- The numbers of a legal book.
use Rattle.std.proofs.Common.{ℕ, ◌+◌, ◌^◌, ◌<◌, ◌≤◌, List, length, sym, arith, subst}
use Rattle.std.specs.List.{Contains}
use Rattle.paxos_base.specs.declared.rows.JobRow.{JobRow}
use Rattle.due_set.specs.Table.{IsSound, Table}
use Rattle.launch_machine.specs.Clerk.{first_rows, table_size}
use Rattle.step_spec.specs.Step.{IsLaunchTable}
use Rattle.step_spec.proofs.Lists.{nothing_in}
use Rattle.agreement.specs.Transition.{after_transitions}
use Rattle.agreement.specs.World.{CastVote, World, first_world}
use Rattle.agreement.proofs.Tables.{all_of}
use Rattle.agreement.proofs.Transitions.{IsFollowed, first_followed, transitions_followed}
use Rattle.history.specs.Book.{PostedLetter, Row, learned_in, standing_after, votes_in}
use Rattle.history.specs.Legal.{IsLegal}
use Rattle.history.proofs.Reached.{Matches, reaches, steps_in}
use Rattle.history.specs.Numbers.{AreRowsBelow, AreRowsWithin, IsMessageWithin, IsSmallReplica, IsVoteWithin, IsWithin, SpellsWithin}
use Rattle.history.proofs.Bounded.{Bounded, bounded_more}
use Rattle.history.proofs.Counts.{all_in, rows_below}
use Rattle.history.proofs.Launched.{few_launched}
use Rattle.history.proofs.TurnBounds.{bounded_transitions}
use Rattle.history.proofs.Within.{launches_within, message_within, replica_within, vote_within}

-- a world that comes to what a legal book comes to, bounded by the book's turns
pub record Stands (n : ℕ) (table : Table) (book : List Row) : Type 0 where
  pub w : World
  pub followed : IsFollowed n table (first_rows table) w
  pub bounded : Bounded (length book) n w
  pub matches : Matches n (table_size table) (standing_after n (first_rows table) book) (votes_in book) (learned_in book) w

first_bounded : (n : ℕ) (rows : List JobRow) → n ≤ 7 → Bounded 0 n (first_world rows)
first_bounded n rows few = record {
  low = λ q member. record { tried = omega arith; promised = omega arith; seen = omega (arith, member, few); ended = omega arith; member = omega (arith, member) };
  said = λ q message has. nothing_in has;
  votes = λ q vote has. nothing_in has;
}

pub stands : (n : ℕ) (table : Table) (book : List Row) → n ≤ 7 → IsLegal n table book → Stands n table book
stands n table book few legal =
    let to = reaches n table book legal in
    let begins = first_followed n table (first_rows table) in
    record {
      w = after_transitions n to.turns (first_world (first_rows table));
      followed = transitions_followed n table (first_rows table) (first_world (first_rows table)) to.turns few begins to.are;
      bounded = bounded_more (0 + steps_in to.turns) (length book) n _ (omega (arith, to.few))
          (bounded_transitions 0 n table (first_rows table) (first_world (first_rows table)) to.turns few begins (first_bounded n (first_rows table) few) to.are);
      matches = to.matches;
    }

pub replicas_within : (n : ℕ) (table : Table) (book : List Row) (who : ℕ) → n ≤ 7 → IsLegal n table book → who < n → IsWithin (length book) ((standing_after n (first_rows table) book).replicas who)
replicas_within n table book who few legal member =
    let there = stands n table book few legal in
    subst (λ s. IsWithin (length book) s) (there.matches.replicas who) (replica_within (length book) n table there.w who few member there.followed there.bounded)

pub tables_within : (n : ℕ) (table : Table) (book : List Row) (who : ℕ) (rows : List JobRow) → n ≤ 7 → IsLegal n table book → IsLaunchTable table ((standing_after n (first_rows table) book).replicas who) rows → AreRowsWithin (length book) rows
tables_within n table book who rows few legal is_table =
    let there = stands n table book few legal in
    launches_within (length book) n table there.w who rows few there.followed there.bounded (subst (λ s. IsLaunchTable table s rows) (sym (there.matches.replicas who)) is_table)

pub votes_within : (n : ℕ) (table : Table) (book : List Row) (cast : CastVote) → n ≤ 7 → IsLegal n table book → Contains (votes_in book) cast → IsVoteWithin (length book) cast.vote
votes_within n table book cast few legal has =
    let there = stands n table book few legal in
    vote_within (length book) n there.w cast.by cast.vote there.followed.whole.kept there.bounded (subst (λ votes. Contains votes cast) (sym there.matches.cast) has)

pub letters_within : (n : ℕ) (table : Table) (book : List Row) (letter : PostedLetter) → n ≤ 7 → IsLegal n table book → Contains (standing_after n (first_rows table) book).posted letter → SpellsWithin n (length book) letter
letters_within n table book letter few legal posted =
    let there = stands n table book few legal in
    let spelled = there.matches.spelled letter posted in
    record {
      messages = spelled.messages;
      spells = spelled.spells;
      within = all_in (IsMessageWithin (length book)) spelled.messages (λ message has. message_within (length book) n table there.w letter.from message there.followed there.bounded (spelled.each message has));
    }

-- the launch table of a replica
pub launched_below : (n : ℕ) (table : Table) (book : List Row) (who : ℕ) (rows : List JobRow) → n ≤ 7 → IsLegal n table book → IsSound table → IsLaunchTable table ((standing_after n (first_rows table) book).replicas who) rows → AreRowsBelow (2 ^ 20) rows
launched_below n table book who rows few legal sound is_table =
    let there = stands n table book few legal in
    let at = all_of n table (first_rows table) there.w who rows there.followed.whole.known there.followed.tables (subst (λ s. IsLaunchTable table s rows) (sym (there.matches.replicas who)) is_table) in
    few_launched table at.entries rows sound at.applied

pub replicas_small : (n : ℕ) (table : Table) (book : List Row) (who : ℕ) → n ≤ 7 → IsSound table → IsLegal n table book → length book < 2 ^ 59 → who < n → IsSmallReplica table ((standing_after n (first_rows table) book).replicas who)
replicas_small n table book who few sound legal short member =
    let within = replicas_within n table book who few legal member in
    record {
      tried = omega (arith, within.tried, short);
      seen = omega (arith, within.seen, short);
      prefix = omega (arith, within.prefix, short);
      counts = λ rows is_table. rows_below (2 ^ 20) (2 ^ 31) rows (omega arith) (launched_below n table book who rows few legal sound is_table);
    }
