-- The campaign of one that has learned the most, where no letter is on its way, is a first campaign.
use Rattle.std.proofs.Common.{◌≡◌, ℕ, ◌-◌, ◌<◌, ◌≤◌, List, [], None, ℤ, refl, sym, inr, arith, subst}
use Rattle.std.specs.List.{AllZip}
use Rattle.paxos_base.specs.declared.rows.TableSize.{TableSize}
use Rattle.paxos_base.specs.declared.rows.JobRow.{JobRow}
use Rattle.due_set.specs.Table.{Table}
use Rattle.launch_machine.specs.Clerk.{first_rows, table_size}
use Rattle.launch_machine.proofs.ExistLemmas.{all_applied}
use Rattle.step_spec.specs.Propose.{next_ballot}
use Rattle.step_spec.specs.State.{promised_in}
use Rattle.step_spec.specs.Step.{IsLaunchTable}
use Rattle.history.specs.Book.{Row, Standing, standing_after}
use Rattle.history.specs.Legal.{IsLegal}
use Rattle.synchronous_rounds.specs.Cluster.{Cluster}
use Rattle.synchronous_rounds.specs.Campaign.{HasCampaigned}
use Rattle.synchronous_rounds.specs.Made.{after_campaign, campaigned_at, own_votes}
use Rattle.synchronous_rounds.proofs.MadeLemmas.{first_made}
use Rattle.script_semantics.specs.Settling.{coordinator}
use Rattle.script_semantics.specs.Situation.{Situation}
use Rattle.script_semantics.proofs.CoordinatorLemmas.{furthest_most, furthest_within}
use Rattle.settling.specs.Stands.{IsLetterAt, StandsForCluster}
use Rattle.history.proofs.FrontLemmas.{front_legal}
use Rattle.settling.specs.Campaigns.{GoesCampaign, unanswered}
use Rattle.settling.specs.Within.{LeadsWithin}
use Rattle.settling.proofs.TriedLemmas.{next_is_new}
use Rattle.settling.proofs.TurnLemmas.{campaign_stands}
use Rattle.history.proofs.Standings.{fact_here}

-- what a situation stands for in which no letter waits
abbrev unread : Situation → Cluster
unread situation = record { replicas = situation.standing.replicas; waits = situation.standing.waits; mails = λ who. [] }

unread_stands : (members : ℕ) (size : TableSize) (situation : Situation) → ((who : ℕ) → who < members → situation.mails who ≡ []) → StandsForCluster members size situation (unread situation)
unread_stands members size situation empty = record {
  replicas = λ who below. refl;
  waits = λ who below. refl;
  mails = λ who below. subst (λ numbers. AllZip (IsLetterAt members size situation.standing.posted who) numbers []) (sym (empty who below)) tt;
}

-- none of the others has promised the ballot of the campaign
none_promised : (members : ℕ) (table : Table) (book : List Row) (situation : Situation) (who other : ℕ) → members ≤ 7 → IsLegal members table book → situation.standing ≡ standing_after members (first_rows table) book
    → who < members → other < members → promised_in (situation.standing.replicas other).kept ≡ next_ballot who (situation.standing.replicas who) → ⊥
none_promised members table book situation who other few legal is member below =
    subst (λ (s : Standing). promised_in (s.replicas other).kept ≡ next_ballot who (s.replicas who) → ⊥) (sym is)
    (next_is_new members table book other who few legal below member)

pub first_campaign : (members : ℕ) (table : Table) (at : ℤ) (book rows : List Row) (situation after : Situation) → 2 ≤ members
    → GoesCampaign members table (coordinator members situation) at book rows situation after → ((who : ℕ) → who < members → situation.mails who ≡ [])
    → LeadsWithin 4 members table (coordinator members situation) after
first_campaign members table at book rows situation after more goes empty = inr (record {
  first = record {
    cluster = after_campaign members who cluster;
    best = own_votes (cluster.replicas who);
    at = campaigned_at table launch.0 who (cluster.replicas who);
    over = refl;
    campaigned = campaigned;
  };
  stands = campaign_stands members table who at book rows situation after (unread situation) more goes (unread_stands members (table_size table) situation empty);
})
  where
    who : ℕ
    who = coordinator members situation

    member : who < members
    member = let within = furthest_within situation.standing.replicas (members - 1) in omega (arith, within, more)

    cluster : Cluster
    cluster = unanswered who (unread situation)

    launch : (rows : List JobRow) × IsLaunchTable table (cluster.replicas who) rows
    launch = all_applied table goes.sound (cluster.replicas who).kept.rows (cluster.replicas who).learned

    campaigned : HasCampaigned members who (own_votes (cluster.replicas who)) (campaigned_at table launch.0 who (cluster.replicas who)) (after_campaign members who cluster)
    campaigned =
        first_made members who table launch.0 cluster (record { member = member; few = goes.few; more = more }) (fact_here who None situation.standing.waits)
        (λ other below. refl)
        (λ other below. furthest_most situation.standing.replicas (members - 1) other (omega (arith, below)))
        (λ other below apart. none_promised members table book situation who other goes.few (front_legal members table book rows goes.legal) goes.standing member below)
        launch.1
