-- One replica comes to lead: by itself, or alone among others.
use Rattle.std.proofs.Common.{◌≡◌, ◌⊎◌, ℕ, zero, suc, ◌<◌, ◌≤◌, List, [], ℤ, sym, ap, inl, inr, arith, subst}
use Rattle.std.proofs.lemmas.Bool.{cases_lt}
use Rattle.due_set.specs.Table.{Table}
use Rattle.launch_machine.specs.Clerk.{first_rows, table_size}
use Rattle.paxos_base.specs.declared.entry.Entry.{Entry}
use Rattle.paxos_base.specs.declared.rows.JobRow.{JobRow}
use Rattle.step_spec.specs.Step.{IsLaunchTable}
use Rattle.agreement.specs.Log.{IsLog}
use Rattle.history.specs.Book.{Row, standing_after, votes_in}
use Rattle.history.specs.Legal.{IsLegal}
use Rattle.synchronous_rounds.specs.Cluster.{Cluster}
use Rattle.script_semantics.specs.Settling.{IsQuiet, coordinator}
use Rattle.script_semantics.specs.Situation.{Situation}
use Rattle.settling.specs.Quiet.{EndsQuietly}
use Rattle.settling.specs.Leads.{GoesDrainRound}
use Rattle.settling.specs.Rounds.{IsFaultless}
use Rattle.settling.specs.Stands.{StandsForCluster}
use Rattle.settling.proofs.ClusterLemmas.{round_leaves_no_fault}
use Rattle.settling.specs.Campaigns.{GoesCampaign}
use Rattle.settling.specs.Within.{IsOnItsWay, LeadsWithin}
use Rattle.settling.proofs.FirstLemmas.{first_campaign}
use Rattle.settling.proofs.PhaseLemmas.{comes_nearer, quiet_leads}
use Rattle.settling.proofs.CampaignRoundLemmas.{drain_leaves_no_fault}
use Rattle.settling.proofs.TurnLemmas as turn
use Rattle.settling.specs.Drain.{HasFewerLeft}
use Rattle.settling.specs.Idle.{IsIdleAt}
use Rattle.settling.proofs.DrainLeadLemmas.{alone_has_table, drained, goes_round}
use Rattle.settling.proofs.DrainIdleLemmas.{ends_quietly}
use Rattle.settling.proofs.AloneBookLemmas.{campaign_is_won, round_leads, round_brings_nearer, round_leaves_right}
use Rattle.settling.proofs.AloneBookLemmas as itself_at
use Rattle.settling.proofs.QuietLemmas.{quiet_ends}
use Rattle.settling.specs.Settles.{LeadsNow, LeadsSoon, among, itself}

-- ---- one that leads

-- one that leads by itself, said of the one replica of a cluster of one
of_one : (P : (members who : ℕ) → Type 0) (members who : ℕ) → members ≡ 1 → who ≡ 0 → P 1 0 → P members who
of_one P members who one first p = subst (λ m. P m who) (sym one) (subst (λ w. P 1 w) (sym first) p)

to_one : (P : (members who : ℕ) → Type 0) (members who : ℕ) → members ≡ 1 → who ≡ 0 → P members who → P 1 0
to_one P members who one first p = subst (λ w. P 1 w) first (subst (λ m. P m who) one p)

pub leads_on : (members : ℕ) (table : Table) (who : ℕ) (at : ℤ) (book rows : List Row) (situation after : Situation) → LeadsNow members table who situation → GoesDrainRound members table who at book rows situation after → LeadsNow members table who after
leads_on members table who at book rows situation after (itself one first leads) goes =
    itself one first (round_leads table at book rows situation after leads
    (to_one (λ m w. GoesDrainRound m table w at book rows situation after) members who one first goes))
leads_on members table who at book rows situation after (among alone) goes =
    among (drained members table who at book rows situation after alone (goes_round members table who at book rows situation after alone goes)).alone

pub leads_nearer : (members : ℕ) (table : Table) (who : ℕ) (at : ℤ) (book rows : List Row) (situation after : Situation) → LeadsNow members table who situation → GoesDrainRound members table who at book rows situation after → IsIdleAt table who at situation ⊎ HasFewerLeft table who situation after
leads_nearer members table who at book rows situation after (itself one first leads) goes =
    subst (λ w. IsIdleAt table w at situation ⊎ HasFewerLeft table w situation after) (sym first)
    (round_brings_nearer table at book rows situation after leads
    (to_one (λ m w. GoesDrainRound m table w at book rows situation after) members who one first goes))
leads_nearer members table who at book rows situation after (among alone) goes =
    (drained members table who at book rows situation after alone (goes_round members table who at book rows situation after alone goes)).nearer

pub now_has_table : (members : ℕ) (table : Table) (who : ℕ) (situation : Situation) → LeadsNow members table who situation → (rows : List JobRow) × IsLaunchTable table (situation.standing.replicas who) rows
now_has_table members table who situation (itself one first leads) = (
  leads.at.rows,
  subst (λ w. IsLaunchTable table (situation.standing.replicas w) leads.at.rows) (sym first)
      (subst (λ t. IsLaunchTable t (situation.standing.replicas 0) leads.at.rows) leads.over leads.leading.launch),
)
now_has_table members table who situation (among alone) = alone_has_table members table who situation alone

pub now_ends : (members : ℕ) (table : Table) (who : ℕ) (at : ℤ) (book : List Row) (situation : Situation) (log : List Entry) → IsLegal members table book → situation.standing ≡ standing_after members (first_rows table) book → LeadsNow members table who situation → IsQuiet members table who at situation → IsLog members (votes_in book) log → EndsQuietly members table book who at situation log
now_ends members table who at book situation log legal standing (itself one first leads) quiet is_log =
    of_one (λ m w. EndsQuietly m table book w at situation log) members who one first
    (quiet_ends table at book situation log
    (to_one (λ m w. IsQuiet m table w at situation) members who one first quiet)
    (subst (λ m. IsLegal m table book) one legal)
    (subst (λ m. situation.standing ≡ standing_after m (first_rows table) book) one standing)
    (subst (λ m. IsLog m (votes_in book) log) one is_log))
now_ends members table who at book situation log legal standing (among alone) quiet is_log =
    ends_quietly members table who at book situation log legal standing alone quiet is_log

-- ---- one that is to lead

-- the coordinator of one
first_of_one : (members : ℕ) (situation : Situation) → members ≡ 1 → coordinator members situation ≡ 0
first_of_one members situation one = ap (λ m. coordinator m situation) one

-- one replica, or more
one_or_more : (members : ℕ) → 1 ≤ members → (members ≡ 1) ⊎ (2 ≤ members)
one_or_more members some = elim (cases_lt members 2) [ inl less ↦ inl (omega (arith, some, less)) | inr more ↦ inr more ]

pub first_leads : (members : ℕ) (table : Table) (at : ℤ) (book rows : List Row) (situation after : Situation) → 1 ≤ members → GoesCampaign members table (coordinator members situation) at book rows situation after → ((who : ℕ) → who < members → situation.mails who ≡ []) → LeadsSoon 4 members table (coordinator members situation) after
first_leads members table at book rows situation after some goes none = elim (one_or_more members some) [
  | inl one ↦
      let first = first_of_one members situation one in
      inl (itself one first (campaign_is_won table at book rows situation after
      (to_one (λ m w. GoesCampaign m table w at book rows situation after) members (coordinator members situation) one first goes)
      (none 0 (omega (arith, some)))))
  | inr more ↦ soon (first_campaign members table at book rows situation after more goes none)
]
  where
    soon : LeadsWithin 4 members table (coordinator members situation) after → LeadsSoon 4 members table (coordinator members situation) after
    soon (inl alone) = inl (among alone)
    soon (inr on_its_way) = inr on_its_way

pub soon_nearer : (rounds members : ℕ) (table : Table) (who : ℕ) (at : ℤ) (book rows : List Row) (situation after : Situation) → LeadsSoon (suc rounds) members table who situation → GoesDrainRound members table who at book rows situation after → LeadsSoon rounds members table who after
soon_nearer rounds members table who at book rows situation after (inl leads) goes = inl (leads_on members table who at book rows situation after leads goes)
soon_nearer rounds members table who at book rows situation after (inr on_its_way) goes = soon (comes_nearer rounds members table who at book rows situation after goes (inr on_its_way))
  where
    soon : LeadsWithin rounds members table who after → LeadsSoon rounds members table who after
    soon (inl alone) = inl (among alone)
    soon (inr still) = inr still

pub soon_quiet : (rounds members : ℕ) (table : Table) (who : ℕ) (at : ℤ) (situation : Situation) → LeadsSoon rounds members table who situation → IsQuiet members table who at situation → LeadsNow members table who situation
soon_quiet rounds members table who at situation (inl leads) quiet = leads
soon_quiet rounds members table who at situation (inr on_its_way) quiet = among (quiet_leads rounds members table who at situation (inr on_its_way) quiet)

pub soon_last : (members : ℕ) (table : Table) (who : ℕ) (situation : Situation) → LeadsSoon 0 members table who situation → LeadsNow members table who situation
soon_last members table who situation (inl leads) = leads
soon_last members table who situation (inr on_its_way) = absurd on_its_way

-- ---- faults

pub campaign_faultless : (members : ℕ) (table : Table) (at : ℤ) (book rows : List Row) (situation after : Situation) → 1 ≤ members → GoesCampaign members table (coordinator members situation) at book rows situation after → IsFaultless members after
campaign_faultless members table at book rows situation after some goes = elim (one_or_more members some) [
  | inl one ↦
      let first = first_of_one members situation one in
      subst (λ m. IsFaultless m after) (sym one) (itself_at.campaign_leaves_no_fault table at book rows situation after
      (to_one (λ m w. GoesCampaign m table w at book rows situation after) members (coordinator members situation) one first goes))
  | inr more ↦ turn.campaign_leaves_no_fault members table (coordinator members situation) at book rows situation after more goes
]

-- one of several that is on its way, and what stands for its situation
record IsOnTheWay (members : ℕ) (table : Table) (situation : Situation) : Type 0 where
  more : 2 ≤ members
  cluster : Cluster
  stands : StandsForCluster members (table_size table) situation cluster

way_of : (rounds members : ℕ) (table : Table) (who : ℕ) (situation : Situation) → IsOnItsWay rounds members table who situation → IsOnTheWay members table situation
way_of zero members table who situation way = absurd way
way_of (suc zero) members table who situation way = record { more = way.campaigned.one.more; cluster = _; stands = way.stands }
way_of (suc (suc zero)) members table who situation way = record { more = way.one.first.campaigned.one.more; cluster = _; stands = way.stands }
way_of (suc (suc (suc zero))) members table who situation way = record { more = way.one.first.campaigned.one.more; cluster = _; stands = way.stands }
way_of (suc (suc (suc (suc zero)))) members table who situation way = record { more = way.first.campaigned.one.more; cluster = _; stands = way.stands }
way_of (suc (suc (suc (suc (suc more))))) members table who situation way = absurd way

pub soon_faultless : (rounds members : ℕ) (table : Table) (who : ℕ) (at : ℤ) (book rows : List Row) (situation after : Situation) → LeadsSoon rounds members table who situation → GoesDrainRound members table who at book rows situation after → IsFaultless members after
soon_faultless rounds members table who at book rows situation after (inr on_its_way) goes =
    let way = way_of rounds members table who situation on_its_way in
    drain_leaves_no_fault members table who at book rows situation after way.cluster way.more goes way.stands
soon_faultless rounds members table who at book rows situation after (inl leads) goes = go leads
  where
    go : LeadsNow members table who situation → IsFaultless members after
    go (itself one first by) =
        subst (λ m. IsFaultless m after) (sym one) (round_leaves_right table at book rows situation after by
        (to_one (λ m w. GoesDrainRound m table w at book rows situation after) members who one first goes))
    go (among alone) = round_leaves_no_fault members table at book rows situation after alone.cluster (goes_round members table who at book rows situation after alone goes) alone.stands
