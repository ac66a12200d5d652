-- Legal books that settle: of one replica, and of more.
use Rattle.std.proofs.Common.{◌≡◌, ℕ, zero, suc, ◌<◌, List, [], ℤ, inl, inr, arith}
use Rattle.due_set.specs.Table.{Table}
use Rattle.history.specs.Book.{Row}
use Rattle.script_semantics.specs.Settling.{coordinator}
use Rattle.script_semantics.specs.Situation.{Situation}
use Rattle.settling.specs.Leads.{GoesDrainRound}
use Rattle.settling.specs.Campaigns.{GoesCampaign}
use Rattle.settling.specs.Within.{LeadsWithin}
use Rattle.settling.proofs.SomeDrain.{some_round}
use Rattle.settling.specs.Drain.{IsIdleFor}
use Rattle.settling.proofs.SomeIdle.{some_rest}
use Rattle.settling.proofs.SomeAlone.{some_campaign}
use Rattle.settling.specs.Settles.{HasBeenIdleFor, LeadsSoon, among}

within_soon : (rounds members : ℕ) (table : Table) (who : ℕ) (situation : Situation) → LeadsWithin rounds members table who situation → LeadsSoon rounds members table who situation
within_soon rounds members table who situation (inl alone) = inl (among alone)
within_soon rounds members table who situation (inr on_its_way) = inr on_its_way

rested_of : (rounds members : ℕ) (table : Table) (who : ℕ) (at : ℤ) (situation : Situation) → IsIdleFor rounds members table who at situation → HasBeenIdleFor rounds members table who at situation
rested_of zero members table who at situation (alone, rest) = (among alone, rest)
rested_of (suc more) members table who at situation (book, rows, before, rests, goes) =
    (book, rows, before, rested_of more members table who at before rests, goes)

pub some_one : (table : Table) × (at : ℤ) × (book : List Row) × (rows : List Row) × (situation : Situation) × (after : Situation)
    × GoesCampaign 1 table (coordinator 1 situation) at book rows situation after × ((who : ℕ) → who < 1 → situation.mails who ≡ [])
some_one = (some_campaign.0, some_campaign.1, some_campaign.2, some_campaign.3, some_campaign.4, some_campaign.5, some_campaign.6, none)
  where
    none : (who : ℕ) → who < 1 → some_campaign.4.mails who ≡ []
    none zero below = some_campaign.7
    none (suc more) below = absurd (omega (arith, below))

pub some_soon : (rounds : ℕ) × (members : ℕ) × (table : Table) × (who : ℕ) × (at : ℤ) × (book : List Row) × (rows : List Row) × (situation : Situation) × (after : Situation)
    × LeadsSoon (suc rounds) members table who situation × GoesDrainRound members table who at book rows situation after
some_soon =
    let (rounds, members, table, who, at, book, rows, situation, after, goes, within) = some_round in
    (rounds, members, table, who, at, book, rows, situation, after, within_soon (suc rounds) members table who situation within, goes)

pub some_rests : (members : ℕ) × (table : Table) × (who : ℕ) × (at : ℤ) × (book : List Row) × (rows : List Row) × (situation : Situation) × (after : Situation)
    × HasBeenIdleFor 5 members table who at situation × GoesDrainRound members table who at book rows situation after
some_rests =
    let (members, table, who, at, book, rows, situation, after, rests, goes) = some_rest in
    (members, table, who, at, book, rows, situation, after, rested_of 5 members table who at situation rests, goes)
