-- A leader that has voted at its prefix in its own ballot, as it does where another asks it to, votes there once more.
use Rattle.std.proofs.Common.{◌≡◌, zero, suc, pos, List, [], ◌∷◌, Some, None, refl, ap, arith}
use Rattle.due_set.specs.Table.{Table}
use Rattle.launch_machine.specs.declared.machine.Intent.TheVariants as intent
use Rattle.paxos_base.specs.Durable.{after_delta}
use Rattle.paxos_base.specs.Members.{only_member}
use Rattle.paxos_base.specs.Vote.{put_vote, vote_at, votes_below, votes_from}
use Rattle.paxos_base.specs.declared.durable.Delta.{Delta}
use Rattle.paxos_base.specs.declared.durable.Delta.TheVariants.{Voted}
use Rattle.paxos_base.specs.declared.entry.Entry.TheVariants.{Noop}
use Rattle.paxos_base.specs.declared.entry.Vote.{Vote}
use Rattle.term_core.specs.declared.term.Term.TheVariants.{Leader}
use Rattle.step_spec.specs.Coherent.{AreUpTo, IsCoherent}
use Rattle.step_spec.specs.Folds.{deltas_by, deltas_of}
use Rattle.step_spec.specs.Propose.{propose, tick}
use Rattle.step_spec.specs.State.{Identity, State}
use Rattle.step_spec.specs.Step.{Event, IsPlanned, Tick, step}
use Rattle.durable_changes.proofs.Altering.{choose_changes}
use Rattle.step_spec.proofs.ListLemmas.{nothing_found}

abbrev pub first_of_three : Identity
first_of_three = record { me = 0; members = 3 }

abbrev pub no_jobs : Table
no_jobs = record { window = record { from = record { 0 = pos 525_600 }; until = record { 0 = pos 525_601 } }; grace = 0; zones = []; jobs = []; later = [] }

-- a vote for a no-op at slot 0 in the second ballot of replica 0
abbrev pub own_vote : Vote
own_vote = record { slot = 0; ballot = 16; entry = Noop }

-- it leads in that ballot, has cast that vote, and was told of another at slot 1 in the first ballot of replica 1
abbrev pub leader : State
leader = record {
  kept = record { tried = 2; promised = Some 16; votes = own_vote ∷ []; base = 0; rows = [] };
  learned = [];
  term = Leader 16 (record { slot = 1; ballot = 9; entry = Noop } ∷ []) None;
  seen = 16;
}

abbrev pub tick_now : Event
tick_now = Tick (pos 525_600) (record { rows = []; intent = intent.Rest })

up_to_own : AreUpTo 16 (own_vote ∷ [])
up_to_own zero d within = omega arith
up_to_own (suc k) d within = absurd (omega (arith, within))

pub is_coherent : IsCoherent first_of_three leader
is_coherent = record {
  promised = omega arith;
  term = (record { promised = refl; member = refl; round = refl }, tt);
  votes = up_to_own;
}

pub is_planned : IsPlanned no_jobs leader tick_now
is_planned = (refl, ((λ job at may. nothing_found job may.is_row), (λ job at takes. nothing_found job takes.is_row), (λ version takes. absurd (omega (arith, takes.own)))))

pub votes_again : deltas_of (step first_of_three tick_now leader) ≡ Voted own_vote ∷ []
unfolding step tick propose deltas_by votes_from vote_at
votes_again = ap (λ (changes : List Delta). Voted own_vote ∷ changes) (choose_changes 3 (only_member 0) 0 Noop)

pub alters_nothing : after_delta (Voted own_vote) leader.kept ≡ leader.kept
unfolding after_delta put_vote votes_below votes_from
alters_nothing = refl
