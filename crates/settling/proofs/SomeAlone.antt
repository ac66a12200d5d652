-- A legal book of one replica over a table without jobs: the replica stands for leader, and its clock ticks.
use Rattle.std.proofs.Common.{◌≡◌, ℕ, ◌<◌, zero, suc, pos, true, None, List, [], ◌∷◌, ℤ, refl, arith, lit<}
use Rattle.paxos_base.specs.Durable.{after_delta}
use Rattle.paxos_base.specs.Members.{with_member}
use Rattle.paxos_base.specs.Vote.{votes_from}
use Rattle.due_set.proofs.SoundLemmas.{no_later}
use Rattle.due_set.specs.Table.{IsSound, Table}
use Rattle.launch_machine.specs.Clerk.{first_rows}
use Rattle.launch_machine.specs.declared.machine.Intent.TheVariants as intent
use Rattle.step_spec.specs.Act.{after_act}
use Rattle.step_spec.specs.Folds.{calls_by, deltas_by, learnt_by, sent_by}
use Rattle.step_spec.specs.Propose.{campaign, tick}
use Rattle.step_spec.specs.Step.{Campaign, Tick, step}
use Rattle.step_spec.proofs.Lists.{nothing_in}
use Rattle.history.specs.Book.{Row, after_row, first_standing, standing_after}
use Rattle.history.specs.Legal.{IsLegal, MayFollow}
use Rattle.history.specs.declared.turn.Cause.TheVariants as cause
use Rattle.history.specs.declared.turn.Turn.TheVariants.{Did}
use Rattle.history.proofs.Turns.{legal_append}
use Rattle.history.proofs.Keeping.{empty_is_legal}
use Rattle.script_semantics.specs.Situation.{Situation, after_turns, delivered, first_situation}
use Rattle.settling.specs.Leads.{GoesDrainRound}
use Rattle.settling.specs.Campaigns.{GoesCampaign}
use Rattle.settling.specs.Idle.{IsIdleAt}
use Rattle.settling.specs.Alone.{LeadsItself}
use Rattle.settling.proofs.AloneBookLemmas.{campaign_is_won, campaign_leaves_no_fault}
use Rattle.history.proofs.TableRows.{rests_without_jobs}

abbrev quiet_table : Table
quiet_table = record { window = record { from = record { 0 = pos 525_600 }; until = record { 0 = pos 525_601 } }; grace = 0; zones = []; jobs = []; later = [] }

quiet_is_sound : IsSound quiet_table
quiet_is_sound = record {
  limits = record { since = grind arith; until = grind arith; ordered = grind arith; short = grind arith };
  grace = grind arith;
  built = λ k d within. absurd (omega (arith, within));
  zone_numbers = λ k d within. absurd (omega (arith, within));
  few = grind arith;
  distinct = λ i j d before within. absurd (omega (arith, within));
  kinds = λ k d within. absurd (omega (arith, within));
  versions = no_later quiet_table;
}

abbrev stands_for : Row
stands_for = record { turn = Did 0 cause.Campaign None; event = Campaign; letters = []; votes = []; learnt = [] }

abbrev ticks : Row
ticks = record {
  turn = Did 0 (cause.Tick (record { 0 = pos 525_600 })) None;
  event = Tick (pos 525_600) (record { rows = first_rows quiet_table; intent = intent.Rest });
  letters = [];
  votes = [];
  learnt = [];
}

abbrev start : Situation
start = first_situation 1 quiet_table

abbrev elected : Situation
elected = delivered 0 (after_turns 1 start (stands_for ∷ []))

abbrev untouched : Situation
untouched = delivered 0 (after_turns 1 elected [])

may_stand : MayFollow 1 quiet_table (first_standing 1 (first_rows quiet_table)) stands_for.turn stands_for
unfolding step campaign after_row after_act after_delta deltas_by learnt_by calls_by sent_by with_member
may_stand = (
  record { member = lit< tt; runs = refl; event_of = refl; planned = tt },
  record { letters = tt; votes = refl; learnt = refl; call = refl },
)

may_tick : MayFollow 1 quiet_table (standing_after 1 (first_rows quiet_table) (stands_for ∷ [])) ticks.turn ticks
unfolding step campaign tick after_row after_act after_delta deltas_by learnt_by calls_by sent_by with_member votes_from
may_tick = (
  record {
    member = lit< tt;
    runs = refl;
    event_of = (record { since = grind arith; before = grind arith }, record { rows = first_rows quiet_table; intent = intent.Rest }, refl);
    planned = (refl, rests_without_jobs quiet_table (first_rows quiet_table) (pos 525_600) refl refl);
  },
  record { letters = tt; votes = refl; learnt = refl; call = refl },
)

one_is_legal : IsLegal 1 quiet_table (stands_for ∷ [])
one_is_legal = legal_append 1 quiet_table [] (stands_for ∷ []) (empty_is_legal 1 quiet_table) (may_stand, tt)

both_are_legal : IsLegal 1 quiet_table (stands_for ∷ ticks ∷ [])
both_are_legal = legal_append 1 quiet_table [] (stands_for ∷ ticks ∷ []) (empty_is_legal 1 quiet_table) (may_stand, (may_tick, tt))

runs_all : (who : ℕ) → who < 1 → start.standing.runs who ≡ true
runs_all zero below = refl
runs_all (suc more) below = absurd (omega (arith, below))

goes_campaign : GoesCampaign 1 quiet_table 0 (pos 525_600) [] (stands_for ∷ []) start elected
unfolding after_row
goes_campaign = record {
  few = omega arith;
  sound = quiet_is_sound;
  within = record { since = grind arith; before = grind arith };
  legal = one_is_legal;
  standing = refl;
  faultless = record { runs = runs_all; uncut = refl; right = λ who below. refl; done = λ who below. refl };
  round = record { turns = (record { made = None; is = refl; fate = tt }, refl); is = refl };
  limits = record { turns = omega arith; letters = λ letter has. nothing_in has };
}

pub some_campaign : (table : Table) × (at : ℤ) × (book : List Row) × (rows : List Row) × (situation : Situation) × (after : Situation)
    × GoesCampaign 1 table 0 at book rows situation after × (situation.mails 0 ≡ [])
some_campaign = (quiet_table, pos 525_600, [], stands_for ∷ [], start, elected, goes_campaign, refl)

leads : LeadsItself quiet_table elected
leads = campaign_is_won quiet_table (pos 525_600) [] (stands_for ∷ []) start elected goes_campaign refl

goes_round : GoesDrainRound 1 quiet_table 0 (pos 525_600) (stands_for ∷ []) (ticks ∷ []) elected (delivered 0 (after_turns 1 untouched (ticks ∷ [])))
unfolding step campaign after_row after_act after_delta with_member
goes_round = record {
  few = omega arith;
  sound = quiet_is_sound;
  within = record { since = grind arith; before = grind arith };
  legal = both_are_legal;
  standing = refl;
  faultless = campaign_leaves_no_fault quiet_table (pos 525_600) [] (stands_for ∷ []) start elected goes_campaign;
  round = record {
    front = [];
    middle = untouched;
    back = ticks ∷ [];
    parts = refl;
    one = record { turns = refl; is = refl };
    two = record { turns = (record { made = None; is = refl; fate = tt }, refl); is = refl };
  };
  limits = record { turns = omega arith; letters = λ letter has. nothing_in has };
}

at_rest : IsIdleAt quiet_table 0 (pos 525_600) elected
unfolding step campaign after_row after_act after_delta with_member votes_from
at_rest = record {
  free = refl;
  answered = refl;
  rests = record { rows = first_rows quiet_table; rows_are = refl; rests = rests_without_jobs quiet_table (first_rows quiet_table) (pos 525_600) refl refl };
}

pub some_drain_round : (table : Table) × (at : ℤ) × (book : List Row) × (rows : List Row) × (situation : Situation) × (after : Situation)
    × LeadsItself table situation × GoesDrainRound 1 table 0 at book rows situation after × IsIdleAt table 0 at situation
some_drain_round = (quiet_table, pos 525_600, stands_for ∷ [], ticks ∷ [], elected, delivered 0 (after_turns 1 untouched (ticks ∷ [])), leads, goes_round, at_rest)
