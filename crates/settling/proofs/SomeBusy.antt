-- A legal book of one replica over a job that is due at each minute: the replica stands for leader, starts a launch, calls the scheduler,
-- ends the launch, and starts the next one.
use Rattle.std.proofs.Common.{◌≡◌, ℕ, ◌<◌, zero, suc, true, Some, None, List, [], ◌∷◌, ℤ, refl, arith, lit<}
use Rattle.paxos_base.specs.Durable.{after_delta}
use Rattle.paxos_base.specs.Members.{with_member}
use Rattle.paxos_base.specs.Vote.{put_vote, vote_at, votes_from}
use Rattle.paxos_base.specs.declared.entry.Entry.{Entry}
use Rattle.paxos_base.specs.declared.entry.Kind.TheVariants.{Launch}
use Rattle.paxos_base.specs.declared.entry.Vote.{Vote}
use Rattle.paxos_base.specs.declared.rows.JobRow.{JobRow}
use Rattle.cluster_sched.specs.declared.fate.Fate.TheVariants.{Done}
use Rattle.cluster_sched.specs.declared.row.SchedRow.{SchedRow}
use Rattle.due_set.specs.Table.{Table}
use Rattle.launch_machine.specs.declared.machine.Intent.TheVariants as intent
use Rattle.step_spec.specs.Act.{after_act}
use Rattle.step_spec.specs.Folds.{calls_by, deltas_by, learnt_by, sent_by}
use Rattle.step_spec.specs.Propose.{answer, campaign, propose, tick}
use Rattle.step_spec.specs.Step.{Answer, Campaign, Tick, step}
use Rattle.step_spec.specs.declared.out.LearntRow.{LearntRow}
use Rattle.step_spec.proofs.Lists.{nothing_in}
use Rattle.history.specs.Book.{Row, after_row, first_standing, standing_after}
use Rattle.history.specs.Legal.{IsLegal, MayFollow}
use Rattle.history.specs.declared.turn.CallRow.{CallRow}
use Rattle.history.specs.declared.turn.Cause.TheVariants as cause
use Rattle.history.specs.declared.turn.Turn.TheVariants.{Did}
use Rattle.history.proofs.Asks.{busy, call_asked, end_applies, end_entry, idle, in_window, minute, opened, sound, start_applies, start_asked, start_entry, with_table}
use Rattle.history.proofs.Turns.{legal_append}
use Rattle.history.proofs.Keeping.{empty_is_legal}
use Rattle.script_semantics.specs.Situation.{Situation, after_turns, delivered, first_situation}
use Rattle.settling.specs.Leads.{GoesDrainRound}
use Rattle.settling.specs.Campaigns.{GoesCampaign}
use Rattle.settling.specs.Alone.{LeadsItself}
use Rattle.settling.proofs.AloneBookLemmas.{campaign_is_won, campaign_leaves_no_fault, round_leads, round_leaves_right}

abbrev vote : ℕ → Entry → Vote
vote slot entry = record { slot = slot; ballot = 8; entry = entry }

abbrev learnt : ℕ → Entry → LearntRow
learnt slot entry = record { slot = slot; entry = entry }

abbrev the_call : SchedRow
the_call = record { name = record { job = 0; at = minute 0 }; kind = Launch; now = record { 0 = minute 0 }; by = 0 }

abbrev answered_call : CallRow
answered_call = record { row = the_call; fate = Done; answer = Some the_call }

-- ---- its turns

abbrev stands_for : Row
stands_for = record { turn = Did 0 cause.Campaign None; event = Campaign; letters = []; votes = []; learnt = [] }

abbrev starts : Row
starts = record {
  turn = Did 0 (cause.Tick (record { 0 = minute 0 })) None;
  event = Tick (minute 0) (record { rows = with_table (idle 0); intent = intent.Start 0 (minute 0) });
  letters = [];
  votes = vote 0 (start_entry 0) ∷ [];
  learnt = learnt 0 (start_entry 0) ∷ [];
}

abbrev calls : Row
calls = record {
  turn = Did 0 (cause.Tick (record { 0 = minute 0 })) (Some answered_call);
  event = Tick (minute 0) (record { rows = with_table (opened 0); intent = intent.Call 0 (minute 0) Launch });
  letters = [];
  votes = [];
  learnt = [];
}

abbrev ends : Row
ends = record {
  turn = Did 0 cause.Answer None;
  event = Answer 0 (minute 0) Launch (with_table (opened 0));
  letters = [];
  votes = vote 1 (end_entry 0) ∷ [];
  learnt = learnt 1 (end_entry 0) ∷ [];
}

abbrev starts_next : Row
starts_next = record {
  turn = Did 0 (cause.Tick (record { 0 = minute 1 })) None;
  event = Tick (minute 1) (record { rows = with_table (idle 1); intent = intent.Start 0 (minute 1) });
  letters = [];
  votes = vote 2 (start_entry 1) ∷ [];
  learnt = learnt 2 (start_entry 1) ∷ [];
}

abbrev rows : List JobRow
rows = with_table (idle 0)

may_stand : MayFollow 1 busy (first_standing 1 rows) stands_for.turn stands_for
unfolding step campaign after_row after_act after_delta deltas_by learnt_by calls_by sent_by with_member
may_stand = (
  record { member = lit< tt; runs = refl; event_of = refl; planned = tt },
  record { letters = tt; votes = refl; learnt = refl; call = refl },
)

may_start : MayFollow 1 busy (standing_after 1 rows (stands_for ∷ [])) starts.turn starts
unfolding step campaign tick propose after_row after_act after_delta deltas_by learnt_by calls_by sent_by with_member votes_from vote_at put_vote
may_start = (
  record {
    member = lit< tt;
    runs = refl;
    event_of = (in_window 0 (lit< tt), record { rows = with_table (idle 0); intent = intent.Start 0 (minute 0) }, refl);
    planned = (refl, start_asked 0 (lit< tt));
  },
  record { letters = tt; votes = refl; learnt = refl; call = refl },
)

may_call : MayFollow 1 busy (standing_after 1 rows (stands_for ∷ starts ∷ [])) calls.turn calls
unfolding step campaign tick propose after_row after_act after_delta deltas_by learnt_by calls_by sent_by with_member votes_from vote_at put_vote
may_call = (
  record {
    member = lit< tt;
    runs = refl;
    event_of = (in_window 0 (lit< tt), record { rows = with_table (opened 0); intent = intent.Call 0 (minute 0) Launch }, refl);
    planned = ((with_table (opened 0), start_applies 0 (lit< tt), refl), call_asked 0);
  },
  record { letters = tt; votes = refl; learnt = refl; call = (refl, refl, refl) },
)

may_end : MayFollow 1 busy (standing_after 1 rows (stands_for ∷ starts ∷ calls ∷ [])) ends.turn ends
unfolding step campaign tick answer propose after_row after_act after_delta deltas_by learnt_by calls_by sent_by with_member votes_from vote_at put_vote
may_end = (
  record {
    member = lit< tt;
    runs = refl;
    event_of = record { row = the_call; waits = refl; plan = record { rows = with_table (opened 0); intent = intent.Rest }; is = refl };
    planned = (with_table (opened 0), start_applies 0 (lit< tt), refl);
  },
  record { letters = tt; votes = refl; learnt = refl; call = refl },
)

may_start_next : MayFollow 1 busy (standing_after 1 rows (stands_for ∷ starts ∷ calls ∷ ends ∷ [])) starts_next.turn starts_next
unfolding step campaign tick answer propose after_row after_act after_delta deltas_by learnt_by calls_by sent_by with_member votes_from vote_at put_vote
may_start_next = (
  record {
    member = lit< tt;
    runs = refl;
    event_of = (in_window 1 (lit< tt), record { rows = with_table (idle 1); intent = intent.Start 0 (minute 1) }, refl);
    planned = ((with_table (opened 0), start_applies 0 (lit< tt), (with_table (idle 1), end_applies 0, refl)), start_asked 1 (lit< tt));
  },
  record { letters = tt; votes = refl; learnt = refl; call = refl },
)

-- ---- the book

abbrev one_turn : List Row
one_turn = stands_for ∷ []

abbrev two_turns : List Row
two_turns = stands_for ∷ starts ∷ []

abbrev three_turns : List Row
three_turns = stands_for ∷ starts ∷ calls ∷ []

abbrev five_turns : List Row
five_turns = stands_for ∷ starts ∷ calls ∷ ends ∷ starts_next ∷ []

one_is_legal : IsLegal 1 busy one_turn
one_is_legal = legal_append 1 busy [] one_turn (empty_is_legal 1 busy) (may_stand, tt)

two_are_legal : IsLegal 1 busy two_turns
two_are_legal = legal_append 1 busy [] two_turns (empty_is_legal 1 busy) (may_stand, (may_start, tt))

three_are_legal : IsLegal 1 busy three_turns
three_are_legal = legal_append 1 busy [] three_turns (empty_is_legal 1 busy) (may_stand, (may_start, (may_call, tt)))

five_are_legal : IsLegal 1 busy five_turns
five_are_legal = legal_append 1 busy [] five_turns (empty_is_legal 1 busy) (may_stand, (may_start, (may_call, (may_end, (may_start_next, tt)))))

-- ---- what stands after each of its parts, and before the round of the next

abbrev goes_idle : Situation → Situation
goes_idle situation = delivered 0 (after_turns 1 situation [])

abbrev goes_by : List Row → Situation → Situation
goes_by turns situation = delivered 0 (after_turns 1 (goes_idle situation) turns)

abbrev start : Situation
start = first_situation 1 busy

abbrev elected : Situation
elected = delivered 0 (after_turns 1 start one_turn)

abbrev started_one : Situation
started_one = goes_by (starts ∷ []) elected

abbrev called : Situation
called = goes_by (calls ∷ []) started_one

abbrev ended : Situation
ended = goes_by (ends ∷ starts_next ∷ []) called

runs_all : (who : ℕ) → who < 1 → start.standing.runs who ≡ true
runs_all zero below = refl
runs_all (suc more) below = absurd (omega (arith, below))

goes_campaign : GoesCampaign 1 busy 0 (minute 0) [] one_turn start elected
unfolding after_row
goes_campaign = record {
  few = omega arith;
  sound = sound;
  within = in_window 0 (lit< tt);
  legal = one_is_legal;
  standing = refl;
  faultless = record { runs = runs_all; uncut = refl; right = λ who below. refl; done = λ who below. refl };
  round = record { turns = (record { made = None; is = refl; fate = tt }, refl); is = refl };
  limits = record { turns = omega arith; letters = λ letter has. nothing_in has };
}

leads_first : LeadsItself busy elected
leads_first = campaign_is_won busy (minute 0) [] one_turn start elected goes_campaign refl

goes_start : GoesDrainRound 1 busy 0 (minute 0) one_turn (starts ∷ []) elected started_one
unfolding step campaign after_row after_act after_delta with_member
goes_start = record {
  few = omega arith;
  sound = sound;
  within = in_window 0 (lit< tt);
  legal = two_are_legal;
  standing = refl;
  faultless = campaign_leaves_no_fault busy (minute 0) [] one_turn start elected goes_campaign;
  round = record {
    front = [];
    middle = goes_idle elected;
    back = starts ∷ [];
    parts = refl;
    one = record { turns = refl; is = refl };
    two = record { turns = (record { made = None; is = refl; fate = tt }, refl); is = refl };
  };
  limits = record { turns = omega arith; letters = λ letter has. nothing_in has };
}

leads_second : LeadsItself busy started_one
leads_second = round_leads busy (minute 0) one_turn (starts ∷ []) elected started_one leads_first goes_start

goes_call : GoesDrainRound 1 busy 0 (minute 0) two_turns (calls ∷ []) started_one called
unfolding step campaign tick propose after_row after_act after_delta with_member votes_from vote_at put_vote
goes_call = record {
  few = omega arith;
  sound = sound;
  within = in_window 0 (lit< tt);
  legal = three_are_legal;
  standing = refl;
  faultless = round_leaves_right busy (minute 0) one_turn (starts ∷ []) elected started_one leads_first goes_start;
  round = record {
    front = [];
    middle = goes_idle started_one;
    back = calls ∷ [];
    parts = refl;
    one = record { turns = refl; is = refl };
    two = record { turns = (record { made = Some answered_call; is = refl; fate = refl }, refl); is = refl };
  };
  limits = record { turns = omega arith; letters = λ letter has. nothing_in has };
}

leads_third : LeadsItself busy called
leads_third = round_leads busy (minute 0) two_turns (calls ∷ []) started_one called leads_second goes_call

goes_end : GoesDrainRound 1 busy 0 (minute 1) three_turns (ends ∷ starts_next ∷ []) called ended
unfolding step campaign tick propose after_row after_act after_delta with_member votes_from vote_at put_vote
goes_end = record {
  few = omega arith;
  sound = sound;
  within = in_window 1 (lit< tt);
  legal = five_are_legal;
  standing = refl;
  faultless = round_leaves_right busy (minute 0) two_turns (calls ∷ []) started_one called leads_second goes_call;
  round = record {
    front = [];
    middle = goes_idle called;
    back = ends ∷ starts_next ∷ [];
    parts = refl;
    one = record { turns = refl; is = refl };
    two = record { turns = (record { made = None; is = refl; fate = tt }, (record { made = None; is = refl; fate = tt }, refl)); is = refl };
  };
  limits = record { turns = omega arith; letters = λ letter has. nothing_in has };
}

answer_there : called.standing.waits 0 ≡ Some the_call
unfolding after_row
answer_there = refl

pub some_answer : (table : Table) × (at : ℤ) × (book : List Row) × (rows : List Row) × (situation : Situation) × (after : Situation) × (row : SchedRow)
    × LeadsItself table situation × GoesDrainRound 1 table 0 at book rows situation after × (situation.standing.waits 0 ≡ Some row)
some_answer = (busy, minute 1, three_turns, ends ∷ starts_next ∷ [], called, ended, the_call, leads_third, goes_end, answer_there)
