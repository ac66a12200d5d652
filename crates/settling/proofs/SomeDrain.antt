-- A legal book of two replicas over a table without jobs: the first campaigns, and three rounds of a drain follow.
use Rattle.std.proofs.Common.{◌≡◌, ℕ, zero, suc, ◌<◌, ◌≤◌, pos, List, [], ◌∷◌, ◌++◌, None, ℤ, refl, inl, inr, arith, subst, lit<}
use Rattle.paxos_base.specs.Durable.{after_delta}
use Rattle.paxos_base.specs.Members.{with_member}
use Rattle.paxos_base.specs.Vote.{votes_from}
use Rattle.paxos_letter.specs.declared.packet.Packet.TheVariants as packet
use Rattle.due_set.specs.Table.{Table}
use Rattle.launch_machine.specs.Clerk.{first_rows}
use Rattle.step_spec.specs.Act.{after_act}
use Rattle.step_spec.specs.Folds.{calls_by, deltas_by, learnt_by, sent_by}
use Rattle.step_spec.specs.Hear.{hear, hear_all, line, on_lead, on_prepare, on_promise}
use Rattle.step_spec.specs.Heard.{messages_of, packets_of}
use Rattle.step_spec.specs.May.{IsFollower}
use Rattle.step_spec.specs.Message.{Lead, Prepare, Promise}
use Rattle.step_spec.specs.Propose.{campaign, tick}
use Rattle.step_spec.specs.State.{State, prefix_of}
use Rattle.step_spec.specs.Step.{step}
use Rattle.term_core.specs.declared.term.Term.TheVariants.{Leader}
use Rattle.history.specs.Book.{PostedLetter, Row, after_row}
use Rattle.history.specs.Legal.{IsLegal}
use Rattle.history.proofs.SomeBook.{prepare_spells, promise_spells}
use Rattle.history.proofs.Turns.{legal_append}
use Rattle.history.proofs.Keeping.{empty_is_legal}
use Rattle.script_semantics.specs.Settling.{IsQuiet, coordinator}
use Rattle.script_semantics.specs.Situation.{Situation, after_turns, delivered}
use Rattle.settling.specs.Leads.{GoesDrainRound, LeadsAlone}
use Rattle.settling.specs.Campaigns.{GoesCampaign}
use Rattle.settling.specs.Within.{IsAfterYielding, LeadsWithin}
use Rattle.settling.proofs.FirstLemmas.{first_campaign}
use Rattle.settling.proofs.PhaseLemmas.{comes_nearer}
use Rattle.settling.proofs.SomeCampaignTurns.{May, AreShort, asks_nothing, campaigns, faultless_by, front_short, hears, hears_letter, in_window, lead_spells, letter_to, no_job, no_job_is_sound, none_long, one_more, posted_of, start, takes_campaign, takes_tick, ticks}

-- ---- the turns

abbrev stands_row : Row
stands_row = campaigns 0 (letter_to 1 0 (packet.Prepare 8 0) ∷ [])

abbrev promises_row : Row
promises_row = hears 1 0 0 (Prepare 8 0) (letter_to 0 1 (packet.Promise 8 0 0) ∷ [])

abbrev takes_lead_row : Row
takes_lead_row = hears 0 1 1 (Promise 8 0 []) []

abbrev tells_row : Row
tells_row = ticks 0 (letter_to 1 0 (packet.Lead 8 0) ∷ [])

abbrev hears_row : Row
hears_row = hears 1 2 0 (Lead 8 0) []

abbrev stands_for : List Row
stands_for = stands_row ∷ []

abbrev answered : List Row
answered = ticks 0 [] ∷ promises_row ∷ ticks 1 [] ∷ []

abbrev leads : List Row
leads = takes_lead_row ∷ tells_row ∷ ticks 1 [] ∷ []

abbrev leads_on : List Row
leads_on = tells_row ∷ hears_row ∷ ticks 1 [] ∷ []

-- ---- the situations

abbrev stood : Situation
stood = delivered 0 (after_turns 2 start stands_for)

abbrev heard : Situation
heard = delivered 1 (after_turns 2 (delivered 1 stood) answered)

abbrev led : Situation
led = delivered 2 (after_turns 2 (delivered 2 heard) leads)

abbrev led_on : Situation
led_on = delivered 3 (after_turns 2 (delivered 3 led) leads_on)

-- ---- the book is legal

may_stand : May [] stands_row
unfolding step campaign tick hear hear_all line on_lead on_prepare on_promise after_row after_act after_delta deltas_by learnt_by calls_by sent_by with_member votes_from packets_of messages_of
may_stand = (takes_campaign _ 0 (lit< tt) refl, record { letters = (record { to = refl; spells = prepare_spells }, tt); votes = refl; learnt = refl; call = refl })

may_tick : May stands_for (ticks 0 [])
unfolding step campaign tick hear hear_all line on_lead on_prepare on_promise after_row after_act after_delta deltas_by learnt_by calls_by sent_by with_member votes_from packets_of messages_of
may_tick = (takes_tick _ 0 (lit< tt) refl refl, record { letters = tt; votes = refl; learnt = refl; call = refl })

may_promise : May (stands_row ∷ ticks 0 [] ∷ []) promises_row
unfolding step campaign tick hear hear_all line on_lead on_prepare on_promise after_row after_act after_delta deltas_by learnt_by calls_by sent_by with_member votes_from packets_of messages_of
may_promise = (hears_letter _ 1 0 0 (packet.Prepare 8 0) (Prepare 8 0) (lit< tt) refl refl prepare_spells refl, record { letters = (record { to = refl; spells = promise_spells }, tt); votes = refl; learnt = refl; call = refl })

may_tick_too : May (stands_row ∷ ticks 0 [] ∷ promises_row ∷ []) (ticks 1 [])
unfolding step campaign tick hear hear_all line on_lead on_prepare on_promise after_row after_act after_delta deltas_by learnt_by calls_by sent_by with_member votes_from packets_of messages_of
may_tick_too = (takes_tick _ 1 (lit< tt) refl refl, record { letters = tt; votes = refl; learnt = refl; call = refl })

may_lead : May (stands_for ++ answered) takes_lead_row
unfolding step campaign tick hear hear_all line on_lead on_prepare on_promise after_row after_act after_delta deltas_by learnt_by calls_by sent_by with_member votes_from packets_of messages_of
may_lead = (hears_letter _ 0 1 1 (packet.Promise 8 0 0) (Promise 8 0 []) (lit< tt) refl refl promise_spells refl, record { letters = tt; votes = refl; learnt = refl; call = refl })

may_tell : May ((stands_for ++ answered) ++ takes_lead_row ∷ []) tells_row
unfolding step campaign tick hear hear_all line on_lead on_prepare on_promise after_row after_act after_delta deltas_by learnt_by calls_by sent_by with_member votes_from packets_of messages_of
may_tell = (takes_tick _ 0 (lit< tt) refl refl, record { letters = (record { to = refl; spells = lead_spells }, tt); votes = refl; learnt = refl; call = refl })

may_follow : May ((stands_for ++ answered) ++ takes_lead_row ∷ tells_row ∷ []) (ticks 1 [])
unfolding step campaign tick hear hear_all line on_lead on_prepare on_promise after_row after_act after_delta deltas_by learnt_by calls_by sent_by with_member votes_from packets_of messages_of
may_follow = (takes_tick _ 1 (lit< tt) refl refl, record { letters = tt; votes = refl; learnt = refl; call = refl })

may_tell_again : May ((stands_for ++ answered) ++ leads) tells_row
unfolding step campaign tick hear hear_all line on_lead on_prepare on_promise after_row after_act after_delta deltas_by learnt_by calls_by sent_by with_member votes_from packets_of messages_of
may_tell_again = (takes_tick _ 0 (lit< tt) refl refl, record { letters = (record { to = refl; spells = lead_spells }, tt); votes = refl; learnt = refl; call = refl })

may_hear : May (((stands_for ++ answered) ++ leads) ++ tells_row ∷ []) hears_row
unfolding step campaign tick hear hear_all line on_lead on_prepare on_promise after_row after_act after_delta deltas_by learnt_by calls_by sent_by with_member votes_from packets_of messages_of
may_hear = (hears_letter _ 1 2 0 (packet.Lead 8 0) (Lead 8 0) (lit< tt) refl refl lead_spells refl, record { letters = tt; votes = refl; learnt = refl; call = refl })

may_follow_on : May (((stands_for ++ answered) ++ leads) ++ tells_row ∷ hears_row ∷ []) (ticks 1 [])
unfolding step campaign tick hear hear_all line on_lead on_prepare on_promise after_row after_act after_delta deltas_by learnt_by calls_by sent_by with_member votes_from packets_of messages_of
may_follow_on = (takes_tick _ 1 (lit< tt) refl refl, record { letters = tt; votes = refl; learnt = refl; call = refl })

legal_first : IsLegal 2 no_job stands_for
legal_first = legal_append 2 no_job [] stands_for (empty_is_legal 2 no_job) (may_stand, tt)

legal_second : IsLegal 2 no_job (stands_for ++ answered)
legal_second = legal_append 2 no_job stands_for answered legal_first (may_tick, (may_promise, (may_tick_too, tt)))

legal_third : IsLegal 2 no_job ((stands_for ++ answered) ++ leads)
legal_third = legal_append 2 no_job (stands_for ++ answered) leads legal_second (may_lead, (may_tell, (may_follow, tt)))

legal_fourth : IsLegal 2 no_job (((stands_for ++ answered) ++ leads) ++ leads_on)
legal_fourth = legal_append 2 no_job ((stands_for ++ answered) ++ leads) leads_on legal_third (may_tell_again, (may_hear, (may_follow_on, tt)))

-- ---- it goes on

abbrev prepare_letter : PostedLetter
prepare_letter = posted_of 0 1 (packet.Prepare 8 0)

abbrev promise_letter : PostedLetter
promise_letter = posted_of 1 0 (packet.Promise 8 0 0)

abbrev lead_letter : PostedLetter
lead_letter = posted_of 0 1 (packet.Lead 8 0)

-- the letters of the book
all_short : AreShort (prepare_letter ∷ promise_letter ∷ lead_letter ∷ lead_letter ∷ [])
all_short =
    one_more 0 1 (packet.Prepare 8 0) (promise_letter ∷ lead_letter ∷ lead_letter ∷ []) prepare_spells
    (one_more 1 0 (packet.Promise 8 0 0) (lead_letter ∷ lead_letter ∷ []) promise_spells
    (one_more 0 1 (packet.Lead 8 0) (lead_letter ∷ []) lead_spells (one_more 0 1 (packet.Lead 8 0) [] lead_spells none_long)))

first_part : GoesCampaign 2 no_job 0 (pos 525_600) [] stands_for start stood
unfolding step campaign tick hear hear_all line on_lead on_prepare on_promise after_row after_act after_delta deltas_by learnt_by calls_by sent_by with_member votes_from packets_of messages_of
first_part = record {
  few = omega arith;
  sound = no_job_is_sound;
  within = in_window;
  legal = legal_first;
  standing = refl;
  faultless = faultless_by start refl refl refl refl refl;
  round = record { turns = (record { made = None; is = refl; fate = tt }, refl); is = refl };
  limits = record { turns = omega arith; letters = front_short (prepare_letter ∷ []) (promise_letter ∷ lead_letter ∷ lead_letter ∷ []) all_short };
}

first_round : GoesDrainRound 2 no_job 0 (pos 525_600) stands_for answered stood heard
unfolding step campaign tick hear hear_all line on_lead on_prepare on_promise after_row after_act after_delta deltas_by learnt_by calls_by sent_by with_member votes_from packets_of messages_of
first_round = record {
  few = omega arith;
  sound = no_job_is_sound;
  within = in_window;
  legal = legal_second;
  standing = refl;
  faultless = faultless_by stood refl refl refl refl refl;
  round = record {
    front = [];
    middle = delivered 1 stood;
    back = answered;
    parts = refl;
    one = record { turns = refl; is = refl };
    two = record { turns = (record { made = None; is = refl; fate = tt }, (record { made = None; is = refl; fate = tt }, (record { made = None; is = refl; fate = tt }, refl))); is = refl };
  };
  limits = record { turns = omega arith; letters = front_short (prepare_letter ∷ promise_letter ∷ []) (lead_letter ∷ lead_letter ∷ []) all_short };
}

second_round : GoesDrainRound 2 no_job 0 (pos 525_600) (stands_for ++ answered) leads heard led
unfolding step campaign tick hear hear_all line on_lead on_prepare on_promise after_row after_act after_delta deltas_by learnt_by calls_by sent_by with_member votes_from packets_of messages_of
second_round = record {
  few = omega arith;
  sound = no_job_is_sound;
  within = in_window;
  legal = legal_third;
  standing = refl;
  faultless = faultless_by heard refl refl refl refl refl;
  round = record {
    front = [];
    middle = delivered 2 heard;
    back = leads;
    parts = refl;
    one = record { turns = refl; is = refl };
    two = record { turns = (record { made = None; is = refl; fate = tt }, (record { made = None; is = refl; fate = tt }, (record { made = None; is = refl; fate = tt }, refl))); is = refl };
  };
  limits = record { turns = omega arith; letters = front_short (prepare_letter ∷ promise_letter ∷ lead_letter ∷ []) (lead_letter ∷ []) all_short };
}

third_round : GoesDrainRound 2 no_job 0 (pos 525_600) ((stands_for ++ answered) ++ leads) leads_on led led_on
unfolding step campaign tick hear hear_all line on_lead on_prepare on_promise after_row after_act after_delta deltas_by learnt_by calls_by sent_by with_member votes_from packets_of messages_of
third_round = record {
  few = omega arith;
  sound = no_job_is_sound;
  within = in_window;
  legal = legal_fourth;
  standing = refl;
  faultless = faultless_by led refl refl refl refl refl;
  round = record {
    front = [];
    middle = delivered 3 led;
    back = leads_on;
    parts = refl;
    one = record { turns = refl; is = refl };
    two = record { turns = (record { made = None; is = refl; fate = tt }, (record { made = None; is = refl; fate = tt }, (record { made = None; is = refl; fate = tt }, refl))); is = refl };
  };
  limits = record { turns = omega arith; letters = all_short };
}

-- ---- who leads

within_four : LeadsWithin 4 2 no_job 0 stood
within_four = first_campaign 2 no_job (pos 525_600) [] stands_for start stood (omega arith) first_part (λ who below. refl)

within_two : LeadsWithin 2 2 no_job 0 led
within_two =
    comes_nearer 2 2 no_job 0 (pos 525_600) (stands_for ++ answered) leads heard led second_round
    (comes_nearer 3 2 no_job 0 (pos 525_600) stands_for answered stood heard first_round within_four)

leads_now : (led.standing.replicas 0).term ≡ Leader 8 [] None
unfolding step campaign tick hear hear_all line on_lead on_prepare on_promise after_row after_act after_delta deltas_by learnt_by calls_by sent_by with_member votes_from packets_of messages_of
leads_now = refl

-- one that leads does not yield
not_yielding : IsAfterYielding 2 no_job 0 led → ⊥
not_yielding was =
    let follows : IsFollower (led.standing.replicas 0).term = subst (λ (s : State). IsFollower s.term) (was.stands.replicas 0 (omega arith)) was.yielded.follows in
    subst IsFollower leads_now follows

leads_by : LeadsWithin 2 2 no_job 0 led → LeadsAlone 2 no_job 0 led
leads_by (inl alone) = alone
leads_by (inr was) = absurd (not_yielding was)

quiet_now : IsQuiet 2 no_job 0 (pos 525_600) led
unfolding step campaign tick hear hear_all line on_lead on_prepare on_promise after_row after_act after_delta deltas_by learnt_by calls_by sent_by with_member votes_from packets_of messages_of
quiet_now = record { free = refl; answered = refl; rests = record { rows = first_rows no_job; rows_are = refl; rests = asks_nothing }; caught_up = caught_up }
  where
    caught_up : (other : ℕ) → other < 2 → prefix_of (led.standing.replicas other) ≡ prefix_of (led.standing.replicas 0)
    caught_up zero below = refl
    caught_up (suc zero) below = refl
    caught_up (suc (suc more)) below = absurd (omega (arith, below))

pub some_campaign : (members : ℕ) × (table : Table) × (at : ℤ) × (book : List Row) × (rows : List Row) × (situation : Situation) × (after : Situation)
    × (2 ≤ members) × GoesCampaign members table (coordinator members situation) at book rows situation after
    × ((who : ℕ) → who < members → situation.mails who ≡ [])
some_campaign = (2, no_job, pos 525_600, [], stands_for, start, stood, omega arith, first_part, λ who below. refl)

pub some_round : (rounds : ℕ) × (members : ℕ) × (table : Table) × (who : ℕ) × (at : ℤ) × (book : List Row) × (rows : List Row) × (situation : Situation) × (after : Situation)
    × GoesDrainRound members table who at book rows situation after × LeadsWithin (suc rounds) members table who situation
some_round = (3, 2, no_job, 0, pos 525_600, stands_for, answered, stood, heard, first_round, within_four)

pub some_leads : (members : ℕ) × (table : Table) × (who : ℕ) × (at : ℤ) × (book : List Row) × (rows : List Row) × (situation : Situation) × (after : Situation)
    × GoesDrainRound members table who at book rows situation after × LeadsAlone members table who situation
some_leads = (2, no_job, 0, pos 525_600, ((stands_for ++ answered) ++ leads), leads_on, led, led_on, third_round, leads_by within_two)

pub some_quiet : (members : ℕ) × (table : Table) × (who : ℕ) × (at : ℤ) × (situation : Situation) × LeadsAlone members table who situation × IsQuiet members table who at situation
some_quiet = (2, no_job, 0, pos 525_600, led, leads_by within_two, quiet_now)
