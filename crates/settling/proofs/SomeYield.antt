-- A legal book of two replicas over a table without jobs: the second has campaigned before, in a higher ballot, so the first yields.
use Rattle.std.proofs.Common.{ℕ, pos, List, [], ◌∷◌, ◌++◌, None, Option, ℤ, refl, sym, inl, inr, arith, subst, lit<}
use Rattle.paxos_base.specs.Durable.{after_delta}
use Rattle.paxos_base.specs.Members.{with_member}
use Rattle.paxos_base.specs.Vote.{votes_from}
use Rattle.paxos_base.specs.declared.entry.Vote.{Vote}
use Rattle.paxos_letter.specs.declared.packet.Packet.TheVariants as packet
use Rattle.due_set.specs.Table.{Table}
use Rattle.step_spec.specs.Act.{after_act}
use Rattle.step_spec.specs.Folds.{calls_by, deltas_by, learnt_by, sent_by}
use Rattle.step_spec.specs.Hear.{hear, hear_all, line, on_lead, on_prepare, on_promise}
use Rattle.step_spec.specs.Heard.{messages_of, packets_of}
use Rattle.step_spec.specs.May.{IsFollower}
use Rattle.step_spec.specs.Message.{Nack, Prepare}
use Rattle.step_spec.specs.Propose.{campaign, tick}
use Rattle.step_spec.specs.State.{State}
use Rattle.step_spec.specs.Step.{step}
use Rattle.term_core.specs.declared.flight.Flight.{Flight}
use Rattle.term_core.specs.declared.term.Term.{Term}
use Rattle.term_core.specs.declared.term.Term.TheVariants.{Leader}
use Rattle.history.specs.Book.{PostedLetter, Row, after_row}
use Rattle.history.specs.Legal.{IsLegal}
use Rattle.history.proofs.SomeBook.{prepare_spells}
use Rattle.history.proofs.Turns.{legal_append}
use Rattle.history.proofs.Keeping.{empty_is_legal}
use Rattle.script_semantics.specs.Settling.{cleared}
use Rattle.script_semantics.specs.Situation.{Situation, after_turns, delivered}
use Rattle.settling.specs.Leads.{GoesDrainRound, LeadsAlone}
use Rattle.settling.specs.Campaigns.{GoesCampaign}
use Rattle.settling.specs.Within.{IsAfterYielding, LeadsWithin}
use Rattle.settling.proofs.CallLemmas.{IsCandidacy}
use Rattle.settling.proofs.FirstLemmas.{first_campaign}
use Rattle.settling.proofs.PhaseLemmas.{comes_nearer, leader_stands}
use Rattle.settling.proofs.SomeCampaignTurns.{May, AreShort, campaigns, faultless_by, front_short, hears, hears_letter, in_window, letter_to, nack_spells, no_job, no_job_is_sound, none_long, one_more, posted_of, prepare_again_spells, promise_again_spells, rival_spells, start, takes_campaign, takes_tick, ticks}

-- ---- the turns

-- the other campaigns, and its letter is lost
abbrev rival : List Row
rival = campaigns 1 (letter_to 0 1 (packet.Prepare 9 0) ∷ []) ∷ []

abbrev stands_row : Row
stands_row = campaigns 0 (letter_to 1 0 (packet.Prepare 8 0) ∷ [])

abbrev refuses_row : Row
refuses_row = hears 1 1 0 (Prepare 8 0) (letter_to 0 1 (packet.Nack 8 9) ∷ [])

abbrev yields_row : Row
yields_row = hears 0 2 1 (Nack 8 9) []

abbrev again_row : Row
again_row = campaigns 0 (letter_to 1 0 (packet.Prepare 16 0) ∷ [])

abbrev promises_row : Row
promises_row = hears 1 3 0 (Prepare 16 0) (letter_to 0 1 (packet.Promise 16 0 0) ∷ [])

abbrev stands_for : List Row
stands_for = stands_row ∷ []

abbrev refused : List Row
refused = ticks 0 [] ∷ refuses_row ∷ ticks 1 [] ∷ []

abbrev yields : List Row
yields = yields_row ∷ ticks 0 [] ∷ ticks 1 [] ∷ []

abbrev promised : List Row
promised = again_row ∷ ticks 0 [] ∷ promises_row ∷ ticks 1 [] ∷ []

-- ---- the situations

abbrev before : Situation
before = cleared (delivered 0 (after_turns 2 start rival))

abbrev stood : Situation
stood = delivered 1 (after_turns 2 before stands_for)

abbrev heard : Situation
heard = delivered 2 (after_turns 2 (delivered 2 stood) refused)

abbrev yielded : Situation
yielded = delivered 3 (after_turns 2 (delivered 3 heard) yields)

abbrev stood_again : Situation
stood_again = delivered 3 (after_turns 2 yielded (again_row ∷ []))

abbrev heard_again : Situation
heard_again = delivered 4 (after_turns 2 stood_again (ticks 0 [] ∷ promises_row ∷ ticks 1 [] ∷ []))

-- ---- the book is legal

may_campaign : May [] (campaigns 1 (letter_to 0 1 (packet.Prepare 9 0) ∷ []))
unfolding step campaign tick hear hear_all line on_lead on_prepare on_promise after_row after_act after_delta deltas_by learnt_by calls_by sent_by with_member votes_from packets_of messages_of
may_campaign = (takes_campaign _ 1 (lit< tt) refl, record { letters = (record { to = refl; spells = rival_spells }, tt); votes = refl; learnt = refl; call = refl })

may_stand : May rival stands_row
unfolding step campaign tick hear hear_all line on_lead on_prepare on_promise after_row after_act after_delta deltas_by learnt_by calls_by sent_by with_member votes_from packets_of messages_of
may_stand = (takes_campaign _ 0 (lit< tt) refl, record { letters = (record { to = refl; spells = prepare_spells }, tt); votes = refl; learnt = refl; call = refl })

may_tick : May (rival ++ stands_for) (ticks 0 [])
unfolding step campaign tick hear hear_all line on_lead on_prepare on_promise after_row after_act after_delta deltas_by learnt_by calls_by sent_by with_member votes_from packets_of messages_of
may_tick = (takes_tick _ 0 (lit< tt) refl refl, record { letters = tt; votes = refl; learnt = refl; call = refl })

may_refuse : May ((rival ++ stands_for) ++ ticks 0 [] ∷ []) refuses_row
unfolding step campaign tick hear hear_all line on_lead on_prepare on_promise after_row after_act after_delta deltas_by learnt_by calls_by sent_by with_member votes_from packets_of messages_of
may_refuse = (hears_letter _ 1 1 0 (packet.Prepare 8 0) (Prepare 8 0) (lit< tt) refl refl prepare_spells refl, record { letters = (record { to = refl; spells = nack_spells }, tt); votes = refl; learnt = refl; call = refl })

may_tick_too : May ((rival ++ stands_for) ++ ticks 0 [] ∷ refuses_row ∷ []) (ticks 1 [])
unfolding step campaign tick hear hear_all line on_lead on_prepare on_promise after_row after_act after_delta deltas_by learnt_by calls_by sent_by with_member votes_from packets_of messages_of
may_tick_too = (takes_tick _ 1 (lit< tt) refl refl, record { letters = tt; votes = refl; learnt = refl; call = refl })

may_yield : May ((rival ++ stands_for) ++ refused) yields_row
unfolding step campaign tick hear hear_all line on_lead on_prepare on_promise after_row after_act after_delta deltas_by learnt_by calls_by sent_by with_member votes_from packets_of messages_of
may_yield = (hears_letter _ 0 2 1 (packet.Nack 8 9) (Nack 8 9) (lit< tt) refl refl nack_spells refl, record { letters = tt; votes = refl; learnt = refl; call = refl })

may_wait : May (((rival ++ stands_for) ++ refused) ++ yields_row ∷ []) (ticks 0 [])
unfolding step campaign tick hear hear_all line on_lead on_prepare on_promise after_row after_act after_delta deltas_by learnt_by calls_by sent_by with_member votes_from packets_of messages_of
may_wait = (takes_tick _ 0 (lit< tt) refl refl, record { letters = tt; votes = refl; learnt = refl; call = refl })

may_wait_too : May (((rival ++ stands_for) ++ refused) ++ yields_row ∷ ticks 0 [] ∷ []) (ticks 1 [])
unfolding step campaign tick hear hear_all line on_lead on_prepare on_promise after_row after_act after_delta deltas_by learnt_by calls_by sent_by with_member votes_from packets_of messages_of
may_wait_too = (takes_tick _ 1 (lit< tt) refl refl, record { letters = tt; votes = refl; learnt = refl; call = refl })

may_stand_again : May (((rival ++ stands_for) ++ refused) ++ yields) again_row
unfolding step campaign tick hear hear_all line on_lead on_prepare on_promise after_row after_act after_delta deltas_by learnt_by calls_by sent_by with_member votes_from packets_of messages_of
may_stand_again = (takes_campaign _ 0 (lit< tt) refl, record { letters = (record { to = refl; spells = prepare_again_spells }, tt); votes = refl; learnt = refl; call = refl })

may_tick_again : May ((((rival ++ stands_for) ++ refused) ++ yields) ++ again_row ∷ []) (ticks 0 [])
unfolding step campaign tick hear hear_all line on_lead on_prepare on_promise after_row after_act after_delta deltas_by learnt_by calls_by sent_by with_member votes_from packets_of messages_of
may_tick_again = (takes_tick _ 0 (lit< tt) refl refl, record { letters = tt; votes = refl; learnt = refl; call = refl })

may_promise : May ((((rival ++ stands_for) ++ refused) ++ yields) ++ again_row ∷ ticks 0 [] ∷ []) promises_row
unfolding step campaign tick hear hear_all line on_lead on_prepare on_promise after_row after_act after_delta deltas_by learnt_by calls_by sent_by with_member votes_from packets_of messages_of
may_promise = (hears_letter _ 1 3 0 (packet.Prepare 16 0) (Prepare 16 0) (lit< tt) refl refl prepare_again_spells refl, record { letters = (record { to = refl; spells = promise_again_spells }, tt); votes = refl; learnt = refl; call = refl })

may_follow : May ((((rival ++ stands_for) ++ refused) ++ yields) ++ again_row ∷ ticks 0 [] ∷ promises_row ∷ []) (ticks 1 [])
unfolding step campaign tick hear hear_all line on_lead on_prepare on_promise after_row after_act after_delta deltas_by learnt_by calls_by sent_by with_member votes_from packets_of messages_of
may_follow = (takes_tick _ 1 (lit< tt) refl refl, record { letters = tt; votes = refl; learnt = refl; call = refl })

legal_first : IsLegal 2 no_job (rival ++ stands_for)
legal_first =
    legal_append 2 no_job rival stands_for (legal_append 2 no_job [] rival (empty_is_legal 2 no_job) (may_campaign, tt)) (may_stand, tt)

legal_second : IsLegal 2 no_job ((rival ++ stands_for) ++ refused)
legal_second = legal_append 2 no_job (rival ++ stands_for) refused legal_first (may_tick, (may_refuse, (may_tick_too, tt)))

legal_third : IsLegal 2 no_job (((rival ++ stands_for) ++ refused) ++ yields)
legal_third = legal_append 2 no_job ((rival ++ stands_for) ++ refused) yields legal_second (may_yield, (may_wait, (may_wait_too, tt)))

legal_fourth : IsLegal 2 no_job ((((rival ++ stands_for) ++ refused) ++ yields) ++ promised)
legal_fourth = legal_append 2 no_job (((rival ++ stands_for) ++ refused) ++ yields) promised legal_third (may_stand_again, (may_tick_again, (may_promise, (may_follow, tt))))

-- ---- it goes on

abbrev rival_letter : PostedLetter
rival_letter = posted_of 1 0 (packet.Prepare 9 0)

abbrev prepare_letter : PostedLetter
prepare_letter = posted_of 0 1 (packet.Prepare 8 0)

abbrev nack_letter : PostedLetter
nack_letter = posted_of 1 0 (packet.Nack 8 9)

abbrev last_letters : List PostedLetter
last_letters = posted_of 0 1 (packet.Prepare 16 0) ∷ posted_of 1 0 (packet.Promise 16 0 0) ∷ []

-- the letters of the book
all_short : AreShort (rival_letter ∷ prepare_letter ∷ nack_letter ∷ last_letters)
all_short =
    one_more 1 0 (packet.Prepare 9 0) (prepare_letter ∷ nack_letter ∷ last_letters) rival_spells
    (one_more 0 1 (packet.Prepare 8 0) (nack_letter ∷ last_letters) prepare_spells
    (one_more 1 0 (packet.Nack 8 9) last_letters nack_spells
    (one_more 0 1 (packet.Prepare 16 0) (posted_of 1 0 (packet.Promise 16 0 0) ∷ []) prepare_again_spells
    (one_more 1 0 (packet.Promise 16 0 0) [] promise_again_spells none_long))))

first_part : GoesCampaign 2 no_job 0 (pos 525_600) rival stands_for before stood
unfolding step campaign tick hear hear_all line on_lead on_prepare on_promise after_row after_act after_delta deltas_by learnt_by calls_by sent_by with_member votes_from packets_of messages_of
first_part = record {
  few = omega arith;
  sound = no_job_is_sound;
  within = in_window;
  legal = legal_first;
  standing = refl;
  faultless = faultless_by before refl refl refl refl refl;
  round = record { turns = (record { made = None; is = refl; fate = tt }, refl); is = refl };
  limits = record { turns = omega arith; letters = front_short (rival_letter ∷ prepare_letter ∷ []) (nack_letter ∷ last_letters) all_short };
}

first_round : GoesDrainRound 2 no_job 0 (pos 525_600) (rival ++ stands_for) refused stood heard
unfolding step campaign tick hear hear_all line on_lead on_prepare on_promise after_row after_act after_delta deltas_by learnt_by calls_by sent_by with_member votes_from packets_of messages_of
first_round = record {
  few = omega arith;
  sound = no_job_is_sound;
  within = in_window;
  legal = legal_second;
  standing = refl;
  faultless = faultless_by stood refl refl refl refl refl;
  round = record {
    front = [];
    middle = delivered 2 stood;
    back = refused;
    parts = refl;
    one = record { turns = refl; is = refl };
    two = record { turns = (record { made = None; is = refl; fate = tt }, (record { made = None; is = refl; fate = tt }, (record { made = None; is = refl; fate = tt }, refl))); is = refl };
  };
  limits = record { turns = omega arith; letters = front_short (rival_letter ∷ prepare_letter ∷ nack_letter ∷ []) last_letters all_short };
}

second_round : GoesDrainRound 2 no_job 0 (pos 525_600) ((rival ++ stands_for) ++ refused) yields heard yielded
unfolding step campaign tick hear hear_all line on_lead on_prepare on_promise after_row after_act after_delta deltas_by learnt_by calls_by sent_by with_member votes_from packets_of messages_of
second_round = record {
  few = omega arith;
  sound = no_job_is_sound;
  within = in_window;
  legal = legal_third;
  standing = refl;
  faultless = faultless_by heard refl refl refl refl refl;
  round = record {
    front = [];
    middle = delivered 3 heard;
    back = yields;
    parts = refl;
    one = record { turns = refl; is = refl };
    two = record { turns = (record { made = None; is = refl; fate = tt }, (record { made = None; is = refl; fate = tt }, (record { made = None; is = refl; fate = tt }, refl))); is = refl };
  };
  limits = record { turns = omega arith; letters = front_short (rival_letter ∷ prepare_letter ∷ nack_letter ∷ []) last_letters all_short };
}

third_round : GoesDrainRound 2 no_job 0 (pos 525_600) (((rival ++ stands_for) ++ refused) ++ yields) promised yielded heard_again
unfolding step campaign tick hear hear_all line on_lead on_prepare on_promise after_row after_act after_delta deltas_by learnt_by calls_by sent_by with_member votes_from packets_of messages_of
third_round = record {
  few = omega arith;
  sound = no_job_is_sound;
  within = in_window;
  legal = legal_fourth;
  standing = refl;
  faultless = faultless_by yielded refl refl refl refl refl;
  round = record {
    front = again_row ∷ [];
    middle = stood_again;
    back = ticks 0 [] ∷ promises_row ∷ ticks 1 [] ∷ [];
    parts = refl;
    one = record { turns = (record { made = None; is = refl; fate = tt }, refl); is = refl };
    two = record { turns = (record { made = None; is = refl; fate = tt }, (record { made = None; is = refl; fate = tt }, (record { made = None; is = refl; fate = tt }, refl))); is = refl };
  };
  limits = record { turns = omega arith; letters = all_short };
}

-- ---- it yields

within_four : LeadsWithin 4 2 no_job 0 stood
unfolding step campaign tick hear hear_all line on_lead on_prepare on_promise after_row after_act after_delta deltas_by learnt_by calls_by sent_by with_member votes_from packets_of messages_of
within_four = first_campaign 2 no_job (pos 525_600) rival stands_for before stood (omega arith) first_part (λ who below. refl)

within_two : LeadsWithin 2 2 no_job 0 yielded
within_two =
    comes_nearer 2 2 no_job 0 (pos 525_600) ((rival ++ stands_for) ++ refused) yields heard yielded second_round
    (comes_nearer 3 2 no_job 0 (pos 525_600) (rival ++ stands_for) refused stood heard first_round within_four)

follows_now : IsFollower (yielded.standing.replicas 0).term
unfolding step campaign tick hear hear_all line on_lead on_prepare on_promise after_row after_act after_delta deltas_by learnt_by calls_by sent_by with_member votes_from packets_of messages_of
follows_now = tt

stands_now : IsCandidacy (heard_again.standing.replicas 0).term
unfolding step campaign tick hear hear_all line on_lead on_prepare on_promise after_row after_act after_delta deltas_by learnt_by calls_by sent_by with_member votes_from packets_of messages_of
stands_now = tt

-- one whose term is no leader's doesn't lead alone
not_alone : (Other : Term → Type 0) (situation : Situation) → ((ballot : ℕ) (best : List Vote) (flight : Option Flight) → Other (Leader ballot best flight) → ⊥) → Other (situation.standing.replicas 0).term
    → LeadsAlone 2 no_job 0 situation → ⊥
not_alone Other situation leads_not other alone =
    let stands = leader_stands 2 0 alone.best alone.at alone.cluster alone.stage in
    leads_not stands.ballot stands.best stands.flight
    (subst Other stands.is (subst (λ (s : State). Other s.term) (sym (alone.stands.replicas 0 (omega arith))) other))

yields_by : LeadsWithin 2 2 no_job 0 yielded → IsAfterYielding 2 no_job 0 yielded
yields_by (inl alone) = absurd (not_alone IsFollower yielded (λ ballot best flight is. is) follows_now alone)
yields_by (inr was) = was

pub some_yield : (members : ℕ) × (table : Table) × (who : ℕ) × (at : ℤ) × (book : List Row) × (rows : List Row) × (situation : Situation) × (after : Situation)
    × GoesDrainRound members table who at book rows situation after × IsAfterYielding members table who situation
some_yield = (2, no_job, 0, pos 525_600, (((rival ++ stands_for) ++ refused) ++ yields), promised, yielded, heard_again, third_round, yields_by within_two)

pub some_four : (members : ℕ) × (table : Table) × (who : ℕ) × (at : ℤ) × (book : List Row) × (one : List Row) × (two : List Row) × (three : List Row)
    × (situation : Situation) × (first : Situation) × (second : Situation) × (third : Situation) × LeadsWithin 4 members table who situation
    × GoesDrainRound members table who at book one situation first × GoesDrainRound members table who at (book ++ one) two first second
    × GoesDrainRound members table who at ((book ++ one) ++ two) three second third × (LeadsAlone members table who third → ⊥)
some_four = (
  2,
  no_job,
  0,
  pos 525_600,
  (rival ++ stands_for),
  refused,
  yields,
  promised,
  stood,
  heard,
  yielded,
  heard_again,
  within_four,
  first_round,
  second_round,
  third_round,
  not_alone IsCandidacy heard_again (λ ballot best flight is. is) stands_now,
)
