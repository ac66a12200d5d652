-- A legal book with some turns.
use Rattle.std.proofs.Common.{◌≡◌, ℕ, zero, suc, pos, true, false, Some, None, List, [], ◌∷◌, take, refl, arith, subst, lit<}
use Rattle.paxos_letter.specs.Letters.{Spells}
use Rattle.paxos_letter.specs.Spelling.{spelling}
use Rattle.paxos_letter.specs.declared.packet.Packet.{Packet}
use Rattle.paxos_letter.specs.declared.packet.Packet.TheVariants as packet
use Rattle.launch_machine.specs.Clerk.{first_rows}
use Rattle.launch_machine.specs.declared.machine.Intent.TheVariants as intent
use Rattle.step_spec.specs.Act.{after_act}
use Rattle.step_spec.specs.Folds.{calls_by, deltas_by, learnt_by, sent_by}
use Rattle.step_spec.specs.Hear.{hear, hear_all, line, on_prepare, on_promise}
use Rattle.step_spec.specs.Heard.{messages_of, packets_of}
use Rattle.step_spec.specs.Message.{Prepare, Promise}
use Rattle.step_spec.specs.Propose.{campaign, tick}
use Rattle.step_spec.specs.Step.{Event, Campaign, Tick, Hear, step}
use Rattle.paxos_base.specs.Durable.{after_delta}
use Rattle.paxos_base.specs.Members.{with_member}
use Rattle.paxos_base.specs.Vote.{votes_from}
use Rattle.paxos_base.specs.declared.durable.Delta.TheVariants.{Tried}
use Rattle.history.specs.Book.{Row, Standing, after_row, standing_after}
use Rattle.history.specs.Legal.{IsLegal, MayFollow}
use Rattle.history.specs.Some.{no_jobs}
use Rattle.history.specs.declared.turn.Cause.TheVariants as cause
use Rattle.history.specs.declared.turn.Turn.{Turn}
use Rattle.history.specs.declared.turn.Turn.TheVariants.{Did, Stopped, Restarted}
use Rattle.history.proofs.TableRows.{rests_without_jobs}
use Rattle.step_spec.specs.declared.out.OutLetter.{OutLetter}

-- the letter of one packet without an entry, of small numbers
abbrev one_letter : ℕ → Packet → List ℕ
one_letter from packet = spelling from (packet ∷ [])

abbrev row_of : Turn → Event → List OutLetter → Row
row_of turn event letters = record { turn = turn; event = event; letters = letters; votes = []; learnt = [] }

abbrev letter_to : ℕ → ℕ → Packet → OutLetter
letter_to to from packet = record { to = to; bytes = one_letter from packet }

abbrev stands_for : Row
stands_for = row_of (Did 0 cause.Campaign None) Campaign (letter_to 1 0 (packet.Prepare 8 0) ∷ [])

abbrev promises : Row
promises = row_of (Did 1 (cause.Hear 0) None) (Hear 0 (Prepare 8 0 ∷ [])) (letter_to 0 1 (packet.Promise 8 0 0) ∷ [])

abbrev takes_lead : Row
takes_lead = row_of (Did 0 (cause.Hear 1) None) (Hear 1 (Promise 8 0 [] ∷ [])) []

abbrev ticks : Row
ticks = row_of (Did 0 (cause.Tick (record { 0 = pos 0 })) None) (Tick (pos 0) (record { rows = first_rows no_jobs; intent = intent.Rest })) (letter_to 1 0 (packet.Lead 8 0) ∷ [])

abbrev refuses : Row
refuses = row_of (Did 1 (cause.Hear 0) None) (Hear 0 (Prepare 8 0 ∷ [])) (letter_to 0 1 (packet.Nack 8 8) ∷ [])

abbrev stops : Row
stops = row_of (Stopped 0 None false) Campaign []

abbrev starts : Row
starts = row_of (Restarted 0) Campaign []

abbrev stops_within : Row
stops_within = row_of (Stopped 1 (Some cause.Campaign) true) Campaign []

abbrev starts_too : Row
starts_too = row_of (Restarted 1) Campaign []

abbrev pub some_book : List Row
some_book = stands_for ∷ promises ∷ takes_lead ∷ ticks ∷ refuses ∷ stops ∷ starts ∷ stops_within ∷ starts_too ∷ []

abbrev standing_at : ℕ → Standing
standing_at k = standing_after 2 (first_rows no_jobs) (take k some_book)

pub prepare_spells : Spells 2 0 (packet.Prepare 8 0 ∷ []) (one_letter 0 (packet.Prepare 8 0))
prepare_spells = record {
  letter = record { some = λ is. cc; kinds = (refl, tt); members_keep = (refl, tt); groups = refl };
  fits = (record { kind = lit< tt; from = lit< tt; tag = lit< tt; zero = lit< tt; job = lit< tt; ballot = lit< tt; slot = lit< tt; old = lit< tt; at = grind arith; moment = grind arith; last = grind arith }, tt);
  spelled = refl;
}

pub promise_spells : Spells 2 1 (packet.Promise 8 0 0 ∷ []) (one_letter 1 (packet.Promise 8 0 0))
promise_spells = record {
  letter = record { some = λ is. cc; kinds = (refl, tt); members_keep = (refl, tt); groups = refl };
  fits = (record { kind = lit< tt; from = lit< tt; tag = lit< tt; zero = lit< tt; job = lit< tt; ballot = lit< tt; slot = lit< tt; old = lit< tt; at = grind arith; moment = grind arith; last = grind arith }, tt);
  spelled = refl;
}

lead_spells : Spells 2 0 (packet.Lead 8 0 ∷ []) (one_letter 0 (packet.Lead 8 0))
lead_spells = record {
  letter = record { some = λ is. cc; kinds = (refl, tt); members_keep = (refl, tt); groups = refl };
  fits = (record { kind = lit< tt; from = lit< tt; tag = lit< tt; zero = lit< tt; job = lit< tt; ballot = lit< tt; slot = lit< tt; old = lit< tt; at = grind arith; moment = grind arith; last = grind arith }, tt);
  spelled = refl;
}

nack_spells : Spells 2 1 (packet.Nack 8 8 ∷ []) (one_letter 1 (packet.Nack 8 8))
nack_spells = record {
  letter = record { some = λ is. cc; kinds = (refl, tt); members_keep = (refl, tt); groups = refl };
  fits = (record { kind = lit< tt; from = lit< tt; tag = lit< tt; zero = lit< tt; job = lit< tt; ballot = lit< tt; slot = lit< tt; old = lit< tt; at = grind arith; moment = grind arith; last = grind arith }, tt);
  spelled = refl;
}

may_stand : MayFollow 2 no_jobs (standing_at 0) stands_for.turn stands_for
unfolding step campaign after_row after_act after_delta deltas_by learnt_by calls_by sent_by with_member votes_from packets_of
may_stand = (
  record { member = lit< tt; runs = refl; event_of = refl; planned = tt },
  record { letters = (record { to = refl; spells = prepare_spells }, tt); votes = refl; learnt = refl; call = refl },
)

may_promise : MayFollow 2 no_jobs (standing_at 1) promises.turn promises
unfolding step campaign hear hear_all line on_prepare after_row after_act after_delta deltas_by learnt_by calls_by sent_by with_member votes_from packets_of messages_of
may_promise = (
  record {
    member = lit< tt;
    runs = refl;
    event_of = record { letter = record { from = 0; to = 1; bytes = one_letter 0 (packet.Prepare 8 0) }; there = refl; to = refl; messages = Prepare 8 0 ∷ []; heard = record { packets = packet.Prepare 8 0 ∷ []; spells = prepare_spells; heard = refl }; is = refl };
    planned = tt;
  },
  record { letters = (record { to = refl; spells = promise_spells }, tt); votes = refl; learnt = refl; call = refl },
)

may_lead : MayFollow 2 no_jobs (standing_at 2) takes_lead.turn takes_lead
unfolding step campaign hear hear_all line on_prepare on_promise after_row after_act after_delta deltas_by learnt_by calls_by sent_by with_member votes_from packets_of messages_of
may_lead = (
  record {
    member = lit< tt;
    runs = refl;
    event_of = record { letter = record { from = 1; to = 0; bytes = one_letter 1 (packet.Promise 8 0 0) }; there = refl; to = refl; messages = Promise 8 0 [] ∷ []; heard = record { packets = packet.Promise 8 0 0 ∷ []; spells = promise_spells; heard = refl }; is = refl };
    planned = tt;
  },
  record { letters = tt; votes = refl; learnt = refl; call = refl },
)

may_tick : MayFollow 2 no_jobs (standing_at 3) ticks.turn ticks
unfolding step campaign tick hear hear_all line on_prepare on_promise after_row after_act after_delta deltas_by learnt_by calls_by sent_by with_member votes_from packets_of messages_of
may_tick = (
  record {
    member = lit< tt;
    runs = refl;
    event_of = (record { since = grind arith; before = grind arith }, record { rows = first_rows no_jobs; intent = intent.Rest }, refl);
    planned = (refl, rests_without_jobs no_jobs (first_rows no_jobs) (pos 0) refl refl);
  },
  record { letters = (record { to = refl; spells = lead_spells }, tt); votes = refl; learnt = refl; call = refl },
)

may_refuse : MayFollow 2 no_jobs (standing_at 4) refuses.turn refuses
unfolding step campaign tick hear hear_all line on_prepare on_promise after_row after_act after_delta deltas_by learnt_by calls_by sent_by with_member votes_from packets_of messages_of
may_refuse = (
  record {
    member = lit< tt;
    runs = refl;
    event_of = record { letter = record { from = 0; to = 1; bytes = one_letter 0 (packet.Prepare 8 0) }; there = refl; to = refl; messages = Prepare 8 0 ∷ []; heard = record { packets = packet.Prepare 8 0 ∷ []; spells = prepare_spells; heard = refl }; is = refl };
    planned = tt;
  },
  record { letters = (record { to = refl; spells = nack_spells }, tt); votes = refl; learnt = refl; call = refl },
)

may_stop : MayFollow 2 no_jobs (standing_at 5) stops.turn stops
unfolding step campaign tick hear hear_all line on_prepare on_promise after_row after_act after_delta deltas_by
may_stop = (lit< tt, refl, refl, record { letters = refl; votes = refl; learnt = refl })

may_start : MayFollow 2 no_jobs (standing_at 6) starts.turn starts
unfolding step campaign tick hear hear_all line on_prepare on_promise after_row after_act after_delta deltas_by
may_start = (lit< tt, refl, record { letters = refl; votes = refl; learnt = refl })

may_stop_within : MayFollow 2 no_jobs (standing_at 7) stops_within.turn stops_within
unfolding step campaign tick hear hear_all line on_prepare on_promise after_row after_act after_delta deltas_by with_member votes_from
may_stop_within = (
  record { member = lit< tt; runs = refl; event_of = refl; planned = tt },
  record { delta = Tried 17; changes = refl; letters = refl; votes = refl; learnt = refl },
)

may_start_too : MayFollow 2 no_jobs (standing_at 8) starts_too.turn starts_too
unfolding step campaign tick hear hear_all line on_prepare on_promise after_row after_act after_delta deltas_by with_member votes_from
may_start_too = (lit< tt, refl, record { letters = refl; votes = refl; learnt = refl })

-- a row that is found is the one that stands there
found_row : (k : ℕ) (one row : Row) → Some one ≡ Some row → MayFollow 2 no_jobs (standing_at k) one.turn one → MayFollow 2 no_jobs (standing_at k) row.turn row
found_row k one row is may = let same : one ≡ row = cc in subst (λ r. MayFollow 2 no_jobs (standing_at k) r.turn r) same may

pub some_book_is_legal : IsLegal 2 no_jobs some_book
some_book_is_legal zero row is = found_row 0 stands_for row is may_stand
some_book_is_legal (suc zero) row is = found_row 1 promises row is may_promise
some_book_is_legal (suc (suc zero)) row is = found_row 2 takes_lead row is may_lead
some_book_is_legal (suc (suc (suc zero))) row is = found_row 3 ticks row is may_tick
some_book_is_legal (suc (suc (suc (suc zero)))) row is = found_row 4 refuses row is may_refuse
some_book_is_legal (suc (suc (suc (suc (suc zero))))) row is = found_row 5 stops row is may_stop
some_book_is_legal (suc (suc (suc (suc (suc (suc zero)))))) row is = found_row 6 starts row is may_start
some_book_is_legal (suc (suc (suc (suc (suc (suc (suc zero))))))) row is = found_row 7 stops_within row is may_stop_within
some_book_is_legal (suc (suc (suc (suc (suc (suc (suc (suc zero)))))))) row is = found_row 8 starts_too row is may_start_too
some_book_is_legal (suc (suc (suc (suc (suc (suc (suc (suc (suc k))))))))) row is = absurd cc
