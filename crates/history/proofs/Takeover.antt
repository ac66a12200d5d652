-- A legal book in which a leader proposes a start, stops, and another one takes over with the vote for it.
use Rattle.std.proofs.Common.{◌≡◌, ℕ, zero, suc, ℤ, true, false, Option, Some, None, List, [], ◌∷◌, take, refl, inl, arith, subst, lit<}
use Rattle.due_set.specs.Table.{Table}
use Rattle.paxos_letter.specs.Letters.{Spells}
use Rattle.paxos_letter.specs.Spelling.{spelling}
use Rattle.paxos_letter.specs.declared.packet.Packet.{Packet}
use Rattle.paxos_letter.specs.declared.packet.Packet.TheVariants as packet
use Rattle.launch_machine.specs.Clerk.{AppliesAll, first_rows}
use Rattle.launch_machine.specs.declared.machine.Intent.TheVariants as intent
use Rattle.paxos_base.specs.Durable.{after_delta}
use Rattle.paxos_base.specs.Members.{with_member}
use Rattle.paxos_base.specs.Vote.{put_vote, vote_at, votes_below, votes_from}
use Rattle.paxos_base.specs.declared.entry.Entry.TheVariants as entry
use Rattle.paxos_base.specs.declared.entry.Vote.{Vote}
use Rattle.term_core.specs.Best.{with_vote}
use Rattle.step_spec.specs.Act.{after_act}
use Rattle.step_spec.specs.Folds.{calls_by, deltas_by, learnt_by, sent_by}
use Rattle.step_spec.specs.Hear.{hear, hear_all, line, on_accept, on_accepted, on_known, on_prepare, on_promise}
use Rattle.step_spec.specs.Heard.{messages_of, packets_of}
use Rattle.step_spec.specs.Message.{Prepare, Promise, Accept, Accepted, Known, Mention}
use Rattle.step_spec.specs.Propose.{answer, campaign, is_open, propose, tick}
use Rattle.step_spec.specs.Step.{Event, Campaign, Tick, Hear, Answer, step}
use Rattle.step_spec.specs.declared.out.LearntRow.{LearntRow}
use Rattle.history.specs.Book.{Row, Standing, after_row, is_name, standing_after, under}
use Rattle.history.specs.Legal.{IsLegal, MayFollow}
use Rattle.history.specs.Takeover.{AsksFor, launch_row, start_of, started_rows}
use Rattle.paxos_base.specs.declared.entry.Kind.TheVariants.{Launch}
use Rattle.cluster_sched.specs.declared.fate.Fate.TheVariants.{Done, Late}
use Rattle.std.proofs.lemmas.Bool.{eq-eqb}
use Rattle.std.proofs.lemmas.Bool.Decides.{Decides-int_eq}
use Rattle.cluster_sched.specs.Fates.{call}
use Rattle.history.specs.Legal.{answered}
use Rattle.std.specs.Ordering.{int_eq}
use Rattle.history.specs.declared.turn.CallRow.{CallRow}
use Rattle.history.specs.declared.turn.Cause.TheVariants as cause
use Rattle.history.specs.declared.turn.Turn.{Turn}
use Rattle.history.specs.declared.turn.Turn.TheVariants.{Did, Stopped, Restarted, Arrived}
use Rattle.step_spec.specs.declared.out.OutLetter.{OutLetter}

eq-int_eq : (at : ℤ) → int_eq at at ≡ true
eq-int_eq at = (Decides-int_eq at at).1 refl

module _ (table : Table) (job : ℕ) (at now : ℤ) where
  abbrev vote : ℕ → Vote
  vote ballot = record { slot = 0; ballot = ballot; entry = start_of job at now }

  abbrev end_vote : Vote
  end_vote = record { slot = 1; ballot = 10; entry = entry.End job at Launch }

  abbrev sent : ℕ → ℕ → List Packet → OutLetter
  sent to from packets = record { to = to; bytes = spelling from packets }

  abbrev row_of : Turn → Event → List OutLetter → List Vote → List LearntRow → Row
  row_of turn event letters votes learnt = record { turn = turn; event = event; letters = letters; votes = votes; learnt = learnt }

  abbrev tick_turn : Option CallRow → Turn
  tick_turn call = Did 2 (cause.Tick (record { 0 = now })) call

  abbrev late_call_row : CallRow
  late_call_row = record { row = launch_row job at now; fate = Late; answer = None }

  abbrev done_call_row : CallRow
  done_call_row = record { row = launch_row job at now; fate = Done; answer = Some (launch_row job at now) }

  abbrev start_event : Event
  start_event = Tick now (record { rows = first_rows table; intent = intent.Start job at })

  abbrev call_event : Event
  call_event = Tick now (record { rows = started_rows table job at now; intent = intent.Call job at Launch })

  abbrev learnt_start : LearntRow
  learnt_start = record { slot = 0; entry = start_of job at now }

  abbrev r0 : Row
  r0 = row_of (Did 0 cause.Campaign None) (Campaign) (sent 1 0 (packet.Prepare 8 0 ∷ []) ∷ sent 2 0 (packet.Prepare 8 0 ∷ []) ∷ []) ([]) ([])

  abbrev r1 : Row
  r1 = row_of (Did 1 (cause.Hear 0) None) (Hear 0 (Prepare 8 0 ∷ [])) (sent 0 1 (packet.Promise 8 0 0 ∷ []) ∷ []) ([]) ([])

  abbrev r2 : Row
  r2 = row_of (Did 0 (cause.Hear 2) None) (Hear 1 (Promise 8 0 [] ∷ [])) ([]) ([]) ([])

  abbrev r3 : Row
  r3 = row_of (Did 0 (cause.Tick (record { 0 = now })) None) (start_event) (sent 1 0 (packet.Accept 8 0 (start_of job at now) ∷ []) ∷ sent 2 0 (packet.Accept 8 0 (start_of job at now) ∷ []) ∷ []) (vote 8 ∷ []) ([])

  abbrev r4 : Row
  r4 = row_of (Did 1 (cause.Hear 3) None) (Hear 0 (Accept (vote 8) ∷ [])) (sent 0 1 (packet.Accepted 8 0 ∷ []) ∷ []) (vote 8 ∷ []) ([])

  abbrev r5 : Row
  r5 = row_of (Stopped 0 None false) (Campaign) ([]) ([]) ([])

  abbrev r6 : Row
  r6 = row_of (Restarted 0) (Campaign) ([]) ([]) ([])

  abbrev r7 : Row
  r7 = row_of (Stopped 1 None false) (Campaign) ([]) ([]) ([])

  abbrev r8 : Row
  r8 = row_of (Restarted 1) (Campaign) ([]) ([]) ([])

  abbrev r9 : Row
  r9 = row_of (Did 2 cause.Campaign None) (Campaign) (sent 0 2 (packet.Prepare 10 0 ∷ []) ∷ sent 1 2 (packet.Prepare 10 0 ∷ []) ∷ []) ([]) ([])

  abbrev r10 : Row
  r10 = row_of (Did 1 (cause.Hear 7) None) (Hear 2 (Prepare 10 0 ∷ [])) (sent 2 1 (packet.Promise 10 0 1 ∷ packet.OldVote 10 0 8 (start_of job at now) ∷ []) ∷ []) ([]) ([])

  abbrev r11 : Row
  r11 = row_of (Did 2 (cause.Hear 8) None) (Hear 1 (Promise 10 0 (vote 8 ∷ []) ∷ Mention 10 ∷ [])) ([]) ([]) ([])

  abbrev r12 : Row
  r12 = row_of (tick_turn None) (start_event) (sent 0 2 (packet.Accept 10 0 (start_of job at now) ∷ []) ∷ sent 1 2 (packet.Accept 10 0 (start_of job at now) ∷ []) ∷ []) (vote 10 ∷ []) ([])

  abbrev r13 : Row
  r13 = row_of (Did 1 (cause.Hear 10) None) (Hear 2 (Accept (vote 10) ∷ [])) (sent 2 1 (packet.Accepted 10 0 ∷ []) ∷ []) (vote 10 ∷ []) ([])

  abbrev r14 : Row
  r14 = row_of (Did 2 (cause.Hear 11) None) (Hear 1 (Accepted 10 0 ∷ [])) (sent 0 2 (packet.Known 0 (start_of job at now) ∷ []) ∷ sent 1 2 (packet.Known 0 (start_of job at now) ∷ []) ∷ []) ([]) (learnt_start ∷ [])

  abbrev r15 : Row
  r15 = row_of (Did 0 (cause.Hear 12) None) (Hear 2 (Known 0 (start_of job at now) ∷ [])) ([]) ([]) (learnt_start ∷ [])

  abbrev r16 : Row
  r16 = row_of (Did 1 (cause.Hear 3) None) (Hear 0 (Accept (vote 8) ∷ [])) (sent 0 1 (packet.Nack 8 10 ∷ []) ∷ []) ([]) ([])

  abbrev r17 : Row
  r17 = row_of (tick_turn (Some late_call_row)) (call_event) ([]) ([]) ([])

  abbrev r18 : Row
  r18 = row_of (Arrived 0) (Campaign) ([]) ([]) ([])

  abbrev r19 : Row
  r19 = row_of (tick_turn (Some done_call_row)) (call_event) ([]) ([]) ([])

  abbrev r20 : Row
  r20 = row_of (Did 2 cause.Answer None) (Answer job at Launch (started_rows table job at now)) (sent 0 2 (packet.Accept 10 1 (entry.End job at Launch) ∷ []) ∷ sent 1 2 (packet.Accept 10 1 (entry.End job at Launch) ∷ []) ∷ []) (end_vote ∷ []) ([])

  abbrev pub book : List Row
  book = r0 ∷ r1 ∷ r2 ∷ r3 ∷ r4 ∷ r5 ∷ r6 ∷ r7 ∷ r8 ∷ r9 ∷ r10 ∷ r11 ∷ r12 ∷ r13 ∷ r14 ∷ r15 ∷ r16 ∷ r17 ∷ r18 ∷ r19 ∷ r20 ∷ []

  abbrev standing_at : ℕ → Standing
  standing_at k = standing_after 3 (first_rows table) (take k book)

  prepare8_spells : AsksFor table job at now → Spells 3 0 (packet.Prepare 8 0 ∷ []) (spelling 0 (packet.Prepare 8 0 ∷ []))
  prepare8_spells asks = record {
    letter = record { some = λ is. cc; kinds = (refl, tt); members_keep = (refl, tt); groups = refl };
    fits = (record { kind = lit< tt; from = lit< tt; tag = lit< tt; zero = lit< tt; job = lit< tt; ballot = lit< tt; slot = lit< tt; old = lit< tt; at = grind arith; moment = grind arith; last = grind arith }, tt);
    spelled = refl;
  }

  promise8_spells : AsksFor table job at now → Spells 3 1 (packet.Promise 8 0 0 ∷ []) (spelling 1 (packet.Promise 8 0 0 ∷ []))
  promise8_spells asks = record {
    letter = record { some = λ is. cc; kinds = (refl, tt); members_keep = (refl, tt); groups = refl };
    fits = (record { kind = lit< tt; from = lit< tt; tag = lit< tt; zero = lit< tt; job = lit< tt; ballot = lit< tt; slot = lit< tt; old = lit< tt; at = grind arith; moment = grind arith; last = grind arith }, tt);
    spelled = refl;
  }

  accept8_spells : AsksFor table job at now → Spells 3 0 (packet.Accept 8 0 (start_of job at now) ∷ []) (spelling 0 (packet.Accept 8 0 (start_of job at now) ∷ []))
  accept8_spells asks = record {
    letter = record { some = λ is. cc; kinds = (refl, tt); members_keep = (refl, tt); groups = refl };
    fits = (record { kind = lit< tt; from = lit< tt; tag = lit< tt; zero = lit< tt; job = asks.job_fits; ballot = lit< tt; slot = lit< tt; old = lit< tt; at = asks.at_fits; moment = asks.now_fits; last = grind arith }, tt);
    spelled = refl;
  }

  accepted8_spells : AsksFor table job at now → Spells 3 1 (packet.Accepted 8 0 ∷ []) (spelling 1 (packet.Accepted 8 0 ∷ []))
  accepted8_spells asks = record {
    letter = record { some = λ is. cc; kinds = (refl, tt); members_keep = (refl, tt); groups = refl };
    fits = (record { kind = lit< tt; from = lit< tt; tag = lit< tt; zero = lit< tt; job = lit< tt; ballot = lit< tt; slot = lit< tt; old = lit< tt; at = grind arith; moment = grind arith; last = grind arith }, tt);
    spelled = refl;
  }

  prepare10_spells : AsksFor table job at now → Spells 3 2 (packet.Prepare 10 0 ∷ []) (spelling 2 (packet.Prepare 10 0 ∷ []))
  prepare10_spells asks = record {
    letter = record { some = λ is. cc; kinds = (refl, tt); members_keep = (refl, tt); groups = refl };
    fits = (record { kind = lit< tt; from = lit< tt; tag = lit< tt; zero = lit< tt; job = lit< tt; ballot = lit< tt; slot = lit< tt; old = lit< tt; at = grind arith; moment = grind arith; last = grind arith }, tt);
    spelled = refl;
  }

  promise10_spells : AsksFor table job at now → Spells 3 1 (packet.Promise 10 0 1 ∷ packet.OldVote 10 0 8 (start_of job at now) ∷ []) (spelling 1 (packet.Promise 10 0 1 ∷ packet.OldVote 10 0 8 (start_of job at now) ∷ []))
  promise10_spells asks = record {
    letter = record { some = λ is. cc; kinds = (refl, (refl, tt)); members_keep = (refl, (refl, tt)); groups = refl };
    fits = (record { kind = lit< tt; from = lit< tt; tag = lit< tt; zero = lit< tt; job = lit< tt; ballot = lit< tt; slot = lit< tt; old = lit< tt; at = grind arith; moment = grind arith; last = grind arith }, (record { kind = lit< tt; from = lit< tt; tag = lit< tt; zero = lit< tt; job = asks.job_fits; ballot = lit< tt; slot = lit< tt; old = lit< tt; at = asks.at_fits; moment = asks.now_fits; last = grind arith }, tt));
    spelled = refl;
  }

  accept10_spells : AsksFor table job at now → Spells 3 2 (packet.Accept 10 0 (start_of job at now) ∷ []) (spelling 2 (packet.Accept 10 0 (start_of job at now) ∷ []))
  accept10_spells asks = record {
    letter = record { some = λ is. cc; kinds = (refl, tt); members_keep = (refl, tt); groups = refl };
    fits = (record { kind = lit< tt; from = lit< tt; tag = lit< tt; zero = lit< tt; job = asks.job_fits; ballot = lit< tt; slot = lit< tt; old = lit< tt; at = asks.at_fits; moment = asks.now_fits; last = grind arith }, tt);
    spelled = refl;
  }

  accepted10_spells : AsksFor table job at now → Spells 3 1 (packet.Accepted 10 0 ∷ []) (spelling 1 (packet.Accepted 10 0 ∷ []))
  accepted10_spells asks = record {
    letter = record { some = λ is. cc; kinds = (refl, tt); members_keep = (refl, tt); groups = refl };
    fits = (record { kind = lit< tt; from = lit< tt; tag = lit< tt; zero = lit< tt; job = lit< tt; ballot = lit< tt; slot = lit< tt; old = lit< tt; at = grind arith; moment = grind arith; last = grind arith }, tt);
    spelled = refl;
  }

  known0_spells : AsksFor table job at now → Spells 3 2 (packet.Known 0 (start_of job at now) ∷ []) (spelling 2 (packet.Known 0 (start_of job at now) ∷ []))
  known0_spells asks = record {
    letter = record { some = λ is. cc; kinds = (refl, tt); members_keep = (refl, tt); groups = refl };
    fits = (record { kind = lit< tt; from = lit< tt; tag = lit< tt; zero = lit< tt; job = asks.job_fits; ballot = lit< tt; slot = lit< tt; old = lit< tt; at = asks.at_fits; moment = asks.now_fits; last = grind arith }, tt);
    spelled = refl;
  }

  nack8_spells : AsksFor table job at now → Spells 3 1 (packet.Nack 8 10 ∷ []) (spelling 1 (packet.Nack 8 10 ∷ []))
  nack8_spells asks = record {
    letter = record { some = λ is. cc; kinds = (refl, tt); members_keep = (refl, tt); groups = refl };
    fits = (record { kind = lit< tt; from = lit< tt; tag = lit< tt; zero = lit< tt; job = lit< tt; ballot = lit< tt; slot = lit< tt; old = lit< tt; at = grind arith; moment = grind arith; last = grind arith }, tt);
    spelled = refl;
  }

  accept_end_spells : AsksFor table job at now → Spells 3 2 (packet.Accept 10 1 (entry.End job at Launch) ∷ []) (spelling 2 (packet.Accept 10 1 (entry.End job at Launch) ∷ []))
  accept_end_spells asks = record {
    letter = record { some = λ is. cc; kinds = (refl, tt); members_keep = (refl, tt); groups = refl };
    fits = (record { kind = lit< tt; from = lit< tt; tag = lit< tt; zero = lit< tt; job = asks.job_fits; ballot = lit< tt; slot = lit< tt; old = lit< tt; at = asks.at_fits; moment = grind arith; last = grind arith }, tt);
    spelled = refl;
  }

  -- the launch table after the start
  started : AsksFor table job at now → AppliesAll table (first_rows table) (start_of job at now ∷ []) (started_rows table job at now)
  started asks = (started_rows table job at now, inl (asks.start.1.takes, refl), refl)

  may0 : AsksFor table job at now → MayFollow 3 table (standing_at 0) r0.turn r0
  unfolding step campaign propose answer tick hear hear_all line on_prepare on_promise on_accept on_accepted on_known after_row after_act after_delta deltas_by learnt_by calls_by sent_by with_member votes_from votes_below put_vote vote_at with_vote packets_of messages_of
  may0 asks = (
    record { member = lit< tt; runs = refl; event_of = refl; planned = tt },
    record { letters = (record { to = refl; spells = prepare8_spells asks }, (record { to = refl; spells = prepare8_spells asks }, tt)); votes = refl; learnt = refl; call = refl },
  )

  may1 : AsksFor table job at now → MayFollow 3 table (standing_at 1) r1.turn r1
  unfolding step campaign propose answer tick hear hear_all line on_prepare on_promise on_accept on_accepted on_known after_row after_act after_delta deltas_by learnt_by calls_by sent_by with_member votes_from votes_below put_vote vote_at with_vote packets_of messages_of
  may1 asks = (
    record { member = lit< tt; runs = refl; event_of = record { letter = record { from = 0; to = 1; bytes = spelling 0 (packet.Prepare 8 0 ∷ []) }; there = refl; to = refl; messages = (Prepare 8 0 ∷ []); heard = record { packets = packet.Prepare 8 0 ∷ []; spells = prepare8_spells asks; heard = refl }; is = refl }; planned = tt },
    record { letters = (record { to = refl; spells = promise8_spells asks }, tt); votes = refl; learnt = refl; call = refl },
  )

  may2 : AsksFor table job at now → MayFollow 3 table (standing_at 2) r2.turn r2
  unfolding step campaign propose answer tick hear hear_all line on_prepare on_promise on_accept on_accepted on_known after_row after_act after_delta deltas_by learnt_by calls_by sent_by with_member votes_from votes_below put_vote vote_at with_vote packets_of messages_of
  may2 asks = (
    record { member = lit< tt; runs = refl; event_of = record { letter = record { from = 1; to = 0; bytes = spelling 1 (packet.Promise 8 0 0 ∷ []) }; there = refl; to = refl; messages = (Promise 8 0 [] ∷ []); heard = record { packets = packet.Promise 8 0 0 ∷ []; spells = promise8_spells asks; heard = refl }; is = refl }; planned = tt },
    record { letters = tt; votes = refl; learnt = refl; call = refl },
  )

  may3 : AsksFor table job at now → MayFollow 3 table (standing_at 3) r3.turn r3
  unfolding step campaign propose answer tick hear hear_all line on_prepare on_promise on_accept on_accepted on_known after_row after_act after_delta deltas_by learnt_by calls_by sent_by with_member votes_from votes_below put_vote vote_at with_vote packets_of messages_of
  may3 asks = (
    record { member = lit< tt; runs = refl; event_of = (asks.inside, record { rows = first_rows table; intent = intent.Start job at }, refl); planned = (refl, asks.start) },
    record { letters = (record { to = refl; spells = accept8_spells asks }, (record { to = refl; spells = accept8_spells asks }, tt)); votes = refl; learnt = refl; call = refl },
  )

  may4 : AsksFor table job at now → MayFollow 3 table (standing_at 4) r4.turn r4
  unfolding step campaign propose answer tick hear hear_all line on_prepare on_promise on_accept on_accepted on_known after_row after_act after_delta deltas_by learnt_by calls_by sent_by with_member votes_from votes_below put_vote vote_at with_vote packets_of messages_of
  may4 asks = (
    record { member = lit< tt; runs = refl; event_of = record { letter = record { from = 0; to = 1; bytes = spelling 0 (packet.Accept 8 0 (start_of job at now) ∷ []) }; there = refl; to = refl; messages = (Accept (vote 8) ∷ []); heard = record { packets = packet.Accept 8 0 (start_of job at now) ∷ []; spells = accept8_spells asks; heard = refl }; is = refl }; planned = tt },
    record { letters = (record { to = refl; spells = accepted8_spells asks }, tt); votes = refl; learnt = refl; call = refl },
  )

  may5 : AsksFor table job at now → MayFollow 3 table (standing_at 5) r5.turn r5
  unfolding step campaign propose answer tick hear hear_all line on_prepare on_promise on_accept on_accepted on_known after_row after_act after_delta deltas_by learnt_by calls_by sent_by with_member votes_from votes_below put_vote vote_at with_vote packets_of messages_of
  may5 asks = (lit< tt, refl, refl, record { letters = refl; votes = refl; learnt = refl })

  may6 : AsksFor table job at now → MayFollow 3 table (standing_at 6) r6.turn r6
  unfolding step campaign propose answer tick hear hear_all line on_prepare on_promise on_accept on_accepted on_known after_row after_act after_delta deltas_by learnt_by calls_by sent_by with_member votes_from votes_below put_vote vote_at with_vote packets_of messages_of
  may6 asks = (lit< tt, refl, record { letters = refl; votes = refl; learnt = refl })

  may7 : AsksFor table job at now → MayFollow 3 table (standing_at 7) r7.turn r7
  unfolding step campaign propose answer tick hear hear_all line on_prepare on_promise on_accept on_accepted on_known after_row after_act after_delta deltas_by learnt_by calls_by sent_by with_member votes_from votes_below put_vote vote_at with_vote packets_of messages_of
  may7 asks = (lit< tt, refl, refl, record { letters = refl; votes = refl; learnt = refl })

  may8 : AsksFor table job at now → MayFollow 3 table (standing_at 8) r8.turn r8
  unfolding step campaign propose answer tick hear hear_all line on_prepare on_promise on_accept on_accepted on_known after_row after_act after_delta deltas_by learnt_by calls_by sent_by with_member votes_from votes_below put_vote vote_at with_vote packets_of messages_of
  may8 asks = (lit< tt, refl, record { letters = refl; votes = refl; learnt = refl })

  may9 : AsksFor table job at now → MayFollow 3 table (standing_at 9) r9.turn r9
  unfolding step campaign propose answer tick hear hear_all line on_prepare on_promise on_accept on_accepted on_known after_row after_act after_delta deltas_by learnt_by calls_by sent_by with_member votes_from votes_below put_vote vote_at with_vote packets_of messages_of
  may9 asks = (
    record { member = lit< tt; runs = refl; event_of = refl; planned = tt },
    record { letters = (record { to = refl; spells = prepare10_spells asks }, (record { to = refl; spells = prepare10_spells asks }, tt)); votes = refl; learnt = refl; call = refl },
  )

  may10 : AsksFor table job at now → MayFollow 3 table (standing_at 10) r10.turn r10
  unfolding step campaign propose answer tick hear hear_all line on_prepare on_promise on_accept on_accepted on_known after_row after_act after_delta deltas_by learnt_by calls_by sent_by with_member votes_from votes_below put_vote vote_at with_vote packets_of messages_of
  may10 asks = (
    record { member = lit< tt; runs = refl; event_of = record { letter = record { from = 2; to = 1; bytes = spelling 2 (packet.Prepare 10 0 ∷ []) }; there = refl; to = refl; messages = (Prepare 10 0 ∷ []); heard = record { packets = packet.Prepare 10 0 ∷ []; spells = prepare10_spells asks; heard = refl }; is = refl }; planned = tt },
    record { letters = (record { to = refl; spells = promise10_spells asks }, tt); votes = refl; learnt = refl; call = refl },
  )

  may11 : AsksFor table job at now → MayFollow 3 table (standing_at 11) r11.turn r11
  unfolding step campaign propose answer tick hear hear_all line on_prepare on_promise on_accept on_accepted on_known after_row after_act after_delta deltas_by learnt_by calls_by sent_by with_member votes_from votes_below put_vote vote_at with_vote packets_of messages_of
  may11 asks = (
    record { member = lit< tt; runs = refl; event_of = record { letter = record { from = 1; to = 2; bytes = spelling 1 (packet.Promise 10 0 1 ∷ packet.OldVote 10 0 8 (start_of job at now) ∷ []) }; there = refl; to = refl; messages = (Promise 10 0 (vote 8 ∷ []) ∷ Mention 10 ∷ []); heard = record { packets = packet.Promise 10 0 1 ∷ packet.OldVote 10 0 8 (start_of job at now) ∷ []; spells = promise10_spells asks; heard = refl }; is = refl }; planned = tt },
    record { letters = tt; votes = refl; learnt = refl; call = refl },
  )

  may12 : AsksFor table job at now → MayFollow 3 table (standing_at 12) r12.turn r12
  unfolding step campaign propose answer tick hear hear_all line on_prepare on_promise on_accept on_accepted on_known after_row after_act after_delta deltas_by learnt_by calls_by sent_by with_member votes_from votes_below put_vote vote_at with_vote packets_of messages_of
  may12 asks = (
    record { member = lit< tt; runs = refl; event_of = (asks.inside, record { rows = first_rows table; intent = intent.Start job at }, refl); planned = (refl, asks.start) },
    record { letters = (record { to = refl; spells = accept10_spells asks }, (record { to = refl; spells = accept10_spells asks }, tt)); votes = refl; learnt = refl; call = refl },
  )

  may13 : AsksFor table job at now → MayFollow 3 table (standing_at 13) r13.turn r13
  unfolding step campaign propose answer tick hear hear_all line on_prepare on_promise on_accept on_accepted on_known after_row after_act after_delta deltas_by learnt_by calls_by sent_by with_member votes_from votes_below put_vote vote_at with_vote packets_of messages_of
  may13 asks = (
    record { member = lit< tt; runs = refl; event_of = record { letter = record { from = 2; to = 1; bytes = spelling 2 (packet.Accept 10 0 (start_of job at now) ∷ []) }; there = refl; to = refl; messages = (Accept (vote 10) ∷ []); heard = record { packets = packet.Accept 10 0 (start_of job at now) ∷ []; spells = accept10_spells asks; heard = refl }; is = refl }; planned = tt },
    record { letters = (record { to = refl; spells = accepted10_spells asks }, tt); votes = refl; learnt = refl; call = refl },
  )

  may14 : AsksFor table job at now → MayFollow 3 table (standing_at 14) r14.turn r14
  unfolding step campaign propose answer tick hear hear_all line on_prepare on_promise on_accept on_accepted on_known after_row after_act after_delta deltas_by learnt_by calls_by sent_by with_member votes_from votes_below put_vote vote_at with_vote packets_of messages_of
  may14 asks = (
    record { member = lit< tt; runs = refl; event_of = record { letter = record { from = 1; to = 2; bytes = spelling 1 (packet.Accepted 10 0 ∷ []) }; there = refl; to = refl; messages = (Accepted 10 0 ∷ []); heard = record { packets = packet.Accepted 10 0 ∷ []; spells = accepted10_spells asks; heard = refl }; is = refl }; planned = tt },
    record { letters = (record { to = refl; spells = known0_spells asks }, (record { to = refl; spells = known0_spells asks }, tt)); votes = refl; learnt = refl; call = refl },
  )

  may15 : AsksFor table job at now → MayFollow 3 table (standing_at 15) r15.turn r15
  unfolding step campaign propose answer tick hear hear_all line on_prepare on_promise on_accept on_accepted on_known after_row after_act after_delta deltas_by learnt_by calls_by sent_by with_member votes_from votes_below put_vote vote_at with_vote packets_of messages_of
  may15 asks = (
    record { member = lit< tt; runs = refl; event_of = record { letter = record { from = 2; to = 0; bytes = spelling 2 (packet.Known 0 (start_of job at now) ∷ []) }; there = refl; to = refl; messages = (Known 0 (start_of job at now) ∷ []); heard = record { packets = packet.Known 0 (start_of job at now) ∷ []; spells = known0_spells asks; heard = refl }; is = refl }; planned = tt },
    record { letters = tt; votes = refl; learnt = refl; call = refl },
  )

  may16 : AsksFor table job at now → MayFollow 3 table (standing_at 16) r16.turn r16
  unfolding step campaign propose answer tick hear hear_all line on_prepare on_promise on_accept on_accepted on_known after_row after_act after_delta deltas_by learnt_by calls_by sent_by with_member votes_from votes_below put_vote vote_at with_vote packets_of messages_of
  may16 asks = (
    record { member = lit< tt; runs = refl; event_of = record { letter = record { from = 0; to = 1; bytes = spelling 0 (packet.Accept 8 0 (start_of job at now) ∷ []) }; there = refl; to = refl; messages = (Accept (vote 8) ∷ []); heard = record { packets = packet.Accept 8 0 (start_of job at now) ∷ []; spells = accept8_spells asks; heard = refl }; is = refl }; planned = tt },
    record { letters = (record { to = refl; spells = nack8_spells asks }, tt); votes = refl; learnt = refl; call = refl },
  )

  may17 : AsksFor table job at now → MayFollow 3 table (standing_at 17) r17.turn r17
  unfolding step campaign propose answer tick hear hear_all line on_prepare on_promise on_accept on_accepted on_known after_row after_act after_delta deltas_by learnt_by calls_by sent_by with_member votes_from votes_below put_vote vote_at with_vote packets_of messages_of
  may17 asks = (
    record { member = lit< tt; runs = refl; event_of = (asks.inside, record { rows = started_rows table job at now; intent = intent.Call job at Launch }, refl); planned = (started asks, asks.call) },
    record { letters = tt; votes = refl; learnt = refl; call = (refl, refl, refl) },
  )

  -- the name of the launch is its own
  same_name : is_name (record { job = job; at = at }) (record { job = job; at = at }) ≡ true
  same_name = rw (eq-eqb job job refl, eq-int_eq at) refl

  answered_by : AsksFor table job at now → Some (launch_row job at now) ≡ answered (call Done (launch_row job at now) (under (record { job = job; at = at }) (launch_row job at now ∷ []))).answer
  answered_by asks = rw same_name refl

  -- the launch is open after its start
  open_there : AsksFor table job at now → is_open job at (started_rows table job at now) ≡ true
  open_there asks = let may = asks.call.0.may in rw (may.is_row, may.is_open, may.cursor) (eq-int_eq at)

  may18 : AsksFor table job at now → MayFollow 3 table (standing_at 18) r18.turn r18
  unfolding step campaign propose answer tick hear hear_all line on_prepare on_promise on_accept on_accepted on_known after_row after_act after_delta deltas_by learnt_by calls_by sent_by with_member votes_from votes_below put_vote vote_at with_vote packets_of messages_of
  may18 asks = (record { row = launch_row job at now; there = refl; first = λ (k, within, is). omega (arith, within) }, record { letters = refl; votes = refl; learnt = refl })

  may19 : AsksFor table job at now → MayFollow 3 table (standing_at 19) r19.turn r19
  unfolding step campaign propose answer tick hear hear_all line on_prepare on_promise on_accept on_accepted on_known after_row after_act after_delta deltas_by learnt_by calls_by sent_by with_member votes_from votes_below put_vote vote_at with_vote packets_of messages_of
  may19 asks = (
    record { member = lit< tt; runs = refl; event_of = (asks.inside, record { rows = started_rows table job at now; intent = intent.Call job at Launch }, refl); planned = (started asks, asks.call) },
    record { letters = tt; votes = refl; learnt = refl; call = (refl, refl, answered_by asks) },
  )

  may20 : AsksFor table job at now → MayFollow 3 table (standing_at 20) r20.turn r20
  unfolding step campaign propose answer tick hear hear_all line on_prepare on_promise on_accept on_accepted on_known after_row after_act after_delta deltas_by learnt_by calls_by sent_by with_member votes_from votes_below put_vote vote_at with_vote packets_of messages_of
  may20 asks = (
    record { member = lit< tt; runs = refl; event_of = record { row = launch_row job at now; waits = refl; plan = record { rows = started_rows table job at now; intent = intent.Rest }; is = refl }; planned = started asks },
    record { letters = rw (open_there asks) (record { to = refl; spells = accept_end_spells asks }, (record { to = refl; spells = accept_end_spells asks }, tt)); votes = rw (open_there asks) refl; learnt = rw (open_there asks) refl; call = rw (open_there asks) refl },
  )

  -- a row that is found is the one that stands there
  found_row : (k : ℕ) (one row : Row) → Some one ≡ Some row → MayFollow 3 table (standing_at k) one.turn one → MayFollow 3 table (standing_at k) row.turn row
  found_row k one row is may = let same : one ≡ row = cc in subst (λ r. MayFollow 3 table (standing_at k) r.turn r) same may

  pub legal : AsksFor table job at now → IsLegal 3 table book
  legal asks zero row is = found_row 0 r0 row is (may0 asks)
  legal asks (suc zero) row is = found_row 1 r1 row is (may1 asks)
  legal asks (suc (suc zero)) row is = found_row 2 r2 row is (may2 asks)
  legal asks (suc (suc (suc zero))) row is = found_row 3 r3 row is (may3 asks)
  legal asks (suc (suc (suc (suc zero)))) row is = found_row 4 r4 row is (may4 asks)
  legal asks (suc (suc (suc (suc (suc zero))))) row is = found_row 5 r5 row is (may5 asks)
  legal asks (suc (suc (suc (suc (suc (suc zero)))))) row is = found_row 6 r6 row is (may6 asks)
  legal asks (suc (suc (suc (suc (suc (suc (suc zero))))))) row is = found_row 7 r7 row is (may7 asks)
  legal asks (suc (suc (suc (suc (suc (suc (suc (suc zero)))))))) row is = found_row 8 r8 row is (may8 asks)
  legal asks (suc (suc (suc (suc (suc (suc (suc (suc (suc zero))))))))) row is = found_row 9 r9 row is (may9 asks)
  legal asks (suc (suc (suc (suc (suc (suc (suc (suc (suc (suc zero)))))))))) row is = found_row 10 r10 row is (may10 asks)
  legal asks (suc (suc (suc (suc (suc (suc (suc (suc (suc (suc (suc zero))))))))))) row is = found_row 11 r11 row is (may11 asks)
  legal asks (suc (suc (suc (suc (suc (suc (suc (suc (suc (suc (suc (suc zero)))))))))))) row is = found_row 12 r12 row is (may12 asks)
  legal asks (suc (suc (suc (suc (suc (suc (suc (suc (suc (suc (suc (suc (suc zero))))))))))))) row is = found_row 13 r13 row is (may13 asks)
  legal asks (suc (suc (suc (suc (suc (suc (suc (suc (suc (suc (suc (suc (suc (suc zero)))))))))))))) row is = found_row 14 r14 row is (may14 asks)
  legal asks (suc (suc (suc (suc (suc (suc (suc (suc (suc (suc (suc (suc (suc (suc (suc zero))))))))))))))) row is = found_row 15 r15 row is (may15 asks)
  legal asks (suc (suc (suc (suc (suc (suc (suc (suc (suc (suc (suc (suc (suc (suc (suc (suc zero)))))))))))))))) row is = found_row 16 r16 row is (may16 asks)
  legal asks (suc (suc (suc (suc (suc (suc (suc (suc (suc (suc (suc (suc (suc (suc (suc (suc (suc zero))))))))))))))))) row is = found_row 17 r17 row is (may17 asks)
  legal asks (suc (suc (suc (suc (suc (suc (suc (suc (suc (suc (suc (suc (suc (suc (suc (suc (suc (suc zero)))))))))))))))))) row is = found_row 18 r18 row is (may18 asks)
  legal asks (suc (suc (suc (suc (suc (suc (suc (suc (suc (suc (suc (suc (suc (suc (suc (suc (suc (suc (suc zero))))))))))))))))))) row is = found_row 19 r19 row is (may19 asks)
  legal asks (suc (suc (suc (suc (suc (suc (suc (suc (suc (suc (suc (suc (suc (suc (suc (suc (suc (suc (suc (suc zero)))))))))))))))))))) row is = found_row 20 r20 row is (may20 asks)
  legal asks (suc (suc (suc (suc (suc (suc (suc (suc (suc (suc (suc (suc (suc (suc (suc (suc (suc (suc (suc (suc (suc k))))))))))))))))))))) row is = absurd cc
