-- One replica takes its turns in a situation of a legal book over that table, and no letter is on its way.
use Rattle.std.proofs.Common.{◌≡◌, ℕ, ◌+◌, ◌-◌, ◌<◌, ◌==◌, pos, true, Option, Some, None, List, [], ◌∷◌, ◌++◌, length, refl, sym, ap, ◌∙◌, inl, inr, arith, subst, lit<}
use Rattle.std.specs.Prelude.{IfSome}
use Rattle.std.proofs.lemmas.Bool.{cases_Bool, lt-leb, lt-ltb}
use Rattle.std.proofs.lemmas.List.Sums.{fold_push}
use Rattle.paxos_base.specs.Durable.{after_delta}
use Rattle.paxos_base.specs.Members.{with_member}
use Rattle.paxos_base.specs.Vote.{put_vote, vote_at, votes_from}
use Rattle.paxos_base.specs.declared.entry.Entry.{Entry}
use Rattle.paxos_base.specs.declared.entry.Kind.TheVariants.{Launch}
use Rattle.paxos_base.specs.declared.entry.Vote.{Vote}
use Rattle.paxos_base.specs.declared.rows.JobRow.{JobRow}
use Rattle.cluster_sched.specs.Fates.{call}
use Rattle.cluster_sched.specs.declared.fate.Fate.{Fate}
use Rattle.cluster_sched.specs.declared.fate.Fate.TheVariants.{Done}
use Rattle.cluster_sched.specs.declared.row.SchedRow.{SchedRow}
use Rattle.launch_machine.specs.Clerk.{first_rows}
use Rattle.launch_machine.specs.declared.machine.Intent.TheVariants as intent
use Rattle.step_spec.specs.Act.{Act, Call, Learn, Propose, Send, Stand, TakeLead, after_act}
use Rattle.step_spec.specs.Folds.{after_acts, calls_by, calls_of, learnt_of, sent_by}
use Rattle.step_spec.specs.Letters.{AreLettersOf}
use Rattle.step_spec.specs.Message.{Accept, Known, Lead, Others, Prepare}
use Rattle.step_spec.specs.Propose.{answer, campaign, is_open, propose, tick}
use Rattle.step_spec.specs.State.{State, started}
use Rattle.step_spec.specs.Step.{Event, Campaign, Tick, Answer, IsPlanned, Plan, step}
use Rattle.agreement.specs.Transition.{identity_of}
use Rattle.agreement.specs.World.{fresh}
use Rattle.history.specs.Book.{Row, Standing, acts_at, after_row, answer_to, first_standing, held_after, standing_after, votes_of}
use Rattle.history.specs.Legal.{IsEventOfCause, IsLegal, IsMade, MayFollow}
use Rattle.history.specs.declared.turn.CallRow.{CallRow}
use Rattle.history.specs.declared.turn.Cause.{Cause}
use Rattle.history.specs.declared.turn.Cause.TheVariants as causes
use Rattle.history.specs.declared.turn.Turn.TheVariants.{Did}
use Rattle.history.proofs.Turns.{legal_push}
use Rattle.launch_safety.proofs.Alone.{leading, vote}
use Rattle.script_semantics.specs.Situation.{Does, Situation, after_turn, delivered, fates_after, letters_for, mails_after}
use Rattle.history.proofs.Asks.{with_table}
use Rattle.run_outcome.proofs.SomeDaily.{applied_end, applied_none, applied_start, call_asked, call_row, daily, end_entry, idle, inside, is_open_then, now, opened, over, rest_asked, start_asked, start_entry, today}

-- the situation is that of a legal book: what the replica has, what is held, and the answer that waits
pub record Has (book : List Row) (situation : Situation) (state : State) (held : List SchedRow) (waits : Option SchedRow) : Type 0 where
  pub legal : IsLegal 1 daily book
  pub of_book : situation.standing ≡ standing_after 1 (first_rows daily) book
  pub state_is : situation.standing.replicas 0 ≡ state
  pub runs : situation.standing.runs 0 ≡ true
  pub held_are : situation.standing.held ≡ held
  pub waits_is : situation.standing.waits 0 ≡ waits
  pub posted_are : situation.standing.posted ≡ []
  pub mails_are : (who : ℕ) → situation.mails who ≡ []
  pub right : (who : ℕ) → situation.skews who ≡ pos 0
  pub done : (who : ℕ) → situation.fates who ≡ Done

-- ---- letters

no_letters : (situation : Situation) (first who : ℕ) → situation.standing.posted ≡ [] → letters_for situation first who ≡ []
no_letters situation first who none =
    let nothing : length situation.standing.posted - first ≡ 0 = (let long : length situation.standing.posted ≡ 0 = ap length none in omega (arith, long)) in
    rw nothing refl

pub delivers : (book : List Row) (situation : Situation) (state : State) (held : List SchedRow) (waits : Option SchedRow) (first : ℕ) → Has book situation state held waits → Has book (delivered first situation) state held waits
delivers book situation state held waits first has = record {
  legal = has.legal;
  of_book = has.of_book;
  state_is = has.state_is;
  runs = has.runs;
  held_are = has.held_are;
  waits_is = has.waits_is;
  posted_are = has.posted_are;
  mails_are = λ who. ap (λ mail. mail ++ letters_for situation first who) (has.mails_are who) ∙ no_letters situation first who has.posted_are;
  right = has.right;
  done = has.done;
}

-- ---- a turn

-- it takes a turn for the cause
pub record Goes (book : List Row) (situation : Situation) (cause : Cause) (state : State) (held : List SchedRow) (waits : Option SchedRow) : Type 0 where
  pub row : Row
  pub does : Does situation.fates 0 cause row.turn
  pub has : Has (book ++ row ∷ []) (after_turn 1 situation row) state held waits

-- where it has this, a turn for the cause leaves that
abbrev pub Move : (one : State) (held : List SchedRow) (waits : Option SchedRow) → Cause → (other : State) (held_then : List SchedRow) (waits_then : Option SchedRow) → Type 0
Move one held waits cause other held_then waits_then = (book : List Row) (situation : Situation) → Has book situation one held waits → Goes book situation cause other held_then waits_then

-- a cause but a letter
abbrev LeavesMail : Cause → Type 0
LeavesMail cause = (made : Option CallRow) (mails : ℕ → List ℕ) → mails_after (Did 0 cause made) mails ≡ mails

done_then : (cause : Cause) (made : Option CallRow) (fates : ℕ → Fate) → ((who : ℕ) → fates who ≡ Done) → (who : ℕ) → fates_after (Did 0 cause made) fates who ≡ Done
done_then cause None fates all who = all who
done_then cause (Some made) fates all who = elim (cases_Bool (who == 0)) [ inl first ↦ rw first refl | inr other ↦ rw other (all who) ]

made_done : (made : Option CallRow) (fates : ℕ → Fate) → fates 0 ≡ Done → IfSome made (λ call. call.fate ≡ Done) → IfSome made (λ call. call.fate ≡ fates 0)
made_done None fates is done = tt
made_done (Some made) fates is done = done ∙ sym is

did : (one after : State) (held : List SchedRow) (waits : Option SchedRow) (cause : Cause) (made : Option CallRow) (event : Event) (acts : List Act) → LeavesMail cause
    → step (identity_of 1 0) event one ≡ acts → after_acts acts one ≡ after → IsPlanned daily one event → AreLettersOf (identity_of 1 0) acts [] → IsMade held (calls_of acts) made
    → IfSome made (λ call. call.fate ≡ Done) → ((standing : Standing) → standing.waits 0 ≡ waits → IsEventOfCause 1 daily standing 0 cause event)
    → Move one held waits cause after (held_after made held) (answer_to made)
unfolding after_row
did one after held waits cause made event acts leaves are comes planned spelled call fate of_cause book situation has = record {
  row = row;
  does = record { made = made; is = refl; fate = made_done made situation.fates (has.done 0) fate };
  has = record {
    legal = legal_push 1 daily book row has.legal (subst (λ standing. MayFollow 1 daily standing (Did 0 cause made) row) has.of_book may);
    of_book = ap (λ standing. after_row 1 standing (Did 0 cause made) event []) has.of_book ∙ sym (fold_push _ (first_standing 1 (first_rows daily)) book row);
    state_is = ap (λ state. after_acts (step (identity_of 1 0) event state) state) has.state_is ∙ ap (λ some. after_acts some one) are ∙ comes;
    runs = has.runs;
    held_are = ap (λ some. held_after made some) has.held_are;
    waits_is = refl;
    posted_are = ap (λ some. some ++ []) has.posted_are;
    mails_are = λ who. ap (λ mails. mails who) (leaves made situation.mails) ∙ has.mails_are who;
    right = has.right;
    done = done_then cause made situation.fates has.done;
  };
}
  where
    row : Row
    row = record { turn = Did 0 cause made; event = event; letters = []; votes = votes_of acts; learnt = learnt_of acts }

    same : acts_at 1 situation.standing 0 event ≡ acts
    same = ap (step (identity_of 1 0) event) has.state_is ∙ are

    may : MayFollow 1 daily situation.standing (Did 0 cause made) row
    may = (
      record { member = lit< tt; runs = has.runs; event_of = of_cause situation.standing has.waits_is; planned = subst (λ s. IsPlanned daily s event) (sym has.state_is) planned },
      record {
        letters = subst (λ some. AreLettersOf (identity_of 1 0) some []) (sym same) spelled;
        votes = ap votes_of (sym same);
        learnt = ap learnt_of (sym same);
        call = subst (λ some. IsMade situation.standing.held (calls_of some) made) (sym same) (subst (λ some. IsMade some (calls_of acts) made) (sym has.held_are) call);
      },
    )

-- ---- its steps

abbrev standing_up : List Act
standing_up = Stand 0 8 ∷ Send Others (Prepare 8 0) ∷ TakeLead ∷ []

abbrev proposing : ℕ → Entry → List Act
proposing slot e = Propose 0 (vote slot e) ∷ Send Others (Accept (vote slot e)) ∷ Learn slot e ∷ Send Others (Known slot e) ∷ []

after_proposing : (votes : List Vote) (entries : List Entry) (e : Entry)
    → after_acts (proposing (0 + length entries) e) (leading daily votes entries) ≡ leading daily (put_vote (vote (0 + length entries) e) votes) (entries ++ e ∷ [])
unfolding after_act after_delta
after_proposing votes entries e = rw (lt-ltb (0 + length entries) (0 + length entries + 1) (omega arith)) refl

abbrev pub new : State
new = started 0 (fresh (first_rows daily))

-- it stands for leader, and leads
pub leads : Move new [] None causes.Campaign (leading daily [] []) [] None
unfolding step campaign with_member sent_by after_act after_delta votes_from calls_by
leads = did new (leading daily [] []) [] None causes.Campaign None Campaign standing_up (λ made mails. refl) refl refl tt tt refl tt (λ standing is. refl)

-- what it has once the launch is started, and once it has ended
abbrev pub started_state : State
started_state = leading daily (put_vote (vote 0 start_entry) []) (start_entry ∷ [])

abbrev pub ended_state : State
ended_state = leading daily (put_vote (vote 1 end_entry) (put_vote (vote 0 start_entry) [])) (start_entry ∷ end_entry ∷ [])

abbrev pub tick_now : Cause
tick_now = causes.Tick (record { 0 = now })

-- it starts the launch
start_acts : (rows : List JobRow) (votes : List Vote) (entries : List Entry) → length entries < 64
    → step (identity_of 1 0) (Tick now (record { rows = rows; intent = intent.Start 0 today })) (leading daily votes entries) ≡ proposing (0 + length entries) start_entry
unfolding step tick propose votes_from vote_at with_member
start_acts rows votes entries short = rw (lt-leb (0 + 64) (0 + length entries) (omega (arith, short))) refl

pub starts : Move (leading daily [] []) [] None tick_now started_state [] None
unfolding sent_by calls_by
starts =
    did (leading daily [] []) started_state [] None tick_now None (Tick now plan) (proposing 0 start_entry) (λ made mails. refl) (start_acts (with_table idle) [] [] (lit< tt)) (after_proposing [] [] start_entry) (applied_none, start_asked) tt refl tt
    (λ standing is. (inside, plan, refl))
  where
    plan : Plan
    plan = record { rows = with_table idle; intent = intent.Start 0 today }

abbrev answered_call : CallRow
answered_call = record { row = call_row; fate = Done; answer = Some call_row }

-- it calls for it
call_acts : (rows : List JobRow) (votes : List Vote) (entries : List Entry) → length entries < 64
    → step (identity_of 1 0) (Tick now (record { rows = rows; intent = intent.Call 0 today Launch })) (leading daily votes entries) ≡ Call call_row ∷ []
unfolding step tick votes_from
call_acts rows votes entries short = rw (lt-leb (0 + 64) (0 + length entries) (omega (arith, short))) refl

pub calls : Move started_state [] None tick_now started_state (call_row ∷ []) (Some call_row)
unfolding sent_by calls_by after_act
calls =
    did started_state started_state [] None tick_now (Some answered_call) (Tick now plan) (Call call_row ∷ []) (λ made mails. refl) (call_acts (with_table opened) started_state.kept.votes (start_entry ∷ []) (lit< tt)) refl (applied_start, call_asked) tt (refl, refl, refl) refl
    (λ standing is. (inside, plan, refl))
  where
    plan : Plan
    plan = record { rows = with_table opened; intent = intent.Call 0 today Launch }

-- it ends it, as the scheduler has answered
end_acts : (rows : List JobRow) (votes : List Vote) (entries : List Entry) → is_open 0 today rows ≡ true
    → step (identity_of 1 0) (Answer 0 today Launch rows) (leading daily votes entries) ≡ proposing (0 + length entries) end_entry
unfolding step answer propose votes_from vote_at with_member
end_acts rows votes entries open_then = rw open_then refl

pub ends : Move started_state (call_row ∷ []) (Some call_row) causes.Answer ended_state (call_row ∷ []) None
unfolding sent_by calls_by
ends =
    did started_state ended_state (call_row ∷ []) (Some call_row) causes.Answer None (Answer 0 today Launch (with_table opened)) (proposing 1 end_entry) (λ made mails. refl) (end_acts (with_table opened) started_state.kept.votes (start_entry ∷ []) is_open_then)
    (after_proposing (put_vote (vote 0 start_entry) []) (start_entry ∷ []) end_entry) applied_start tt refl tt
    (λ standing is. record { row = call_row; waits = is; plan = record { rows = with_table opened; intent = intent.Rest }; is = refl })

-- it rests
rest_acts : (rows : List JobRow) (votes : List Vote) (entries : List Entry) → length entries < 64
    → step (identity_of 1 0) (Tick now (record { rows = rows; intent = intent.Rest })) (leading daily votes entries) ≡ Send Others (Lead 8 (0 + length entries)) ∷ []
unfolding step tick votes_from
rest_acts rows votes entries short = rw (lt-leb (0 + 64) (0 + length entries) (omega (arith, short))) refl

pub rests : Move ended_state (call_row ∷ []) None tick_now ended_state (call_row ∷ []) None
unfolding sent_by calls_by after_act
rests =
    did ended_state ended_state (call_row ∷ []) None tick_now None (Tick now plan) (Send Others (Lead 8 2) ∷ []) (λ made mails. refl) (rest_acts (with_table over) ended_state.kept.votes (start_entry ∷ end_entry ∷ []) (lit< tt)) refl (applied_end, rest_asked) tt refl tt
    (λ standing is. (inside, plan, refl))
  where
    plan : Plan
    plan = record { rows = with_table over; intent = intent.Rest }
