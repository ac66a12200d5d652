-- One replica takes a turn in a situation of a legal book over that table, and no letter is on its way.
use Rattle.std.proofs.Common.{◌≡◌, ℕ, suc, ◌+◌, ◌-◌, ◌<◌, ◌==◌, ℤ, pos, true, Option, Some, None, List, [], ◌∷◌, ◌++◌, length, refl, sym, ap, ◌∙◌, inl, inr, arith, subst, lit<}
use Rattle.std.specs.Prelude.{IfSome}
use Rattle.std.proofs.lemmas.Bool.{cases_Bool, lt-leb, lt-ltb}
use Rattle.std.proofs.lemmas.List.Sums.{fold_push}
use Rattle.paxos_base.specs.Durable.{after_delta}
use Rattle.paxos_base.specs.Members.{with_member}
use Rattle.paxos_base.specs.Vote.{put_vote, vote_at, votes_from}
use Rattle.paxos_base.specs.declared.entry.Entry.{Entry}
use Rattle.paxos_base.specs.declared.entry.Entry.TheVariants as entry
use Rattle.paxos_base.specs.declared.entry.Kind.TheVariants.{Launch}
use Rattle.paxos_base.specs.declared.entry.Vote.{Vote}
use Rattle.paxos_base.specs.declared.rows.JobRow.{JobRow}
use Rattle.cluster_sched.specs.Fates.{call}
use Rattle.cluster_sched.specs.declared.fate.Fate.{Fate}
use Rattle.cluster_sched.specs.declared.fate.Fate.TheVariants.{Done}
use Rattle.cluster_sched.specs.declared.row.Name.{Name}
use Rattle.cluster_sched.specs.declared.row.SchedRow.{SchedRow}
use Rattle.launch_machine.specs.Clerk.{AppliesAll, first_rows}
use Rattle.launch_machine.specs.declared.machine.Intent.TheVariants as intent
use Rattle.step_spec.specs.Act.{Act, Call, Learn, Propose, Send, Stand, TakeLead, after_act}
use Rattle.step_spec.specs.Folds.{after_acts, calls_by, calls_of, learnt_of, sent_by}
use Rattle.step_spec.specs.Letters.{AreLettersOf}
use Rattle.step_spec.specs.Message.{Accept, Known, Lead, Others, Prepare}
use Rattle.step_spec.specs.Propose.{answer, campaign, propose, tick}
use Rattle.step_spec.specs.State.{State, started}
use Rattle.step_spec.specs.Step.{Event, Campaign, Tick, Answer, IsPlanned, Plan, step}
use Rattle.agreement.specs.Transition.{identity_of}
use Rattle.agreement.specs.World.{fresh}
use Rattle.history.specs.Book.{Row, Standing, acts_at, after_row, answer_to, first_standing, held_after, standing_after, under, votes_of}
use Rattle.history.specs.Legal.{IsEventOfCause, IsLegal, IsMade, MayFollow}
use Rattle.history.specs.declared.turn.CallRow.{CallRow}
use Rattle.history.specs.declared.turn.Cause.{Cause}
use Rattle.history.specs.declared.turn.Cause.TheVariants as causes
use Rattle.history.specs.declared.turn.Turn.TheVariants.{Did}
use Rattle.history.proofs.Turns.{legal_push}
use Rattle.launch_safety.proofs.Alone.{leading, vote}
use Rattle.script_semantics.specs.Situation.{Does, Situation, after_turn, delivered, fates_after, letters_for, mails_after}
use Rattle.run_outcome.proofs.SomeTable.{brief, call_asked, end_entry, idle, in_window, minute, opened, rest_asked, start_asked, start_entry}
use Rattle.history.proofs.Asks.{is_open_then, with_table}

-- the situation is that of a legal book: what the replica has, what is held, and the answer that waits
pub record Has (book : List Row) (situation : Situation) (state : State) (held : List SchedRow) (waits : Option SchedRow) : Type 0 where
  pub legal : IsLegal 1 brief book
  pub of_book : situation.standing ≡ standing_after 1 (first_rows brief) book
  pub state_is : situation.standing.replicas 0 ≡ state
  pub runs : situation.standing.runs 0 ≡ true
  pub held_are : situation.standing.held ≡ held
  pub waits_is : situation.standing.waits 0 ≡ waits
  pub posted_are : situation.standing.posted ≡ []
  pub mails_are : (who : ℕ) → situation.mails who ≡ []
  pub right : (who : ℕ) → situation.skews who ≡ pos 0
  pub done : (who : ℕ) → situation.fates who ≡ Done

-- ---- letters

no_letters : (situation : Situation) (first who : ℕ) → situation.standing.posted ≡ [] → letters_for situation first who ≡ []
no_letters situation first who none =
    let nothing : length situation.standing.posted - first ≡ 0 = (let long : length situation.standing.posted ≡ 0 = ap length none in omega (arith, long)) in
    rw nothing refl

pub delivers : (book : List Row) (situation : Situation) (state : State) (held : List SchedRow) (waits : Option SchedRow) (first : ℕ) → Has book situation state held waits → Has book (delivered first situation) state held waits
delivers book situation state held waits first has = record {
  legal = has.legal;
  of_book = has.of_book;
  state_is = has.state_is;
  runs = has.runs;
  held_are = has.held_are;
  waits_is = has.waits_is;
  posted_are = has.posted_are;
  mails_are = λ who. ap (λ mail. mail ++ letters_for situation first who) (has.mails_are who) ∙ no_letters situation first who has.posted_are;
  right = has.right;
  done = has.done;
}

-- ---- a turn

-- it takes a turn for the cause
pub record Goes (book : List Row) (situation : Situation) (cause : Cause) (state : State) (held : List SchedRow) (waits : Option SchedRow) : Type 0 where
  pub row : Row
  pub does : Does situation.fates 0 cause row.turn
  pub has : Has (book ++ row ∷ []) (after_turn 1 situation row) state held waits

-- where it has this, a turn for the cause leaves that
abbrev pub Move : (one : State) (held : List SchedRow) (waits : Option SchedRow) → Cause → (other : State) (held_then : List SchedRow) (waits_then : Option SchedRow) → Type 0
Move one held waits cause other held_then waits_then = (book : List Row) (situation : Situation) → Has book situation one held waits → Goes book situation cause other held_then waits_then

-- a cause but a letter
abbrev LeavesMail : Cause → Type 0
LeavesMail cause = (made : Option CallRow) (mails : ℕ → List ℕ) → mails_after (Did 0 cause made) mails ≡ mails

done_then : (cause : Cause) (made : Option CallRow) (fates : ℕ → Fate) → ((who : ℕ) → fates who ≡ Done) → (who : ℕ) → fates_after (Did 0 cause made) fates who ≡ Done
done_then cause None fates all who = all who
done_then cause (Some made) fates all who = elim (cases_Bool (who == 0)) [ inl first ↦ rw first refl | inr other ↦ rw other (all who) ]

made_done : (made : Option CallRow) (fates : ℕ → Fate) → fates 0 ≡ Done → IfSome made (λ call. call.fate ≡ Done) → IfSome made (λ call. call.fate ≡ fates 0)
made_done None fates is done = tt
made_done (Some made) fates is done = done ∙ sym is

did : (one after : State) (held : List SchedRow) (waits : Option SchedRow) (cause : Cause) (made : Option CallRow) (event : Event) (acts : List Act) → LeavesMail cause
    → step (identity_of 1 0) event one ≡ acts → after_acts acts one ≡ after → IsPlanned brief one event → AreLettersOf (identity_of 1 0) acts [] → IsMade held (calls_of acts) made
    → IfSome made (λ call. call.fate ≡ Done) → ((standing : Standing) → standing.waits 0 ≡ waits → IsEventOfCause 1 brief standing 0 cause event)
    → Move one held waits cause after (held_after made held) (answer_to made)
unfolding after_row
did one after held waits cause made event acts leaves are comes planned spelled call fate of_cause book situation has = record {
  row = row;
  does = record { made = made; is = refl; fate = made_done made situation.fates (has.done 0) fate };
  has = record {
    legal = legal_push 1 brief book row has.legal (subst (λ standing. MayFollow 1 brief standing (Did 0 cause made) row) has.of_book may);
    of_book = ap (λ standing. after_row 1 standing (Did 0 cause made) event []) has.of_book ∙ sym (fold_push _ (first_standing 1 (first_rows brief)) book row);
    state_is = ap (λ state. after_acts (step (identity_of 1 0) event state) state) has.state_is ∙ ap (λ some. after_acts some one) are ∙ comes;
    runs = has.runs;
    held_are = ap (λ some. held_after made some) has.held_are;
    waits_is = refl;
    posted_are = ap (λ some. some ++ []) has.posted_are;
    mails_are = λ who. ap (λ mails. mails who) (leaves made situation.mails) ∙ has.mails_are who;
    right = has.right;
    done = done_then cause made situation.fates has.done;
  };
}
  where
    row : Row
    row = record { turn = Did 0 cause made; event = event; letters = []; votes = votes_of acts; learnt = learnt_of acts }

    same : acts_at 1 situation.standing 0 event ≡ acts
    same = ap (step (identity_of 1 0) event) has.state_is ∙ are

    may : MayFollow 1 brief situation.standing (Did 0 cause made) row
    may = (
      record { member = lit< tt; runs = has.runs; event_of = of_cause situation.standing has.waits_is; planned = subst (λ s. IsPlanned brief s event) (sym has.state_is) planned },
      record {
        letters = subst (λ some. AreLettersOf (identity_of 1 0) some []) (sym same) spelled;
        votes = ap votes_of (sym same);
        learnt = ap learnt_of (sym same);
        call = subst (λ some. IsMade situation.standing.held (calls_of some) made) (sym same) (subst (λ some. IsMade some (calls_of acts) made) (sym has.held_are) call);
      },
    )

-- ---- its steps

abbrev standing_up : List Act
standing_up = Stand 0 8 ∷ Send Others (Prepare 8 0) ∷ TakeLead ∷ []

abbrev proposing : ℕ → Entry → List Act
proposing slot e = Propose 0 (vote slot e) ∷ Send Others (Accept (vote slot e)) ∷ Learn slot e ∷ Send Others (Known slot e) ∷ []

after_proposing : (votes : List Vote) (entries : List Entry) (e : Entry)
    → after_acts (proposing (0 + length entries) e) (leading brief votes entries) ≡ leading brief (put_vote (vote (0 + length entries) e) votes) (entries ++ e ∷ [])
unfolding after_act after_delta
after_proposing votes entries e = rw (lt-ltb (0 + length entries) (0 + length entries + 1) (omega arith)) refl

abbrev pub new : State
new = started 0 (fresh (first_rows brief))

-- before it leads, its clock ticks
pub waits_still : Move new [] None (causes.Tick (record { 0 = minute 0 })) new [] None
unfolding step tick sent_by calls_by
waits_still =
    did new new [] None (causes.Tick (record { 0 = minute 0 })) None (Tick (minute 0) plan) [] (λ made mails. refl) refl refl (refl, start_asked 0 (lit< tt)) tt refl tt
    (λ standing is. (in_window 0 (lit< tt), plan, refl))
  where
    plan : Plan
    plan = record { rows = with_table (idle 0); intent = intent.Start 0 (minute 0) }

-- it stands for leader, and leads
pub leads : Move new [] None causes.Campaign (leading brief [] []) [] None
unfolding step campaign with_member sent_by after_act after_delta votes_from calls_by
leads = did new (leading brief [] []) [] None causes.Campaign None Campaign standing_up (λ made mails. refl) refl refl tt tt refl tt (λ standing is. refl)

-- so many entries at most were learned
abbrev pub IsShort : List Entry → Type 0
IsShort entries = length entries < 64

start_acts : (rows : List JobRow) (votes : List Vote) (entries : List Entry) (at now : ℤ) → IsShort entries
    → step (identity_of 1 0) (Tick now (record { rows = rows; intent = intent.Start 0 at })) (leading brief votes entries) ≡ proposing (0 + length entries) (entry.Start 0 at now)
unfolding step tick propose votes_from vote_at with_member
start_acts rows votes entries at now short = rw (lt-leb (0 + 64) (0 + length entries) (omega (arith, short))) refl

-- it starts a launch
pub starts : (k : ℕ) (votes : List Vote) (entries : List Entry) (held : List SchedRow) → k < 2 → IsShort entries → AppliesAll brief (first_rows brief) entries (with_table (idle k))
    → Move (leading brief votes entries) held None (causes.Tick (record { 0 = minute k })) (leading brief (put_vote (vote (0 + length entries) (start_entry k)) votes) (entries ++ start_entry k ∷ [])) held None
unfolding sent_by calls_by
starts k votes entries held within short applied =
    did (leading brief votes entries) _ held None (causes.Tick (record { 0 = minute k })) None (Tick (minute k) plan) (proposing (0 + length entries) (start_entry k)) (λ made mails. refl)
    (start_acts (with_table (idle k)) votes entries (minute k) (minute k) short) (after_proposing votes entries (start_entry k)) (applied, start_asked k within) tt refl tt
    (λ standing is. (in_window k within, plan, refl))
  where
    plan : Plan
    plan = record { rows = with_table (idle k); intent = intent.Start 0 (minute k) }

abbrev pub name : ℕ → Name
name k = record { job = 0; at = minute k }

abbrev pub call_row : ℕ → SchedRow
call_row k = record { name = name k; kind = Launch; now = record { 0 = minute k }; by = 0 }

abbrev answered_call : ℕ → CallRow
answered_call k = record { row = call_row k; fate = Done; answer = Some (call_row k) }

call_acts : (rows : List JobRow) (votes : List Vote) (entries : List Entry) (k : ℕ) → IsShort entries
    → step (identity_of 1 0) (Tick (minute k) (record { rows = rows; intent = intent.Call 0 (minute k) Launch })) (leading brief votes entries) ≡ Call (call_row k) ∷ []
unfolding step tick votes_from
call_acts rows votes entries k short = rw (lt-leb (0 + 64) (0 + length entries) (omega (arith, short))) refl

-- it calls for it
pub calls : (k : ℕ) (votes : List Vote) (entries : List Entry) (held : List SchedRow) → k < 2 → IsShort entries → AppliesAll brief (first_rows brief) entries (with_table (opened k)) → under (name k) held ≡ None
    → Move (leading brief votes entries) held None (causes.Tick (record { 0 = minute k })) (leading brief votes entries) (held ++ call_row k ∷ []) (Some (call_row k))
unfolding sent_by calls_by after_act
calls k votes entries held within short applied none =
    subst (λ then. Move (leading brief votes entries) held None (causes.Tick (record { 0 = minute k })) (leading brief votes entries) then (Some (call_row k))) held_is
    (did (leading brief votes entries) (leading brief votes entries) held None (causes.Tick (record { 0 = minute k })) (Some (answered_call k)) (Tick (minute k) plan) (Call (call_row k) ∷ []) (λ made mails. refl)
    (call_acts (with_table (opened k)) votes entries k short) refl (applied, call_asked k) tt (refl, refl, rw none refl) refl
    (λ standing is. (in_window k within, plan, refl)))
  where
    plan : Plan
    plan = record { rows = with_table (opened k); intent = intent.Call 0 (minute k) Launch }

    held_is : held_after (Some (answered_call k)) held ≡ held ++ call_row k ∷ []
    held_is = rw none refl

end_acts : (votes : List Vote) (entries : List Entry) (k : ℕ)
    → step (identity_of 1 0) (Answer 0 (minute k) Launch (with_table (opened k))) (leading brief votes entries) ≡ proposing (0 + length entries) (end_entry k)
unfolding step answer propose votes_from vote_at with_member
end_acts votes entries k = rw (is_open_then k) refl

-- it ends it, as the scheduler has answered
pub ends : (k : ℕ) (votes : List Vote) (entries : List Entry) (held : List SchedRow) → AppliesAll brief (first_rows brief) entries (with_table (opened k))
    → Move (leading brief votes entries) held (Some (call_row k)) causes.Answer (leading brief (put_vote (vote (0 + length entries) (end_entry k)) votes) (entries ++ end_entry k ∷ [])) held None
unfolding sent_by calls_by
ends k votes entries held applied =
    did (leading brief votes entries) _ held (Some (call_row k)) causes.Answer None (Answer 0 (minute k) Launch (with_table (opened k))) (proposing (0 + length entries) (end_entry k)) (λ made mails. refl)
    (end_acts votes entries k) (after_proposing votes entries (end_entry k)) applied tt refl tt
    (λ standing is. record { row = call_row k; waits = is; plan = record { rows = with_table (opened k); intent = intent.Rest }; is = refl })

rest_acts : (rows : List JobRow) (votes : List Vote) (entries : List Entry) (now : ℤ) → IsShort entries
    → step (identity_of 1 0) (Tick now (record { rows = rows; intent = intent.Rest })) (leading brief votes entries) ≡ Send Others (Lead 8 (0 + length entries)) ∷ []
unfolding step tick votes_from
rest_acts rows votes entries now short = rw (lt-leb (0 + 64) (0 + length entries) (omega (arith, short))) refl

-- it rests
pub rests : (k : ℕ) (votes : List Vote) (entries : List Entry) (held : List SchedRow) → k < 2 → IsShort entries → AppliesAll brief (first_rows brief) entries (with_table (idle (suc k)))
    → Move (leading brief votes entries) held None (causes.Tick (record { 0 = minute k })) (leading brief votes entries) held None
unfolding sent_by calls_by after_act
rests k votes entries held within short applied =
    did (leading brief votes entries) (leading brief votes entries) held None (causes.Tick (record { 0 = minute k })) None (Tick (minute k) plan) (Send Others (Lead 8 (0 + length entries)) ∷ []) (λ made mails. refl)
    (rest_acts (with_table (idle (suc k))) votes entries (minute k) short) refl (applied, rest_asked k) tt refl tt
    (λ standing is. (in_window k within, plan, refl))
  where
    plan : Plan
    plan = record { rows = with_table (idle (suc k)); intent = intent.Rest }
