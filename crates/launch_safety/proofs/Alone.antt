-- Books of one replica, which is a majority: it leads once it stands, and what it proposes is chosen at once.
use Rattle.std.proofs.Common.{◌≡◌, ℕ, ◌+◌, ◌<◌, ℤ, true, Option, Some, None, List, [], ◌∷◌, ◌++◌, length, refl, sym, ap, ◌∙◌, arith, subst, lit<}
use Rattle.std.specs.List.{Contains, slice_get}
use Rattle.std.proofs.lemmas.Bool.{lt-leb, lt-ltb}
use Rattle.zone_minutes.specs.Window.{IsInWindow}
use Rattle.due_set.specs.Table.{Table}
use Rattle.paxos_base.specs.Durable.{after_delta}
use Rattle.paxos_base.specs.Members.{with_member}
use Rattle.paxos_base.specs.Vote.{put_vote, vote_at, votes_from}
use Rattle.paxos_base.specs.declared.entry.Entry.{Entry}
use Rattle.paxos_base.specs.declared.entry.Entry.TheVariants as entry
use Rattle.paxos_base.specs.declared.entry.Kind.{Kind}
use Rattle.paxos_base.specs.declared.entry.Vote.{Vote}
use Rattle.paxos_base.specs.declared.rows.JobRow.{JobRow}
use Rattle.term_core.specs.declared.term.Term.TheVariants.{Leader}
use Rattle.cluster_sched.specs.Fates.{call}
use Rattle.cluster_sched.specs.declared.fate.Fate.{Fate}
use Rattle.cluster_sched.specs.declared.row.SchedRow.{SchedRow}
use Rattle.launch_machine.specs.Answers.{IsIntent}
use Rattle.launch_machine.specs.Clerk.{AppliesAll, first_rows}
use Rattle.launch_machine.specs.declared.machine.Intent.TheVariants as intent
use Rattle.step_spec.specs.Act.{Act, Learn, Call, Propose, Send, Stand, TakeLead, after_act}
use Rattle.step_spec.specs.Folds.{after_acts, calls_by, calls_of, learnt_of, sent_by}
use Rattle.step_spec.specs.Letters.{AreLettersOf}
use Rattle.step_spec.specs.Message.{Accept, Known, Others, Prepare}
use Rattle.step_spec.specs.Propose.{answer, campaign, is_open, propose, tick}
use Rattle.step_spec.specs.State.{State, started}
use Rattle.step_spec.specs.Step.{Event, Campaign, Tick, Answer, IsPlanned, Plan, step}
use Rattle.agreement.specs.Transition.{identity_of}
use Rattle.agreement.specs.World.{fresh}
use Rattle.history.specs.Book.{Standing, acts_at, after_row, answer_to, arriving, held_after, late_after, late_call, under, votes_of}
use Rattle.history.specs.Legal.{IsEventOfCause, IsMade, answered}
use Rattle.history.specs.declared.turn.CallRow.{CallRow}
use Rattle.history.specs.declared.turn.Cause.{Cause}
use Rattle.history.specs.declared.turn.Cause.TheVariants as causes
use Rattle.history.specs.declared.turn.Turn.TheVariants.{Did, Arrived}
use Rattle.history.proofs.Turns.{Book, Next, go_on}

-- what the replica has that leads
abbrev pub leading : Table → List Vote → List Entry → State
leading table votes entries =
    record { kept = record { tried = 1; promised = Some 8; votes = votes; base = 0; rows = first_rows table }; learned = entries; term = Leader 8 [] None; seen = 0 }

-- what stands: what the replica has, what is held, what is late and has arrived, and the answer that waits
pub record Stands (state : State) (held late : List SchedRow) (arrived : List ℕ) (waits : Option SchedRow) (standing : Standing) : Type 0 where
  pub state_is : standing.replicas 0 ≡ state
  pub runs : standing.runs 0 ≡ true
  pub held_are : standing.held ≡ held
  pub late_are : standing.late ≡ late
  pub arrived_are : standing.arrived ≡ arrived
  pub waits_is : standing.waits 0 ≡ waits

-- the next row by a step of the replica, of which no letter leaves
did : (table : Table) (one after : State) (held late : List SchedRow) (arrived : List ℕ) (waits : Option SchedRow) (standing : Standing) (cause : Cause) (made : Option CallRow) (event : Event) (acts : List Act)
    → step (identity_of 1 0) event one ≡ acts → after_acts acts one ≡ after → IsPlanned table one event → AreLettersOf (identity_of 1 0) acts [] → IsMade held (calls_of acts) made
    → IsEventOfCause 1 table standing 0 cause event → Stands one held late arrived waits standing
    → Next 1 table standing (Stands after (held_after made held) (late_after made held late) arrived (answer_to made))
unfolding after_row
did table one after held late arrived waits standing cause made event acts are comes planned spelled call of_cause there = record {
  row = record { turn = Did 0 cause made; event = event; letters = []; votes = votes_of acts; learnt = learnt_of acts };
  may = (
    record { member = lit< tt; runs = there.runs; event_of = of_cause; planned = subst (λ s. IsPlanned table s event) (sym there.state_is) planned },
    record {
      letters = subst (λ some. AreLettersOf (identity_of 1 0) some []) (sym same) spelled;
      votes = ap votes_of (sym same);
      learnt = ap learnt_of (sym same);
      call = subst (λ some. IsMade standing.held (calls_of some) made) (sym same) (subst (λ some. IsMade some (calls_of acts) made) (sym there.held_are) call);
    },
  );
  holds = record {
    state_is = ap (λ state. after_acts (step (identity_of 1 0) event state) state) there.state_is ∙ ap (λ some. after_acts some one) are ∙ comes;
    runs = there.runs;
    held_are = ap (λ some. held_after made some) there.held_are;
    late_are = ap (λ some. late_after made some standing.late) there.held_are ∙ ap (λ some. late_after made held some) there.late_are;
    arrived_are = there.arrived_are;
    waits_is = refl;
  };
}
  where
    same : acts_at 1 standing 0 event ≡ acts
    same = ap (step (identity_of 1 0) event) there.state_is ∙ are

-- ---- its steps

abbrev standing_up : List Act
standing_up = Stand 0 8 ∷ Send Others (Prepare 8 0) ∷ TakeLead ∷ []

abbrev pub vote : ℕ → Entry → Vote
vote slot e = record { slot = slot; ballot = 8; entry = e }

abbrev proposing : ℕ → Entry → List Act
proposing slot e = Propose 0 (vote slot e) ∷ Send Others (Accept (vote slot e)) ∷ Learn slot e ∷ Send Others (Known slot e) ∷ []

start_acts : (table : Table) (rows : List JobRow) (votes : List Vote) (entries : List Entry) (job : ℕ) (at now : ℤ) → length entries < 64
    → step (identity_of 1 0) (Tick now (record { rows = rows; intent = intent.Start job at })) (leading table votes entries) ≡ proposing (0 + length entries) (entry.Start job at now)
unfolding step tick propose votes_from vote_at with_member
start_acts table rows votes entries job at now short = rw (lt-leb (0 + 64) (0 + length entries) (omega (arith, short))) refl

call_acts : (table : Table) (rows : List JobRow) (votes : List Vote) (entries : List Entry) (job : ℕ) (at now : ℤ) (kind : Kind) → length entries < 64
    → step (identity_of 1 0) (Tick now (record { rows = rows; intent = intent.Call job at kind })) (leading table votes entries)
    ≡ Call (record { name = record { job = job; at = at }; kind = kind; now = record { 0 = now }; by = 0 }) ∷ []
unfolding step tick votes_from
call_acts table rows votes entries job at now kind short = rw (lt-leb (0 + 64) (0 + length entries) (omega (arith, short))) refl

end_acts : (table : Table) (rows : List JobRow) (votes : List Vote) (entries : List Entry) (job : ℕ) (at : ℤ) (kind : Kind) → is_open job at rows ≡ true
    → step (identity_of 1 0) (Answer job at kind rows) (leading table votes entries) ≡ proposing (0 + length entries) (entry.End job at kind)
unfolding step answer propose votes_from vote_at with_member
end_acts table rows votes entries job at kind opened = rw opened refl

after_proposing : (table : Table) (votes : List Vote) (entries : List Entry) (e : Entry)
    → after_acts (proposing (0 + length entries) e) (leading table votes entries) ≡ leading table (put_vote (vote (0 + length entries) e) votes) (entries ++ e ∷ [])
unfolding after_act after_delta
after_proposing table votes entries e = rw (lt-ltb (0 + length entries) (0 + length entries + 1) (omega arith)) refl

-- ---- its turns

-- the replica leads
pub led : (table : Table) → Book 1 table (Stands (leading table [] []) [] [] [] None)
unfolding step campaign with_member sent_by after_act after_delta votes_from calls_by
led table =
    go_on 1 table (Stands (started 0 (fresh (first_rows table))) [] [] [] None) _
    (λ standing there. did table (started 0 (fresh (first_rows table))) (leading table [] []) [] [] [] None standing causes.Campaign None Campaign standing_up refl refl tt tt refl refl there)
    (record {
      rows = [];
      legal = λ number row is. absurd cc;
      holds = record { state_is = refl; runs = refl; held_are = refl; late_are = refl; arrived_are = refl; waits_is = refl };
    })

-- it starts a launch
pub start : (table : Table) (votes : List Vote) (entries : List Entry) (held late : List SchedRow) (arrived : List ℕ) (waits : Option SchedRow) (rows : List JobRow) (job : ℕ) (at now : ℤ)
    → length entries < 64 → IsInWindow table.window now → AppliesAll table (first_rows table) entries rows → IsIntent table rows now (intent.Start job at)
    → Book 1 table (Stands (leading table votes entries) held late arrived waits)
    → Book 1 table (Stands (leading table (put_vote (vote (0 + length entries) (entry.Start job at now)) votes) (entries ++ entry.Start job at now ∷ [])) held late arrived None)
unfolding sent_by calls_by
start table votes entries held late arrived waits rows job at now short inside applied asked book =
    go_on 1 table _ _ (λ standing there. did table (leading table votes entries) _ held late arrived waits standing (causes.Tick (record { 0 = now })) None (Tick now plan) _
    (start_acts table rows votes entries job at now short) (after_proposing table votes entries (entry.Start job at now)) (applied, asked) tt refl (inside, plan, refl) there) book
  where
    plan : Plan
    plan = record { rows = rows; intent = intent.Start job at }

-- it calls for one, whatever the fate of the call
pub calls : (table : Table) (votes : List Vote) (entries : List Entry) (held late : List SchedRow) (arrived : List ℕ) (waits : Option SchedRow) (rows : List JobRow) (job : ℕ) (at now : ℤ) (kind : Kind) (fate : Fate) (answer : Option SchedRow)
    → length entries < 64 → IsInWindow table.window now → AppliesAll table (first_rows table) entries rows → IsIntent table rows now (intent.Call job at kind)
    → (let row : SchedRow = record { name = record { job = job; at = at }; kind = kind; now = record { 0 = now }; by = 0 } in answer ≡ answered (call fate row (under row.name held)).answer)
    → Book 1 table (Stands (leading table votes entries) held late arrived waits)
    → (let made : CallRow = record { row = record { name = record { job = job; at = at }; kind = kind; now = record { 0 = now }; by = 0 }; fate = fate; answer = answer } in
    Book 1 table (Stands (leading table votes entries) (held_after (Some made) held) (late_after (Some made) held late) arrived answer))
unfolding sent_by calls_by after_act
calls table votes entries held late arrived waits rows job at now kind fate answer short inside applied asked came book =
    go_on 1 table _ _ (λ standing there. did table (leading table votes entries) (leading table votes entries) held late arrived waits standing (causes.Tick (record { 0 = now }))
    (Some (record { row = record { name = record { job = job; at = at }; kind = kind; now = record { 0 = now }; by = 0 }; fate = fate; answer = answer })) (Tick now plan) _
    (call_acts table rows votes entries job at now kind short) refl (applied, asked) tt (refl, refl, came) (inside, plan, refl) there) book
  where
    plan : Plan
    plan = record { rows = rows; intent = intent.Call job at kind }

-- it ends one, as the scheduler has answered
pub end : (table : Table) (votes : List Vote) (entries : List Entry) (held late : List SchedRow) (arrived : List ℕ) (row : SchedRow) (rows : List JobRow)
    → AppliesAll table (first_rows table) entries rows → is_open row.name.job row.name.at rows ≡ true
    → Book 1 table (Stands (leading table votes entries) held late arrived (Some row))
    → (let e : Entry = entry.End row.name.job row.name.at row.kind in
    Book 1 table (Stands (leading table (put_vote (vote (0 + length entries) e) votes) (entries ++ e ∷ [])) held late arrived None))
unfolding sent_by calls_by
end table votes entries held late arrived row rows applied opened book =
    go_on 1 table _ _ (λ standing there. did table (leading table votes entries) _ held late arrived (Some row) standing causes.Answer None (Answer row.name.job row.name.at row.kind rows) _
    (end_acts table rows votes entries row.name.job row.name.at row.kind opened) (after_proposing table votes entries (entry.End row.name.job row.name.at row.kind)) applied tt refl
    (record { row = row; waits = there.waits_is; plan = record { rows = rows; intent = intent.Rest }; is = refl }) there) book

-- a late call arrives
pub arrive : (table : Table) (state : State) (held late : List SchedRow) (arrived : List ℕ) (waits : Option SchedRow) (number : ℕ) (row : SchedRow)
    → slice_get late number ≡ Some row → (Contains arrived number → ⊥) → Book 1 table (Stands state held late arrived waits)
    → Book 1 table (Stands state (arriving (Some row) held) late (arrived ++ number ∷ []) waits)
unfolding after_row
arrive table state held late arrived waits number row there first book =
    go_on 1 table _ _ (λ standing stands. record {
      row = record { turn = Arrived number; event = Campaign; letters = []; votes = []; learnt = [] };
      may = (
        record { row = row; there = ap (λ some. slice_get some number) stands.late_are ∙ there; first = λ has. first (subst (λ some. Contains some number) stands.arrived_are has) },
        record { letters = refl; votes = refl; learnt = refl },
      );
      holds = record {
        state_is = stands.state_is;
        runs = stands.runs;
        held_are = ap (λ some. arriving (late_call number some) standing.held) stands.late_are ∙ ap (λ some. arriving some standing.held) there ∙ ap (arriving (Some row)) stands.held_are;
        late_are = stands.late_are;
        arrived_are = ap (λ some. some ++ number ∷ []) stands.arrived_are;
        waits_is = stands.waits_is;
      };
    }) book
