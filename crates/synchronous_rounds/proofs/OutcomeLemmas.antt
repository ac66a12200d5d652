-- What comes of the tick of a leader without a flight.
use Rattle.std.proofs.Common.{◌≡◌, ℕ, ◌+◌, ◌<◌, ◌≤◌, true, false, List, [], ◌∷◌, Option, None, ℤ, refl, sym, ap, ◌∙◌, inl, inr, arith, subst}
use Rattle.std.proofs.lemmas.Bool.{cases_Bool, leb-true}
use Rattle.paxos_base.specs.Vote.{votes_from}
use Rattle.paxos_base.specs.declared.entry.Entry.{Entry}
use Rattle.paxos_base.specs.declared.entry.Vote.{Vote}
use Rattle.paxos_base.specs.declared.rows.JobRow.{JobRow}
use Rattle.cluster_sched.specs.declared.row.SchedRow.{SchedRow}
use Rattle.due_set.specs.Table.{IsSound}
use Rattle.launch_machine.specs.Answers.{IsIntent}
use Rattle.launch_machine.specs.declared.machine.Intent.{Intent}
use Rattle.launch_machine.specs.declared.machine.Intent.TheVariants as intent
use Rattle.launch_machine.proofs.ClerkLemmas.{AppliesAll-same}
use Rattle.term_core.specs.Term.{is_fourth, new_flight}
use Rattle.term_core.specs.declared.flight.Flight.{Flight}
use Rattle.term_core.specs.declared.term.Term.TheVariants.{Leader}
use Rattle.step_spec.specs.Act.{Act, Call, Rebase, Send, after_act}
use Rattle.step_spec.specs.Folds.{after_acts, calls_by, calls_of, sent_to}
use Rattle.step_spec.specs.Message.{Message, Accept, Lead, Others}
use Rattle.step_spec.specs.Propose.{is_long, is_open, propose, tick, tick_of, wait}
use Rattle.step_spec.specs.State.{Identity, State, prefix_of}
use Rattle.step_spec.specs.Step.{IsLaunchTable, Plan, step}
use Rattle.agreement.specs.Transition.{identity_of}
use Rattle.synchronous_rounds.specs.Begins.{Begins, calls, proposes, rebases, rests, HasAskedForCall, HasProposed, HasRebased, HasIdled, proposal_of}
use Rattle.synchronous_rounds.specs.Cluster.{Advice, Cluster, IsAdvised, before_tick, cluster_round, letter_from}
use Rattle.synchronous_rounds.specs.Flights.{IsNeeded, Proposes, with_base}
use Rattle.synchronous_rounds.specs.LedAlone.{IsLeading, Occurs, Progress}
use Rattle.synchronous_rounds.proofs.BeginLemmas.{Begun, begins_entry, calls_for, says_lead, says_to_all, asks_votes, next_entry, proposes_it, proposing, tick_begins}
use Rattle.synchronous_rounds.proofs.CountLemmas.{few_alone}
use Rattle.synchronous_rounds.proofs.MailLemmas.{occurs_letter}
use Rattle.synchronous_rounds.proofs.RoundLemmas.{round_after, round_occurs, round_planned}
use Rattle.synchronous_rounds.proofs.TickLemmas.{holds_rebased, long_is}
use Rattle.due_set.proofs.Rising.{Contains-head as in_first}
use Rattle.step_spec.proofs.DeltaLemmas.{tick-long}

-- ---- the acts of a tick

pub short_tick : (self : Identity) (now : ℤ) (rows : List JobRow) (wanted : Intent) (state : State) → is_long state ≡ false → tick self now rows wanted state ≡ tick_of self now wanted state state.term
unfolding tick
short_tick self now rows wanted state short = rw short refl

-- a call asks for itself, and changes nothing
pub one_call : (row : SchedRow) → calls_of (Call row ∷ []) ≡ row ∷ []
unfolding calls_by
one_call row = refl

pub call_stays : (row : SchedRow) (state : State) → after_acts (Call row ∷ []) state ≡ state
unfolding after_act
call_stays row state = refl

-- other acts of a leader call for nothing
pub no_call_rebase : (slot : ℕ) (rows : List JobRow) → calls_of (Rebase slot rows ∷ []) ≡ []
unfolding calls_by
no_call_rebase slot rows = refl

no_call_propose : (self : Identity) (vote : Vote) → 2 ≤ self.members → self.me < 8 → calls_of (propose self vote) ≡ []
unfolding propose calls_by
no_call_propose self vote more small = rw (few_alone self.members self.me more small) refl

pub no_call_wait : (ballot : ℕ) (flight : Flight) → calls_of (wait ballot flight) ≡ []
unfolding calls_by
no_call_wait ballot flight = elim (cases_Bool (is_fourth flight)) [ inl again ↦ rw again refl | inr not_yet ↦ rw not_yet refl ]

-- nor does what it says, which changes nothing
no_call_saying : (message : Message) → calls_of (Send Others message ∷ []) ≡ []
unfolding calls_by
no_call_saying message = refl

pub saying_stays : (message : Message) (state : State) → after_acts (Send Others message ∷ []) state ≡ state
unfolding after_act
saying_stays message state = refl

-- a proposal whose acts are a step's is asked of each other replica in its letters
pub asks_in : (self : Identity) (at : Progress) (entry : Entry) (acts : List Act) (who : ℕ) → acts ≡ proposing self at entry → (who ≡ self.me → ⊥) → Occurs (letter_from self.me (sent_to self.me who acts)) self.me (Accept (record { slot = at.prefix; ballot = at.ballot; entry = entry }))
asks_in self at entry acts who is apart =
    let vote : Vote = record { slot = at.prefix; ballot = at.ballot; entry = entry } in
    subst (λ some. Occurs (letter_from self.me (sent_to self.me who some)) self.me (Accept vote)) (sym is)
    (occurs_letter self.me (Accept vote) (sent_to self.me who (proposing self at entry)) (in_first (Accept vote) []) (asks_votes self vote who apart))

-- ---- the tick of a round

pub tick_outcome : (members leader : ℕ) (best : List Vote) (at : Progress) (now : ℤ) (advice : ℕ → Advice) (answers : ℕ → Option SchedRow) (cluster : Cluster) → leader < members → members ≤ 7 → 2 ≤ members → IsSound at.table → IsAdvised members at.table now advice cluster → IsLeading best None at (before_tick members advice cluster leader) → Begins members leader best at now advice cluster (cluster_round members now advice answers cluster)
unfolding step
tick_outcome members leader best at now advice answers cluster member few more sound advised leading =
    elim (cases_Bool (is_long state)) [
      | inl long ↦ rebases (rebased long (tick-long self now plan.rows plan.intent state long))
      | inr short ↦ goes (short_tick self now plan.rows plan.intent state short) (tick_begins self at best sound now plan.intent state asked leading)
    ]
  where
    self : Identity
    self = identity_of members leader

    plan : Plan
    plan = (advice leader).plan

    state : State
    state = before_tick members advice cluster leader

    next : Cluster
    next = cluster_round members now advice answers cluster

    small : leader < 8
    small = omega (arith, member, few)

    acts : List Act
    acts = tick self now plan.rows plan.intent state

    planned : IsLaunchTable at.table state plan.rows × IsIntent at.table plan.rows now plan.intent
    planned = round_planned members at.table now advice cluster leader member advised

    asked : IsIntent at.table at.rows now plan.intent
    asked = subst (λ rows. IsIntent at.table rows now plan.intent) (AppliesAll-same at.table state.kept.rows state.learned plan.rows at.rows planned.0 leading.launch) planned.1

    after : next.replicas leader ≡ after_acts acts state
    after = round_after members now advice answers cluster leader

    rebased : is_long state ≡ true → acts ≡ Rebase (prefix_of state) plan.rows ∷ [] → HasRebased members leader best at now advice cluster next
    rebased long is = record {
      due = leb-true (at.base + 64) at.prefix (sym (long_is (Leader at.ballot best None) at state leading) ∙ long);
      leading = subst (λ s. IsLeading best None (with_base at.prefix at) s) (sym (after ∙ ap (λ some. after_acts some state) is)) (holds_rebased (Leader at.ballot best None) at plan.rows state leading planned.0 refl);
      uncalled = ap calls_of is ∙ no_call_rebase (prefix_of state) plan.rows;
    }

    proposed : (entry : Entry) → IsNeeded (proposal_of self best at (next_entry at sound entry) 0) → acts ≡ proposing self at entry → HasProposed members leader best at now advice cluster next
    proposed entry needed is = record {
      entry = next_entry at sound entry;
      needed = needed;
      asked = λ who below apart. round_occurs members now advice answers cluster leader who (Accept (record { slot = at.prefix; ballot = at.ballot; entry = entry })) member (asks_in self at entry acts who is apart);
      flight = new_flight at.prefix entry leader;
      proposes = subst (λ s. Proposes (proposal_of self best at (next_entry at sound entry) 0) (new_flight at.prefix entry leader) s) (sym (after ∙ ap (λ some. after_acts some state) is)) (proposes_it self at best sound entry state more small leading);
      uncalled = ap calls_of is ∙ no_call_propose self (record { slot = at.prefix; ballot = at.ballot; entry = entry }) more small;
    }

    called : (row : SchedRow) → votes_from at.prefix best ≡ [] → plan.intent ≡ intent.Call row.name.job row.name.at row.kind → is_open row.name.job row.name.at at.rows ≡ true → acts ≡ Call row ∷ [] → HasAskedForCall members leader best at now advice cluster next
    called row none wants open_there is = record {
      leading = subst (λ s. IsLeading best None at s) (sym (after ∙ (ap (λ some. after_acts some state) is ∙ call_stays row state))) leading;
      free = none;
      row = row;
      called = ap calls_of is ∙ one_call row;
      asked = wants;
      open_there = open_there;
    }

    rested : votes_from at.prefix best ≡ [] → plan.intent ≡ intent.Rest → acts ≡ Send Others (Lead at.ballot at.prefix) ∷ [] → HasIdled members leader best at now advice cluster next
    rested none wants is = record {
      leading = subst (λ s. IsLeading best None at s) (sym (after ∙ (ap (λ some. after_acts some state) is ∙ saying_stays (Lead at.ballot at.prefix) state))) leading;
      free = none;
      asked = wants;
      rests = subst (λ some. IsIntent at.table at.rows now some) wants asked;
      told = λ who below apart. round_occurs members now advice answers cluster leader who (Lead at.ballot at.prefix) member
          (subst (λ some. Occurs (letter_from leader (sent_to leader who some)) leader (Lead at.ballot at.prefix)) (sym is)
          (occurs_letter leader (Lead at.ballot at.prefix) (sent_to leader who (Send Others (Lead at.ballot at.prefix) ∷ [])) (in_first (Lead at.ballot at.prefix) []) (says_to_all leader who (Lead at.ballot at.prefix) apart)));
      uncalled = ap calls_of is ∙ no_call_saying (Lead at.ballot at.prefix);
    }

    goes : acts ≡ tick_of self now plan.intent state state.term → Begun self at best sound now plan.intent (tick_of self now plan.intent state state.term) state → Begins members leader best at now advice cluster next
    goes is begun = elim begun [
      | begins_entry entry needed such ↦ proposes (proposed entry needed (is ∙ such))
      | calls_for row none wants open_there such ↦ calls (called row none wants open_there (is ∙ such))
      | says_lead none wants such ↦ rests (rested none wants (is ∙ such))
    ]
