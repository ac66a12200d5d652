-- What comes of the tick of a replica that leads itself, and of an answer that it takes before.
use Rattle.std.proofs.Common.{◌≡◌, ℕ, ◌+◌, ◌<◌, true, List, [], ◌∷◌, Option, None, Some, ℤ, refl, sym, ap, ◌∙◌, inl, inr, ◌⊎◌, arith, subst}
use Rattle.std.proofs.lemmas.Bool.{cases_Bool}
use Rattle.paxos_base.specs.Vote.{votes_from}
use Rattle.paxos_base.specs.declared.entry.Entry.{Entry}
use Rattle.paxos_base.specs.declared.entry.Entry.TheVariants.{End}
use Rattle.paxos_base.specs.declared.entry.Vote.{Vote}
use Rattle.paxos_base.specs.declared.rows.JobRow.{JobRow}
use Rattle.cluster_sched.specs.declared.row.SchedRow.{SchedRow}
use Rattle.due_set.specs.Table.{IsSound, Table}
use Rattle.launch_machine.specs.Answers.{IsIntent}
use Rattle.launch_machine.specs.declared.machine.Intent.{Intent}
use Rattle.launch_machine.specs.declared.machine.Intent.TheVariants as intent
use Rattle.launch_machine.proofs.ClerkLemmas.{AppliesAll-same}
use Rattle.term_core.specs.declared.term.Term.TheVariants.{Leader}
use Rattle.step_spec.specs.Act.{Act, Call, Rebase, Send}
use Rattle.step_spec.specs.Folds.{after_acts, calls_of, sent_to}
use Rattle.step_spec.specs.Message.{Lead, Others}
use Rattle.step_spec.specs.Propose.{answer, follow_intent, is_long, is_open, lead_on, tick, tick_of}
use Rattle.step_spec.specs.State.{State, prefix_of}
use Rattle.step_spec.specs.Step.{Answer, IsLaunchTable, Plan, Tick, step}
use Rattle.synchronous_rounds.specs.Begins.{proposal_of}
use Rattle.synchronous_rounds.specs.Flights.{IsNeeded, Proposal, learned_by, with_base}
use Rattle.synchronous_rounds.specs.Measure.{rounds_left, wait_of, work}
use Rattle.synchronous_rounds.specs.Rounds.{IsAnswerTo}
use Rattle.synchronous_rounds.specs.LedAlone.{IsLeading, Progress}
use Rattle.synchronous_rounds.proofs.BeginLemmas.{Begun, begins_entry, calls_for, says_lead, ended_anew, ends, next_entry, proposing, takes_end, tick_begins}
use Rattle.synchronous_rounds.proofs.NearLemmas.{learned_nearer}
use Rattle.synchronous_rounds.proofs.OutcomeLemmas.{no_call_rebase, saying_stays, short_tick, one_call, call_stays}
use Rattle.synchronous_rounds.proofs.TickLemmas.{due_by, due_is, due_then, holds_rebased, none_due}
use Rattle.settling.specs.Alone.{IfWaits}
use Rattle.settling.proofs.StepLemmas.{alone, learns_it, uncalled_lead, uncalled_proposal, untold_call, untold_lead, untold_proposal, untold_rebase}
use Rattle.step_spec.proofs.DeltaLemmas.{tick-long}

-- no vote binds it, no answer waits, and its launch table asks for nothing
pub record HasNothing (best : List Vote) (at : Progress) (now : ℤ) (waits : Option SchedRow) : Type 0 where
  pub answered : waits ≡ None
  pub unbound : votes_from at.prefix best ≡ []
  pub rests : IsIntent at.table at.rows now intent.Rest

-- the rounds that are left to a leader that is so far
abbrev left_at : List Vote → Progress → Option SchedRow → State → ℕ
left_at best at waits state = rounds_left at.table at.rows best waits state

-- It leads itself on in another state, and is nearer to being idle; or it had nothing to do, and is as far as it was.
pub record LeadsOn (best : List Vote) (at : Progress) (now : ℤ) (waits : Option SchedRow) (state : State) (next_waits : Option SchedRow) (next : State) : Type 0 where
  pub later : Progress
  pub over : later.table ≡ at.table
  pub leading : IsLeading best None later next
  pub answers : IfWaits best later next_waits
  pub comes : (rounds_left at.table later.rows best next_waits next < left_at best at waits state)
      ⊎ (HasNothing best at now waits × (rounds_left at.table later.rows best next_waits next ≡ left_at best at waits state))

-- ---- a tick

-- with the same rows and prefix, it is what waits and what is due that counts
sooner : (best : List Vote) (at : Progress) (base : ℕ) (waits next_waits : Option SchedRow) (state next : State) → IsLeading best None at state → IsLeading best None (with_base base at) next
    → wait_of next_waits (Leader at.ballot best None) + due_by (with_base base at) < wait_of waits (Leader at.ballot best None) + due_by at
    → left_at best at next_waits next < left_at best at waits state
sooner best at base waits next_waits state next old new less =
    let a = ap (work at.table at.rows best) old.learned in
    let b = ap (work at.table at.rows best) new.learned in
    let c = ap (wait_of waits) old.is in
    let d = ap (wait_of next_waits) new.is in
    let e = due_is (Leader at.ballot best None) at state old in
    let f = due_is (Leader at.ballot best None) (with_base base at) next new in
    omega (arith, a, b, c, d, e, f, less)

-- what comes of some acts of its tick, after which there is this answer
abbrev Ticked : List Vote → Progress → ℤ → State → Option SchedRow → List Act → Type 0
Ticked best at now state answered acts =
    IsAnswerTo (calls_of acts) answered → LeadsOn best at now None state answered (after_acts acts state) × (sent_to 0 0 acts ≡ [])

pub tick_alone : (best : List Vote) (at : Progress) (sound : IsSound at.table) (now : ℤ) (plan : Plan) (state : State) (answered : Option SchedRow) → IsLeading best None at state
    → IsLaunchTable at.table state plan.rows → IsIntent at.table plan.rows now plan.intent → Ticked best at now state answered (step alone (Tick now plan) state)
unfolding step
tick_alone best at sound now plan state answered leading planned wanted =
    elim (cases_Bool (is_long state)) [
      | inl long ↦ subst (λ acts. Ticked best at now state answered acts) (sym (tick-long alone now plan.rows plan.intent state long)) (rebased long)
      | inr short ↦
          subst (λ acts. Ticked best at now state answered acts) (sym (short_tick alone now plan.rows plan.intent state short))
          (goes (tick_of alone now plan.intent state state.term) (tick_begins alone at best sound now plan.intent state asked leading))
    ]
  where
    asked : IsIntent at.table at.rows now plan.intent
    asked = subst (λ rows. IsIntent at.table rows now plan.intent) (AppliesAll-same at.table state.kept.rows state.learned plan.rows at.rows planned leading.launch) wanted

    -- no call, so no answer
    none : (acts : List Act) → calls_of acts ≡ [] → IsAnswerTo (calls_of acts) answered → answered ≡ None
    none acts uncalled answers = subst (λ rows. IsAnswerTo rows answered) uncalled answers

    rebased : is_long state ≡ true → Ticked best at now state answered (Rebase (prefix_of state) plan.rows ∷ [])
    rebased long answers =
        let no = none (Rebase (prefix_of state) plan.rows ∷ []) (no_call_rebase (prefix_of state) plan.rows) answers in
        let next = holds_rebased (Leader at.ballot best None) at plan.rows state leading planned refl in
        let one = due_then (Leader at.ballot best None) at state leading long in
        let zero_due = none_due at in
        subst (λ waits. LeadsOn best at now None state waits (after_acts (Rebase (prefix_of state) plan.rows ∷ []) state) × (sent_to 0 0 (Rebase (prefix_of state) plan.rows ∷ []) ≡ [])) (sym no) (
          record {
            later = with_base at.prefix at;
            over = refl;
            leading = next;
            answers = tt;
            comes = inl (sooner best at at.prefix None None state (after_acts (Rebase (prefix_of state) plan.rows ∷ []) state) leading next (omega (arith, one, zero_due)));
          },
          untold_rebase (prefix_of state) plan.rows,
        )

    proposed : (entry : Entry) → IsNeeded (proposal_of alone best at (next_entry at sound entry) 0) → Ticked best at now state answered (proposing alone at entry)
    proposed entry needed answers =
        let made : Proposal = proposal_of alone best at (next_entry at sound entry) 0 in
        let no = none (proposing alone at entry) (uncalled_proposal at entry) answers in
        let next = learns_it at best sound entry state leading in
        subst (λ waits. LeadsOn best at now None state waits (after_acts (proposing alone at entry) state) × (sent_to 0 0 (proposing alone at entry) ≡ [])) (sym no) (
          record {
            later = learned_by made;
            over = refl;
            leading = next;
            answers = tt;
            comes = inl (learned_nearer made None None state (after_acts (proposing alone at entry) state) sound needed leading.learned (record { flight = None; base = at.base; leading = next })).nearer;
          },
          untold_proposal at entry,
        )

    called : (row : SchedRow) → votes_from at.prefix best ≡ [] → is_open row.name.job row.name.at at.rows ≡ true → Ticked best at now state answered (Call row ∷ [])
    called row unbound open_there answers =
        let answer = subst (λ rows. IsAnswerTo rows answered) (one_call row) answers in
        subst (λ waits. LeadsOn best at now None state waits (after_acts (Call row ∷ []) state) × (sent_to 0 0 (Call row ∷ []) ≡ [])) (sym answer.1)
        (subst (λ s. LeadsOn best at now None state (Some answer.0) s × (sent_to 0 0 (Call row ∷ []) ≡ [])) (sym (call_stays row state)) (
          record {
            later = at;
            over = refl;
            leading = leading;
            answers = (unbound, subst (λ name. is_open name.job name.at at.rows ≡ true) (sym answer.2) open_there);
            comes = inl (sooner best at at.base None (Some answer.0) state state leading leading (omega arith));
          },
          untold_call row,
        ))

    rested : votes_from at.prefix best ≡ [] → plan.intent ≡ intent.Rest → Ticked best at now state answered (Send Others (Lead at.ballot at.prefix) ∷ [])
    rested unbound wants answers =
        let no = none (Send Others (Lead at.ballot at.prefix) ∷ []) (uncalled_lead at.ballot at.prefix) answers in
        subst (λ waits. LeadsOn best at now None state waits (after_acts (Send Others (Lead at.ballot at.prefix) ∷ []) state) × (sent_to 0 0 (Send Others (Lead at.ballot at.prefix) ∷ []) ≡ [])) (sym no)
        (subst (λ s. LeadsOn best at now None state None s × (sent_to 0 0 (Send Others (Lead at.ballot at.prefix) ∷ []) ≡ [])) (sym (saying_stays (Lead at.ballot at.prefix) state)) (
          record {
            later = at;
            over = refl;
            leading = leading;
            answers = tt;
            comes = inr (record { answered = refl; unbound = unbound; rests = subst (λ some. IsIntent at.table at.rows now some) wants asked }, refl);
          },
          untold_lead at.ballot at.prefix,
        ))

    goes : (acts : List Act) → Begun alone at best sound now plan.intent acts state → Ticked best at now state answered acts
    goes acts begun = elim begun [
      | begins_entry entry needed is ↦ subst (λ some. Ticked best at now state answered some) (sym is) (proposed entry needed)
      | calls_for row unbound wants open_there is ↦ subst (λ some. Ticked best at now state answered some) (sym is) (called row unbound open_there)
      | says_lead unbound wants is ↦ subst (λ some. Ticked best at now state answered some) (sym is) (rested unbound wants)
    ]

-- ---- a tick of one that has nothing to do

rests_only : (table : Table) (rows : List JobRow) (now : ℤ) (wanted : Intent) → IsIntent table rows now intent.Rest → IsIntent table rows now wanted → wanted ≡ intent.Rest
rests_only table rows now (intent.Call job instant kind) (no_call, no_start, no_table) (first, is) = absurd (no_call job instant first.may)
rests_only table rows now (intent.Start job instant) (no_call, no_start, no_table) (none, first) = absurd (no_start job instant first.takes)
rests_only table rows now (intent.Adopt version) (no_call, no_start, no_table) (none, takes) = absurd (no_table version takes)
rests_only table rows now intent.Rest resting wanted = refl

-- it says that it leads
leads_still : (best : List Vote) (at : Progress) (now : ℤ) (wanted : Intent) (state : State) → IsLeading best None at state → votes_from at.prefix best ≡ [] → wanted ≡ intent.Rest
    → tick_of alone now wanted state state.term ≡ Send Others (Lead at.ballot at.prefix) ∷ []
leads_still best at now wanted state leading unbound rest =
    ap (λ t. tick_of alone now wanted state t) leading.is
    ∙ (ap (λ bound. lead_on alone now wanted at.ballot best state bound) (ap (λ k. votes_from k best) leading.learned ∙ unbound)
    ∙ (ap (λ some. follow_intent alone now some at.ballot best state) rest
    ∙ ap (λ k. Send Others (Lead at.ballot k) ∷ []) leading.learned))

-- It is as far as it was, but for its base, and no answer waits.
pub record StaysSo (best : List Vote) (at : Progress) (answered : Option SchedRow) (next : State) : Type 0 where
  pub base : ℕ
  pub leading : IsLeading best None (with_base base at) next
  pub uncalled : answered ≡ None

pub tick_stays : (best : List Vote) (at : Progress) (now : ℤ) (plan : Plan) (state : State) (answered : Option SchedRow) → IsLeading best None at state
    → IsLaunchTable at.table state plan.rows → IsIntent at.table plan.rows now plan.intent → votes_from at.prefix best ≡ [] → IsIntent at.table at.rows now intent.Rest
    → IsAnswerTo (calls_of (step alone (Tick now plan) state)) answered → StaysSo best at answered (after_acts (step alone (Tick now plan) state) state)
unfolding step
tick_stays best at now plan state answered leading planned wanted unbound rests =
    elim (cases_Bool (is_long state)) [
      | inl long ↦
          stays at.prefix (Rebase (prefix_of state) plan.rows ∷ []) (tick-long alone now plan.rows plan.intent state long) (no_call_rebase (prefix_of state) plan.rows)
          (holds_rebased (Leader at.ballot best None) at plan.rows state leading planned refl)
      | inr short ↦
          stays at.base (Send Others (Lead at.ballot at.prefix) ∷ []) (short_tick alone now plan.rows plan.intent state short ∙ leads_still best at now plan.intent state leading unbound wants)
          (uncalled_lead at.ballot at.prefix)
          (subst (λ s. IsLeading best None at s) (sym (saying_stays (Lead at.ballot at.prefix) state)) leading)
    ]
  where
    wants : plan.intent ≡ intent.Rest
    wants = rests_only at.table at.rows now plan.intent rests
        (subst (λ rows. IsIntent at.table rows now plan.intent) (AppliesAll-same at.table state.kept.rows state.learned plan.rows at.rows planned leading.launch) wanted)

    stays : (base : ℕ) (some : List Act) → tick alone now plan.rows plan.intent state ≡ some → calls_of some ≡ [] → IsLeading best None (with_base base at) (after_acts some state)
        → IsAnswerTo (calls_of (tick alone now plan.rows plan.intent state)) answered → StaysSo best at answered (after_acts (tick alone now plan.rows plan.intent state) state)
    stays base some is uncalled next answers = record {
      base = base;
      leading = subst (λ acts. IsLeading best None (with_base base at) (after_acts acts state)) (sym is) next;
      uncalled = subst (λ rows. IsAnswerTo rows answered) (ap calls_of is ∙ uncalled) answers;
    }

-- ---- an answer, and a tick

-- the end of its launch is proposed
pub answer_alone : (best : List Vote) (at : Progress) (row : SchedRow) (rows : List JobRow) (state : State) → IsLeading best None at state → IsLaunchTable at.table state rows
    → IfWaits best at (Some row) → step alone (Answer row.name.job row.name.at row.kind rows) state ≡ proposing alone at (End row.name.job row.name.at row.kind)
unfolding step answer
answer_alone best at row rows state leading planned able =
    let rows_are = AppliesAll-same at.table state.kept.rows state.learned rows at.rows planned leading.launch in
    ends alone at best (End row.name.job row.name.at row.kind) (is_open row.name.job row.name.at rows) state
    (ap (λ list. is_open row.name.job row.name.at list) rows_are ∙ able.1) able.0 leading

-- the end of its launch is learned, so that it is nearer to being idle, and so after a tick
pub ended_leads : (best : List Vote) (at : Progress) (sound : IsSound at.table) (now : ℤ) (row : SchedRow) (state next : State) (answered : Option SchedRow) → IsLeading best None at state
    → IfWaits best at (Some row)
    → LeadsOn best (learned_by (proposal_of alone best at (next_entry at sound (End row.name.job row.name.at row.kind)) 0)) now None (after_acts (proposing alone at (End row.name.job row.name.at row.kind)) state) answered next
    → LeadsOn best at now (Some row) state answered next
ended_leads best at sound now row state next answered leading able on = record {
  later = on.later;
  over = on.over;
  leading = on.leading;
  answers = on.answers;
  comes = inl (go on.comes);
}
  where
    entry : Entry
    entry = End row.name.job row.name.at row.kind

    made : Proposal
    made = proposal_of alone best at (next_entry at sound entry) 0

    first : State
    first = after_acts (proposing alone at entry) state

    fell : rounds_left at.table made.later best None first < left_at best at (Some row) state
    fell = (learned_nearer made (Some row) None state first sound (inr (ended_anew at.table at.rows made.later row.name.job row.name.at row.kind (takes_end at.rows row.name.job row.name.at able.1) made.applies)) leading.learned
        (record { flight = None; base = at.base; leading = learns_it at best sound entry state leading })).nearer

    go : (rounds_left at.table on.later.rows best answered next < rounds_left at.table made.later best None first)
        ⊎ (HasNothing best (learned_by made) now None × (rounds_left at.table on.later.rows best answered next ≡ rounds_left at.table made.later best None first))
        → rounds_left at.table on.later.rows best answered next < left_at best at (Some row) state
    go (inl less) = omega (arith, less, fell)
    go (inr (nothing, same)) = omega (arith, same, fell)
