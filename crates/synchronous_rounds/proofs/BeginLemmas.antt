-- What a leader begins that has no flight: at a tick, and at an answer.
use Rattle.std.proofs.Common.{◌≡◌, ℕ, ◌<◌, ◌≤◌, Bool, true, List, [], ◌∷◌, length, leb, ◌&&◌, Option, None, Some, ℤ, refl, sym, ap, ◌∙◌, inl, inr, arith, subst}
use Rattle.std.specs.Prelude.{slice_get, slice_index_or}
use Rattle.std.specs.Option.{is_some}
use Rattle.std.specs.List.{Contains}
use Rattle.std.proofs.lemmas.Bool.{cases_Bool, leb-false, ne_eqb}
use Rattle.std.proofs.lemmas.Bool.Decides.{Decides-int_eq}
use Rattle.std.proofs.lemmas.List.{get_or-set_same}
use Rattle.paxos_base.specs.Durable.{after_delta}
use Rattle.paxos_base.specs.Rows.{fresh_row}
use Rattle.paxos_base.specs.Vote.{vote_at, votes_from}
use Rattle.paxos_base.specs.declared.entry.Entry.{Entry}
use Rattle.paxos_base.specs.declared.entry.Entry.TheVariants.{Noop, Start, End, Table as TableEntry}
use Rattle.paxos_base.specs.declared.entry.Kind.{Kind}
use Rattle.paxos_base.specs.declared.entry.Vote.{Vote}
use Rattle.paxos_base.specs.declared.rows.JobRow.{JobRow}
use Rattle.cluster_sched.specs.declared.row.SchedRow.{SchedRow}
use Rattle.due_set.specs.Table.{IsSound, Table}
use Rattle.launch_machine.specs.Answers.{IsIntent}
use Rattle.launch_machine.specs.Clerk.{Applies, TakesEnd, TakesStart, TakesTable, adopted_row, closed_row, force_of, in_force, opened_row, with_row}
use Rattle.launch_machine.specs.Intent.{MayCall}
use Rattle.launch_machine.specs.declared.force.InForce.{InForce}
use Rattle.launch_machine.specs.declared.machine.Intent.{Intent}
use Rattle.launch_machine.specs.declared.machine.Intent.TheVariants as intent
use Rattle.launch_machine.proofs.ExistLemmas.{one_applied}
use Rattle.launch_machine.proofs.MachineLemmas.{closed_idle}
use Rattle.launch_machine.proofs.StartLemmas.{changed}
use Rattle.term_core.specs.Term.{after_proposal, new_flight}
use Rattle.step_spec.specs.Act.{Act, Call, Send, after_act}
use Rattle.step_spec.specs.Folds.{after_acts, calls_by, sent_by, sent_to}
use Rattle.step_spec.specs.Message.{Message, Accept, Lead, Others}
use Rattle.step_spec.specs.Propose.{answer_of, bound_by, end_if, follow_intent, is_at, is_open, is_row_open, lead_on, propose, proposal, tick_of}
use Rattle.step_spec.specs.State.{Identity, State, prefix_of}
use Rattle.synchronous_rounds.specs.Begins.{NextEntry, proposal_of}
use Rattle.synchronous_rounds.specs.Flights.{IsNeeded, Proposes}
use Rattle.synchronous_rounds.specs.LedAlone.{IsLeading, Progress}
use Rattle.synchronous_rounds.proofs.CountLemmas.{few_alone, in_with}
use Rattle.due_set.proofs.Rising.{Contains-head as in_first}

-- ---- a proposal

-- an entry for a leader's prefix
abbrev pub next_entry : (at : Progress) → IsSound at.table → Entry → NextEntry at
next_entry at sound entry =
    record { entry = entry; later = (one_applied at.table sound at.rows entry).0; applies = (one_applied at.table sound at.rows entry).1 }

-- the acts of proposing it
abbrev pub proposing : Identity → Progress → Entry → List Act
proposing self at entry = propose self (record { slot = at.prefix; ballot = at.ballot; entry = entry })

-- the vote that is asked for is among what goes to each other replica
pub asks_votes : (self : Identity) (vote : Vote) (q : ℕ) → (q ≡ self.me → ⊥) → Contains (sent_to self.me q (propose self vote)) (Accept vote)
unfolding propose sent_by
asks_votes self vote q apart = rw (ne_eqb q self.me apart) (in_first (Accept vote) _)

pub proposes_it : (self : Identity) (at : Progress) (best : List Vote) (sound : IsSound at.table) (entry : Entry) (state : State) → 2 ≤ self.members → self.me < 8 → IsLeading best None at state → Proposes (proposal_of self best at (next_entry at sound entry) 0) (new_flight at.prefix entry self.me) (after_acts (proposing self at entry) state)
unfolding propose after_act after_delta
proposes_it self at best sound entry state more small leading =
    rw (few_alone self.members self.me more small) (record {
      leading = record { is = ap (after_proposal at.prefix entry self.me) leading.is; promised = refl; launch = leading.launch; learned = leading.learned; from_base = leading.from_base };
      flies = record {
        slot = refl;
        entry = refl;
        few = few_alone self.members self.me more small;
        own = in_with self.me 0 self.me small (inl refl);
        waited = refl;
      };
    })

-- what is said to all others is among what goes to each of them
pub says_to_all : (me q : ℕ) (message : Message) → (q ≡ me → ⊥) → Contains (sent_to me q (Send Others message ∷ [])) message
unfolding sent_by
says_to_all me q message apart = rw (ne_eqb q me apart) (in_first message [])

-- no vote from a slot on, so none at it
none_at : (p : ℕ) (best : List Vote) → votes_from p best ≡ [] → vote_at p best ≡ None
unfolding votes_from vote_at
none_at p [] none = refl
none_at p (first ∷ best) none =
    elim (cases_Bool (leb p first.slot)) [
      | inl here ↦ absurd (let no : first ∷ votes_from p best ≡ [] = rw here at none in cc)
      | inr below ↦
          let so : votes_from p best ≡ [] = rw below at none in
          let apart : first.slot ≡ p → ⊥ = λ same. let more = leb-false p first.slot below in omega (arith, more, same) in
          rw (ne_eqb first.slot p apart) (none_at p best so)
    ]

-- ---- a tick

-- a launch that may be called is open
called_open : (table : Table) (rows : List JobRow) (job : ℕ) (at now : ℤ) → MayCall table rows job at now → is_open job at rows ≡ true
called_open table rows job at now may = rw (may.is_row, may.is_open, may.cursor) ((Decides-int_eq at at).1 refl)

-- a start that takes effect changes the launch table
started_anew : (table : Table) (rows later : List JobRow) (job : ℕ) (at now : ℤ) → TakesStart table rows job at now → Applies table rows (Start job at now) later → later ≡ rows → ⊥
started_anew table rows later job at now takes (inr (not, is)) same = absurd (not takes)
started_anew table rows later job at now takes (inl (again, is)) same =
    let there : slice_get (with_row (opened_row at now) rows job) job ≡ Some takes.row = subst (λ (some : List JobRow). slice_get some job ≡ Some takes.row) (sym same ∙ is) takes.is_row in
    let opened : opened_row at now takes.row ≡ takes.row = changed (opened_row at now) rows job takes.row takes.row takes.is_row there in
    let shut : Some now ≡ None = ap (λ (r : JobRow). r.open_now) opened ∙ takes.idle in
    cc

-- so does a version that takes effect: it is then the one in force
adopted_anew : (table : Table) (rows later : List JobRow) (version : ℕ) (now : ℤ) → TakesTable table rows version now → Applies table rows (TableEntry version now) later → later ≡ rows → ⊥
adopted_anew table rows later version now takes (inr (not, is)) same = absurd (not takes)
adopted_anew table rows later version now takes (inl (again, is)) same =
    let own : ℕ = length table.jobs in
    let put = ap force_of (get_or-set_same rows own (adopted_row version now (slice_index_or rows own (fresh_row own))) (fresh_row own) takes.own) in
    let there = ap (λ (force : InForce). force.version) (ap (in_force table) (sym same ∙ is) ∙ put) in
    omega (arith, there, takes.next)

-- what the acts of a tick begin
pub data Begun (self : Identity) (at : Progress) (best : List Vote) (sound : IsSound at.table) (now : ℤ) (wanted : Intent) (acts : List Act) (state : State) : Type 0 where
  begins_entry : (entry : Entry) → IsNeeded (proposal_of self best at (next_entry at sound entry) 0) → acts ≡ proposing self at entry → Begun self at best sound now wanted acts state
  calls_for : (row : SchedRow) → votes_from at.prefix best ≡ [] → wanted ≡ intent.Call row.name.job row.name.at row.kind → is_open row.name.job row.name.at at.rows ≡ true → acts ≡ Call row ∷ [] → Begun self at best sound now wanted acts state
  says_lead : votes_from at.prefix best ≡ [] → wanted ≡ intent.Rest → acts ≡ Send Others (Lead at.ballot at.prefix) ∷ [] → Begun self at best sound now wanted acts state

pub tick_begins : (self : Identity) (at : Progress) (best : List Vote) (sound : IsSound at.table) (now : ℤ) (wanted : Intent) (state : State) → IsIntent at.table at.rows now wanted → IsLeading best None at state → Begun self at best sound now wanted (tick_of self now wanted state state.term) state
unfolding after_act calls_by
tick_begins self at best sound now wanted state asked leading =
    subst (λ t. Begun self at best sound now wanted (tick_of self now wanted state t) state) (sym leading.is) (go (votes_from at.prefix best) refl)
  where
    at_prefix : votes_from (prefix_of state) best ≡ votes_from at.prefix best
    at_prefix = ap (λ k. votes_from k best) leading.learned

    vote_is : (entry : Entry) → proposal at.ballot best (prefix_of state) entry ≡ record { slot = at.prefix; ballot = at.ballot; entry = bound_by (vote_at at.prefix best) entry }
    vote_is entry = ap (λ k. proposal at.ballot best k entry) leading.learned

    follow : votes_from at.prefix best ≡ [] → (wanted : Intent) → IsIntent at.table at.rows now wanted → Begun self at best sound now wanted (follow_intent self now wanted at.ballot best state) state
    follow none (intent.Call job instant kind) asked = calls_for (record { name = record { job = job; at = instant }; kind = kind; now = record { 0 = now }; by = self.me }) none refl (called_open at.table at.rows job instant now asked.0.may) refl
    follow none (intent.Start job instant) asked =
        begins_entry (bound_by (vote_at at.prefix best) (Start job instant now))
        (rw (none_at at.prefix best none)
        (inr (started_anew at.table at.rows (next_entry at sound (Start job instant now)).later job instant now asked.1.takes (next_entry at sound (Start job instant now)).applies)))
        (ap (λ vote. propose self vote) (vote_is (Start job instant now)))
    follow none (intent.Adopt version) asked =
        begins_entry (bound_by (vote_at at.prefix best) (TableEntry version now))
        (rw (none_at at.prefix best none)
        (inr (adopted_anew at.table at.rows (next_entry at sound (TableEntry version now)).later version now asked.1 (next_entry at sound (TableEntry version now)).applies)))
        (ap (λ vote. propose self vote) (vote_is (TableEntry version now)))
    follow none intent.Rest asked = says_lead none refl (ap (λ k. Send Others (Lead at.ballot k) ∷ []) leading.learned)

    go : (bound : List Vote) → votes_from at.prefix best ≡ bound → Begun self at best sound now wanted (lead_on self now wanted at.ballot best state (votes_from (prefix_of state) best)) state
    go [] is = rw (at_prefix, is) (follow is wanted asked)
    go (first ∷ others) is =
        rw (at_prefix, is)
        (begins_entry (bound_by (vote_at at.prefix best) Noop) (inl (first, others, is)) (ap (λ vote. propose self vote) (vote_is Noop)))

-- ---- an answer

-- a launch that is open takes an end
pub takes_end : (rows : List JobRow) (job : ℕ) (at : ℤ) → is_open job at rows ≡ true → TakesEnd rows job at
takes_end rows job at is = go (slice_get rows job) refl is
  where
    here : (row : JobRow) (since cursor : Option ℤ) → slice_get rows job ≡ Some row → row.open_now ≡ since → row.cursor ≡ cursor → (is_some since && is_at at cursor) ≡ true → TakesEnd rows job at
    here row None cursor there opened at_ is = absurd cc
    here row (Some since) None there opened at_ is = absurd cc
    here row (Some since) (Some other) there opened at_ is =
        record { row = row; is_row = there; since = since; is_open = opened; cursor = at_ ∙ ap Some ((Decides-int_eq other at).0 is) }

    go : (found : Option JobRow) → slice_get rows job ≡ found → is_row_open at found ≡ true → TakesEnd rows job at
    go None there is = absurd cc
    go (Some row) there is = here row row.open_now row.cursor there refl refl is

-- and changes the launch table by it
pub ended_anew : (table : Table) (rows later : List JobRow) (job : ℕ) (at : ℤ) (kind : Kind) → TakesEnd rows job at → Applies table rows (End job at kind) later → later ≡ rows → ⊥
ended_anew table rows later job at kind takes (inr (not, is)) same = absurd (not takes)
ended_anew table rows later job at kind takes (inl (again, is)) same =
    let there : slice_get (with_row (closed_row at kind) rows job) job ≡ Some takes.row = subst (λ (some : List JobRow). slice_get some job ≡ Some takes.row) (sym same ∙ is) takes.is_row in
    let closed : closed_row at kind takes.row ≡ takes.row = changed (closed_row at kind) rows job takes.row takes.row takes.is_row there in
    let none : None ≡ Some takes.since = sym (closed_idle at kind takes.row) ∙ ap (λ (r : JobRow). r.open_now) closed ∙ takes.is_open in
    cc

-- the leader proposes the end
pub ends : (self : Identity) (at : Progress) (best : List Vote) (entry : Entry) (open_now : Bool) (state : State) → open_now ≡ true → votes_from at.prefix best ≡ [] → IsLeading best None at state → answer_of self state entry open_now state.term ≡ proposing self at entry
ends self at best entry open_now state is free leading =
    let none : votes_from (prefix_of state) best ≡ [] = ap (λ k. votes_from k best) leading.learned ∙ free in
    ap (λ t. answer_of self state entry open_now t) leading.is
    ∙ ap (λ bound. end_if self at.ballot best state entry open_now bound) none
    ∙ ap (λ yes. end_if self at.ballot best state entry yes []) is
    ∙ ap (λ k. propose self (record { slot = k; ballot = at.ballot; entry = bound_by (vote_at k best) entry })) leading.learned
    ∙ ap (λ found. propose self (record { slot = at.prefix; ballot = at.ballot; entry = bound_by found entry })) (none_at at.prefix best free)
