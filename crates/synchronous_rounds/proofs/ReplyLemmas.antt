-- What a replica does that hears of a campaign, and that neither a tick nor an answer changes what it has promised or learned.
use Rattle.std.proofs.Common.{◌≡◌, ℕ, ◌<◌, ◌≤◌, Bool, true, false, List, [], ◌∷◌, ltb, leb, None, Some, ℤ, refl, sym, inl, inr, ◌⊎◌, arith}
use Rattle.std.specs.List.{Contains}
use Rattle.std.proofs.lemmas.Bool.{cases_Bool, leb-true, ltb-true}
use Rattle.paxos_base.specs.Durable.{after_delta}
use Rattle.paxos_base.specs.Vote.{votes_from}
use Rattle.paxos_base.specs.declared.entry.Entry.{Entry}
use Rattle.paxos_base.specs.declared.entry.Entry.TheVariants.{End, Noop, Start, Table as TableEntry}
use Rattle.paxos_base.specs.declared.entry.Vote.{Vote}
use Rattle.paxos_base.specs.declared.rows.JobRow.{JobRow}
use Rattle.cluster_sched.specs.declared.row.SchedRow.{SchedRow}
use Rattle.due_set.specs.Table.{Table}
use Rattle.launch_machine.specs.declared.machine.Intent.{Intent}
use Rattle.launch_machine.specs.declared.machine.Intent.TheVariants as intent
use Rattle.term_core.specs.declared.term.Term.{Term}
use Rattle.term_core.specs.declared.term.Term.TheVariants.{Follower, Candidate, Leader}
use Rattle.step_spec.specs.Act.{Act, Observe, Pledge, Send, after_act}
use Rattle.step_spec.specs.Coherent.{IsCoherent}
use Rattle.step_spec.specs.Folds.{after_acts}
use Rattle.step_spec.specs.Hear.{hear, hear_all, line, on_prepare}
use Rattle.step_spec.specs.May.{IsFollower, May}
use Rattle.step_spec.specs.Message.{Nack, Only, Prepare, Promise}
use Rattle.step_spec.specs.Propose.{answer, answer_of, end_if, follow_intent, is_long, is_open, lead_on, propose, proposal, tick, tick_of}
use Rattle.step_spec.specs.State.{Identity, State, prefix_of, promised_in}
use Rattle.step_spec.specs.Step.{Answer, Hear, Plan, Tick, step}
use Rattle.agreement.proofs.Kept.{own_ballot}
use Rattle.step_spec.proofs.Said.{step_may_be_done}
use Rattle.synchronous_rounds.proofs.ActLemmas.{rebased_prefix}
use Rattle.synchronous_rounds.proofs.CountLemmas.{few_alone}
use Rattle.synchronous_rounds.proofs.TickLemmas.{silent_wait}
use Rattle.due_set.proofs.Rising.{Contains-head as in_first, Contains-tail as in_rest}

-- neither what is promised nor what is learned changes
pub record IsSteady (old new : State) : Type 0 where
  pub promised : promised_in new.kept ≡ promised_in old.kept
  pub prefix : prefix_of new ≡ prefix_of old

same_steady : (state : State) → IsSteady state state
same_steady state = record { promised = refl; prefix = refl }

propose_steady : (self : Identity) (ballot : ℕ) (best : List Vote) (entry : Entry) (state : State) → 2 ≤ self.members → self.me < 8 → IsCoherent self state → state.term ≡ Leader ballot best None → IsSteady state (after_acts (propose self (proposal ballot best (prefix_of state) entry)) state)
unfolding propose after_act after_delta
propose_steady self ballot best entry state more small sound leads =
    let own = own_ballot self state ballot best None sound leads in
    rw (few_alone self.members self.me more small) (record { promised = sym own.promised; prefix = refl })

term_tick_steady : (self : Identity) (now : ℤ) (wanted : Intent) (state : State) (term : Term) → 2 ≤ self.members → self.me < 8 → IsCoherent self state → state.term ≡ term → IsSteady state (after_acts (tick_of self now wanted state term) state)
unfolding after_act
term_tick_steady self now wanted state (Follower ended) more small sound is = same_steady state
term_tick_steady self now wanted state (Candidate ballot first heard best) more small sound is = same_steady state
term_tick_steady self now wanted state (Leader ballot best (Some flight)) more small sound is = rw (silent_wait ballot flight state) (record { promised = refl; prefix = refl })
term_tick_steady self now wanted state (Leader ballot best None) more small sound is = go (votes_from (prefix_of state) best)
  where
    follow : (wanted : Intent) → IsSteady state (after_acts (follow_intent self now wanted ballot best state) state)
    follow (intent.Call job at kind) = same_steady state
    follow (intent.Start job at) = propose_steady self ballot best (Start job at now) state more small sound is
    follow (intent.Adopt version) = propose_steady self ballot best (TableEntry version now) state more small sound is
    follow intent.Rest = same_steady state

    go : (bound : List Vote) → IsSteady state (after_acts (lead_on self now wanted ballot best state bound) state)
    go [] = follow wanted
    go (first ∷ others) = propose_steady self ballot best Noop state more small sound is

-- a tick; a base that rises leaves the prefix
pub tick_steady : (self : Identity) (now : ℤ) (plan : Plan) (state : State) → 2 ≤ self.members → self.me < 8 → IsCoherent self state → IsSteady state (after_acts (step self (Tick now plan) state) state)
unfolding step tick after_act after_delta
tick_steady self now plan state more small sound =
    elim (cases_Bool (is_long state)) [
      | inl long ↦ rw long (record { promised = refl; prefix = rebased_prefix (prefix_of state) plan.rows state (omega arith) })
      | inr short ↦ rw short (term_tick_steady self now plan.intent state state.term more small sound refl)
    ]

answer_steady : (self : Identity) (state : State) (entry : Entry) (open_now : Bool) (term : Term) → 2 ≤ self.members → self.me < 8 → IsCoherent self state → state.term ≡ term → IsSteady state (after_acts (answer_of self state entry open_now term) state)
answer_steady self state entry open_now (Follower ended) more small sound is = same_steady state
answer_steady self state entry open_now (Candidate ballot first heard best) more small sound is = same_steady state
answer_steady self state entry open_now (Leader ballot best (Some flight)) more small sound is = same_steady state
answer_steady self state entry open_now (Leader ballot best None) more small sound is = go (votes_from (prefix_of state) best) open_now
  where
    go : (bound : List Vote) (now : Bool) → IsSteady state (after_acts (end_if self ballot best state entry now bound) state)
    go [] true = propose_steady self ballot best entry state more small sound is
    go [] false = same_steady state
    go (first ∷ others) now = same_steady state

-- an answer of the scheduler
pub answers_steady : (self : Identity) (row : SchedRow) (rows : List JobRow) (state : State) → 2 ≤ self.members → self.me < 8 → IsCoherent self state → IsSteady state (after_acts (step self (Answer row.name.job row.name.at row.kind rows) state) state)
unfolding step answer
answers_steady self row rows state more small sound = answer_steady self state (End row.name.job row.name.at row.kind) (is_open row.name.job row.name.at rows) state.term more small sound refl

-- ---- a campaign

-- it has promised the ballot, and says so
pub record Pledges (from ballot slot : ℕ) (acts : List Act) (old new : State) : Type 0 where
  pub promised : promised_in new.kept ≡ ballot
  pub follows : IsFollower new.term
  pub same : prefix_of new ≡ prefix_of old
  pub votes : List Vote
  pub sent : Contains acts (Send (Only from) (Promise ballot slot votes))

-- it has promised more, and says so
pub record Refuses (from ballot : ℕ) (acts : List Act) (old new : State) : Type 0 where
  pub steady : IsSteady old new
  pub above : ballot < promised_in old.kept
  pub sent : Contains acts (Send (Only from) (Nack ballot (promised_in old.kept)))

-- it does one or the other, but where the ballot is the promised one, or the slot lies below its base
pub hears_campaign : (self : Identity) (table : Table) (from ballot slot : ℕ) (state : State) → self.me < 8 → IsCoherent self state → state.kept.base ≤ slot → (promised_in state.kept ≡ ballot → ⊥) → Pledges from ballot slot (step self (Hear from (Prepare ballot slot ∷ [])) state) state (after_acts (step self (Hear from (Prepare ballot slot ∷ [])) state) state) ⊎ Refuses from ballot (step self (Hear from (Prepare ballot slot ∷ [])) state) state (after_acts (step self (Hear from (Prepare ballot slot ∷ [])) state) state)
unfolding step hear_all hear line on_prepare after_act after_delta May
hears_campaign self table from ballot slot state small sound based fresh =
    let may = step_may_be_done self table (Hear from (Prepare ballot slot ∷ [])) state small sound tt in
    elim (cases_Bool (leb ballot (promised_in state.kept))) [
      | inl refused ↦
          let least = leb-true ballot (promised_in state.kept) refused in
          let nack : Act = Send (Only from) (Nack ballot (promised_in state.kept)) in
          rw refused (inr (record { steady = record { promised = refl; prefix = refl }; above = above_it least; sent = in_rest (Observe ballot) (nack ∷ []) nack (in_first nack []) }))
      | inr high ↦ elim (cases_Bool (ltb slot state.kept.base)) [
        | inl below ↦ let less = ltb-true slot state.kept.base below in absurd (omega (arith, less, based))
        | inr kept ↦
            let allowed = rw (high, kept) at may in
            let votes = votes_from slot state.kept.votes in
            let said : Act = Send (Only from) (Promise ballot slot votes) in
            rw (high, kept) (inl (record {
              promised = refl;
              follows = allowed.1.0.follower;
              same = refl;
              votes = votes;
              sent = in_rest (Observe ballot) (Pledge ballot ∷ said ∷ []) said (in_rest (Pledge ballot) (said ∷ []) said (in_first said []));
            }))
      ]
    ]
  where
    above_it : ballot ≤ promised_in state.kept → ballot < promised_in state.kept
    above_it least = omega (arith, least, fresh)
