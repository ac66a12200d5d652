-- A round of a cluster of one: its replica takes an answer that waits, and its clock ticks.
use Rattle.std.proofs.Common.{◌≡◌, ℕ, List, [], ◌++◌, Option, None, Some, ℤ, refl, sym, ap, ◌∙◌, arith, subst}
use Rattle.paxos_base.specs.Vote.{votes_from}
use Rattle.paxos_base.specs.declared.entry.Entry.TheVariants.{End}
use Rattle.paxos_base.specs.declared.entry.Vote.{Vote}
use Rattle.cluster_sched.specs.declared.row.SchedRow.{SchedRow}
use Rattle.due_set.specs.Table.{IsSound}
use Rattle.launch_machine.specs.Answers.{IsIntent}
use Rattle.launch_machine.specs.declared.machine.Intent.TheVariants as intent
use Rattle.step_spec.specs.Act.{Act}
use Rattle.step_spec.specs.Folds.{after_acts, sent_to}
use Rattle.step_spec.specs.State.{State}
use Rattle.step_spec.specs.Step.{Answer, Plan, Tick, step}
use Rattle.synchronous_rounds.specs.Begins.{proposal_of}
use Rattle.synchronous_rounds.specs.Cluster.{Advice, Cluster, HeardLetter, IsAdvised, calls_at, cluster_round, letter_from}
use Rattle.synchronous_rounds.specs.Flights.{learned_by}
use Rattle.synchronous_rounds.specs.Rounds.{IsAnswerTo}
use Rattle.synchronous_rounds.specs.LedAlone.{IsLeading, Progress}
use Rattle.synchronous_rounds.proofs.BeginLemmas.{next_entry, proposing}
use Rattle.settling.specs.Alone.{IfWaits}
use Rattle.settling.proofs.NextLemmas.{LeadsOn, StaysSo, answer_alone, ended_leads, tick_alone, tick_stays}
use Rattle.settling.proofs.StepLemmas.{alone, learns_it, untold_proposal}

-- the replicas between two rounds, of which the first has no letter, and this answer waits for it
abbrev pub unheard : (ℕ → State) → Option SchedRow → Cluster
unheard replicas waits = record { replicas = replicas; waits = λ who. waits; mails = λ who. [] }

-- nothing is said, so there is no letter
silent_step : (acts : List Act) (more : List HeardLetter) → sent_to 0 0 acts ≡ [] → letter_from 0 (sent_to 0 0 acts) ++ more ≡ more
silent_step acts more none = rw none refl

-- it leads itself after the round, and no letter waits for it
pub record Went (best : List Vote) (at : Progress) (now : ℤ) (waits : Option SchedRow) (state : State) (answered : Option SchedRow) (next : Cluster) : Type 0 where
  pub on : LeadsOn best at now waits state answered (next.replicas 0)
  pub unheard_then : next.mails 0 ≡ []

pub round_alone : (best : List Vote) (at : Progress) (sound : IsSound at.table) (now : ℤ) (waits : Option SchedRow) (replicas : ℕ → State) (advice : ℕ → Advice) (answers : ℕ → Option SchedRow)
    → IsLeading best None at (replicas 0) → IfWaits best at waits → IsAdvised 1 at.table now advice (unheard replicas waits)
    → IsAnswerTo (calls_at 1 now advice (unheard replicas waits) 0) (answers 0)
    → Went best at now waits (replicas 0) (answers 0) (cluster_round 1 now advice answers (unheard replicas waits))
round_alone best at sound now None replicas advice answers leading able advised answered =
    let plan : Plan = (advice 0).plan in
    let acts : List Act = step alone (Tick now plan) (replicas 0) in
    let planned = advised.planned 0 (omega arith) in
    let ticked = tick_alone best at sound now plan (replicas 0) (answers 0) leading planned.0.0 planned.0.1 answered in
    record { on = ticked.0; unheard_then = rw ticked.1 refl }
round_alone best at sound now (Some row) replicas advice answers leading able advised answered =
    let state : State = replicas 0 in
    let plan : Plan = (advice 0).plan in
    let entry = End row.name.job row.name.at row.kind in
    let made = proposal_of alone best at (next_entry at sound entry) 0 in
    let first : List Act = step alone (Answer row.name.job row.name.at row.kind (advice 0).rows) state in
    let planned = advised.planned 0 (omega arith) in
    let is : first ≡ proposing alone at entry = answer_alone best at row (advice 0).rows state leading planned.0 able in
    let state_is : after_acts first state ≡ after_acts (proposing alone at entry) state = ap (λ acts. after_acts acts state) is in
    let untold : sent_to 0 0 first ≡ [] = ap (sent_to 0 0) is ∙ untold_proposal at entry in
    let leads : IsLeading best None (learned_by made) (after_acts first state) = subst (λ s. IsLeading best None (learned_by made) s) (sym state_is) (learns_it at best sound entry state leading) in
    let ticked = tick_alone best (learned_by made) sound now plan (after_acts first state) (answers 0) leads planned.1.0.0 planned.1.0.1 answered in
    let next : State = after_acts (step alone (Tick now plan) (after_acts first state)) (after_acts first state) in
    record {
      on = ended_leads best at sound now row state next (answers 0) leading able
          (subst (λ s. LeadsOn best (learned_by made) now None s (answers 0) next) state_is ticked.0);
      unheard_then = rw (untold, ticked.1) refl;
    }

-- one that has nothing to do has nothing to do after the round
pub round_stays : (best : List Vote) (at : Progress) (now : ℤ) (replicas : ℕ → State) (advice : ℕ → Advice) (answers : ℕ → Option SchedRow)
    → IsLeading best None at (replicas 0) → votes_from at.prefix best ≡ [] → IsIntent at.table at.rows now intent.Rest → IsAdvised 1 at.table now advice (unheard replicas None)
    → IsAnswerTo (calls_at 1 now advice (unheard replicas None) 0) (answers 0)
    → StaysSo best at (answers 0) ((cluster_round 1 now advice answers (unheard replicas None)).replicas 0)
round_stays best at now replicas advice answers leading unbound rests advised answered =
    let planned = advised.planned 0 (omega arith) in
    tick_stays best at now (advice 0).plan (replicas 0) (answers 0) leading planned.0.0 planned.0.1 unbound rests answered
