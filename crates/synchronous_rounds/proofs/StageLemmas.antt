-- From stage to stage, a leader that leads alone is nearer to being idle with each round.
use Rattle.std.proofs.Common.{◌≡◌, ℕ, ◌<◌, ◌≤◌, true, List, [], Option, None, Some, ℤ, refl, sym, inl, inr, ◌⊎◌, arith, subst}
use Rattle.paxos_base.specs.declared.entry.Vote.{Vote}
use Rattle.cluster_sched.specs.declared.row.SchedRow.{SchedRow}
use Rattle.due_set.specs.Table.{IsSound}
use Rattle.step_spec.specs.Propose.{is_open}
use Rattle.agreement.specs.Transition.{identity_of}
use Rattle.synchronous_rounds.specs.Begins.{Begins, calls, proposes, rebases, rests, NextEntry, proposal_of}
use Rattle.synchronous_rounds.specs.Cluster.{Advice, Cluster, IsAdvised, before_tick, calls_at, cluster_round}
use Rattle.synchronous_rounds.specs.Flights.{IsNeeded, IsUnderWay, asked_vote, learned_by, with_base}
use Rattle.synchronous_rounds.specs.Rounds.{ComesNearer, IsAnswerTo, Lands, Stage, accepted, answer, asked, free, StaysFree, WaitsOn}
use Rattle.synchronous_rounds.specs.LedAlone.{IsLeading, IsLedAlone, Progress}
use Rattle.synchronous_rounds.proofs.OutcomeLemmas.{tick_outcome}
use Rattle.synchronous_rounds.proofs.FlightLemmas.{first_round, second_round}
use Rattle.synchronous_rounds.proofs.FreeLemmas.{answer_next, free_next}
use Rattle.synchronous_rounds.proofs.MailLemmas.{accepted_next}
use Rattle.synchronous_rounds.proofs.NearLemmas.{begun_leads, begun_nearer}
use Rattle.synchronous_rounds.proofs.LedAloneLemmas.{led_alone_next}
use Rattle.synchronous_rounds.proofs.TickLemmas.{LeadsOn}

-- one that leads on leads alone
pub led_alone_then : (members leader : ℕ) (old at : Progress) (best : List Vote) (now : ℤ) (advice : ℕ → Advice) (answers : ℕ → Option SchedRow) (cluster : Cluster) → IsLedAlone members leader old.ballot old.prefix cluster → IsAdvised members old.table now advice cluster → at.ballot ≡ old.ballot → old.prefix ≤ at.prefix → LeadsOn best at ((cluster_round members now advice answers cluster).replicas leader) → IsLedAlone members leader at.ballot at.prefix (cluster_round members now advice answers cluster)
led_alone_then members leader old at best now advice answers cluster led_alone advised same up on =
    subst (λ ballot. IsLedAlone members leader ballot at.prefix (cluster_round members now advice answers cluster)) (sym same)
    (led_alone_next members leader old.ballot old.prefix at.prefix old.table now advice answers cluster led_alone advised up
    (omega (arith, on.leading.promised, same)) (omega (arith, on.leading.learned)))

-- ---- the stage after what it begins

pub record Staged (members leader : ℕ) (best : List Vote) (at : Progress) (next : Cluster) : Type 0 where
  pub base : ℕ
  pub stage : Stage members leader best (with_base base at) next

pub stage_begun : (members leader : ℕ) (best : List Vote) (at : Progress) (now : ℤ) (advice : ℕ → Advice) (cluster next : Cluster) → IsLedAlone members leader at.ballot at.prefix next → IsSound at.table → IsAnswerTo (calls_at members now advice cluster leader) (next.waits leader) → Begins members leader best at now advice cluster next → Staged members leader best at next
stage_begun members leader best at now advice cluster next led_alone sound answered begins = go begins
  where
    none : calls_at members now advice cluster leader ≡ [] → next.waits leader ≡ None
    none uncalled = subst (λ rows. IsAnswerTo rows (next.waits leader)) uncalled answered

    go : Begins members leader best at now advice cluster next → Staged members leader best at next
    go (proposes it) = record {
      base = at.base;
      stage = asked it.entry 0 it.flight (omega arith) (record { led_alone = led_alone; proposes = it.proposes; needed = it.needed; alone = none it.uncalled; early = omega arith; sound = sound }) it.asked;
    }
    go (rebases it) = record {
      base = at.prefix;
      stage = free (record { free = record { led_alone = led_alone; leading = it.leading; sound = sound }; alone = none it.uncalled });
    }
    go (calls it) =
        let there = subst (λ rows. IsAnswerTo rows (next.waits leader)) it.called answered in
        record {
          base = at.base;
          stage = answer there.0 (record {
            free = record { led_alone = led_alone; leading = it.leading; sound = sound };
            waits = there.1;
            unbound = it.free;
            open_there = subst (λ name. is_open name.job name.at at.rows ≡ true) (sym there.2) it.open_there;
          });
        }
    go (rests it) = record {
      base = at.base;
      stage = free (record { free = record { led_alone = led_alone; leading = it.leading; sound = sound }; alone = none it.uncalled });
    }

-- one that leads at its tick begins something, and so is at a stage
pub stage_at_tick : (members leader : ℕ) (best : List Vote) (at : Progress) (now : ℤ) (advice : ℕ → Advice) (answers : ℕ → Option SchedRow) (cluster : Cluster) → IsLeading best None at (before_tick members advice cluster leader) → IsSound at.table → IsAdvised members at.table now advice cluster → IsAnswerTo (calls_at members now advice cluster leader) (answers leader) → IsLedAlone members leader at.ballot at.prefix (cluster_round members now advice answers cluster) → (base : ℕ) × Stage members leader best (with_base base at) (cluster_round members now advice answers cluster)
stage_at_tick members leader best at now advice answers cluster leading sound advised answered led_alone =
    let begins = tick_outcome members leader best at now advice answers cluster led_alone.member led_alone.few led_alone.more sound advised leading in
    let staged = stage_begun members leader best at now advice cluster (cluster_round members now advice answers cluster) led_alone sound answered begins in
    (staged.base, staged.stage)

-- ---- a round

pub stage_next : (members leader : ℕ) (best : List Vote) (at : Progress) (now : ℤ) (advice : ℕ → Advice) (answers : ℕ → Option SchedRow) (cluster : Cluster) → Stage members leader best at cluster → IsAdvised members at.table now advice cluster → IsAnswerTo (calls_at members now advice cluster leader) (answers leader) → ComesNearer members leader best at cluster (cluster_round members now advice answers cluster) ⊎ StaysFree members leader best at now advice cluster (cluster_round members now advice answers cluster)
stage_next members leader best at now advice answers cluster stage advised answered = go stage
  where
    next : Cluster
    next = cluster_round members now advice answers cluster

    -- after a proposal was learned
    landed : (entry : NextEntry at) (waited : ℕ) → IsLedAlone members leader at.ballot at.prefix cluster → IsSound at.table → Lands (proposal_of (identity_of members leader) best at entry waited) now advice cluster next → ComesNearer members leader best at cluster next
    landed entry waited led_alone sound lands =
        let far : Progress = learned_by (proposal_of (identity_of members leader) best at entry waited) in
        let on = begun_leads members leader best far now advice cluster next lands.begins in
        let still = led_alone_then members leader at far best now advice answers cluster led_alone advised refl (omega arith) on in
        let staged = stage_begun members leader best far now advice cluster next still sound answered lands.begins in
        record { later = with_base staged.base far; ballot = refl; table = refl; stage = staged.stage; nearer = lands.nearer }

    -- while it waits
    under : (entry : NextEntry at) (waited : ℕ) → IsLedAlone members leader at.ballot at.prefix cluster → IsSound at.table → IsNeeded (proposal_of (identity_of members leader) best at entry waited) → (waits : WaitsOn (proposal_of (identity_of members leader) best at entry waited) now advice cluster next) → waits.waited < 3 → IsUnderWay (proposal_of (identity_of members leader) best (with_base waits.base at) (record { entry = entry.entry; later = entry.later; applies = entry.applies }) waits.waited) waits.flight next
    under entry waited led_alone sound needed waits early = record {
      led_alone = led_alone_then members leader at at best now advice answers cluster led_alone advised refl (omega arith) (record { flight = Some waits.flight; base = waits.base; leading = waits.proposes.leading });
      proposes = waits.proposes;
      needed = needed;
      alone = subst (λ rows. IsAnswerTo rows (answers leader)) waits.uncalled answered;
      early = early;
      sound = sound;
    }

    go : Stage members leader best at cluster → ComesNearer members leader best at cluster next ⊎ StaysFree members leader best at now advice cluster next
    go (free it) =
        let begins = free_next members leader best at now advice answers cluster it advised in
        let led_alone = led_alone_then members leader at at best now advice answers cluster it.free.led_alone advised refl (omega arith) (begun_leads members leader best at now advice cluster next begins) in
        let staged = stage_begun members leader best at now advice cluster next led_alone it.free.sound answered begins in
        elim (begun_nearer members leader best at now advice cluster next it answered begins) [
          | inl nearer ↦ inl (record { later = with_base staged.base at; ballot = refl; table = refl; stage = staged.stage; nearer = nearer })
          | inr rested ↦ inr (record {
            was = it;
            free = record {
              free = record { led_alone = led_alone; leading = rested.leading; sound = it.free.sound };
              alone = subst (λ rows. IsAnswerTo rows (answers leader)) rested.uncalled answered;
            };
            rested = rested;
          })
        ]
    go (answer row it) =
        let did = (answer_next members leader best at row now advice answers cluster it advised).0 in
        elim did.came [
          | inl waits ↦ inl (record {
            later = with_base waits.base at;
            ballot = refl;
            table = refl;
            stage = asked (record { entry = did.proposed.entry; later = did.proposed.later; applies = did.proposed.applies }) waits.waited waits.flight (omega (arith, waits.later))
                (under did.proposed 0 it.free.led_alone it.free.sound did.needed waits (omega (arith, waits.later))) did.asked;
            nearer = waits.nearer;
          })
          | inr lands ↦ inl (landed did.proposed 0 it.free.led_alone it.free.sound lands)
        ]
    go (asked entry waited flight low it asks) =
        elim (first_round (proposal_of (identity_of members leader) best at entry waited) flight cluster now advice answers it advised) [
          | inl waits ↦ inl (record {
            later = with_base waits.base at;
            ballot = refl;
            table = refl;
            stage = accepted (record { entry = entry.entry; later = entry.later; applies = entry.applies }) waits.waited waits.flight
                (under entry waited it.led_alone it.sound it.needed waits (omega (arith, waits.later, low)))
                (accepted_next members leader now advice answers (asked_vote (proposal_of (identity_of members leader) best at entry waited)) cluster it.led_alone asks);
            nearer = waits.nearer;
          })
          | inr lands ↦ inl (landed entry waited it.led_alone it.sound lands)
        ]
    go (accepted entry waited flight it has) =
        inl (landed entry waited it.led_alone it.sound (second_round (proposal_of (identity_of members leader) best at entry waited) flight cluster now advice answers it advised has))
