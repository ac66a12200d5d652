-- A round of one replica: what it takes and hears, and then its tick.
use Rattle.std.proofs.Common.{◌≡◌, ℕ, ◌<◌, [], ◌∷◌, ◌++◌, Option, ℤ, sym, ap, ◌∙◌, subst}
use Rattle.cluster_sched.specs.declared.row.SchedRow.{SchedRow}
use Rattle.due_set.specs.Table.{Table}
use Rattle.step_spec.specs.Folds.{after_acts, sent_to}
use Rattle.step_spec.specs.Message.{Message}
use Rattle.step_spec.specs.Step.{IsPlanned, Tick, step}
use Rattle.agreement.specs.Transition.{identity_of}
use Rattle.synchronous_rounds.specs.Cluster.{Advice, Cluster, IsAdvised, after_events, answer_events, before_tick, cluster_round, hear_events, letter_from}
use Rattle.synchronous_rounds.specs.LedAlone.{Occurs}
use Rattle.synchronous_rounds.proofs.Lists.{events_append, planned_behind}
use Rattle.synchronous_rounds.proofs.MailLemmas.{occurs_after, occurs_left, occurs_next}

-- the tick comes behind an answer and the mail
pub ticked : (members : ℕ) (advice : ℕ → Advice) (cluster : Cluster) (who : ℕ) → before_tick members advice cluster who ≡ after_events (identity_of members who) (hear_events (cluster.mails who)) (after_events (identity_of members who) (answer_events (cluster.waits who) (advice who).rows) (cluster.replicas who))
ticked members advice cluster who = events_append (identity_of members who) (answer_events (cluster.waits who) (advice who).rows) (hear_events (cluster.mails who)) (cluster.replicas who)

pub round_after : (members : ℕ) (now : ℤ) (advice : ℕ → Advice) (answers : ℕ → Option SchedRow) (cluster : Cluster) (who : ℕ) → (cluster_round members now advice answers cluster).replicas who ≡ after_acts (step (identity_of members who) (Tick now (advice who).plan) (before_tick members advice cluster who)) (before_tick members advice cluster who)
round_after members now advice answers cluster who =
    let self = identity_of members who in
    let front = answer_events (cluster.waits who) (advice who).rows in
    let mail = hear_events (cluster.mails who) in
    let tick = Tick now (advice who).plan in
    events_append self front (mail ++ tick ∷ []) (cluster.replicas who)
    ∙ (events_append self mail (tick ∷ []) (after_events self front (cluster.replicas who))
    ∙ ap (λ s. after_acts (step self tick s) s) (sym (ticked members advice cluster who)))

pub round_planned : (members : ℕ) (table : Table) (now : ℤ) (advice : ℕ → Advice) (cluster : Cluster) (who : ℕ) → who < members → IsAdvised members table now advice cluster → IsPlanned table (before_tick members advice cluster who) (Tick now (advice who).plan)
round_planned members table now advice cluster who below advised =
    let self = identity_of members who in
    let front = answer_events (cluster.waits who) (advice who).rows in
    let mail = hear_events (cluster.mails who) in
    let tick = Tick now (advice who).plan in
    let behind = planned_behind self table front (mail ++ tick ∷ []) (cluster.replicas who) (advised.planned who below) in
    subst (λ s. IsPlanned table s tick) (sym (ticked members advice cluster who))
    (planned_behind self table mail (tick ∷ []) (after_events self front (cluster.replicas who)) behind).0

-- what a tick says is in the mails after the round
pub round_occurs : (members : ℕ) (now : ℤ) (advice : ℕ → Advice) (answers : ℕ → Option SchedRow) (cluster : Cluster) (who to : ℕ) (message : Message) → who < members → Occurs (letter_from who (sent_to who to (step (identity_of members who) (Tick now (advice who).plan) (before_tick members advice cluster who)))) who message → Occurs ((cluster_round members now advice answers cluster).mails to) who message
round_occurs members now advice answers cluster who to message below occurs =
    let self = identity_of members who in
    let front = answer_events (cluster.waits who) (advice who).rows in
    let mail = hear_events (cluster.mails who) in
    let tick = Tick now (advice who).plan in
    occurs_next members now advice answers cluster who to message below
    (occurs_after self to front (mail ++ tick ∷ []) (cluster.replicas who) message
    (occurs_after self to mail (tick ∷ []) (after_events self front (cluster.replicas who)) message
    (occurs_left (letter_from who (sent_to who to (step self tick (after_events self mail (after_events self front (cluster.replicas who)))))) [] who message
    (subst (λ s. Occurs (letter_from who (sent_to who to (step self tick s))) who message) (ticked members advice cluster who) occurs))))
