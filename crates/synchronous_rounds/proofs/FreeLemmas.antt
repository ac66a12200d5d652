-- A round of a leader that has no flight, with an answer that waits for it or none.
use Rattle.std.proofs.Common.{◌≡◌, ℕ, ◌<◌, ◌≤◌, List, [], ◌∷◌, ◌++◌, Option, None, Some, ℤ, refl, sym, inl, inr, ◌⊎◌, arith, subst}
use Rattle.paxos_base.specs.declared.entry.Entry.{Entry}
use Rattle.paxos_base.specs.declared.entry.Entry.TheVariants.{End}
use Rattle.paxos_base.specs.declared.entry.Vote.{Vote}
use Rattle.paxos_base.specs.declared.rows.JobRow.{JobRow}
use Rattle.cluster_sched.specs.declared.row.SchedRow.{SchedRow}
use Rattle.launch_machine.proofs.ClerkLemmas.{AppliesAll-same}
use Rattle.term_core.specs.Term.{new_flight}
use Rattle.term_core.specs.declared.term.Term.TheVariants.{Leader}
use Rattle.step_spec.specs.Act.{Act}
use Rattle.step_spec.specs.Folds.{after_acts, sent_to}
use Rattle.step_spec.specs.Message.{Accept, Accepted}
use Rattle.step_spec.specs.Propose.{answer, answer_of, is_open}
use Rattle.step_spec.specs.State.{Identity, State}
use Rattle.step_spec.specs.Step.{Event, Tick, step}
use Rattle.agreement.specs.Transition.{identity_of}
use Rattle.synchronous_rounds.specs.Begins.{Begins, proposal_of}
use Rattle.synchronous_rounds.specs.Cluster.{Advice, ArePlanned, Cluster, HeardLetter, IsAdvised, after_events, answer_events, before_tick, cluster_round, hear_events, letter_from, letters_to}
use Rattle.synchronous_rounds.specs.Flights.{IsNeeded, Proposal, Proposes, asked_vote}
use Rattle.synchronous_rounds.specs.Measure.{wait_of}
use Rattle.synchronous_rounds.specs.Rounds.{HasAnswered, IsAnswerable, IsFreeNow, Lands, WaitsOn}
use Rattle.synchronous_rounds.specs.LedAlone.{IsLeading, Occurs, Progress}
use Rattle.synchronous_rounds.proofs.BeginLemmas.{ended_anew, ends, next_entry, proposes_it, proposing, takes_end}
use Rattle.synchronous_rounds.proofs.CountLemmas.{GoesOnBy, goes_mail}
use Rattle.synchronous_rounds.proofs.FlightLemmas.{BeginsNext, WaitsStill, comes_to, lands}
use Rattle.synchronous_rounds.proofs.LeaderLemmas.{free_mail}
use Rattle.synchronous_rounds.proofs.MailLemmas.{occurs_left, occurs_next}
use Rattle.synchronous_rounds.proofs.NearLemmas.{waits_nearer}
use Rattle.synchronous_rounds.proofs.OutcomeLemmas.{asks_in, tick_outcome}

-- ---- nothing waits

pub free_next : (members leader : ℕ) (best : List Vote) (at : Progress) (now : ℤ) (advice : ℕ → Advice) (answers : ℕ → Option SchedRow) (cluster : Cluster) → IsFreeNow members leader best at cluster → IsAdvised members at.table now advice cluster → Begins members leader best at now advice cluster (cluster_round members now advice answers cluster)
free_next members leader best at now advice answers cluster free advised =
    tick_outcome members leader best at now advice answers cluster free.free.led_alone.member free.free.led_alone.few free.free.led_alone.more free.free.sound advised
    (subst (λ waits. IsLeading best None at (after_events (identity_of members leader) (answer_events waits (advice leader).rows ++ hear_events (cluster.mails leader)) (cluster.replicas leader))) (sym free.alone)
    (free_mail (identity_of members leader) best at at.prefix (cluster.mails leader) (cluster.replicas leader) (omega arith) (free.free.led_alone.within leader free.free.led_alone.member) free.free.leading))

-- ---- an answer waits

pub answer_next : (members leader : ℕ) (best : List Vote) (at : Progress) (row : SchedRow) (now : ℤ) (advice : ℕ → Advice) (answers : ℕ → Option SchedRow) (cluster : Cluster) → IsAnswerable members leader best at row cluster → IsAdvised members at.table now advice cluster → (answered : HasAnswered members leader best at now advice cluster (cluster_round members now advice answers cluster))
    × (answered.proposed.entry ≡ End row.name.job row.name.at row.kind)
unfolding step answer
answer_next members leader best at row now advice answers cluster able advised = (
  record {
    proposed = next_entry at able.free.sound entry;
    needed = needed;
    asked = λ who below apart. occurs_next members now advice answers cluster leader who (Accept (asked_vote made)) member
        (subst (λ waits. Occurs (letters_to self who (answer_events waits rows ++ rest) old) leader (Accept (asked_vote made))) (sym able.waits)
        (occurs_left (letter_from leader (sent_to leader who acts)) (letters_to self who rest first) leader (Accept (asked_vote made)) (asks_in self at entry acts who is apart)));
    came = came (comes_to made (λ q. (q ≡ leader) ⊎ Occurs mail q (Accepted at.ballot at.prefix)) now advice answers cluster (omega arith) able.free.led_alone able.free.sound advised goes);
  },
  refl,
)
  where
    self : Identity
    self = identity_of members leader

    rows : List JobRow
    rows = (advice leader).rows

    old : State
    old = cluster.replicas leader

    mail : List HeardLetter
    mail = cluster.mails leader

    rest : List Event
    rest = hear_events mail ++ Tick now (advice leader).plan ∷ []

    next : Cluster
    next = cluster_round members now advice answers cluster

    member : leader < members
    member = able.free.led_alone.member

    small : leader < 8
    small = omega (arith, member, able.free.led_alone.few)

    entry : Entry
    entry = End row.name.job row.name.at row.kind

    made : Proposal
    made = proposal_of self best at (next_entry at able.free.sound entry) 0

    needed : IsNeeded made
    needed = inr (ended_anew at.table at.rows made.later row.name.job row.name.at row.kind (takes_end at.rows row.name.job row.name.at able.open_there) made.applies)

    planned : ArePlanned self at.table (answer_events (Some row) rows ++ rest) old
    planned = subst (λ waits. ArePlanned self at.table (answer_events waits rows ++ rest) old) able.waits (advised.planned leader member)

    rows_are : rows ≡ at.rows
    rows_are = AppliesAll-same at.table old.kept.rows old.learned rows at.rows planned.0 able.free.leading.launch

    acts : List Act
    acts = answer_of self old entry (is_open row.name.job row.name.at rows) old.term

    is : acts ≡ proposing self at entry
    is = ends self at best entry (is_open row.name.job row.name.at rows) old (rw rows_are able.open_there) able.unbound able.free.leading

    first : State
    first = after_acts acts old

    there : Proposes made (new_flight at.prefix entry leader) first
    there = subst (λ some. Proposes made (new_flight at.prefix entry leader) (after_acts some old)) (sym is) (proposes_it self at best able.free.sound entry old able.free.led_alone.more small able.free.leading)

    goes : GoesOnBy made (λ q. (q ≡ leader) ⊎ Occurs mail q (Accepted at.ballot at.prefix)) (before_tick members advice cluster leader)
    goes = subst (λ waits. GoesOnBy made (λ q. (q ≡ leader) ⊎ Occurs mail q (Accepted at.ballot at.prefix)) (after_events self (answer_events waits rows ++ hear_events mail) old)) (sym able.waits)
        (goes_mail made (λ q. q ≡ leader) mail first able.free.led_alone.few (able.free.led_alone.from leader member) (able.free.led_alone.within leader member)
        (inl (record { flight = new_flight at.prefix entry leader; proposes = there; has = λ q same. rw same there.flies.own })))

    least : 3 ≤ wait_of (cluster.waits leader) (Leader at.ballot best None)
    least = subst (λ waits. 3 ≤ wait_of waits (Leader at.ballot best None)) (sym able.waits) (omega arith)

    came : WaitsStill made now advice cluster next ⊎ BeginsNext made now advice cluster next → WaitsOn made now advice cluster next ⊎ Lands made now advice cluster next
    came (inl still) = inl (record {
      base = still.waited.base;
      waited = still.waited.waited;
      later = still.waited.later;
      flight = still.waited.flight;
      proposes = still.waited.proposes;
      uncalled = still.uncalled;
      nearer = waits_nearer made None (cluster.waits leader) (next.waits leader) old (next.replicas leader) able.free.leading (omega (arith, least)) still.waited;
    })
    came (inr begins) = inr (lands made now advice cluster next able.free.sound needed able.free.leading.learned begins)
