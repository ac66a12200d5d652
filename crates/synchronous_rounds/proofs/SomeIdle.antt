-- Two replicas over a table without jobs, of which one leads alone and is idle; and rounds after it.
use Rattle.std.proofs.Common.{◌≡◌, ℕ, zero, suc, ◌+◌, ◌<◌, ◌≤◌, List, [], ◌∷◌, ◌++◌, length, Option, None, Some, ℤ, refl, inr, arith, lit<}
use Rattle.std.proofs.lemmas.List.Elements.{All-nil}
use Rattle.paxos_base.specs.Vote.{votes_from}
use Rattle.paxos_base.specs.declared.durable.Durable.{Durable}
use Rattle.paxos_base.specs.declared.entry.Entry.{Entry}
use Rattle.paxos_base.specs.declared.entry.Entry.TheVariants.{Noop}
use Rattle.paxos_base.specs.declared.entry.Vote.{Vote}
use Rattle.paxos_base.specs.declared.rows.JobRow.{JobRow}
use Rattle.cluster_sched.specs.declared.row.SchedRow.{SchedRow}
use Rattle.due_set.proofs.SoundLemmas.{no_later}
use Rattle.due_set.specs.Table.{IsBuiltFor, IsSound, Table}
use Rattle.launch_machine.specs.Answers.{IsIntent}
use Rattle.launch_machine.specs.Clerk.{first_rows}
use Rattle.launch_machine.specs.declared.machine.Intent.TheVariants.{Rest}
use Rattle.launch_machine.proofs.ExistLemmas.{all_applied}
use Rattle.term_core.specs.declared.term.Term.TheVariants.{Follower, Leader}
use Rattle.step_spec.specs.Coherent.{IsCoherent}
use Rattle.step_spec.specs.Folds.{after_acts}
use Rattle.step_spec.specs.State.{Identity, State, prefix_of}
use Rattle.step_spec.specs.Step.{Event, IsLaunchTable, IsPlanned, Tick, step}
use Rattle.agreement.specs.Transition.{identity_of}
use Rattle.step_spec.proofs.Said.{stays_coherent}
use Rattle.history.proofs.Asks.{busy, minute, sound}
use Rattle.history.proofs.TableRows.{rests_without_jobs}
use Rattle.synchronous_rounds.specs.Cluster.{Advice, ArePlanned, Cluster, HeardLetter, IsAdvised, after_events, answer_events, calls_at, cluster_round, events_at, events_of, hear_events}
use Rattle.synchronous_rounds.specs.Rounds.{IsAnswerTo}
use Rattle.synchronous_rounds.specs.LedAlone.{IsBehind, Progress}
use Rattle.synchronous_rounds.specs.CatchUp.{AreFiveRounds, IsIdle, IsRoundAt}

-- ---- the table

abbrev bare : Table
bare = record { window = busy.window; grace = 0; zones = []; jobs = []; later = [] }

bare_sound : IsSound bare
bare_sound = record {
  limits = sound.limits;
  grace = omega arith;
  built = All-nil (IsBuiltFor busy.window);
  zone_numbers = All-nil (λ job. job.zone < 0);
  few = omega arith;
  distinct = λ i j d before within. absurd (omega (arith, before, within));
  kinds = λ k d within. absurd (omega (arith, within));
  versions = no_later bare;
}

-- its launch table asks for nothing at any instant
bare_rests : (rows : List JobRow) (now : ℤ) → IsIntent bare rows now Rest
bare_rests rows now = rests_without_jobs bare rows now refl refl

-- the launch table of a replica
rows_then : (state : State) → (rows : List JobRow) × IsLaunchTable bare state rows
rows_then state = all_applied bare bare_sound state.kept.rows state.learned

-- ---- a round

pub planned_append : (self : Identity) (table : Table) (xs ys : List Event) (state : State) → ArePlanned self table xs state → ArePlanned self table ys (after_events self xs state) → ArePlanned self table (xs ++ ys) state
planned_append self table [] ys state first second = second
planned_append self table (x ∷ xs) ys state first second = (first.0, planned_append self table xs ys (after_acts (step self x state) state) first.1 second)

hears_planned : (self : Identity) (table : Table) (mail : List HeardLetter) (state : State) → ArePlanned self table (hear_events mail) state
hears_planned self table [] state = tt
hears_planned self table (letter ∷ mail) state = (tt, hears_planned self table mail _)

planned_events : (self : Identity) (table : Table) (now : ℤ) (advice : Advice) (waits : Option SchedRow) (mail : List HeardLetter) (state : State) → IsLaunchTable table state advice.rows → IsPlanned table (after_events self (answer_events waits advice.rows ++ hear_events mail) state) (Tick now advice.plan) → ArePlanned self table (events_of now advice waits mail) state
planned_events self table now advice None mail state rows tick = planned_append self table (hear_events mail) (Tick now advice.plan ∷ []) state (hears_planned self table mail state) (tick, tt)
planned_events self table now advice (Some row) mail state rows tick =
    (rows, planned_append self table (hear_events mail) (Tick now advice.plan ∷ []) _ (hears_planned self table mail _) (tick, tt))

coherent_after : (self : Identity) (table : Table) (events : List Event) (state : State) → self.me < 8 → IsCoherent self state → ArePlanned self table events state → IsCoherent self (after_events self events state)
coherent_after self table [] state small coherent planned = coherent
coherent_after self table (event ∷ events) state small coherent planned =
    coherent_after self table events (after_acts (step self event state) state) small (stays_coherent self table event state small coherent planned.0) planned.1

-- what the launch tables say in it
advice_of : ℕ → Cluster → ℕ → Advice
advice_of members cluster who =
    let rows = (rows_then (cluster.replicas who)).0 in
    record {
      rows = rows;
      plan = record {
        rows = (rows_then (after_events (identity_of members who) (answer_events (cluster.waits who) rows ++ hear_events (cluster.mails who)) (cluster.replicas who))).0;
        intent = Rest;
      };
    }

abbrev AreCoherent : ℕ → Cluster → Type 0
AreCoherent members cluster = (who : ℕ) → who < members → IsCoherent (identity_of members who) (cluster.replicas who)

advised_by : (members : ℕ) (now : ℤ) (cluster : Cluster) → AreCoherent members cluster → IsAdvised members bare now (advice_of members cluster) cluster
unfolding advice_of rows_then
advised_by members now cluster coherent = record {
  coherent = coherent;
  planned = λ who below.
      let self = identity_of members who in
      let rows = rows_then (cluster.replicas who) in
      let tick = rows_then (after_events self (answer_events (cluster.waits who) rows.0 ++ hear_events (cluster.mails who)) (cluster.replicas who)) in
      planned_events self bare now (advice_of members cluster who) (cluster.waits who) (cluster.mails who) (cluster.replicas who) rows.1 (tick.1, bare_rests tick.0 now);
}

-- a call is answered by its own row
answer_of_calls : List SchedRow → Option SchedRow
answer_of_calls [] = None
answer_of_calls (row ∷ rows) = Some row

answers_them : (rows : List SchedRow) → IsAnswerTo rows (answer_of_calls rows)
unfolding answer_of_calls
answers_them [] = refl
answers_them (row ∷ rows) = (row, refl, refl)

-- a round, after which each replica is coherent still
record SomeRound (members leader : ℕ) (now : ℤ) (cluster : Cluster) : Type 0 where
  next : Cluster
  round : IsRoundAt members leader bare now cluster next
  coherent : AreCoherent members next

some_round : (members leader : ℕ) (now : ℤ) (cluster : Cluster) → members ≤ 7 → AreCoherent members cluster → SomeRound members leader now cluster
some_round members leader now cluster few coherent = record {
  next = cluster_round members now (advice_of members cluster) (λ who. answer_of_calls calls) cluster;
  round = record { advice = advice_of members cluster; answers = λ who. answer_of_calls calls; advised = advised; answered = answers_them calls; is = refl };
  coherent = λ who below.
      coherent_after (identity_of members who) bare (events_at now (advice_of members cluster) cluster who) (cluster.replicas who) (omega (arith, below, few))
      (coherent who below) (advised.planned who below);
}
  where
    calls : List SchedRow
    calls = calls_at members now (advice_of members cluster) cluster leader

    advised : IsAdvised members bare now (advice_of members cluster) cluster
    advised = advised_by members now cluster coherent

record SomeRounds (members leader : ℕ) (now : ℤ) (cluster : Cluster) : Type 0 where
  five : Cluster
  rounds : AreFiveRounds members leader bare now cluster five

some_rounds : (members leader : ℕ) (now : ℤ) (cluster : Cluster) → members ≤ 7 → AreCoherent members cluster → SomeRounds members leader now cluster
some_rounds members leader now cluster few coherent =
    let a = some_round members leader now cluster few coherent in
    let b = some_round members leader now a.next few a.coherent in
    let c = some_round members leader now b.next few b.coherent in
    let d = some_round members leader now c.next few c.coherent in
    let e = some_round members leader now d.next few d.coherent in
    record {
      five = e.next;
      rounds = record {
        one = a.next;
        two = b.next;
        three = c.next;
        four = d.next;
        first = a.round;
        second = b.round;
        third = c.round;
        fourth = d.round;
        fifth = e.round;
      };
    }

-- ---- the replicas

abbrev kept_with : (tried base : ℕ) → Durable
kept_with tried base = record { tried = tried; promised = Some 16; votes = []; base = base; rows = first_rows bare }

abbrev ahead : ℕ → List Entry → State
ahead base learned = record { kept = kept_with 2 base; learned = learned; term = Leader 16 [] None; seen = 16 }

abbrev lagging : State
lagging = record { kept = kept_with 0 0; learned = []; term = Follower None; seen = 16 }

-- the first of two, and the other
abbrev two : {A : Type 0} → A → A → ℕ → A
two first second zero = first
two first second (suc more) = second

abbrev some_cluster : ℕ → List Entry → Cluster
some_cluster base learned = record { replicas = two (ahead base learned) lagging; waits = λ who. None; mails = λ who. [] }

abbrev far : ℕ → Progress
far base = record { ballot = 16; table = bare; rows = first_rows bare; prefix = 1; base = base }

coherent_two : (base : ℕ) (learned : List Entry) → AreCoherent 2 (some_cluster base learned)
coherent_two base learned zero below =
    record { promised = omega arith; term = (record { promised = refl; member = refl; round = refl }, tt); votes = All-nil (λ vote. vote.ballot ≤ 16) }
coherent_two base learned (suc zero) below = record { promised = omega arith; term = tt; votes = All-nil (λ vote. vote.ballot ≤ 16) }
coherent_two base learned (suc (suc more)) below = absurd (omega (arith, below))

some_idle : (base : ℕ) (learned : List Entry) (now : ℤ) → base + length learned ≡ 1 → IsLaunchTable bare (ahead base learned) (first_rows bare) → IsIdle 2 0 [] (far base) now (some_cluster base learned)
unfolding votes_from
some_idle base learned now long launch = record {
  free = record {
    free = record {
      led_alone = record { member = lit< tt; few = omega arith; more = omega arith; behind = behind; within = λ who below. tt; from = λ who below. tt };
      leading = record { is = refl; promised = refl; launch = launch; learned = long; from_base = refl };
      sound = bare_sound;
    };
    alone = refl;
  };
  unbound = refl;
  rests = bare_rests (first_rows bare) now;
}
  where
    behind : (who : ℕ) → who < 2 → (who ≡ 0 → ⊥) → IsBehind 16 1 ((some_cluster base learned).replicas who)
    behind zero below apart = absurd (apart refl)
    behind (suc more) below apart = record { promised = omega arith; follows = tt; short = omega arith }

-- ---- the witnesses

pub some_ahead_of_base : (members : ℕ) × (leader : ℕ) × (best : List Vote) × (at : Progress) × (now : ℤ) × (cluster : Cluster) × (five : Cluster) × (who : ℕ) × IsIdle members leader best at now cluster × AreFiveRounds members leader at.table now cluster five × (who < members) × (prefix_of (cluster.replicas who) < at.prefix) × (at.base ≤ prefix_of (cluster.replicas who))
some_ahead_of_base =
    let rounds = some_rounds 2 0 (minute 0) (some_cluster 0 (Noop ∷ [])) (omega arith) (coherent_two 0 (Noop ∷ [])) in
    (2, 0, [], far 0, minute 0, some_cluster 0 (Noop ∷ []), rounds.five, 1, some_idle 0 (Noop ∷ []) (minute 0) refl (first_rows bare, inr ((λ takes. takes), refl), refl), rounds.rounds, omega arith, omega arith, omega arith)

pub some_ahead_at_base : (members : ℕ) × (leader : ℕ) × (best : List Vote) × (at : Progress) × (now : ℤ) × (cluster : Cluster) × (five : Cluster) × (who : ℕ) × IsIdle members leader best at now cluster × AreFiveRounds members leader at.table now cluster five × (who < members) × (prefix_of (cluster.replicas who) < at.base)
some_ahead_at_base =
    let rounds = some_rounds 2 0 (minute 0) (some_cluster 1 []) (omega arith) (coherent_two 1 []) in
    (2, 0, [], far 1, minute 0, some_cluster 1 [], rounds.five, 1, some_idle 1 [] (minute 0) refl refl, rounds.rounds, omega arith, omega arith)
