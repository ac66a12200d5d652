-- The tasks of a round.
use Rattle.std.proofs.Common.{◌≡◌, ◌⊎◌, ℕ, ◌<◌, true, Option, Some, None, List, [], ◌∷◌, ◌++◌, ℤ, inl, inr, sym, ap, ◌∙◌, subst, if◌then◌else◌, ◌<ℤ◌, arith}
use Rattle.std.specs.Prelude.{Contains, IsSome}
use Rattle.std.specs.List.{range_with_len}
use Rattle.std.proofs.lemmas.Bool.{cases_Bool}
use Rattle.std.proofs.lemmas.List.Elements.{Contains-append_left, Contains-append_right, Contains-append_cases}
use Rattle.zone_minutes.specs.declared.minute.Minute.{Minute}
use Rattle.zone_minutes.specs.declared.minute.Window.{Window}
use Rattle.cluster_sched.specs.declared.row.SchedRow.{SchedRow}
use Rattle.due_set.proofs.Rising.{Contains-head, Contains-cases, Contains-none, Contains-map}
use Rattle.history.specs.declared.turn.Cause.{Cause}
use Rattle.history.specs.declared.turn.Cause.TheVariants.{Tick, Hear, Answer}
use Rattle.script_semantics.specs.Round.{answer_tasks, clock_reading, hear_tasks, round_tasks, tasks_of}
use Rattle.script_semantics.specs.Situation.{Situation, Task, Do}
use Rattle.script_semantics.proofs.ListLemmas.{from_flat_map, in_flat_map, in_range}
use Rattle.step_spec.proofs.ListLemmas.{from_map}
use Rattle.std.proofs.lemmas.Int.{ints, clamps}
use Rattle.zone_minutes.specs.Window.{IsInWindow}

-- the task takes an answer that waits
record Takes (situation : Situation) (who : ℕ) (task : Task) : Type 0 where
  is : task ≡ Do who Answer
  waits : IsSome (situation.standing.waits who)

-- the task hears a letter that waits
record Hears (situation : Situation) (who : ℕ) (task : Task) : Type 0 where
  number : ℕ
  waits : Contains (situation.mails who) number
  is : task ≡ Do who (Hear number)

-- why a replica that runs has a task
record IsTask (window : Window) (at : ℤ) (situation : Situation) (who : ℕ) (task : Task) : Type 0 where
  runs : situation.standing.runs who ≡ true
  why : Takes situation who task ⊎ (Hears situation who task ⊎ (task ≡ Do who (Tick (clock_reading window at (situation.skews who)))))

-- what the replica does where it runs
abbrev running_tasks : Window → ℤ → Situation → ℕ → List Task
running_tasks window at situation who =
    answer_tasks who (situation.standing.waits who)
    ++ (hear_tasks who (situation.mails who) ++ Do who (Tick (clock_reading window at (situation.skews who))) ∷ [])

takes : (who : ℕ) (waits : Option SchedRow) (task : Task) → Contains (answer_tasks who waits) task → (task ≡ Do who Answer) × IsSome waits
takes who None task has = absurd (Contains-none task has)
takes who (Some row) task has = elim (Contains-cases (Do who Answer) [] task has) [
  | inl same ↦ (sym same, search)
  | inr none ↦ absurd (Contains-none task none)
]

runs_of : (window : Window) (at : ℤ) (situation : Situation) (who : ℕ) (task : Task) → Contains (running_tasks window at situation who) task
    → Takes situation who task ⊎ (Hears situation who task ⊎ (task ≡ Do who (Tick (clock_reading window at (situation.skews who)))))
runs_of window at situation who task has =
    let tick = Do who (Tick (clock_reading window at (situation.skews who))) in
    elim (Contains-append_cases (answer_tasks who (situation.standing.waits who)) (hear_tasks who (situation.mails who) ++ tick ∷ []) task has) [
      | inl answer ↦ (let both = takes who (situation.standing.waits who) task answer in inl (record { is = both.0; waits = both.1 }))
      | inr later ↦ elim (Contains-append_cases (hear_tasks who (situation.mails who)) (tick ∷ []) task later) [
        | inl heard ↦
            let letter = from_map (λ number. Do who (Hear number)) (situation.mails who) task heard in
            inr (inl (record { number = letter.origin; waits = letter.among; is = sym letter.is }))
        | inr last ↦ elim (Contains-cases tick [] task last) [
          | inl same ↦ inr (inr (sym same))
          | inr none ↦ absurd (Contains-none task none)
        ]
      ]
    ]

of_one : (window : Window) (at : ℤ) (situation : Situation) (who : ℕ) (task : Task) → Contains (tasks_of window at situation who) task
    → IsTask window at situation who task
of_one window at situation who task has = elim (cases_Bool (situation.standing.runs who)) [
  | inl is ↦ record { runs = is; why = runs_of window at situation who task (subst (λ b. Contains (if b then running_tasks window at situation who else []) task) is has) }
  | inr is ↦ absurd (Contains-none task (subst (λ b. Contains (if b then running_tasks window at situation who else []) task) is has))
]

-- whose task it is
record IsSomeones (window : Window) (at : ℤ) (situation : Situation) (task : Task) : Type 0 where
  by : ℕ
  task_of : IsTask window at situation by task

of_round : (members : ℕ) (window : Window) (at : ℤ) (situation : Situation) (task : Task) → Contains (round_tasks members window at situation) task
    → IsSomeones window at situation task
of_round members window at situation task has =
    let joined = from_flat_map (tasks_of window at situation) (range_with_len 0 members) task has in
    record { by = joined.origin; task_of = of_one window at situation joined.origin task joined.has }

pub waited : (members : ℕ) (window : Window) (at : ℤ) (situation : Situation) (who number : ℕ)
    → Contains (round_tasks members window at situation) (Do who (Hear number)) → Contains (situation.mails who) number
waited members window at situation who number has =
    let one = of_round members window at situation (Do who (Hear number)) has in
    elim one.task_of.why [
      | inl takes ↦ absurd (let is = takes.is in cc)
      | inr others ↦ elim others [
        | inl hears ↦
            let is = hears.is in
            let who_is : one.by ≡ who = cc in
            let number_is : hears.number ≡ number = cc in
            subst (λ n. Contains (situation.mails who) n) number_is (subst (λ w. Contains (situation.mails w) hears.number) who_is hears.waits)
        | inr is ↦ absurd cc
      ]
    ]

pub reading : (members : ℕ) (window : Window) (at : ℤ) (situation : Situation) (who : ℕ) (now : Minute)
    → Contains (round_tasks members window at situation) (Do who (Tick now)) → now ≡ clock_reading window at (situation.skews who)
reading members window at situation who now has =
    let one = of_round members window at situation (Do who (Tick now)) has in
    elim one.task_of.why [
      | inl takes ↦ absurd (let is = takes.is in cc)
      | inr others ↦ elim others [
        | inl hears ↦ absurd (let is = hears.is in cc)
        | inr is ↦
            let who_is : one.by ≡ who = cc in
            let now_is : now ≡ clock_reading window at (situation.skews one.by) = cc in
            now_is ∙ ap (λ w. clock_reading window at (situation.skews w)) who_is
      ]
    ]

pub asked : (members : ℕ) (window : Window) (at : ℤ) (situation : Situation) (who : ℕ)
    → Contains (round_tasks members window at situation) (Do who Answer) → IsSome (situation.standing.waits who)
asked members window at situation who has =
    let one = of_round members window at situation (Do who Answer) has in
    elim one.task_of.why [
      | inl takes ↦
          let is = takes.is in
          let who_is : one.by ≡ who = cc in
          subst (λ w. IsSome (situation.standing.waits w)) who_is takes.waits
      | inr others ↦ elim others [
        | inl hears ↦ absurd (let is = hears.is in cc)
        | inr is ↦ absurd cc
      ]
    ]

pub running : (members : ℕ) (window : Window) (at : ℤ) (situation : Situation) (who : ℕ) (cause : Cause)
    → Contains (round_tasks members window at situation) (Do who cause) → situation.standing.runs who ≡ true
running members window at situation who cause has =
    let one = of_round members window at situation (Do who cause) has in
    let runs = one.task_of.runs in
    elim one.task_of.why [
      | inl takes ↦ (let is = takes.is in let who_is : one.by ≡ who = cc in subst (λ w. situation.standing.runs w ≡ true) who_is runs)
      | inr others ↦ elim others [
        | inl hears ↦ (let is = hears.is in let who_is : one.by ≡ who = cc in subst (λ w. situation.standing.runs w ≡ true) who_is runs)
        | inr is ↦ (let who_is : one.by ≡ who = cc in subst (λ w. situation.standing.runs w ≡ true) who_is runs)
      ]
    ]

-- a task of a replica that runs is one of the round
in_round : (members : ℕ) (window : Window) (at : ℤ) (situation : Situation) (who : ℕ) (task : Task) → who < members
    → situation.standing.runs who ≡ true → Contains (running_tasks window at situation who) task
    → Contains (round_tasks members window at situation) task
in_round members window at situation who task member runs has =
    in_flat_map (tasks_of window at situation) (range_with_len 0 members) who task (in_range members who member)
    (subst (λ b. Contains (if b then running_tasks window at situation who else []) task) (sym runs) has)

pub heard : (members : ℕ) (window : Window) (at : ℤ) (situation : Situation) (who number : ℕ) → who < members
    → situation.standing.runs who ≡ true → Contains (situation.mails who) number
    → Contains (round_tasks members window at situation) (Do who (Hear number))
heard members window at situation who number member runs waits =
    let tick = Do who (Tick (clock_reading window at (situation.skews who))) in
    in_round members window at situation who (Do who (Hear number)) member runs
    (Contains-append_right (answer_tasks who (situation.standing.waits who)) (hear_tasks who (situation.mails who) ++ tick ∷ []) (Do who (Hear number))
    (Contains-append_left (hear_tasks who (situation.mails who)) (tick ∷ []) (Do who (Hear number)) (Contains-map (λ n. Do who (Hear n)) (situation.mails who) number waits)))

pub ticks : (members : ℕ) (window : Window) (at : ℤ) (situation : Situation) (who : ℕ) → who < members
    → situation.standing.runs who ≡ true
    → Contains (round_tasks members window at situation) (Do who (Tick (clock_reading window at (situation.skews who))))
ticks members window at situation who member runs =
    let tick = Do who (Tick (clock_reading window at (situation.skews who))) in
    in_round members window at situation who tick member runs
    (Contains-append_right (answer_tasks who (situation.standing.waits who)) (hear_tasks who (situation.mails who) ++ tick ∷ []) tick
    (Contains-append_right (hear_tasks who (situation.mails who)) (tick ∷ []) tick (Contains-head tick [])))

takes_it : (who : ℕ) (waits : Option SchedRow) → IsSome waits → Contains (answer_tasks who waits) (Do who Answer)
takes_it who None some = absurd cc
takes_it who (Some row) some = Contains-head (Do who Answer) []

pub answers : (members : ℕ) (window : Window) (at : ℤ) (situation : Situation) (who : ℕ) → who < members
    → situation.standing.runs who ≡ true → IsSome (situation.standing.waits who)
    → Contains (round_tasks members window at situation) (Do who Answer)
answers members window at situation who member runs waits =
    let tick = Do who (Tick (clock_reading window at (situation.skews who))) in
    in_round members window at situation who (Do who Answer) member runs
    (Contains-append_left (answer_tasks who (situation.standing.waits who)) (hear_tasks who (situation.mails who) ++ tick ∷ []) (Do who Answer)
    (takes_it who (situation.standing.waits who) waits))

-- each task of a round is a step of some replica
pub is_step : (members : ℕ) (window : Window) (at : ℤ) (situation : Situation) (task : Task) → Contains (round_tasks members window at situation) task
    → (who : ℕ) × (cause : Cause) × (task ≡ Do who cause)
is_step members window at situation task has =
    let one = of_round members window at situation task has in
    elim one.task_of.why [
      | inl takes ↦ (one.by, Answer, takes.is)
      | inr others ↦ elim others [
        | inl hears ↦ (one.by, Hear hears.number, hears.is)
        | inr is ↦ (one.by, Tick (clock_reading window at (situation.skews one.by)), is)
      ]
    ]

pub clock_inside : (window : Window) (at skew : ℤ) → window.from.0 <ℤ window.until.0 → IsInWindow window (clock_reading window at skew).0
clock_inside window at skew ordered = record { since = omega (arith, ints, clamps); before = omega (arith, ints, clamps) }
