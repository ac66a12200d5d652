-- Each due instant of a job up to its row's cursor, and up to the adoption of the version in force, was started, and has ended where
-- the row isn't open at it.
use Rattle.std.proofs.Common.{◌≡◌, ℕ, suc, ◌+◌, ◌<◌, inl, inr, ◌⊎◌, false, true, List, [], ◌∷◌, ◌++◌, length, get_or, Option, None, Some, ℤ, ◌≤ℤ◌, ◌<ℤ◌, refl, sym, ap, ◌∙◌, subst, arith}
use Rattle.std.specs.Prelude.{Contains, int_lt, slice_get}
use Rattle.std.proofs.lemmas.Bool.{cases_Bool, cases_eq}
use Rattle.std.proofs.lemmas.Int.{ints, by_lt_z, int_max_is}
use Rattle.std.proofs.lemmas.List.{append-nil, append_assoc}
use Rattle.std.proofs.lemmas.List.Sums.{fold_push}
use Rattle.paxos_base.specs.Rows.{fresh_row, row_count}
use Rattle.paxos_base.specs.declared.entry.Entry.{Entry}
use Rattle.paxos_base.specs.declared.entry.Entry.TheVariants.{Noop, Start, End, Table as TableEntry}
use Rattle.paxos_base.specs.declared.entry.Kind.{Kind}
use Rattle.paxos_base.specs.declared.rows.JobRow.{JobRow}
use Rattle.due_set.specs.Table.{Table, IsAfter, IsJobDue, is_by_period}
use Rattle.due_set.proofs.ExistLemmas.{next_up_to}
use Rattle.due_set.proofs.Rising.{Contains-head, Contains-tail}
use Rattle.launch_machine.specs.Clerk.{Applies, AppliesAll, IsBy, IsClerkOf, MayStart, TakesStart, TakesEnd, TakesTable, adopted_row, closed_row, first_rows, in_force, later_of, opened_row, table_size, with_row}
use Rattle.launch_machine.specs.Starts.{AdoptionsFrom, AdoptionsOf, AdoptsAt}
use Rattle.launch_machine.specs.Versions.{IsDueUnder, version_at}
use Rattle.launch_machine.specs.declared.force.InForce.{InForce}
use Rattle.launch_machine.proofs.ClerkLemmas.{Applies-same, IsClerkOf-push}
use Rattle.launch_machine.proofs.MachineLemmas.{closed_cursor, due_or_opens, first_in_force, set_there}
use Rattle.launch_machine.proofs.StartLemmas.{changed, fresh_cursor}
use Rattle.launch_machine.proofs.VersionRows.{adopted_force, clerk_stands, ended_force, started_force}
use Rattle.launch_safety.specs.Fits.{HasStart, HasEnd}
use Rattle.launch_safety.proofs.EffectLemmas.{IsEffective-more, IsEffective-last}
use Rattle.launch_safety.proofs.OpenLemmas.{closed_is, start_before}

-- the launch was started and has ended
pub record IsOver (table : Table) (log : List Entry) (job : ℕ) (at : ℤ) : Type 0 where
  pub start : HasStart table log job at
  pub kind : Kind
  pub ended : HasEnd table log job at kind

-- The version in force counts for each instant after its adoption. Each due instant up to that is over, and each before the cursor; so is
-- the cursor of a row that is closed.
pub record IsCovered (table : Table) (log : List Entry) (adoptions : List ℤ) (force : InForce) (job : ℕ) (cursor open_now : Option ℤ) : Type 0 where
  pub counted : (t : ℤ) → IsAfter force.since t → version_at adoptions t ≡ force.version
  pub since : (adopted t : ℤ) → force.since ≡ Some adopted → IsDueUnder table adoptions job t → t ≤ℤ adopted → IsOver table log job t
  pub below : (last t : ℤ) → cursor ≡ Some last → IsDueUnder table adoptions job t → t <ℤ last → IsOver table log job t
  pub closed : (last : ℤ) → open_now ≡ None → cursor ≡ Some last → IsOver table log job last

-- the job's row, where there is one, is covered
abbrev pub HasCover : Table → List Entry → List ℤ → List JobRow → ℕ → Type 0
HasCover table log adoptions rows job =
    (row : JobRow) → slice_get rows job ≡ Some row → IsCovered table log adoptions (in_force table rows) job row.cursor row.open_now

-- where a version is adopted, the job's name has no `/`
abbrev pub IsPlainlyNamed : Table → ℕ → List ℤ → Type 0
IsPlainlyNamed table job adoptions = (now : ℤ) → Contains adoptions now → is_by_period table job ≡ false

pub HasStart-more : (table : Table) (log more : List Entry) (job : ℕ) (at : ℤ) → HasStart table log job at → HasStart table (log ++ more) job at
HasStart-more table log more job at (now, known) = (now, IsEffective-more table log more (Start job at now) known)

IsOver-more : (table : Table) (log more : List Entry) (job : ℕ) (at : ℤ) → IsOver table log job at → IsOver table (log ++ more) job at
IsOver-more table log more job at known = record {
  start = HasStart-more table log more job at known.start;
  kind = known.kind;
  ended = IsEffective-more table log more (End job at known.kind) known.ended;
}

IsCovered-more : (table : Table) (log more : List Entry) (adoptions : List ℤ) (force : InForce) (job : ℕ) (cursor open_now : Option ℤ)
    → IsCovered table log adoptions force job cursor open_now → IsCovered table (log ++ more) adoptions force job cursor open_now
IsCovered-more table log more adoptions force job cursor open_now known = record {
  counted = known.counted;
  since = λ adopted t is due le. IsOver-more table log more job t (known.since adopted t is due le);
  below = λ last t is due lt. IsOver-more table log more job t (known.below last t is due lt);
  closed = λ last shut is. IsOver-more table log more job last (known.closed last shut is);
}

-- an entry that leaves the job's row and the version leaves its cover
cover_left : (table : Table) (log more : List Entry) (adoptions : List ℤ) (rows middle : List JobRow) (job : ℕ) → slice_get middle job ≡ slice_get rows job
    → in_force table middle ≡ in_force table rows → HasCover table log adoptions rows job → HasCover table (log ++ more) adoptions middle job
cover_left table log more adoptions rows middle job e force known row is_row =
    subst (λ (f : InForce). IsCovered table (log ++ more) adoptions f job row.cursor row.open_now) (sym force)
    (IsCovered-more table log more adoptions (in_force table rows) job row.cursor row.open_now (known row (sym e ∙ is_row)))

-- ---- what is next

-- an instant is after another, where there is one, or there is one that it isn't after
after_or_by : (instant : Option ℤ) (t : ℤ) → IsAfter instant t ⊎ ((other : ℤ) × (instant ≡ Some other) × (t ≤ℤ other))
after_or_by None t = inl tt
after_or_by (Some other) t = by_lt_z other t (λ lt. inl lt) (λ le. inr (other, refl, le))

-- what is after two instants is after the later of them
after_both : (instant other : Option ℤ) (t : ℤ) → IsAfter instant t → IsAfter other t → IsAfter (later_of instant other) t
after_both None None t a b = tt
after_both (Some instant) None t a b = a
after_both None (Some other) t a b = b
after_both (Some instant) (Some other) t a b = let is = int_max_is instant other in omega (arith, ints, is, a, b)

-- the job is due then by the version in force, and wasn't started
pub record IsToCome (table : Table) (force : InForce) (job : ℕ) (cursor : Option ℤ) (t : ℤ) : Type 0 where
  pub due : IsJobDue table force.version job t
  pub after : IsAfter (later_of cursor force.since) t

-- a due instant is over, or is by the version in force
pub over_or_due : (table : Table) (log : List Entry) (adoptions : List ℤ) (force : InForce) (job : ℕ) (cursor open_now : Option ℤ)
    → IsCovered table log adoptions force job cursor open_now → (t : ℤ) → IsDueUnder table adoptions job t
    → IsOver table log job t ⊎ (IsJobDue table force.version job t × IsAfter force.since t)
over_or_due table log adoptions force job cursor open_now known t due = elim (after_or_by force.since t) [
  | inr (adopted, is, le) ↦ inl (known.since adopted t is due le)
  | inl after ↦ inr (subst (λ (v : ℕ). IsJobDue table v job t) (known.counted t after) due, after)
]

-- and where the row is closed, one that isn't over is to come
pub over_or_next : (table : Table) (log : List Entry) (adoptions : List ℤ) (force : InForce) (job : ℕ) (cursor open_now : Option ℤ) → open_now ≡ None
    → IsCovered table log adoptions force job cursor open_now → (t : ℤ) → IsDueUnder table adoptions job t
    → IsOver table log job t ⊎ IsToCome table force job cursor t
over_or_next table log adoptions force job cursor open_now shut known t due = elim (over_or_due table log adoptions force job cursor open_now known t due) [
  | inl over ↦ inl over
  | inr (is_due, after) ↦ elim (after_or_by cursor t) [
    | inl later ↦ inr (record { due = is_due; after = after_both cursor force.since t later after })
    | inr (last, is, le) ↦ inl (by_lt_z t last
        (λ lt. known.below last t is due lt)
        (λ ge. let same : last ≡ t = omega (arith, ints, le, ge) in subst (IsOver table log job) same (known.closed last shut is)))
  ]
]

-- ---- a start

-- no due instant is between an idle row's cursor and the one that may be started
over_before : (table : Table) (log : List Entry) (adoptions : List ℤ) (force : InForce) (job : ℕ) (row : JobRow) (at now : ℤ) → row.open_now ≡ None
    → MayStart table force job row at now → IsCovered table log adoptions force job row.cursor row.open_now
    → (t : ℤ) → IsDueUnder table adoptions job t → t <ℤ at → IsOver table log job t
over_before table log adoptions force job row at now idle may known t due lt = elim (over_or_next table log adoptions force job row.cursor row.open_now idle known t due) [
  | inl over ↦ over
  | inr to_come ↦ absurd (not_between may to_come)
]
  where
    not_between : MayStart table force job row at now → IsToCome table force job row.cursor t → ⊥
    not_between (inl (next, come)) to_come = let le : at ≤ℤ t = next.least t to_come.due to_come.after in omega (arith, ints, le, lt)
    not_between (inr opens) to_come = due_or_opens table force.version job row.last row.cursor t now at to_come.due opens

cover_start : (table : Table) (log : List Entry) (adoptions : List ℤ) (rows middle : List JobRow) (job : ℕ) (at now : ℤ) → TakesStart table rows job at now
    → middle ≡ with_row (opened_row at now) rows job → HasCover table log adoptions rows job → HasCover table (log ++ Start job at now ∷ []) adoptions middle job
cover_start table log adoptions rows middle job at now takes e known row is_row =
    let opened : opened_row at now takes.row ≡ row = changed (opened_row at now) rows job takes.row row takes.is_row (ap (λ (m : List JobRow). slice_get m job) (sym e) ∙ is_row) in
    let force : in_force table middle ≡ in_force table rows = started_force table rows middle job at now takes e in
    subst (λ (f : InForce). IsCovered table longer adoptions f job row.cursor row.open_now) (sym force)
    (subst (λ (r : JobRow). IsCovered table longer adoptions (in_force table rows) job r.cursor r.open_now) opened here)
  where
    longer : List Entry
    longer = log ++ Start job at now ∷ []

    old : IsCovered table log adoptions (in_force table rows) job takes.row.cursor takes.row.open_now
    old = known takes.row takes.is_row

    before : (last t : ℤ) → Some at ≡ Some last → IsDueUnder table adoptions job t → t <ℤ last → IsOver table longer job t
    before last t is due lt =
        let same : at ≡ last = cc in
        IsOver-more table log (Start job at now ∷ []) job t
        (over_before table log adoptions (in_force table rows) job takes.row at now takes.idle takes.may old t due (omega (arith, ints, same, lt)))

    here : IsCovered table longer adoptions (in_force table rows) job (Some at) (Some now)
    here = record {
      counted = old.counted;
      since = λ adopted t is due le. IsOver-more table log (Start job at now ∷ []) job t (old.since adopted t is due le);
      below = before;
      closed = λ last shut is. absurd cc;
    }

-- ---- an end

cover_end : (table : Table) (log : List Entry) (adoptions : List ℤ) (rows middle : List JobRow) (job : ℕ) (at : ℤ) (kind : Kind) → IsClerkOf table log rows → TakesEnd rows job at
    → middle ≡ with_row (closed_row at kind) rows job → HasCover table log adoptions rows job → HasCover table (log ++ End job at kind ∷ []) adoptions middle job
cover_end table log adoptions rows middle job at kind clerk takes e known row is_row =
    let closed : closed_row at kind takes.row ≡ row = changed (closed_row at kind) rows job takes.row row takes.is_row (ap (λ (m : List JobRow). slice_get m job) (sym e) ∙ is_row) in
    let force : in_force table middle ≡ in_force table rows = ended_force table rows middle job at kind (clerk_stands table log rows clerk) takes e in
    let cursor_is : Some at ≡ row.cursor = sym takes.cursor ∙ sym (closed_cursor at kind takes.row) ∙ ap (λ (r : JobRow). r.cursor) closed in
    let shut : None ≡ row.open_now = sym (closed_is at kind takes.row) ∙ ap (λ (r : JobRow). r.open_now) closed in
    subst (λ (f : InForce). IsCovered table longer adoptions f job row.cursor row.open_now) (sym force)
    (subst (λ (c : Option ℤ). IsCovered table longer adoptions (in_force table rows) job c row.open_now) cursor_is
    (subst (IsCovered table longer adoptions (in_force table rows) job (Some at)) shut here))
  where
    longer : List Entry
    longer = log ++ End job at kind ∷ []

    old : IsCovered table log adoptions (in_force table rows) job takes.row.cursor takes.row.open_now
    old = known takes.row takes.is_row

    over : IsOver table longer job at
    over = record {
      start = HasStart-more table log (End job at kind ∷ []) job at (start_before table log rows job at clerk takes);
      kind = kind;
      ended = IsEffective-last table log (End job at kind) rows clerk takes;
    }

    here : IsCovered table longer adoptions (in_force table rows) job (Some at) None
    here = record {
      counted = old.counted;
      since = λ adopted t is due le. IsOver-more table log (End job at kind ∷ []) job t (old.since adopted t is due le);
      below = λ last t is due lt. IsOver-more table log (End job at kind ∷ []) job t (old.below last t (takes.cursor ∙ is) due lt);
      closed = λ last none is. let same : at ≡ last = cc in subst (IsOver table longer job) same over;
    }

-- ---- an adoption

lt_true : (a b : ℤ) → a <ℤ b → int_lt a b ≡ true
lt_true a b lt = elim (cases_Bool (int_lt a b)) [ inl is ↦ is | inr not ↦ absurd (omega (arith, ints, lt, not)) ]

lt_false : (a b : ℤ) → b ≤ℤ a → int_lt a b ≡ false
lt_false a b le = elim (cases_Bool (int_lt a b)) [ inl is ↦ absurd (omega (arith, ints, le, is)) | inr not ↦ not ]

-- one more adoption counts for the instants after it
version_later : (adoptions : List ℤ) (now t : ℤ) → now <ℤ t → version_at (adoptions ++ now ∷ []) t ≡ suc (version_at adoptions t)
version_later adoptions now t lt = fold_push _ 0 adoptions now ∙ rw (lt_true now t lt) (omega arith)

version_sooner : (adoptions : List ℤ) (now t : ℤ) → t ≤ℤ now → version_at (adoptions ++ now ∷ []) t ≡ version_at adoptions t
version_sooner adoptions now t le = fold_push _ 0 adoptions now ∙ rw (lt_false now t le) (omega arith)

-- what comes after a later instant comes after an earlier one
by_after : (since : Option ℤ) (now t : ℤ) → IsBy now since → now <ℤ t → IsAfter since t
by_after None now t by lt = tt
by_after (Some instant) now t by lt = omega (arith, ints, by, lt)

cover_table : (table : Table) (log : List Entry) (adoptions : List ℤ) (rows middle : List JobRow) (version : ℕ) (now : ℤ) (job : ℕ) → IsClerkOf table log rows
    → TakesTable table rows version now → middle ≡ with_row (adopted_row version now) rows (length table.jobs) → job < length table.jobs → is_by_period table job ≡ false
    → HasCover table log adoptions rows job → HasCover table (log ++ TableEntry version now ∷ []) (adoptions ++ now ∷ []) middle job
cover_table table log adoptions rows middle version now job clerk takes e known_job plain known row is_row =
    let force : in_force table middle ≡ record { version = version; since = Some now } = adopted_force table rows middle version now (clerk_stands table log rows clerk) e in
    subst (λ (f : InForce). IsCovered table longer later f job row.cursor row.open_now) (sym force) here
  where
    own : ℕ
    own = length table.jobs

    longer : List Entry
    longer = log ++ TableEntry version now ∷ []

    later : List ℤ
    later = adoptions ++ now ∷ []

    there : slice_get rows job ≡ Some row
    there =
        sym (set_there rows own job (adopted_row version now (get_or rows own (fresh_row own))) (λ same. omega (arith, same, known_job)))
        ∙ ap (λ (m : List JobRow). slice_get m job) (sym e) ∙ is_row

    shut : row.open_now ≡ None
    shut = (takes.ended job row there).closed

    old : IsCovered table log adoptions (in_force table rows) job row.cursor row.open_now
    old = known row there

    passed : IsBy now row.cursor
    passed = (takes.ended job row there).passed known_job plain

    -- nothing is to come up to the adoption
    none_left : (t : ℤ) → t ≤ℤ now → IsToCome table (in_force table rows) job row.cursor t → ⊥
    none_left t le to_come =
        let next = next_up_to table (in_force table rows).version job (later_of row.cursor (in_force table rows).since) t to_come.due to_come.after in
        let first_le : next.0 ≤ℤ t = next.2 in
        takes.no_start job next.0 (record {
          known = known_job;
          row = row;
          is_row = there;
          idle = shut;
          may = inl (next.1, omega (arith, ints, first_le, le));
        })

    up_to : (t : ℤ) → IsDueUnder table later job t → t ≤ℤ now → IsOver table longer job t
    up_to t due le =
        let due_before : IsDueUnder table adoptions job t = subst (λ (v : ℕ). IsJobDue table v job t) (version_sooner adoptions now t le) due in
        elim (over_or_next table log adoptions (in_force table rows) job row.cursor row.open_now shut old t due_before) [
          | inl over ↦ IsOver-more table log (TableEntry version now ∷ []) job t over
          | inr to_come ↦ absurd (none_left t le to_come)
        ]

    before : (last t : ℤ) → row.cursor ≡ Some last → t <ℤ last → t ≤ℤ now
    before last t is lt = let by : last ≤ℤ now = subst (IsBy now) is passed in omega (arith, ints, by, lt)

    here : IsCovered table longer later (record { version = version; since = Some now }) job row.cursor row.open_now
    here = record {
      counted = λ t after. version_later adoptions now t after ∙ ap suc (old.counted t (by_after (in_force table rows).since now t takes.since after)) ∙ sym takes.next;
      since = λ adopted t is due le. let same : now ≡ adopted = cc in up_to t due (omega (arith, ints, same, le));
      below = λ last t is due lt. up_to t due (before last t is lt);
      closed = λ last none is. IsOver-more table log (TableEntry version now ∷ []) job last (old.closed last none is);
    }

-- ---- entries

-- one more entry that adopts no version keeps the cover
cover_next : (table : Table) (log : List Entry) (adoptions : List ℤ) (rows middle : List JobRow) (entry : Entry) (job : ℕ) → IsClerkOf table log rows
    → Applies table rows entry middle → ((now : ℤ) → AdoptsAt table rows entry now → ⊥) → HasCover table log adoptions rows job
    → HasCover table (log ++ entry ∷ []) adoptions middle job
cover_next table log adoptions rows middle entry job clerk (inr (not, e)) never known =
    cover_left table log (entry ∷ []) adoptions rows middle job (ap (λ (m : List JobRow). slice_get m job) e) (ap (in_force table) e) known
cover_next table log adoptions rows middle Noop job clerk (inl (takes, e)) never known = absurd takes
cover_next table log adoptions rows middle (TableEntry version now) job clerk (inl (takes, e)) never known =
    absurd (never now (record { version = version; is = refl; takes = takes }))
cover_next table log adoptions rows middle (Start j at now) job clerk (inl (takes, e)) never known =
    elim (cases_eq job j) [
      | inl same ↦ subst (λ (k : ℕ). HasCover table (log ++ Start k at now ∷ []) adoptions middle job) same (
          cover_start table log adoptions rows middle job at now (subst (λ (k : ℕ). TakesStart table rows k at now) (sym same) takes)
          (e ∙ ap (with_row (opened_row at now) rows) (sym same)) known
          )
      | inr ne ↦ cover_left table log (Start j at now ∷ []) adoptions rows middle job
          (ap (λ (m : List JobRow). slice_get m job) e ∙ set_there rows j job (opened_row at now (get_or rows j (fresh_row j))) ne)
          (started_force table rows middle j at now takes e) known
    ]
cover_next table log adoptions rows middle (End j at kind) job clerk (inl (takes, e)) never known =
    elim (cases_eq job j) [
      | inl same ↦ subst (λ (k : ℕ). HasCover table (log ++ End k at kind ∷ []) adoptions middle job) same (
          cover_end table log adoptions rows middle job at kind clerk (subst (λ (k : ℕ). TakesEnd rows k at) (sym same) takes)
          (e ∙ ap (with_row (closed_row at kind) rows) (sym same)) known
          )
      | inr ne ↦ cover_left table log (End j at kind ∷ []) adoptions rows middle job
          (ap (λ (m : List JobRow). slice_get m job) e ∙ set_there rows j job (closed_row at kind (get_or rows j (fresh_row j))) ne)
          (ended_force table rows middle j at kind (clerk_stands table log rows clerk) takes e) known
    ]

-- so does one that adopts a version
cover_adopted : (table : Table) (log : List Entry) (adoptions : List ℤ) (rows middle : List JobRow) (entry : Entry) (now : ℤ) (job : ℕ) → IsClerkOf table log rows
    → Applies table rows entry middle → AdoptsAt table rows entry now → job < length table.jobs → is_by_period table job ≡ false → HasCover table log adoptions rows job
    → HasCover table (log ++ entry ∷ []) (adoptions ++ now ∷ []) middle job
cover_adopted table log adoptions rows middle entry now job clerk applies adopts known_job plain known =
    subst (λ (x : Entry). HasCover table (log ++ x ∷ []) (adoptions ++ now ∷ []) middle job) (sym adopts.is)
    (by (subst (λ (x : Entry). Applies table rows x middle) adopts.is applies))
  where
    by : Applies table rows (TableEntry adopts.version now) middle → HasCover table (log ++ TableEntry adopts.version now ∷ []) (adoptions ++ now ∷ []) middle job
    by (inl (takes, e)) = cover_table table log adoptions rows middle adopts.version now job clerk takes e known_job plain known
    by (inr (not, e)) = absurd (not adopts.takes)

-- more entries keep the cover
cover_along : (table : Table) (log entries : List Entry) (adoptions later : List ℤ) (rows last : List JobRow) (job : ℕ) → IsClerkOf table log rows
    → AppliesAll table rows entries last → AdoptionsFrom table rows entries later → job < length table.jobs → IsPlainlyNamed table job later
    → HasCover table log adoptions rows job → HasCover table (log ++ entries) (adoptions ++ later) last job
cover_along table log [] adoptions later rows last job clerk e none known_job named known =
    rw (none, append-nil adoptions, append-nil log, e) known
cover_along table log (entry ∷ entries) adoptions later rows last job clerk (middle, step, rest) (other, behind, again, inr (never, e), more) known_job named known =
    let same : other ≡ middle = Applies-same table rows entry other middle again step in
    let longer : IsClerkOf table (log ++ entry ∷ []) middle = (IsClerkOf-push table log entry middle).1 (rows, clerk, step) in
    let goes_on = cover_along table (log ++ entry ∷ []) entries adoptions behind middle last job longer rest (subst (λ (m : List JobRow). AdoptionsFrom table m entries behind) same more) known_job
    (λ now h. named now (subst (λ (l : List ℤ). Contains l now) (sym e) h)) (cover_next table log adoptions rows middle entry job clerk step never known) in
    subst (λ (l : List Entry). HasCover table l (adoptions ++ later) last job) (append_assoc log (entry ∷ []) entries)
    (subst (λ (l : List ℤ). HasCover table ((log ++ entry ∷ []) ++ entries) (adoptions ++ l) last job) (sym e) goes_on)
cover_along table log (entry ∷ entries) adoptions later rows last job clerk (middle, step, rest) (other, behind, again, inl (now, adopts, e), more) known_job named known =
    let same : other ≡ middle = Applies-same table rows entry other middle again step in
    let longer : IsClerkOf table (log ++ entry ∷ []) middle = (IsClerkOf-push table log entry middle).1 (rows, clerk, step) in
    let is_named : IsPlainlyNamed table job (now ∷ behind) = subst (IsPlainlyNamed table job) e named in
    let goes_on = cover_along table (log ++ entry ∷ []) entries (adoptions ++ now ∷ []) behind middle last job longer rest
    (subst (λ (m : List JobRow). AdoptionsFrom table m entries behind) same more) known_job (λ t h. is_named t (Contains-tail now behind t h))
    (cover_adopted table log adoptions rows middle entry now job clerk step adopts known_job (is_named now (Contains-head now behind)) known) in
    let joined : (adoptions ++ now ∷ []) ++ behind ≡ adoptions ++ later = append_assoc adoptions (now ∷ []) behind ∙ ap (λ (l : List ℤ). adoptions ++ l) (sym e) in
    subst (λ (l : List Entry). HasCover table l (adoptions ++ later) last job) (append_assoc log (entry ∷ []) entries)
    (subst (λ (l : List ℤ). HasCover table ((log ++ entry ∷ []) ++ entries) l last job) joined goes_on)

-- the rows of a log are covered
pub clerk_covers : (table : Table) (log : List Entry) (adoptions : List ℤ) (rows : List JobRow) (job : ℕ) → IsClerkOf table log rows → AdoptionsOf table log adoptions
    → job < length table.jobs → IsPlainlyNamed table job adoptions → HasCover table log adoptions rows job
clerk_covers table log adoptions rows job clerk adopted known_job named =
    cover_along table [] log [] adoptions (first_rows table) rows job refl clerk adopted known_job named at_first
  where
    at_first : HasCover table [] [] (first_rows table) job
    at_first row is_row =
        let cursor : row.cursor ≡ None = fresh_cursor 0 (row_count (table_size table)) job row is_row in
        let force = first_in_force table in
        record {
          counted = λ t after. ap (λ (f : InForce). f.version) (sym force);
          since = λ other t is. absurd (cc (is, ap (λ (f : InForce). f.since) force));
          below = λ last t is. absurd (cc (is, cursor));
          closed = λ last shut is. absurd (cc (is, cursor));
        }
