-- The starts of a job along entries that adopt versions are the first of its due instants by the versions in force then.
use Rattle.std.proofs.Common.{◌≡◌, ℕ, zero, suc, ◌+◌, ◌<◌, inl, inr, Bool, true, false, cond, List, [], ◌∷◌, ◌++◌, length, get_or, Option, None, Some, ℤ, pos, ◌+ℤ◌, ◌-ℤ◌, ◌≤ℤ◌, ◌<ℤ◌, unsigned_abs, sym, ap, ◌∙◌, subst, arith, refl}
use Rattle.std.specs.Prelude.{Contains, int_lt, slice_get}
use Rattle.std.proofs.lemmas.Bool.{cases_Bool, cases_lt}
use Rattle.std.proofs.lemmas.Int.{ints, by_lt_z, int_max_is}
use Rattle.std.proofs.lemmas.List.Sums.{sum_by-cons}
use Rattle.std.proofs.lemmas.Option.{slice_get-get_or}
use Rattle.paxos_base.specs.Rows.{RowsStand, fresh_row, row_count}
use Rattle.paxos_base.specs.declared.entry.Entry.{Entry}
use Rattle.paxos_base.specs.declared.entry.Entry.TheVariants.{Noop, Start, End, Table as TableEntry}
use Rattle.paxos_base.specs.declared.rows.JobRow.{JobRow}
use Rattle.due_set.specs.Due.{IsRising}
use Rattle.due_set.specs.Table.{Table, IsAfter, IsAnacron, IsJobDue, IsNextDue, IsSound, is_by_period}
use Rattle.due_set.proofs.FrontLemmas.{rising_prefix}
use Rattle.due_set.proofs.Rising.{Contains-head, Contains-tail, Contains-cases, Contains-none}
use Rattle.launch_machine.specs.Clerk.{Applies, AppliesAll, IsBy, IsClerkOf, MayStart, TakesStart, TakesTable, first_rows, in_force, later_of, table_size}
use Rattle.launch_machine.specs.Starts.{AdoptionsFrom, AdoptionsOf, AdoptsAt, StartsFrom, StartsJob, StartsOf}
use Rattle.launch_machine.specs.Versions.{IsFrontUnder, IsListUnder, RunsByInstants, version_at}
use Rattle.launch_machine.specs.declared.force.InForce.{InForce}
use Rattle.launch_machine.proofs.ClerkLemmas.{Applies-same}
use Rattle.launch_machine.proofs.MachineLemmas.{first_in_force, fresh_stand, not_anacron}
use Rattle.launch_machine.proofs.StartLemmas.{HasCursor, after_later, after_later_of, after_other, after_start, before_each, fresh_cursor, no_starts}
use Rattle.launch_machine.proofs.VersionRows.{Applies-stands, adopted_force, ended_force, started_force}

-- ---- the version at an instant

abbrev one_if : Bool → ℕ
one_if b = cond b 1 0

lt_true : (a b : ℤ) → a <ℤ b → int_lt a b ≡ true
lt_true a b lt = elim (cases_Bool (int_lt a b)) [ inl is ↦ is | inr not ↦ absurd (omega (arith, ints, lt, not)) ]

lt_false : (a b : ℤ) → b ≤ℤ a → int_lt a b ≡ false
lt_false a b le = elim (cases_Bool (int_lt a b)) [ inl is ↦ absurd (omega (arith, ints, le, is)) | inr not ↦ not ]

-- adoptions that aren't before an instant don't count then
pub none_before : (adoptions : List ℤ) (t : ℤ) → ((now : ℤ) → Contains adoptions now → t ≤ℤ now) → version_at adoptions t ≡ 0
none_before [] t late = refl
none_before (first ∷ adoptions) t late =
    let rest = none_before adoptions t (λ now h. late now (Contains-tail first adoptions now h)) in
    let here : one_if (int_lt first t) ≡ 0 = rw (lt_false first t (late first (Contains-head first adoptions))) refl in
    omega (arith, sum_by-cons (λ now. one_if (int_lt now t)) first adoptions, here, rest)

-- one that is counts for one
one_before : (first : ℤ) (adoptions : List ℤ) (t : ℤ) → first <ℤ t → version_at (first ∷ adoptions) t ≡ suc (version_at adoptions t)
one_before first adoptions t lt =
    let here : one_if (int_lt first t) ≡ 1 = rw (lt_true first t lt) refl in
    omega (arith, sum_by-cons (λ now. one_if (int_lt now t)) first adoptions, here)

-- ---- what is to come

-- what is after two instants is after the later of them
after_both : (instant other : Option ℤ) (t : ℤ) → IsAfter instant t → IsAfter other t → IsAfter (later_of instant other) t
after_both None None t a b = tt
after_both (Some instant) None t a b = a
after_both None (Some other) t a b = b
after_both (Some instant) (Some other) t a b = let is = int_max_is instant other in omega (arith, ints, is, a, b)

-- later than both instants, where there are
abbrev IsLater : (cursor since : Option ℤ) → ℤ → Type 0
IsLater cursor since t = IsAfter cursor t × IsAfter since t

-- the job is due then, by the versions that are adopted from here on
abbrev IsDueFrom : Table → (version : ℕ) (adoptions : List ℤ) (job : ℕ) → ℤ → Type 0
IsDueFrom table version adoptions job t = IsJobDue table (version + version_at adoptions t) job t

-- the instants are the first due ones that are later than both, in order, and no adoption is sooner than these
record IsRestUnder (table : Table) (version job : ℕ) (cursor since : Option ℤ) (instants adoptions : List ℤ) : Type 0 where
  pub rising : IsRising instants
  pub later : (t : ℤ) → Contains instants t → IsLater cursor since t
  pub sound : (t : ℤ) → Contains instants t → IsDueFrom table version adoptions job t
  pub complete : (t last : ℤ) → Contains instants last → IsDueFrom table version adoptions job t → IsLater cursor since t → t ≤ℤ last → Contains instants t
  pub adopted : (now : ℤ) → Contains adoptions now → IsBy now cursor × IsBy now since

-- at first nothing is to come
rest_none : (table : Table) (version job : ℕ) (cursor since : Option ℤ) (instants adoptions : List ℤ) → instants ≡ [] → adoptions ≡ []
    → IsRestUnder table version job cursor since instants adoptions
rest_none table version job cursor since instants adoptions none_starts none_adopted = rw (none_starts, none_adopted) (record {
  rising = tt;
  later = λ t h. absurd (Contains-none t h);
  sound = λ t h. absurd (Contains-none t h);
  complete = λ t last h due after le. absurd (Contains-none last h);
  adopted = λ now h. absurd (Contains-none now h);
})

-- ---- a start

-- an instant that no adoption is sooner than has the version that is in force here
at_once : (table : Table) (version job : ℕ) (adoptions : List ℤ) (t : ℤ) → ((now : ℤ) → Contains adoptions now → t ≤ℤ now)
    → IsDueFrom table version adoptions job t → IsJobDue table version job t
at_once table version job adoptions t late due =
    let same : version + version_at adoptions t ≡ version = omega (arith, none_before adoptions t late) in
    subst (λ (v : ℕ). IsJobDue table v job t) same due

due_at_once : (table : Table) (version job : ℕ) (adoptions : List ℤ) (t : ℤ) → ((now : ℤ) → Contains adoptions now → t ≤ℤ now)
    → IsJobDue table version job t → IsDueFrom table version adoptions job t
due_at_once table version job adoptions t late due =
    let same : version ≡ version + version_at adoptions t = omega (arith, none_before adoptions t late) in
    subst (λ (v : ℕ). IsJobDue table v job t) same due

-- a start of the next due instant goes before those that follow
rest_start : (table : Table) (version job : ℕ) (cursor since : Option ℤ) (at : ℤ) (later adoptions : List ℤ)
    → IsNextDue table version job (later_of cursor since) at → IsRestUnder table version job (Some at) since later adoptions
    → IsRestUnder table version job cursor since (at ∷ later) adoptions
rest_start table version job cursor since at later adoptions next rest = record {
  rising = (before_each at later (λ t h. (rest.later t h).0), rest.rising);
  later = λ t h. elim (Contains-cases at later t h) [
    | inl e ↦ subst (IsLater cursor since) e after
    | inr behind ↦ (after_later cursor at t after.0 (rest.later t behind).0, (rest.later t behind).1)
  ];
  sound = λ t h. elim (Contains-cases at later t h) [
    | inl e ↦ subst (IsDueFrom table version adoptions job) e (due_at_once table version job adoptions at (λ now among. (rest.adopted now among).0) next.due)
    | inr behind ↦ rest.sound t behind
  ];
  complete = λ t last h due known le. by_lt_z at t
      (λ lt. elim (Contains-cases at later last h) [
        | inl e ↦ absurd (too_late t last lt e le)
        | inr behind ↦ Contains-tail at later t (rest.complete t last behind due (lt, known.1) le)
      ])
      (λ ge.
      let here = at_once table version job adoptions t (λ now among. not_sooner t now ge (rest.adopted now among).0) due in
      let least : at ≤ℤ t = next.least t here (both t known) in
      subst (Contains (at ∷ later)) (same t ge least) (Contains-head at later));
  adopted = λ now among. (not_before now (rest.adopted now among).0 cursor after.0, (rest.adopted now among).1);
}
  where
    after : IsLater cursor since at
    after = after_later_of cursor since at next.later

    both : (t : ℤ) → IsLater cursor since t → IsAfter (later_of cursor since) t
    both t known = after_both cursor since t known.0 known.1

    too_late : (t last : ℤ) → at <ℤ t → at ≡ last → t ≤ℤ last → ⊥
    too_late t last lt e le = omega (arith, ints)

    same : (t : ℤ) → t ≤ℤ at → at ≤ℤ t → at ≡ t
    same t le ge = omega (arith, ints)

    not_sooner : (t now : ℤ) → t ≤ℤ at → at ≤ℤ now → t ≤ℤ now
    not_sooner t now le by = omega (arith, ints)

    not_before : (now : ℤ) → at ≤ℤ now → (instant : Option ℤ) → IsAfter instant at → IsBy now instant
    not_before now by None before = tt
    not_before now by (Some instant) before = omega (arith, ints, by, before)

-- ---- an adoption

-- where no start would take effect, nothing is due up to then that isn't before the last launch or the version in force
nothing_due : (table : Table) (rows : List JobRow) (job : ℕ) (row : JobRow) (now : ℤ) → job < length table.jobs → slice_get rows job ≡ Some row → row.open_now ≡ None
    → ((at : ℤ) → TakesStart table rows job at now → ⊥) → (t : ℤ) → IsJobDue table (in_force table rows).version job t
    → IsAfter (later_of row.cursor (in_force table rows).since) t → t ≤ℤ now → ⊥
nothing_due table rows job row now known is_row idle none t due after come = below (suc (unsigned_abs (t -ℤ table.window.from.0))) t due after come (within t due.inside.since)
  where
    force : InForce
    force = in_force table rows

    within : (s : ℤ) → table.window.from.0 ≤ℤ s → s <ℤ (table.window.from.0 +ℤ pos (suc (unsigned_abs (s -ℤ table.window.from.0))))
    within s since = omega (arith, ints, since)

    -- by how far it is from the window's first instant
    below : (count : ℕ) (s : ℤ) → IsJobDue table force.version job s → IsAfter (later_of row.cursor force.since) s → s ≤ℤ now
        → s <ℤ (table.window.from.0 +ℤ pos count) → ⊥
    below zero s is_due is_after has_come near = let since : table.window.from.0 ≤ℤ s = is_due.inside.since in omega (arith, ints)
    below (suc count) s is_due is_after has_come near = none s (record {
      known = known;
      row = row;
      is_row = is_row;
      idle = idle;
      may = inl (
        record {
          due = is_due;
          later = is_after;
          least = λ other other_due other_after. by_lt_z other s
              (λ lt. absurd (below count other other_due other_after (omega (arith, ints, has_come)) (omega (arith, ints, lt, near))))
              (λ ge. ge);
        },
        has_come,
      );
    })

-- an adoption of the next version
rest_table : (table : Table) (rows : List JobRow) (version job : ℕ) (cursor since : Option ℤ) (row : JobRow) (now : ℤ) (later adoptions : List ℤ)
    → RunsByInstants table job → (in_force table rows).version ≡ version → (in_force table rows).since ≡ since → row.cursor ≡ cursor
    → job < length table.jobs → slice_get rows job ≡ Some row → TakesTable table rows (suc version) now
    → IsRestUnder table (suc version) job cursor (Some now) later adoptions → IsRestUnder table version job cursor since later (now ∷ adoptions)
rest_table table rows version job cursor since row now later adoptions plain version_is since_is cursor_is below is_row takes rest = record {
  rising = rest.rising;
  later = λ t h. ((rest.later t h).0, sooner t (rest.later t h).1 since since_by);
  sound = λ t h. subst (λ (v : ℕ). IsJobDue table v job t) (next_version t (rest.later t h).1) (rest.sound t h);
  complete = λ t last h due after le. by_lt_z now t
      (λ lt. rest.complete t last h (subst (λ (v : ℕ). IsJobDue table v job t) (sym (next_version t lt)) due) (after.0, lt) le)
      (λ ge. absurd (nothing_due table rows job row now below is_row (takes.ended job row is_row).closed (takes.no_start job) t
      (subst (λ (v : ℕ). IsJobDue table v job t) (sym version_is) (at_once table version job (now ∷ adoptions) t (none_sooner t ge) due))
      (subst (λ (c : Option ℤ). IsAfter (later_of c (in_force table rows).since) t) (sym cursor_is)
      (subst (λ (s : Option ℤ). IsAfter (later_of cursor s) t) (sym since_is) (after_both cursor since t after.0 after.1))) ge));
  adopted = λ other among. elim (Contains-cases now adoptions other among) [
    | inl e ↦ subst (λ (n : ℤ). IsBy n cursor × IsBy n since) e (cursor_by, since_by)
    | inr behind ↦ ((rest.adopted other behind).0, no_later other (rest.adopted other behind).1 since since_by)
  ];
}
  where
    since_by : IsBy now since
    since_by = subst (IsBy now) since_is takes.since

    cursor_by : IsBy now cursor
    cursor_by = subst (IsBy now) cursor_is ((takes.ended job row is_row).passed below plain.by_name)

    sooner : (t : ℤ) → now <ℤ t → (instant : Option ℤ) → IsBy now instant → IsAfter instant t
    sooner t lt None by = tt
    sooner t lt (Some instant) by = omega (arith, ints, lt, by)

    no_later : (other : ℤ) → now ≤ℤ other → (instant : Option ℤ) → IsBy now instant → IsBy other instant
    no_later other le None by = tt
    no_later other le (Some instant) by = omega (arith, ints, le, by)

    next_version : (t : ℤ) → now <ℤ t → suc version + version_at adoptions t ≡ version + version_at (now ∷ adoptions) t
    next_version t lt = omega (arith, one_before now adoptions t lt)

    none_sooner : (t : ℤ) → t ≤ℤ now → (other : ℤ) → Contains (now ∷ adoptions) other → t ≤ℤ other
    none_sooner t ge other among = elim (Contains-cases now adoptions other among) [
      | inl e ↦ subst (λ (n : ℤ). t ≤ℤ n) e ge
      | inr behind ↦ let le : now ≤ℤ other = (rest.adopted other behind).1 in omega (arith, ints, le, ge)
    ]

-- ---- along the entries

abbrev force_at : ℕ → ℤ → InForce
force_at version now = record { version = version; since = Some now }

-- what the rows say of the job
record Says (table : Table) (rows : List JobRow) (job version : ℕ) (cursor since : Option ℤ) : Type 0 where
  pub stand : RowsStand rows (table_size table)
  pub version_is : (in_force table rows).version ≡ version
  pub since_is : (in_force table rows).since ≡ since
  pub cursor_is : HasCursor rows job cursor

-- an entry that adopts no version leaves what is in force
same_force : (table : Table) (rows : List JobRow) (entry : Entry) (middle : List JobRow) → RowsStand rows (table_size table)
    → ((now : ℤ) → AdoptsAt table rows entry now → ⊥) → Applies table rows entry middle → in_force table middle ≡ in_force table rows
same_force table rows entry middle stand none (inr (not, is)) = ap (in_force table) is
same_force table rows Noop middle stand none (inl (takes, is)) = absurd takes
same_force table rows (Start job at now) middle stand none (inl (takes, is)) = started_force table rows middle job at now takes is
same_force table rows (End job at kind) middle stand none (inl (takes, is)) = ended_force table rows middle job at kind stand takes is
same_force table rows (TableEntry version now) middle stand none (inl (takes, is)) =
    absurd (none now (record { version = version; is = refl; takes = takes }))

-- an entry that starts a launch adopts no version
starts_no_table : (table : Table) (rows : List JobRow) (entry : Entry) (job : ℕ) (at now : ℤ) → StartsJob table rows entry job at → AdoptsAt table rows entry now → ⊥
starts_no_table table rows entry job at now starts adopts = cc (starts.is, adopts.is)

rest_from : (table : Table) (rows : List JobRow) (entries : List Entry) (job version : ℕ) (cursor since : Option ℤ) (instants adoptions : List ℤ)
    → RunsByInstants table job → job < length table.jobs → Says table rows job version cursor since → StartsFrom table rows entries job instants
    → AdoptionsFrom table rows entries adoptions → IsRestUnder table version job cursor since instants adoptions
rest_from table rows [] job version cursor since instants adoptions plain below says starts adopted =
    rest_none table version job cursor since instants adoptions starts adopted
rest_from table rows (entry ∷ entries) job version cursor since instants adoptions plain below says (middle, later, step, inl (at, starts, e), more) (other, behind, again, inl (now, adopts, f), rest) =
    absurd (starts_no_table table rows entry job at now starts adopts)
rest_from table rows (entry ∷ entries) job version cursor since instants adoptions plain below says (middle, later, step, inl (at, starts, e), more) (other, behind, again, inr (none, f), rest) =
    let same : other ≡ middle = Applies-same table rows entry other middle again step in
    let applies : Applies table rows (Start job at starts.now) middle = subst (λ (x : Entry). Applies table rows x middle) starts.is step in
    let force = same_force table rows entry middle says.stand none step in
    let next : Says table middle job version (Some at) since = record {
      stand = Applies-stands table rows entry middle says.stand step;
      version_is = ap (λ (g : InForce). g.version) force ∙ says.version_is;
      since_is = ap (λ (g : InForce). g.since) force ∙ says.since_is;
      cursor_is = after_start table rows job at starts.now middle starts.takes applies;
    } in
    let tail = rest_from table middle entries job version (Some at) since later behind plain below next more
    (subst (λ (m : List JobRow). AdoptionsFrom table m entries behind) same rest) in
    rw (e, f) (rest_start table version job cursor since at later behind (due_next starts.takes) tail)
  where
    due_next : (takes : TakesStart table rows job at starts.now) → IsNextDue table version job (later_of cursor since) at
    due_next takes = by takes.may
      where
        by : MayStart table (in_force table rows) job takes.row at starts.now → IsNextDue table version job (later_of cursor since) at
        by (inl (next, come)) =
            subst (λ (v : ℕ). IsNextDue table v job (later_of cursor since) at) says.version_is
            (subst (λ (s : Option ℤ). IsNextDue table (in_force table rows).version job (later_of cursor s) at) says.since_is
            (subst (λ (c : Option ℤ). IsNextDue table (in_force table rows).version job (later_of c (in_force table rows).since) at) (says.cursor_is takes.row takes.is_row) next))
        by (inr opens) = absurd (plain.by_kind (in_force table rows).version opens.job opens.is_in.is_job (subst IsAnacron (sym opens.kind) tt))
rest_from table rows (entry ∷ entries) job version cursor since instants adoptions plain below says (middle, later, step, inr (never, e), more) (other, behind, again, inr (none, f), rest) =
    let same : other ≡ middle = Applies-same table rows entry other middle again step in
    let force = same_force table rows entry middle says.stand none step in
    let next : Says table middle job version cursor since = record {
      stand = Applies-stands table rows entry middle says.stand step;
      version_is = ap (λ (g : InForce). g.version) force ∙ says.version_is;
      since_is = ap (λ (g : InForce). g.since) force ∙ says.since_is;
      cursor_is = after_other table rows entry middle job cursor below never step says.cursor_is;
    } in
    rw (e, f) (rest_from table middle entries job version cursor since later behind plain below next more
    (subst (λ (m : List JobRow). AdoptionsFrom table m entries behind) same rest))
rest_from table rows (entry ∷ entries) job version cursor since instants adoptions plain below says (middle, later, step, inr (never, e), more) (other, behind, again, inl (now, adopts, f), rest) =
    let same : other ≡ middle = Applies-same table rows entry other middle again step in
    let number : adopts.version ≡ suc version = adopts.takes.next ∙ ap suc says.version_is in
    let takes : TakesTable table rows (suc version) now = subst (λ (v : ℕ). TakesTable table rows v now) number adopts.takes in
    let applies : Applies table rows (TableEntry adopts.version now) middle = subst (λ (x : Entry). Applies table rows x middle) adopts.is step in
    let force : in_force table middle ≡ record { version = suc version; since = Some now } = adopted_to applies ∙ ap (λ (v : ℕ). force_at v now) number in
    let next : Says table middle job (suc version) cursor (Some now) = record {
      stand = Applies-stands table rows entry middle says.stand step;
      version_is = ap (λ (g : InForce). g.version) force;
      since_is = ap (λ (g : InForce). g.since) force;
      cursor_is = after_other table rows entry middle job cursor below never step says.cursor_is;
    } in
    let row : JobRow = get_or rows job (fresh_row job) in
    let is_row : slice_get rows job ≡ Some row = slice_get-get_or rows job (fresh_row job) (omega (arith, below, says.stand.numbered.count)) in
    let tail = rest_from table middle entries job (suc version) cursor (Some now) later behind plain below next more
    (subst (λ (m : List JobRow). AdoptionsFrom table m entries behind) same rest) in
    rw (e, f) (rest_table table rows version job cursor since row now later behind plain says.version_is says.since_is (says.cursor_is row is_row) below is_row takes tail)
  where
    adopted_to : Applies table rows (TableEntry adopts.version now) middle → in_force table middle ≡ force_at adopts.version now
    adopted_to (inl (took, is)) = adopted_force table rows middle adopts.version now says.stand is
    adopted_to (inr (not, is)) = absurd (not adopts.takes)

-- a job that isn't in the table has no starts, and none is left out before none
no_front : (table : Table) (adoptions : List ℤ) (job : ℕ) → IsFrontUnder table adoptions job []
no_front table adoptions job = record {
  rising = tt;
  sound = λ t h. absurd (Contains-none t h);
  complete = λ t last h due le. absurd (Contains-none last h);
}

pub starts_under : (table : Table) (entries : List Entry) (job : ℕ) (instants adoptions : List ℤ) → RunsByInstants table job → StartsOf table entries job instants
    → AdoptionsOf table entries adoptions → IsFrontUnder table adoptions job instants
starts_under table entries job instants adoptions plain starts adopted = elim (cases_lt job (length table.jobs)) [
  | inr past ↦ subst (IsFrontUnder table adoptions job) (sym (no_starts table (first_rows table) entries job instants past starts)) (no_front table adoptions job)
  | inl below ↦
      let force = first_in_force table in
      let says : Says table (first_rows table) job 0 None None = record {
        stand = fresh_stand (first_rows table) (table_size table) refl;
        version_is = ap (λ (g : InForce). g.version) force;
        since_is = ap (λ (g : InForce). g.since) force;
        cursor_is = fresh_cursor 0 (row_count (table_size table)) job;
      } in
      let rest = rest_from table (first_rows table) entries job 0 None None instants adoptions plain below says starts adopted in
      record {
        rising = rest.rising;
        sound = λ t h. subst (λ (v : ℕ). IsJobDue table v job t) (at_first t) (rest.sound t h);
        complete = λ t last h due le. rest.complete t last h (subst (λ (v : ℕ). IsJobDue table v job t) (sym (at_first t)) due) (tt, tt) le;
      }
]
  where
    at_first : (t : ℤ) → 0 + version_at adoptions t ≡ version_at adoptions t
    at_first t = omega arith

-- and so a beginning of the list of all of them
pub starts_prefix : (table : Table) (entries : List Entry) (job : ℕ) (instants adoptions dues : List ℤ) → RunsByInstants table job → StartsOf table entries job instants
    → AdoptionsOf table entries adoptions → IsListUnder table adoptions job dues → (rest : List ℤ) × (dues ≡ instants ++ rest)
starts_prefix table entries job instants adoptions dues plain starts adopted list =
    let front = starts_under table entries job instants adoptions plain starts adopted in
    rising_prefix instants dues front.rising list.rising (λ t h. list.complete t (front.sound t h))
    (λ t last h in_dues le. front.complete t last h (list.sound t in_dues) le)

-- ---- the version that is in force after the entries

versions_counted : (table : Table) (rows : List JobRow) (entries : List Entry) (last : List JobRow) (version : ℕ) (adoptions : List ℤ) → RowsStand rows (table_size table)
    → (in_force table rows).version ≡ version → AppliesAll table rows entries last → AdoptionsFrom table rows entries adoptions
    → (in_force table last).version ≡ version + length adoptions
versions_counted table rows [] last version adoptions stand is all none = rw (all, none) (omega (arith, is))
versions_counted table rows (entry ∷ entries) last version adoptions stand is (middle, step, more) (other, behind, again, adds, rest) =
    let same : other ≡ middle = Applies-same table rows entry other middle again step in
    let tail = subst (λ (m : List JobRow). AdoptionsFrom table m entries behind) same rest in
    let stands = Applies-stands table rows entry middle stand step in
    elim adds [
      | inl (now, adopts, e) ↦
          let applies : Applies table rows (TableEntry adopts.version now) middle = subst (λ (x : Entry). Applies table rows x middle) adopts.is step in
          let number : (in_force table middle).version ≡ suc version =
          adopted_version now adopts.version applies adopts.takes ∙ adopts.takes.next ∙ ap suc is in
          let count = versions_counted table middle entries last (suc version) behind stands number more tail in
          omega (arith, count, ap length e)
      | inr (none, e) ↦
          let force = same_force table rows entry middle stand none step in
          let count = versions_counted table middle entries last version behind stands (ap (λ (g : InForce). g.version) force ∙ is) more tail in
          omega (arith, count, ap length e)
    ]
  where
    adopted_version : (now : ℤ) (v : ℕ) → Applies table rows (TableEntry v now) middle → TakesTable table rows v now → (in_force table middle).version ≡ v
    adopted_version now v (inl (took, e)) takes = ap (λ (g : InForce). g.version) (adopted_force table rows middle v now stand e)
    adopted_version now v (inr (not, e)) takes = absurd (not takes)

pub version_is_count : (table : Table) (entries : List Entry) (rows : List JobRow) (adoptions : List ℤ) → IsClerkOf table entries rows → AdoptionsOf table entries adoptions
    → (in_force table rows).version ≡ length adoptions
version_is_count table entries rows adoptions clerk adopted =
    let first : (in_force table (first_rows table)).version ≡ 0 = ap (λ (g : InForce). g.version) (first_in_force table) in
    let count = versions_counted table (first_rows table) entries rows 0 adoptions (fresh_stand (first_rows table) (table_size table) refl) first clerk adopted in
    omega (arith, count)

-- ---- a name says it

pub runs_by_instants : (table : Table) (job : ℕ) → IsSound table → is_by_period table job ≡ false → RunsByInstants table job
runs_by_instants table job sound plain = record { by_name = plain; by_kind = λ version spec is_job. not_anacron table version job spec sound plain is_job }
