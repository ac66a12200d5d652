-- A launch ends once at most: its job's row passes its instant when it ends, and is open behind it alone from then on.
use Rattle.std.proofs.Common.{◌≡◌, ℕ, ◌<◌, ◌≤◌, inl, inr, List, [], ◌∷◌, ◌++◌, length, get_or, Option, None, Some, ℤ, ◌≤ℤ◌, ◌<ℤ◌, refl, sym, ap, ◌∙◌, subst, arith}
use Rattle.std.specs.List.{slice_get}
use Rattle.std.proofs.lemmas.Int.{ints}
use Rattle.paxos_base.specs.Rows.{fresh_row}
use Rattle.paxos_base.specs.declared.entry.Entry.{Entry}
use Rattle.paxos_base.specs.declared.entry.Entry.TheVariants.{Noop, Start, End, Table as TableEntry}
use Rattle.paxos_base.specs.declared.entry.Kind.{Kind}
use Rattle.paxos_base.specs.declared.entry.Kind.TheVariants.{Launch, Void}
use Rattle.paxos_base.specs.declared.rows.JobRow.{JobRow}
use Rattle.due_set.specs.Table.{IsAfter, Table}
use Rattle.launch_machine.specs.Clerk.{Applies, AppliesAll, TakesEnd, TakesStart, adopted_row, closed_row, first_rows, in_force, opened_row, with_row}
use Rattle.launch_machine.proofs.ClerkLemmas.{AppliesAll-same}
use Rattle.launch_machine.proofs.MachineLemmas.{open_within, set_there}
use Rattle.std.proofs.lemmas.Bool.{cases_eq}
use Rattle.launch_machine.proofs.StartLemmas.{changed, may_start_later}
use Rattle.launch_machine.proofs.VersionRows.{clerk_stands}
use Rattle.launch_safety.specs.Fits.{TakesEffectAfter}
use Rattle.launch_safety.proofs.EffectLemmas.{split_order}
use Rattle.agreement.specs.Log.{IsLog}
use Rattle.history.specs.Book.{Row, votes_in}
use Rattle.history.specs.Legal.{IsLegal}
use Rattle.launch_safety.proofs.Whole.{log_takes}

-- a cursor that has come to an instant, and is behind it where the row is open
abbrev IsPast : ℤ → Option ℤ → Option ℤ → Type 0
IsPast at None open_now = ⊥
IsPast at (Some cursor) None = at ≤ℤ cursor
IsPast at (Some cursor) (Some since) = at <ℤ cursor

-- the job's row, where there is one, has passed it
abbrev HasPassed : ℤ → List JobRow → ℕ → Type 0
HasPassed at rows job = (row : JobRow) → slice_get rows job ≡ Some row → IsPast at row.cursor row.open_now

passed_left : (at : ℤ) (rows middle : List JobRow) (job : ℕ) → slice_get middle job ≡ slice_get rows job → HasPassed at rows job → HasPassed at middle job
passed_left at rows middle job e known row is_row = known row (sym e ∙ is_row)

start_past : (at later : ℤ) (cursor : Option ℤ) → IsPast at cursor None → IsAfter cursor later → at <ℤ later
start_past at later None past after = absurd past
start_past at later (Some cursor) past after = omega (arith, ints, past, after)

passed_start : (table : Table) (at : ℤ) (rows middle : List JobRow) (job : ℕ) (later now : ℤ) → TakesStart table rows job later now
    → middle ≡ with_row (opened_row later now) rows job → HasPassed at rows job → HasPassed at middle job
passed_start table at rows middle job later now takes e known row is_row =
    let opened : opened_row later now takes.row ≡ row = changed (opened_row later now) rows job takes.row row takes.is_row (ap (λ (m : List JobRow). slice_get m job) (sym e) ∙ is_row) in
    let idle : IsPast at takes.row.cursor None = subst (IsPast at takes.row.cursor) takes.idle (known takes.row takes.is_row) in
    subst (λ (r : JobRow). IsPast at r.cursor r.open_now) opened (start_past at later takes.row.cursor idle (may_start_later table (in_force table rows) job takes.row later now takes.may))

closed_past : (at ends : ℤ) (kind : Kind) (old : JobRow) → IsPast at old.cursor None → IsPast at (closed_row ends kind old).cursor (closed_row ends kind old).open_now
closed_past at ends Launch old past = past
closed_past at ends Void old past = past

end_past : (at : ℤ) (cursor : Option ℤ) (since : ℤ) → IsPast at cursor (Some since) → IsPast at cursor None
end_past at None since past = absurd past
end_past at (Some cursor) since past = omega (arith, ints, past)

passed_end : (at : ℤ) (rows middle : List JobRow) (job : ℕ) (ends : ℤ) (kind : Kind) → TakesEnd rows job ends
    → middle ≡ with_row (closed_row ends kind) rows job → HasPassed at rows job → HasPassed at middle job
passed_end at rows middle job ends kind takes e known row is_row =
    let closed : closed_row ends kind takes.row ≡ row = changed (closed_row ends kind) rows job takes.row row takes.is_row (ap (λ (m : List JobRow). slice_get m job) (sym e) ∙ is_row) in
    let past : IsPast at takes.row.cursor (Some takes.since) = subst (IsPast at takes.row.cursor) takes.is_open (known takes.row takes.is_row) in
    subst (λ (r : JobRow). IsPast at r.cursor r.open_now) closed (closed_past at ends kind takes.row (end_past at takes.row.cursor takes.since past))

passed_next : (table : Table) (at : ℤ) (rows middle : List JobRow) (entry : Entry) (job : ℕ) → job < length table.jobs → Applies table rows entry middle → HasPassed at rows job → HasPassed at middle job
passed_next table at rows middle entry job known_job (inr (not, e)) known = passed_left at rows middle job (ap (λ (m : List JobRow). slice_get m job) e) known
passed_next table at rows middle Noop job known_job (inl (takes, e)) known = absurd takes
passed_next table at rows middle (TableEntry version now) job known_job (inl (takes, e)) known =
    let own : ℕ = length table.jobs in
    passed_left at rows middle job
    (ap (λ (m : List JobRow). slice_get m job) e
    ∙ set_there rows own job (adopted_row version now (get_or rows own (fresh_row own))) (λ same. omega (arith, same, known_job))) known
passed_next table at rows middle (Start j later now) job known_job (inl (takes, e)) known = elim (cases_eq job j) [
  | inl same ↦ passed_start table at rows middle job later now (subst (λ (k : ℕ). TakesStart table rows k later now) (sym same) takes)
      (e ∙ ap (with_row (opened_row later now) rows) (sym same)) known
  | inr ne ↦ passed_left at rows middle job
      (ap (λ (m : List JobRow). slice_get m job) e ∙ set_there rows j job (opened_row later now (get_or rows j (fresh_row j))) ne) known
]
passed_next table at rows middle (End j ends kind) job known_job (inl (takes, e)) known = elim (cases_eq job j) [
  | inl same ↦ passed_end at rows middle job ends kind (subst (λ (k : ℕ). TakesEnd rows k ends) (sym same) takes)
      (e ∙ ap (with_row (closed_row ends kind) rows) (sym same)) known
  | inr ne ↦ passed_left at rows middle job
      (ap (λ (m : List JobRow). slice_get m job) e ∙ set_there rows j job (closed_row ends kind (get_or rows j (fresh_row j))) ne) known
]

passed_along : (table : Table) (at : ℤ) (rows last : List JobRow) (entries : List Entry) (job : ℕ) → job < length table.jobs → AppliesAll table rows entries last → HasPassed at rows job → HasPassed at last job
passed_along table at rows last [] job known_job e known = passed_left at rows last job (ap (λ (m : List JobRow). slice_get m job) e) known
passed_along table at rows last (entry ∷ entries) job known_job (middle, step, rest) known =
    passed_along table at middle last entries job known_job rest (passed_next table at rows middle entry job known_job step known)

-- entries that come first leave rows on which the others go on
applied_split : (table : Table) (old last : List JobRow) (xs ys : List Entry) → AppliesAll table old (xs ++ ys) last
    → (middle : List JobRow) × AppliesAll table old xs middle × AppliesAll table middle ys last
applied_split table old last [] ys all = (old, refl, all)
applied_split table old last (x ∷ xs) ys (next, step, rest) =
    let found = applied_split table next last xs ys rest in (found.0, (next, step, found.1), found.2)

-- once an end has taken effect, no other end of the launch does
passed_ended : (rows next : List JobRow) (job : ℕ) (at : ℤ) (kind : Kind) → TakesEnd rows job at → next ≡ with_row (closed_row at kind) rows job → HasPassed at next job
passed_ended rows next job at kind takes e row is_row =
    let closed : closed_row at kind takes.row ≡ row = changed (closed_row at kind) rows job takes.row row takes.is_row (ap (λ (m : List JobRow). slice_get m job) (sym e) ∙ is_row) in
    let here : IsPast at (Some at) None = omega (arith, ints) in
    subst (λ (r : JobRow). IsPast at r.cursor r.open_now) closed (closed_past at at kind takes.row (subst (λ (c : Option ℤ). IsPast at c None) (sym takes.cursor) here))

no_second : (table : Table) (before middle : List Entry) (job : ℕ) (at : ℤ) (one other : Kind) → TakesEffectAfter table before (End job at one)
    → TakesEffectAfter table (before ++ End job at one ∷ middle) (End job at other) → ⊥
no_second table before middle job at one other (rows, clerk, takes) (last, clerk_last, again) =
    let parts = applied_split table (first_rows table) last before (End job at one ∷ middle) clerk_last in
    let (left, left_by, (next, step, rest)) = parts in
    let same : left ≡ rows = AppliesAll-same table (first_rows table) before left rows left_by clerk in
    let passed : HasPassed at last job = passed_along table at next last middle job (open_within table rows job at (clerk_stands table before rows clerk) takes) rest (ended next (subst (λ (r : List JobRow). Applies table r (End job at one) next) same step)) in
    let past : IsPast at again.row.cursor again.row.open_now = passed again.row again.is_row in
    let open_past : IsPast at again.row.cursor (Some again.since) = subst (IsPast at again.row.cursor) again.is_open past in
    let here : IsPast at (Some at) (Some again.since) = subst (λ (c : Option ℤ). IsPast at c (Some again.since)) again.cursor open_past in
    omega (arith, ints, here)
  where
    ended : (next : List JobRow) → Applies table rows (End job at one) next → HasPassed at next job
    ended next (inl (it, e)) = passed_ended rows next job at one it e
    ended next (inr (not, e)) = absurd (not takes)

pub ends_once : (n : ℕ) (table : Table) (book : List Row) (log before after front back : List Entry) (job : ℕ) (at : ℤ) (one other : Kind) → n ≤ 7 → IsLegal n table book → IsLog n (votes_in book) log
    → log ≡ before ++ End job at one ∷ after → log ≡ front ++ End job at other ∷ back → before ≡ front
ends_once n table book log before after front back job at one other few legal is_log first second =
    let first_takes = log_takes n table book log before after (End job at one) few legal is_log first (λ is. cc) in
    let second_takes = log_takes n table book log front back (End job at other) few legal is_log second (λ is. cc) in
    elim (split_order before front after back (End job at one) (End job at other) (sym first ∙ second)) [
      | inl (same, is) ↦ same
      | inr (inl found) ↦
          absurd (no_second table before found.after job at one other first_takes (subst (λ some. TakesEffectAfter table some (End job at other)) found.parts second_takes))
      | inr (inr found) ↦
          absurd (no_second table front found.after job at other one second_takes (subst (λ some. TakesEffectAfter table some (End job at one)) found.parts first_takes))
    ]
