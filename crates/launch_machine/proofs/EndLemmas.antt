-- The ends of a job along a list of entries, and its row's counts.
use Rattle.std.proofs.Common.{◌≡◌, ◌≢◌, ℕ, zero, suc, ◌+◌, ◌<◌, length, inl, inr, List, [], ◌∷◌, Some, ℤ, refl, sym, ap, ◌∙◌, subst, arith}
use Rattle.std.specs.Prelude.{map, slice_get}
use Rattle.std.specs.List.{range_with_len}
use Rattle.paxos_base.specs.declared.entry.Entry.{Entry}
use Rattle.paxos_base.specs.declared.entry.Entry.TheVariants.{Noop, Start, End, Table as TableEntry}
use Rattle.paxos_base.specs.declared.entry.Kind.{Kind}
use Rattle.paxos_base.specs.declared.entry.Kind.TheVariants.{Launch, Void}
use Rattle.paxos_base.specs.declared.rows.JobRow.{JobRow}
use Rattle.due_set.specs.Table.{Table}
use Rattle.paxos_base.specs.Rows.{fresh_row, row_count}
use Rattle.launch_machine.specs.Clerk.{Applies, AppliesAll, IsClerkOf, TakesStart, TakesEnd, adopted_row, first_rows, opened_row, closed_row, with_row, table_size}
use Rattle.launch_machine.specs.Starts.{EndsFrom, EndsOf, EndsJob}
use Rattle.launch_machine.proofs.ClerkLemmas.{Applies-same}
use Rattle.launch_machine.proofs.ExistLemmas.{same_kind_or_not}
use Rattle.std.proofs.lemmas.Bool.{cases_eq}
use Rattle.launch_machine.proofs.StartLemmas.{HasAt, changed, unchanged, elsewhere}

-- a row's count of the kind
abbrev pub counted : Kind → JobRow → ℕ
counted Launch row = row.launched
counted Void row = row.voided

closed_count : (at : ℤ) (kind : Kind) (row : JobRow) → counted kind (closed_row at kind row) ≡ counted kind row + 1
closed_count at Launch row = refl
closed_count at Void row = refl

closed_other : (at : ℤ) (kind other : Kind) (row : JobRow) → kind ≢ other → counted kind (closed_row at other row) ≡ counted kind row
closed_other at Launch Launch row ne = absurd (ne refl)
closed_other at Launch Void row ne = refl
closed_other at Void Launch row ne = refl
closed_other at Void Void row ne = absurd (ne refl)

opened_count : (kind : Kind) (at now : ℤ) (row : JobRow) → counted kind (opened_row at now row) ≡ counted kind row
opened_count Launch at now row = refl
opened_count Void at now row = refl

after_end : (table : Table) (rows middle : List JobRow) (job : ℕ) (at : ℤ) (kind : Kind) (count : ℕ) → TakesEnd rows job at
    → Applies table rows (End job at kind) middle → HasAt (counted kind) rows job count → HasAt (counted kind) middle job (count + 1)
after_end table rows middle job at kind count takes (inr (not, e)) known row is_row = absurd (not takes)
after_end table rows middle job at kind count takes (inl (again, e)) known row is_row =
    let closed : closed_row at kind takes.row ≡ row = changed (closed_row at kind) rows job takes.row row takes.is_row (ap (λ (m : List JobRow). slice_get m job) (sym e) ∙ is_row) in
    ap (counted kind) (sym closed) ∙ closed_count at kind takes.row ∙ ap (λ (n : ℕ). n + 1) (known takes.row takes.is_row)

after_other_kind : (rows middle : List JobRow) (job : ℕ) (at : ℤ) (kind other : Kind) (count : ℕ) → kind ≢ other → TakesEnd rows job at
    → middle ≡ with_row (closed_row at other) rows job → HasAt (counted kind) rows job count → HasAt (counted kind) middle job count
after_other_kind rows middle job at kind other count ne takes e known row is_row =
    let closed : closed_row at other takes.row ≡ row = changed (closed_row at other) rows job takes.row row takes.is_row (ap (λ (m : List JobRow). slice_get m job) (sym e) ∙ is_row) in
    ap (counted kind) (sym closed) ∙ closed_other at kind other takes.row ne ∙ known takes.row takes.is_row

after_start : (table : Table) (rows middle : List JobRow) (job : ℕ) (at now : ℤ) (kind : Kind) (count : ℕ) → TakesStart table rows job at now
    → middle ≡ with_row (opened_row at now) rows job → HasAt (counted kind) rows job count → HasAt (counted kind) middle job count
after_start table rows middle job at now kind count takes e known row is_row =
    let opened : opened_row at now takes.row ≡ row = changed (opened_row at now) rows job takes.row row takes.is_row (ap (λ (m : List JobRow). slice_get m job) (sym e) ∙ is_row) in
    ap (counted kind) (sym opened) ∙ opened_count kind at now takes.row ∙ known takes.row takes.is_row

-- an entry that ends no launch of the job with the kind leaves the kind's count
after_other : (table : Table) (rows : List JobRow) (entry : Entry) (middle : List JobRow) (job : ℕ) (kind : Kind) (count : ℕ) → job < length table.jobs
    → (EndsJob rows entry job kind → ⊥) → Applies table rows entry middle → HasAt (counted kind) rows job count → HasAt (counted kind) middle job count
after_other table rows Noop middle job kind count below none (inl (takes, e)) known = unchanged (counted kind) rows middle job count e known
after_other table rows Noop middle job kind count below none (inr (not, e)) known = unchanged (counted kind) rows middle job count e known
after_other table rows (TableEntry version now) middle job kind count below none (inl (takes, e)) known =
    elsewhere (counted kind) (adopted_row version now) rows middle (length table.jobs) job count (λ same. omega (arith, below, same)) e known
after_other table rows (TableEntry version now) middle job kind count below none (inr (not, e)) known = unchanged (counted kind) rows middle job count e known
after_other table rows (Start j at now) middle job kind count below none (inr (not, e)) known = unchanged (counted kind) rows middle job count e known
after_other table rows (Start j at now) middle job kind count below none (inl (takes, e)) known =
    elim (cases_eq job j) [
      | inl same ↦ after_start table rows middle job at now kind count (subst (λ (k : ℕ). TakesStart table rows k at now) (sym same) takes)
          (e ∙ ap (with_row (opened_row at now) rows) (sym same)) known
      | inr ne ↦ elsewhere (counted kind) (opened_row at now) rows middle j job count ne e known
    ]
after_other table rows (End j at other) middle job kind count below none (inr (not, e)) known = unchanged (counted kind) rows middle job count e known
after_other table rows (End j at other) middle job kind count below none (inl (takes, e)) known =
    elim (cases_eq job j) [
      | inl same ↦ elim (same_kind_or_not kind other) [
        | inl same_kind ↦ absurd (none (record {
          at = at;
          is = ap (λ (k : ℕ). End k at other) (sym same) ∙ ap (End job at) (sym same_kind);
          takes = subst (λ (k : ℕ). TakesEnd rows k at) (sym same) takes;
        }))
        | inr ne ↦ after_other_kind rows middle job at kind other count ne (subst (λ (k : ℕ). TakesEnd rows k at) (sym same) takes)
            (e ∙ ap (with_row (closed_row at other) rows) (sym same)) known
      ]
      | inr ne ↦ elsewhere (counted kind) (closed_row at other) rows middle j job count ne e known
    ]

-- the count rises by the ends of the kind that take effect
ends_from : (table : Table) (rows : List JobRow) (entries : List Entry) (job : ℕ) (kind : Kind) (start count : ℕ) (last : List JobRow)
    → job < length table.jobs → HasAt (counted kind) rows job start → EndsFrom table rows entries job kind count → AppliesAll table rows entries last
    → HasAt (counted kind) last job (start + count)
ends_from table rows [] job kind start count last below known none e row is_row =
    let same : counted kind row ≡ start = unchanged (counted kind) rows last job start e known row is_row in
    omega (arith, same, none)
ends_from table rows (entry ∷ entries) job kind start count last below known (middle, later, step, inl (ends, e), more) (other, again, rest) row is_row =
    let same : other ≡ middle = Applies-same table rows entry other middle again step in
    let applies : Applies table rows (End job ends.at kind) middle = subst (λ (x : Entry). Applies table rows x middle) ends.is step in
    let total : counted kind row ≡ start + 1 + later =
    ends_from table middle entries job kind (start + 1) later last below (after_end table rows middle job ends.at kind start ends.takes applies known) more
    (subst (λ (m : List JobRow). AppliesAll table m entries last) same rest) row is_row in
    omega (arith, total, e)
ends_from table rows (entry ∷ entries) job kind start count last below known (middle, later, step, inr (none, e), more) (other, again, rest) row is_row =
    let same : other ≡ middle = Applies-same table rows entry other middle again step in
    let total : counted kind row ≡ start + later =
    ends_from table middle entries job kind start later last below (after_other table rows entry middle job kind start below none step known) more
    (subst (λ (m : List JobRow). AppliesAll table m entries last) same rest) row is_row in
    omega (arith, total, e)

none_counted : (kind : Kind) (job : ℕ) → counted kind (fresh_row job) ≡ 0
none_counted Launch job = refl
none_counted Void job = refl

fresh_count : (kind : Kind) (a n k : ℕ) (row : JobRow) → slice_get (map fresh_row (range_with_len a n)) k ≡ Some row → counted kind row ≡ 0
fresh_count kind a zero k row e = cc
fresh_count kind a (suc n) zero row e = let row_is : fresh_row a ≡ row = cc in ap (counted kind) (sym row_is) ∙ none_counted kind a
fresh_count kind a (suc n) (suc k) row e = fresh_count kind (a + 1) n k row e

ends_counted : (table : Table) (entries : List Entry) (rows : List JobRow) (job : ℕ) (kind : Kind) (count : ℕ) (row : JobRow) → job < length table.jobs → IsClerkOf table entries rows
    → EndsOf table entries job kind count → slice_get rows job ≡ Some row → counted kind row ≡ count
ends_counted table entries rows job kind count row below clerk ends is_row =
    let total : counted kind row ≡ 0 + count =
    ends_from table (first_rows table) entries job kind 0 count rows below (fresh_count kind 0 (row_count (table_size table)) job) ends clerk row is_row in
    omega (arith, total)

pub launches_counted : (table : Table) (entries : List Entry) (rows : List JobRow) (job count : ℕ) (row : JobRow) → job < length table.jobs → IsClerkOf table entries rows
    → EndsOf table entries job Launch count → slice_get rows job ≡ Some row → row.launched ≡ count
launches_counted table entries rows job count row = ends_counted table entries rows job Launch count row

pub voids_counted : (table : Table) (entries : List Entry) (rows : List JobRow) (job count : ℕ) (row : JobRow) → job < length table.jobs → IsClerkOf table entries rows
    → EndsOf table entries job Void count → slice_get rows job ≡ Some row → row.voided ≡ count
voids_counted table entries rows job count row = ends_counted table entries rows job Void count row
