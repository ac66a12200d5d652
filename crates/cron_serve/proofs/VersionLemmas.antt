-- What the starts of a log and its adoptions say of the version that is in force at a start.
use Rattle.std.proofs.Common.{◌≡◌, ℕ, ◌≤◌, inl, inr, false, List, [], ◌∷◌, ◌++◌, length, ℤ, refl, sym, ap, ◌∙◌, subst, arith, length-append}
use Rattle.std.specs.Prelude.{Contains}
use Rattle.paxos_base.specs.declared.entry.Entry.{Entry}
use Rattle.paxos_base.specs.declared.entry.Entry.TheVariants.{Start}
use Rattle.paxos_base.specs.declared.rows.JobRow.{JobRow}
use Rattle.due_set.specs.Table.{IsSound, Table, is_by_period}
use Rattle.due_set.proofs.Rising.{Contains-head, Contains-tail}
use Rattle.launch_machine.specs.Clerk.{AppliesAll, TakesStart, first_rows}
use Rattle.launch_machine.specs.Starts.{AddsStart, AdoptionsFrom, AdoptionsOf, StartsFrom}
use Rattle.launch_machine.specs.Versions.{IsDueUnder}
use Rattle.launch_machine.proofs.ClerkLemmas.{Applies-same}
use Rattle.launch_machine.proofs.ExistLemmas.{AdoptionsOf-same}
use Rattle.launch_machine.proofs.UnderLemmas.{runs_by_instants, version_is_count}
use Rattle.launch_safety.specs.Fits.{IsStartedUnder, StartsInOrder}

-- a start that takes effect is among the starts of its job
among_starts : (table : Table) (rows left : List JobRow) (before after : List Entry) (job : ℕ) (at now : ℤ) (instants : List ℤ) → AppliesAll table rows before left
    → TakesStart table left job at now → StartsFrom table rows (before ++ Start job at now ∷ after) job instants → Contains instants at
among_starts table rows left [] after job at now instants applied takes (middle, later, step, inl (first, starts, is), rest) =
    let same : Start job at now ≡ Start job first starts.now = starts.is in
    let here : first ≡ at = cc in
    subst (λ (list : List ℤ). Contains list at) (sym is) (subst (λ (t : ℤ). Contains (t ∷ later) at) (sym here) (Contains-head at later))
among_starts table rows left [] after job at now instants applied takes (middle, later, step, inr (none, is), rest) =
    absurd (none at (record { now = now; is = refl; takes = subst (λ (list : List JobRow). TakesStart table list job at now) applied takes }))
among_starts table rows left (entry ∷ before) after job at now instants (next, goes, applied) takes (middle, later, step, adds, rest) =
    let same : next ≡ middle = Applies-same table rows entry next middle goes step in
    go adds (among_starts table middle left before after job at now later (subst (λ (list : List JobRow). AppliesAll table list before left) same applied) takes rest)
  where
    go : AddsStart table rows entry job later instants → Contains later at → Contains instants at
    go (inl (first, starts, is)) has = subst (λ (list : List ℤ). Contains list at) (sym is) (Contains-tail first later at has)
    go (inr (none, is)) has = subst (λ (list : List ℤ). Contains list at) (sym is) has

-- so of a job without a `/` in its name it is of an instant that is due, by the version in force then
pub started_due : (table : Table) (log : List Entry) (adoptions : List ℤ) (version job : ℕ) (at : ℤ) → IsSound table → AdoptionsOf table log adoptions → StartsInOrder table log job
    → is_by_period table job ≡ false → IsStartedUnder table log version job at → IsDueUnder table adoptions job at
started_due table log adoptions version job at sound adopted order plain start =
    let starts = subst (λ (list : List Entry). StartsFrom table (first_rows table) list job order.instants) start.parts order.starts in
    let among = among_starts table (first_rows table) start.rows start.before start.after job at start.now order.instants start.clerk start.takes starts in
    subst (λ (list : List ℤ). IsDueUnder table list job at) (AdoptionsOf-same table log order.adoptions adoptions order.adopted adopted)
    ((order.first (runs_by_instants table job sound plain)).sound at among)

-- what a front of the entries adopts is a front of what they adopt
front_adoptions : (table : Table) (rows : List JobRow) (before after : List Entry) (instants : List ℤ) → AdoptionsFrom table rows (before ++ after) instants
    → (front : List ℤ) × (back : List ℤ) × AdoptionsFrom table rows before front × (instants ≡ front ++ back)
front_adoptions table rows [] after instants adopted = ([], instants, refl, refl)
front_adoptions table rows (entry ∷ before) after instants (middle, later, step, inl (now, adopts, is), rest) =
    let (front, back, of, parts) = front_adoptions table middle before after later rest in
    (now ∷ front, back, (middle, front, step, inl (now, adopts, refl), of), is ∙ ap (λ (list : List ℤ). now ∷ list) parts)
front_adoptions table rows (entry ∷ before) after instants (middle, later, step, inr (none, is), rest) =
    let (front, back, of, parts) = front_adoptions table middle before after later rest in
    (front, back, (middle, front, step, inr (none, refl), of), is ∙ parts)

-- so a start is under a version that was adopted, or the first
pub started_within : (table : Table) (log : List Entry) (adoptions : List ℤ) (version job : ℕ) (at : ℤ) → AdoptionsOf table log adoptions → IsStartedUnder table log version job at
    → version ≤ length adoptions
started_within table log adoptions version job at adopted start =
    let (front, back, of, parts) =
    front_adoptions table (first_rows table) start.before (Start job at start.now ∷ start.after) adoptions (subst (λ (list : List Entry). AdoptionsOf table list adoptions) start.parts adopted) in
    let count = version_is_count table start.before start.rows front start.clerk of in
    let long : length adoptions ≡ length (front ++ back) = ap (λ (list : List ℤ). length list) parts in
    omega (arith, count, start.in_force, long, length-append front back)
