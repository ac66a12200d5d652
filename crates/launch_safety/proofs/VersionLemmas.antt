-- A log adopts versions one after another.
use Rattle.std.proofs.Common.{◌≡◌, ℕ, zero, suc, ◌+◌, ◌≤◌, inl, inr, List, [], ◌∷◌, length, Option, None, Some, ℤ, ◌≤ℤ◌, refl, sym, ap, subst, arith}
use Rattle.std.specs.List.{All, AllPairs, slice_get}
use Rattle.std.proofs.lemmas.Int.{ints}
use Rattle.std.proofs.lemmas.List.Elements.{All-cons, All-nil, All-weaker}
use Rattle.std.proofs.lemmas.List.Kept.{AllPairs-cons}
use Rattle.paxos_base.specs.Rows.{RowsStand}
use Rattle.paxos_base.specs.declared.entry.Entry.{Entry}
use Rattle.paxos_base.specs.declared.entry.Entry.TheVariants.{Noop, Start, End, Table as TableEntry}
use Rattle.paxos_base.specs.declared.rows.JobRow.{JobRow}
use Rattle.due_set.specs.Table.{Table, version_from}
use Rattle.launch_machine.specs.Clerk.{Applies, IsBy, TakesTable, first_rows, in_force, table_size}
use Rattle.launch_machine.specs.Starts.{AdoptionsFrom, AdoptionsOf, AdoptsAt}
use Rattle.launch_machine.specs.declared.force.InForce.{InForce}
use Rattle.launch_machine.proofs.MachineLemmas.{first_in_force, fresh_stand}
use Rattle.launch_machine.proofs.VersionRows.{Applies-stands, adopted_force, ended_force, started_force}
use Rattle.launch_safety.specs.Fits.{AreAdoptions}

-- an entry that adopts no version leaves what is in force
same_force : (table : Table) (rows : List JobRow) (entry : Entry) (middle : List JobRow) → RowsStand rows (table_size table)
    → ((now : ℤ) → AdoptsAt table rows entry now → ⊥) → Applies table rows entry middle → in_force table middle ≡ in_force table rows
same_force table rows entry middle stand none (inr (not, is)) = ap (in_force table) is
same_force table rows Noop middle stand none (inl (takes, is)) = absurd takes
same_force table rows (Start job at now) middle stand none (inl (takes, is)) = started_force table rows middle job at now takes is
same_force table rows (End job at kind) middle stand none (inl (takes, is)) = ended_force table rows middle job at kind stand takes is
same_force table rows (TableEntry version now) middle stand none (inl (takes, is)) =
    absurd (none now (record { version = version; is = refl; takes = takes }))

-- the versions behind one that is in force since an instant, adopted one after another at these
record AreBehind (table : Table) (force : InForce) (adoptions : List ℤ) : Type 0 where
  few : force.version + length adoptions ≤ length table.later
  come : (place : ℕ) (now : ℤ) → slice_get adoptions place ≡ Some now → version_from table (suc (force.version + place)) ≤ℤ now
  since : All (λ now. IsBy now force.since) adoptions
  in_order : AllPairs (λ a b. a ≤ℤ b) adoptions

none_behind : (table : Table) (force : InForce) → force.version ≤ length table.later → AreBehind table force []
none_behind table force few = record {
  few = omega (arith, few);
  come = λ place now is. absurd cc;
  since = All-nil (λ now. IsBy now force.since);
  in_order = λ i j d rises within. absurd (omega (arith, within));
}

-- what is no sooner than the instant is no sooner than one before it
by_later : (now other : ℤ) (since : Option ℤ) → IsBy now since → now ≤ℤ other → IsBy other since
by_later now other None by le = tt
by_later now other (Some instant) by le = omega (arith, ints, by, le)

-- the next version goes before those behind it
one_behind : (table : Table) (rows : List JobRow) (version : ℕ) (now : ℤ) (adoptions : List ℤ) → TakesTable table rows version now
    → AreBehind table (record { version = version; since = Some now }) adoptions → AreBehind table (in_force table rows) (now ∷ adoptions)
one_behind table rows version now adoptions takes rest = record {
  few = let few = rest.few in omega (arith, few, takes.next);
  come = come;
  since = All-cons (λ other. IsBy other (in_force table rows).since) now adoptions takes.since
      (All-weaker (λ other. now ≤ℤ other) (λ other. IsBy other (in_force table rows).since)
      (λ other le. by_later now other (in_force table rows).since takes.since le) adoptions rest.since);
  in_order = AllPairs-cons (λ a b. a ≤ℤ b) now adoptions rest.since rest.in_order;
}
  where
    come : (place : ℕ) (other : ℤ) → slice_get (now ∷ adoptions) place ≡ Some other → version_from table (suc ((in_force table rows).version + place)) ≤ℤ other
    come zero other is =
        let number : version ≡ suc ((in_force table rows).version + 0) = omega (arith, takes.next) in
        let same : now ≡ other = cc in
        subst (λ (at : ℤ). version_from table (suc ((in_force table rows).version + 0)) ≤ℤ at) same (subst (λ (v : ℕ). version_from table v ≤ℤ now) number takes.come)
    come (suc place) other is =
        let number : suc (version + place) ≡ suc ((in_force table rows).version + suc place) = omega (arith, takes.next) in
        subst (λ (v : ℕ). version_from table v ≤ℤ other) number (rest.come place other is)

behind_from : (table : Table) (rows : List JobRow) (entries : List Entry) (adoptions : List ℤ) → RowsStand rows (table_size table)
    → (in_force table rows).version ≤ length table.later → AdoptionsFrom table rows entries adoptions → AreBehind table (in_force table rows) adoptions
behind_from table rows [] adoptions stand few none = rw none (none_behind table (in_force table rows) few)
behind_from table rows (entry ∷ entries) adoptions stand few (middle, later, step, inr (never, e), rest) =
    let force = same_force table rows entry middle stand never step in
    let tail = behind_from table middle entries later (Applies-stands table rows entry middle stand step)
    (subst (λ (g : InForce). g.version ≤ length table.later) (sym force) few) rest in
    rw e (subst (λ (g : InForce). AreBehind table g later) force tail)
behind_from table rows (entry ∷ entries) adoptions stand few (middle, later, step, inl (now, adopts, e), rest) =
    let force = adopted_to (subst (λ (x : Entry). Applies table rows x middle) adopts.is step) in
    let known : adopts.version ≤ length table.later = omega (arith, adopts.takes.known) in
    let tail = behind_from table middle entries later (Applies-stands table rows entry middle stand step)
    (subst (λ (g : InForce). g.version ≤ length table.later) (sym force) known) rest in
    rw e (one_behind table rows adopts.version now later adopts.takes (subst (λ (g : InForce). AreBehind table g later) force tail))
  where
    adopted_to : Applies table rows (TableEntry adopts.version now) middle → in_force table middle ≡ record { version = adopts.version; since = Some now }
    adopted_to (inl (takes, is)) = adopted_force table rows middle adopts.version now stand is
    adopted_to (inr (not, is)) = absurd (not adopts.takes)

pub are_adoptions : (table : Table) (log : List Entry) (adoptions : List ℤ) → AdoptionsOf table log adoptions → AreAdoptions table adoptions
are_adoptions table log adoptions adopted =
    let force = first_in_force table in
    let at_first : (in_force table (first_rows table)).version ≡ 0 = ap (λ (g : InForce). g.version) force in
    let behind = behind_from table (first_rows table) log adoptions (fresh_stand (first_rows table) (table_size table) refl) (omega (arith, at_first)) adopted in
    let first : AreBehind table (record { version = 0; since = None }) adoptions = subst (λ (g : InForce). AreBehind table g adoptions) force behind in
    record {
      few = let few = first.few in omega (arith, few);
      come = λ place now is. subst (λ (v : ℕ). version_from table (suc v) ≤ℤ now) (no_more place) (first.come place now is);
      in_order = first.in_order;
    }
  where
    no_more : (place : ℕ) → 0 + place ≡ place
    no_more place = omega arith
