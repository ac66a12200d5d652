-- The entries of a log that take effect, and one more entry.
use Rattle.std.proofs.Common.{◌≡◌, ◌⊎◌, ℕ, ◌+◌, ℤ, inl, inr, List, [], ◌∷◌, ◌++◌, length, refl, sym, ap, ◌∙◌, subst, arith, length-append}
use Rattle.std.specs.Prelude.{Contains}
use Rattle.std.proofs.lemmas.List.{append_assoc}
use Rattle.paxos_base.specs.declared.entry.Entry.{Entry}
use Rattle.paxos_base.specs.declared.entry.Entry.TheVariants.{Start}
use Rattle.paxos_base.specs.declared.rows.JobRow.{JobRow}
use Rattle.due_set.specs.Table.{Table}
use Rattle.due_set.proofs.Rising.{Contains-cases, Contains-none}
use Rattle.cluster_sched.specs.declared.row.SchedRow.{SchedRow}
use Rattle.launch_machine.specs.Clerk.{IsClerkOf, TakesEffect, TakesStart, first_rows, in_force}
use Rattle.launch_machine.proofs.ClerkLemmas.{AppliesAll-same}
use Rattle.launch_safety.specs.Fits.{AreAllEffective, HasStart, IsBacked, IsEffective, IsStartedUnder}

pub IsEffective-more : (table : Table) (log more : List Entry) (entry : Entry) → IsEffective table log entry → IsEffective table (log ++ more) entry
IsEffective-more table log more entry known = record {
  before = known.before;
  after = known.after ++ more;
  parts = ap (λ (l : List Entry). l ++ more) known.parts ∙ append_assoc known.before (entry ∷ known.after) more;
  takes = known.takes;
}

-- an entry of a log with one more is the last, or was in the log
pub record IsBeforeLast (log before : List Entry) (entry : Entry) : Type 0 where
  pub after : List Entry
  pub parts : log ≡ before ++ entry ∷ after

pub last_split : (log : List Entry) (last : Entry) (before after : List Entry) (entry : Entry) → log ++ last ∷ [] ≡ before ++ entry ∷ after
    → ((before ≡ log) × (entry ≡ last)) ⊎ IsBeforeLast log before entry
last_split [] last [] after entry e = inl (refl, cc)
last_split [] last (b ∷ []) after entry e = absurd cc
last_split [] last (b ∷ c ∷ before) after entry e = absurd cc
last_split (first ∷ log) last [] after entry e = inr (record { after = log; parts = cc })
last_split (first ∷ log) last (b ∷ before) after entry e =
    let tails : log ++ last ∷ [] ≡ before ++ entry ∷ after = cc in
    elim (last_split log last before after entry tails) [
      | inl (same, is) ↦ inl (cc, is)
      | inr found ↦ inr (record { after = found.after; parts = let parts : log ≡ before ++ entry ∷ found.after = found.parts in cc })
    ]

pub IsEffective-last : (table : Table) (log : List Entry) (entry : Entry) (rows : List JobRow) → IsClerkOf table log rows → TakesEffect table rows entry
    → IsEffective table (log ++ entry ∷ []) entry
IsEffective-last table log entry rows clerk takes = record {
  before = log;
  after = [];
  parts = refl;
  takes = (rows, clerk, takes);
}

pub IsEffective-cases : (table : Table) (log : List Entry) (last entry : Entry) → IsEffective table (log ++ last ∷ []) entry → (entry ≡ last) ⊎ IsEffective table log entry
IsEffective-cases table log last entry known =
    elim (last_split log last known.before known.after entry known.parts) [
      | inl (same, is) ↦ inl is
      | inr found ↦ inr (record {
        before = known.before;
        after = found.after;
        parts = found.parts;
        takes = known.takes;
      })
    ]

-- the same of an entry that takes effect on the rows of the log
pub effective_cases : (table : Table) (log : List Entry) (last entry : Entry) (rows : List JobRow) → IsClerkOf table log rows → IsEffective table (log ++ last ∷ []) entry
    → ((entry ≡ last) × TakesEffect table rows last) ⊎ IsEffective table log entry
effective_cases table log last entry rows clerk known =
    elim (last_split log last known.before known.after entry known.parts) [
      | inl (same, is) ↦
          let clerks : IsClerkOf table log known.takes.0 = subst (λ (l : List Entry). IsClerkOf table l known.takes.0) same known.takes.1 in
          let rows_are : known.takes.0 ≡ rows = AppliesAll-same table (first_rows table) log known.takes.0 rows clerks clerk in
          inl (is, subst (TakesEffect table rows) is (subst (λ (r : List JobRow). TakesEffect table r entry) rows_are known.takes.2))
      | inr found ↦ inr (record { before = known.before; after = found.after; parts = found.parts; takes = known.takes })
    ]

-- of two places in a log one is before the other, or they are one
pub split_order : (p r q s : List Entry) (x y : Entry) → p ++ x ∷ q ≡ r ++ y ∷ s
    → ((p ≡ r) × (x ≡ y)) ⊎ (IsBeforeLast r p x ⊎ IsBeforeLast p r y)
split_order [] [] q s x y e = inl (refl, cc)
split_order [] (b ∷ r) q s x y e = inr (inl (record { after = r; parts = let is : b ≡ x = cc in ap (λ (c : Entry). c ∷ r) is }))
split_order (a ∷ p) [] q s x y e = inr (inr (record { after = p; parts = let is : a ≡ y = cc in ap (λ (c : Entry). c ∷ p) is }))
split_order (a ∷ p) (b ∷ r) q s x y e =
    let tails : p ++ x ∷ q ≡ r ++ y ∷ s = cc in
    let heads : a ≡ b = cc in
    elim (split_order p r q s x y tails) [
      | inl (same, is) ↦ inl (cc, is)
      | inr (inl found) ↦ inr (inl (record { after = found.after; parts = let parts : r ≡ p ++ x ∷ found.after = found.parts in cc }))
      | inr (inr found) ↦ inr (inr (record { after = found.after; parts = let parts : p ≡ r ++ y ∷ found.after = found.parts in cc }))
    ]

-- an entry that takes effect does so in each log that it stands in
pub is_before : (table : Table) (log : List Entry) (entry : Entry) (known : IsEffective table log entry) (longer : List Entry)
    → IsBeforeLast longer known.before entry → IsEffective table longer entry
is_before table log entry known longer found = record { before = known.before; after = found.after; parts = found.parts; takes = known.takes }

-- nothing takes effect in an empty log
pub nothing_effective : (table : Table) (entry : Entry) → IsEffective table [] entry → ⊥
nothing_effective table entry known =
    let size : 0 ≡ length known.before + length (entry ∷ known.after) = ap length known.parts ∙ length-append known.before (entry ∷ known.after) in
    omega arith

pub none_effective : (table : Table) → AreAllEffective table []
none_effective table [] after entry e = absurd cc
none_effective table (b ∷ before) after entry e = absurd cc

-- one more entry that takes effect
pub AreAllEffective-push : (table : Table) (log : List Entry) (last : Entry) (rows : List JobRow) → AreAllEffective table log → IsClerkOf table log rows
    → TakesEffect table rows last → AreAllEffective table (log ++ last ∷ [])
AreAllEffective-push table log last rows all clerk takes before after entry e =
    elim (last_split log last before after entry e) [
      | inl (same, is) ↦ (rows, subst (λ (l : List Entry). IsClerkOf table l rows) (sym same) clerk, subst (TakesEffect table rows) (sym is) takes)
      | inr found ↦ all before found.after entry found.parts
    ]

-- an entry of a log stands between those before and those after it
split_at : (log : List Entry) (entry : Entry) → Contains log entry → (before : List Entry) × (after : List Entry) × (log ≡ before ++ entry ∷ after)
split_at [] entry h = absurd (Contains-none entry h)
split_at (first ∷ log) entry h = elim (Contains-cases first log entry h) [
  | inl e ↦ ([], log, cc)
  | inr behind ↦ let found = split_at log entry behind in let parts : log ≡ found.0 ++ entry ∷ found.1 = found.2 in (first ∷ found.0, found.1, cc)
]

-- where each entry takes effect, each that is in the log is one that does
pub effective_each : (table : Table) (log : List Entry) (entry : Entry) → AreAllEffective table log → Contains log entry → IsEffective table log entry
effective_each table log entry all h =
    let found = split_at log entry h in
    record { before = found.0; after = found.1; parts = found.2; takes = all found.0 found.1 entry found.2 }

-- ---- starts under a version

-- it is a start
abbrev pub was_started : (table : Table) (log : List Entry) (version job : ℕ) (at : ℤ) → IsStartedUnder table log version job at → HasStart table log job at
was_started table log version job at known =
    (known.now, record { before = known.before; after = known.after; parts = known.parts; takes = (known.rows, known.clerk, known.takes) })

pub started_more : (table : Table) (log more : List Entry) (version job : ℕ) (at : ℤ) → IsStartedUnder table log version job at
    → IsStartedUnder table (log ++ more) version job at
started_more table log more version job at known = record {
  now = known.now;
  before = known.before;
  after = known.after ++ more;
  parts = ap (λ (l : List Entry). l ++ more) known.parts ∙ append_assoc known.before (Start job at known.now ∷ known.after) more;
  rows = known.rows;
  clerk = known.clerk;
  takes = known.takes;
  in_force = known.in_force;
}

pub started_last : (table : Table) (log : List Entry) (rows : List JobRow) (version job : ℕ) (at now : ℤ) → IsClerkOf table log rows → TakesStart table rows job at now
    → (in_force table rows).version ≡ version → IsStartedUnder table (log ++ Start job at now ∷ []) version job at
started_last table log rows version job at now clerk takes is = record {
  now = now;
  before = log;
  after = [];
  parts = refl;
  rows = rows;
  clerk = clerk;
  takes = takes;
  in_force = is;
}

pub IsBacked-more : (table : Table) (log more : List Entry) (row : SchedRow) → IsBacked table log row → IsBacked table (log ++ more) row
IsBacked-more table log more row known = record {
  version = known.version;
  start = started_more table log more known.version row.name.job row.name.at known.start;
  spec = known.spec;
  zone = known.zone;
  is_in = known.is_in;
  come = known.come;
  kind = known.kind;
}
