-- Look-ups in a map of rows, each of which is under its own name.
use Rattle.std.proofs.Common.{◌≡◌, ◌≢◌, ℤ, ℕ, Bool, true, false, cond, ◌&&◌, ◌==◌, List, [], ◌∷◌, ◌++◌, Option, None, Some, refl, sym, ap, ◌∙◌, true≢false}
use Rattle.std.proofs.lemmas.List.Elements.{All-nil, All-cons, All-head, All-tail, All-push}
use Rattle.std.proofs.lemmas.List.{map-append}
use Rattle.std.proofs.lemmas.List.Quantifiers.{all_pairs_push}
use Rattle.std.proofs.lemmas.Bool.Decides.{Decides-and, Decides-eqb, Decides-int_eq, Decides-like}
use Rattle.std.specs.Prelude.{is_some, not}
use Rattle.std.specs.Bool.{Decides}
use Rattle.std.specs.Map.{lookup, values_of}
use Rattle.std.specs.Ordering.{int_eq}
use Rattle.indexmap.specs.IndexMap.{insert_entry}
use Rattle.cluster_sched.specs.Held.{AreUnderTheirNames, AreNamedOnce, NoneUnder, IsLookedUp}
use denote.Enum.Bare.{sameb}
use Rattle.paxos_base.specs.contracts.entry.Kind.{the_type}
use Rattle.paxos_base.specs.declared.entry.Kind.{Kind}
use Rattle.paxos_base.specs.declared.entry.Kind.TheVariants.{Launch, Void}
use Rattle.cluster_sched.specs.declared.row.Name.{Name}
use Rattle.cluster_sched.specs.declared.row.SchedRow.{SchedRow}

abbrev pub name_eq : Name → Name → Bool
name_eq a b = (a.job == b.job) && int_eq a.at b.at

-- two names are equal if both their parts are
pub Decides-name_eq : (a b : Name) → Decides (name_eq a b) (a ≡ b)
Decides-name_eq a b =
    let both = Decides-and (a.job == b.job) (int_eq a.at b.at) (Decides-eqb a.job b.job) (Decides-int_eq a.at b.at) in
    Decides-like (name_eq a b) (λ (h : (a.job ≡ b.job) × (a.at ≡ b.at)). same a b h.0 h.1) (λ (e : a ≡ b). (ap (λ n. n.job) e, ap (λ n. n.at) e)) both
  where
    same : (a b : Name) → a.job ≡ b.job → a.at ≡ b.at → a ≡ b
    same a b job at =
        let make : ℕ → ℤ → Name = λ j t. record { job = j; at = t } in
        let e : make a.job a.at ≡ make b.job b.at = rw (job, at) in
        e

-- a row of another name stands before what a look finds
pub IsLookedUp-later : (row : SchedRow) (held : List SchedRow) (name : Name) (found : Option SchedRow)
    → row.name ≢ name → IsLookedUp held name found → IsLookedUp (row ∷ held) name found
IsLookedUp-later row held name None other none = All-cons (λ r. r.name ≢ name) row held other none
IsLookedUp-later row held name (Some first) other is = record {
  before = row ∷ is.before;
  after = is.after;
  parts = ap (λ rows. row ∷ rows) is.parts;
  named = is.named;
  first = All-cons (λ r. r.name ≢ name) row is.before other is.first;
}

name_eq-differs : (a b : Name) → name_eq a b ≡ false → a ≢ b
name_eq-differs a b e same = true≢false (sym ((Decides-name_eq a b).1 same) ∙ e)

-- what the map has at a name is the first row under it
pub IsLookedUp-lookup : (entries : List (Name × SchedRow)) (name : Name) → AreUnderTheirNames entries
    → IsLookedUp (values_of entries) name (lookup (name_eq name) entries)
IsLookedUp-lookup [] name under = All-nil (λ r. r.name ≢ name)
IsLookedUp-lookup (entry ∷ entries) name under =
    by (name_eq name entry.0) refl (IsLookedUp-lookup entries name (All-tail (λ e. e.1.name ≡ e.0) entry entries under))
  where
    own : entry.1.name ≡ entry.0
    own = All-head (λ e. e.1.name ≡ e.0) entry entries under

    by : (b : Bool) → name_eq name entry.0 ≡ b → IsLookedUp (values_of entries) name (lookup (name_eq name) entries)
        → IsLookedUp (entry.1 ∷ values_of entries) name (cond b (Some entry.1) (lookup (name_eq name) entries))
    by true e later = record {
      before = [];
      after = values_of entries;
      parts = refl;
      named = own ∙ sym ((Decides-name_eq name entry.0).0 e);
      first = All-nil (λ r. r.name ≢ name);
    }
    by false e later = IsLookedUp-later entry.1 (values_of entries) name (lookup (name_eq name) entries) (λ same. name_eq-differs name entry.0 e (sym same ∙ own)) later

-- a look has an answer
pub IsLookedUp-some : (held : List SchedRow) (name : Name) → (found : Option SchedRow) × IsLookedUp held name found
IsLookedUp-some [] name = (None, All-nil (λ r. r.name ≢ name))
IsLookedUp-some (row ∷ held) name = by (name_eq name row.name) refl (IsLookedUp-some held name)
  where
    by : (b : Bool) → name_eq name row.name ≡ b → (found : Option SchedRow) × IsLookedUp held name found → (found : Option SchedRow) × IsLookedUp (row ∷ held) name found
    by true e later = (
      Some row,
      record {
        before = [];
        after = held;
        parts = refl;
        named = sym ((Decides-name_eq name row.name).0 e);
        first = All-nil (λ r. r.name ≢ name);
      },
    )
    by false e later = (later.0, IsLookedUp-later row held name later.0 (λ same. name_eq-differs name row.name e (sym same)) later.1)

-- a new name goes last
pub insert_entry-other : (entries : List (Name × SchedRow)) (name : Name) (row : SchedRow) → AreUnderTheirNames entries → NoneUnder (values_of entries) name
    → insert_entry name_eq entries name row ≡ entries ++ (name, row) ∷ []
insert_entry-other [] name row under none = refl
insert_entry-other (entry ∷ entries) name row under none =
    by (name_eq name entry.0) refl (insert_entry-other entries name row (All-tail (λ e. e.1.name ≡ e.0) entry entries under) (All-tail (λ r. r.name ≢ name) entry.1 (values_of entries) none))
  where
    own : entry.1.name ≡ entry.0
    own = All-head (λ e. e.1.name ≡ e.0) entry entries under

    by : (b : Bool) → name_eq name entry.0 ≡ b → insert_entry name_eq entries name row ≡ entries ++ (name, row) ∷ []
        → cond b ((entry.0, row) ∷ entries) (entry ∷ insert_entry name_eq entries name row) ≡ entry ∷ (entries ++ (name, row) ∷ [])
    by true e later = absurd (All-head (λ r. r.name ≢ name) entry.1 (values_of entries) none (own ∙ sym ((Decides-name_eq name entry.0).0 e)))
    by false e later = ap (λ rest. entry ∷ rest) later

-- the rows, after a row of a new name
pub values_of-push : (entries : List (Name × SchedRow)) (name : Name) (row : SchedRow) → values_of (entries ++ (name, row) ∷ []) ≡ values_of entries ++ row ∷ []
values_of-push entries name row = map-append (λ (e : Name × SchedRow). e.1) entries ((name, row) ∷ [])

pub none_from_test : (found : Option SchedRow) (test : Bool) → is_some found ≡ not test → test ≡ true → found ≡ None
none_from_test None test is e = refl
none_from_test (Some row) test is e = absurd (true≢false (is ∙ ap not e))

-- the map's rows, after a row of a new name, are each under its own name, and no two under one
pub push_keeps_names : (entries : List (Name × SchedRow)) (row : SchedRow) → AreUnderTheirNames entries → AreNamedOnce (values_of entries) → NoneUnder (values_of entries) row.name
    → AreUnderTheirNames (entries ++ (row.name, row) ∷ []) × AreNamedOnce (values_of entries ++ row ∷ [])
push_keeps_names entries row under once none = (
  All-push (λ e. e.1.name ≡ e.0) entries (row.name, row) under refl,
  all_pairs_push (λ a b. a.name ≢ b.name) (values_of entries) row once none,
)

-- ---- rows that are told apart

abbrev pub kind_eq : Kind → Kind → Bool
kind_eq a b = sameb the_type a b

Decides-kind_eq : (a b : Kind) → Decides (kind_eq a b) (a ≡ b)
Decides-kind_eq Launch Launch = (λ e. refl, λ e. refl)
Decides-kind_eq Launch Void = (λ e. absurd (true≢false (sym e)), λ e. absurd cc)
Decides-kind_eq Void Launch = (λ e. absurd (true≢false (sym e)), λ e. absurd cc)
Decides-kind_eq Void Void = (λ e. refl, λ e. refl)

abbrev pub row_eq : SchedRow → SchedRow → Bool
row_eq a b = name_eq a.name b.name && (kind_eq a.kind b.kind && (int_eq a.now.0 b.now.0 && (a.by == b.by)))

-- two rows are equal if all their parts are
pub Decides-row_eq : (a b : SchedRow) → Decides (row_eq a b) (a ≡ b)
Decides-row_eq a b =
    let times = Decides-and (int_eq a.now.0 b.now.0) (a.by == b.by) (Decides-int_eq a.now.0 b.now.0) (Decides-eqb a.by b.by) in
    let kinds = Decides-and (kind_eq a.kind b.kind) (int_eq a.now.0 b.now.0 && (a.by == b.by)) (Decides-kind_eq a.kind b.kind) times in
    let parts = Decides-and (name_eq a.name b.name) (kind_eq a.kind b.kind && (int_eq a.now.0 b.now.0 && (a.by == b.by))) (Decides-name_eq a.name b.name) kinds in
    Decides-like (row_eq a b) (λ h. same a b h.0 h.1.0 h.1.1.0 h.1.1.1)
    (λ (e : a ≡ b). (ap (λ (r : SchedRow). r.name) e, (ap (λ (r : SchedRow). r.kind) e, (ap (λ (r : SchedRow). r.now.0) e, ap (λ (r : SchedRow). r.by) e)))) parts
  where
    same : (a b : SchedRow) → a.name ≡ b.name → a.kind ≡ b.kind → a.now.0 ≡ b.now.0 → a.by ≡ b.by → a ≡ b
    same a b name kind now by =
        let make : Name → Kind → ℤ → ℕ → SchedRow = λ n k t r. record { name = n; kind = k; now = record { 0 = t }; by = r } in
        let e : make a.name a.kind a.now.0 a.by ≡ make b.name b.kind b.now.0 b.by = rw (name, kind, now, by) in
        e
