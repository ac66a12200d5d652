-- Rows that are held, and rows that are late.
use Rattle.std.proofs.Common.{◌≡◌, ◌≢◌, ◌<◌, ℕ, zero, suc, List, [], ◌∷◌, ◌++◌, length, get_or, Option, None, Some, Result, refl, sym, ap, ◌∙◌, inl, inr, arith}
use Rattle.std.specs.Prelude.{slice_get, unwrap_or}
use Rattle.std.proofs.lemmas.List.Elements.{All-nil, All-cons, All-head, All-tail}
use Rattle.std.proofs.lemmas.Option.{slice_get_within, unwrap_or-slice_get}
use Rattle.cluster_sched.specs.Held.{NoneUnder, IsFirstUnder, AreNamedOnce, IsLookedUp, Answers, MayGoLate}
use Rattle.cluster_sched.specs.declared.fault.CallFault.{CallFault}
use Rattle.cluster_sched.specs.declared.row.Name.{Name}
use Rattle.cluster_sched.specs.declared.row.SchedRow.{SchedRow}

none_behind : (name : Name) (before rest : List SchedRow) → NoneUnder (before ++ rest) name → NoneUnder rest name
none_behind name [] rest none = none
none_behind name (row ∷ before) rest none =
    none_behind name before rest (All-tail (λ r. r.name ≢ name) row (before ++ rest) none)

-- a name has a first row or none
pub not_both : (held : List SchedRow) (name : Name) (first : SchedRow) → IsFirstUnder held name first → NoneUnder held name → ⊥
not_both held name first is none =
    let rest : NoneUnder (first ∷ is.after) name = none_behind name is.before (first ∷ is.after) (rw (← is.parts) none) in
    All-head (λ r. r.name ≢ name) first is.after rest is.named

-- ---- one answer

same_first : (name : Name) (before others after behind : List SchedRow) (one other : SchedRow) → before ++ one ∷ after ≡ others ++ other ∷ behind
    → one.name ≡ name → other.name ≡ name → NoneUnder before name → NoneUnder others name → one ≡ other
same_first name [] [] after behind one other e is-one is-other p q = cc
same_first name [] (x ∷ others) after behind one other e is-one is-other p q =
    let same : x ≡ one = cc in
    absurd (All-head (λ r. r.name ≢ name) x others q (ap (λ r. r.name) same ∙ is-one))
same_first name (x ∷ before) [] after behind one other e is-one is-other p q =
    let same : x ≡ other = cc in
    absurd (All-head (λ r. r.name ≢ name) x before p (ap (λ r. r.name) same ∙ is-other))
same_first name (x ∷ before) (y ∷ others) after behind one other e is-one is-other p q =
    let rest : before ++ one ∷ after ≡ others ++ other ∷ behind = cc in
    same_first name before others after behind one other rest is-one is-other (All-tail (λ r. r.name ≢ name) x before p) (All-tail (λ r. r.name ≢ name) y others q)

-- of the rows under a name one is the first
pub IsFirstUnder-same : (held : List SchedRow) (name : Name) (one other : SchedRow) → IsFirstUnder held name one → IsFirstUnder held name other → one ≡ other
IsFirstUnder-same held name one other p q =
    same_first name p.before q.before p.after q.after one other (sym p.parts ∙ q.parts) p.named q.named p.first q.first

-- a look has one answer
pub IsLookedUp-same : (held : List SchedRow) (name : Name) (one other : Option SchedRow) → IsLookedUp held name one → IsLookedUp held name other → one ≡ other
IsLookedUp-same held name None None p q = refl
IsLookedUp-same held name None (Some other) p q = absurd (not_both held name other q p)
IsLookedUp-same held name (Some one) None p q = absurd (not_both held name one p q)
IsLookedUp-same held name (Some one) (Some other) p q =
    ap Some (IsFirstUnder-same held name one other p q)

-- what a call answers is the first row under its name afterwards
pub Answers-first : (old new : List SchedRow) (row first : SchedRow) → Answers old row first new → IsFirstUnder new row.name first
Answers-first old new row first (inl known) = rw known.1 known.0
Answers-first old new row first (inr created) = record {
  before = old;
  after = [];
  parts = created.1 ∙ ap (λ (r : SchedRow). old ++ r ∷ []) (sym created.2);
  named = ap (λ (r : SchedRow). r.name) created.2;
  first = created.0;
}

-- ---- rows of which no two are under one name

found : (held : List SchedRow) (k : ℕ) (row default : SchedRow) → slice_get held k ≡ Some row → get_or held k default ≡ row
found held k row default at =
    sym (unwrap_or-slice_get held k default) ∙ ap (λ (o : Option SchedRow). unwrap_or o default) at

pub once_behind : (row : SchedRow) (held : List SchedRow) → AreNamedOnce (row ∷ held) → AreNamedOnce held
once_behind row held once i j d before within = once (suc i) (suc j) d (omega (arith, before)) (omega (arith, within))

-- each row is the first under its name
pub AreNamedOnce-first : (held : List SchedRow) (k : ℕ) (row : SchedRow) → AreNamedOnce held → slice_get held k ≡ Some row → IsFirstUnder held row.name row
AreNamedOnce-first [] k row once at = absurd cc
AreNamedOnce-first (x ∷ held) zero row once at =
    let same : x ≡ row = cc in
    record { before = []; after = held; parts = ap (λ (r : SchedRow). r ∷ held) same; named = refl; first = All-nil (λ r. r.name ≢ row.name) }
AreNamedOnce-first (x ∷ held) (suc k) row once at =
    let later = AreNamedOnce-first held k row (once_behind x held once) at in
    let within : k < length held = slice_get_within held k row at in
    let apart : x.name ≢ (get_or held k row).name = once 0 (suc k) row (omega arith) (omega (arith, within)) in
    let other : x.name ≢ row.name = λ e. apart (e ∙ ap (λ (r : SchedRow). r.name) (sym (found held k row row at))) in
    record {
      before = x ∷ later.before;
      after = later.after;
      parts = ap (λ rows. x ∷ rows) later.parts;
      named = later.named;
      first = All-cons (λ r. r.name ≢ row.name) x later.before other later.first;
    }

-- ---- late rows

-- a call on a name that is held leaves the late rows
pub MayGoLate-known : (held held' late late' : List SchedRow) (row first : SchedRow) (result : Result SchedRow CallFault) → MayGoLate held held' late late' row result
    → IsFirstUnder held row.name first → late' ≡ late
MayGoLate-known held held' late late' row first result (inl same) is = same
MayGoLate-known held held' late late' row first result (inr goes) is = absurd (not_both held row.name first is goes.1.none)
