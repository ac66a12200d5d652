-- What comes of a ledger's calls: one answer, and always one.
use Rattle.std.proofs.Common.{◌≡◌, ℕ, Bool, List, [], ◌++◌, Option, None, Some, Result, Ok, Err, refl, sym, ap, subst, ◌∙◌, inl, inr, arith}
use Rattle.std.specs.Prelude.{IsTrue, unwrap_or}
use Rattle.std.proofs.lemmas.Bool.Decides.{same_from_decides}
use Rattle.std.proofs.lemmas.List.{append-nil}
use Rattle.cluster_sched.specs.Calls.{AfterLook, IsCall}
use Rattle.cluster_sched.specs.Fates.{Holdings, IsUnchanged, Outcome, LooksUp, look_answer, fate_after_look, faults_after, added, creation, call, ComesTo, CreatesRow, CallsByName, Creates, Calls, HoldsRow, Arrives}
use Rattle.cluster_sched.specs.Held.{IsFirstUnder, IsLookedUp}
use Rattle.cluster_sched.specs.declared.fate.Fate.{Fate}
use Rattle.cluster_sched.specs.declared.fate.Fate.TheVariants.{Done, LostBefore, LostAfter, Late}
use Rattle.cluster_sched.specs.declared.fault.CallFault.{CallFault}
use Rattle.cluster_sched.specs.declared.fault.CallFault.TheVariants.{Failed}
use Rattle.cluster_sched.specs.declared.row.Name.{Name}
use Rattle.cluster_sched.specs.declared.row.SchedRow.{SchedRow}
use Rattle.cluster_sched.proofs.ArrivalLemmas.{Arrives-told}
use Rattle.cluster_sched.proofs.HeldLemmas.{IsLookedUp-same}
use Rattle.cluster_sched.proofs.LedgerLemmas.{IsLookedUp-some, row_eq}

-- ---- one answer

same_holdings : (one other : Holdings) → one.held ≡ other.held → one.late ≡ other.late → one.fate ≡ other.fate → one.faults ≡ other.faults → one.spare ≡ other.spare → one ≡ other
same_holdings one other held late fate faults spare =
    let make : List SchedRow → List SchedRow → Fate → ℕ → ℕ → Holdings = λ h l f n s. record { held = h; late = l; fate = f; faults = n; spare = s } in
    let e : make one.held one.late one.fate one.faults one.spare ≡ make other.held other.late other.fate other.faults other.spare = rw (held, late, fate, faults, spare) in
    e

-- a look has one answer, and leaves one ledger
pub LooksUp-same : (old one other : Holdings) (name : Name) (a b : Result (Option SchedRow) CallFault) → LooksUp old name a one → LooksUp old name b other → (a ≡ b) × (one ≡ other)
LooksUp-same old one other name a b p q =
    let found : p.found ≡ q.found = IsLookedUp-same old.held name p.found q.found p.is_found q.is_found in
    let answer : a ≡ b = p.answer ∙ ap (look_answer old.fate) found ∙ sym q.answer in (
      answer,
      same_holdings one other (p.held ∙ sym q.held) (p.late ∙ sym q.late)
          (p.fate ∙ ap (fate_after_look old.fate) answer ∙ sym q.fate)
          (p.faults ∙ ap (λ (r : Result (Option SchedRow) CallFault). faults_after old.faults r) answer ∙ sym q.faults)
          (p.spare ∙ sym q.spare),
    )

-- an outcome has one answer, and leaves one ledger but for its room
ComesTo-same : (one_comes other_comes : Outcome) (old one other : Holdings) (a b : Result SchedRow CallFault) → one_comes ≡ other_comes
    → ComesTo one_comes old a one → ComesTo other_comes old b other → (a ≡ b) × IsUnchanged one other
ComesTo-same x y old one other a b e p q =
    let answer : a ≡ b = p.answer ∙ ap (λ (o : Outcome). o.answer) e ∙ sym q.answer in (
      answer,
      record {
        held = q.held ∙ ap (λ (o : Outcome). old.held ++ o.held) (sym e) ∙ sym p.held;
        late = q.late ∙ ap (λ (o : Outcome). old.late ++ o.late) (sym e) ∙ sym p.late;
        fate = q.fate ∙ sym p.fate;
        faults = q.faults ∙ ap (λ (r : Result SchedRow CallFault). faults_after old.faults r) (sym answer) ∙ sym p.faults;
      },
    )

pub CreatesRow-same : (old one other : Holdings) (row : SchedRow) (a b : Result SchedRow CallFault) → CreatesRow old row a one → CreatesRow old row b other → (a ≡ b) × IsUnchanged one other
CreatesRow-same old one other row a b p q =
    let found : p.found ≡ q.found = IsLookedUp-same old.held row.name p.found q.found p.is_found q.is_found in
    ComesTo-same (creation old.fate row p.found) (creation old.fate row q.found) old one other a b (ap (creation old.fate row) found) p.comes q.comes

pub CallsByName-same : (old one other : Holdings) (row : SchedRow) (a b : Result SchedRow CallFault) → CallsByName old row a one → CallsByName old row b other → (a ≡ b) × IsUnchanged one other
CallsByName-same old one other row a b p q =
    let found : p.found ≡ q.found = IsLookedUp-same old.held row.name p.found q.found p.is_found q.is_found in
    ComesTo-same (call old.fate row p.found) (call old.fate row q.found) old one other a b (ap (call old.fate row) found) p.comes q.comes

pub Arrives-same : (old one other : Holdings) (row : SchedRow) (a b : Bool) → Arrives old row a one → Arrives old row b other → (a ≡ b) × IsUnchanged one other
Arrives-same old one other row a b p q =
    let found : p.found ≡ q.found = IsLookedUp-same old.held row.name p.found q.found p.holds.is_found q.holds.is_found in
    let held : other.held ≡ one.held = q.holds.held ∙ ap (λ (f : Option SchedRow). old.held ++ added row f) (sym found) ∙ sym p.holds.held in
    let told = subst (λ (rows : List SchedRow). (IsTrue b → IsFirstUnder rows row.name row) × (IsFirstUnder rows row.name row → IsTrue b)) held q.told in (
      same_from_decides a b p.told told,
      record {
        held = held;
        late = q.holds.late ∙ sym p.holds.late;
        fate = q.holds.fate ∙ sym p.holds.fate;
        faults = q.holds.faults ∙ sym p.holds.faults;
      },
    )

-- ---- always one

pub LooksUp-some : (old : Holdings) (name : Name) → (result : Result (Option SchedRow) CallFault) × (new : Holdings) × LooksUp old name result new
LooksUp-some old name =
    let looked = IsLookedUp-some old.held name in
    let answer = look_answer old.fate looked.0 in
    let new : Holdings = record old { fate = fate_after_look old.fate answer; faults = faults_after old.faults answer } in
    (answer, new, record { found = looked.0; is_found = looked.1; answer = refl; held = refl; late = refl; fate = refl; faults = refl; spare = refl })

ComesTo-some : (comes : Outcome) (old : Holdings) → (new : Holdings) × ComesTo comes old comes.answer new
ComesTo-some comes old =
    let new : Holdings = record { held = old.held ++ comes.held; late = old.late ++ comes.late; fate = Done; faults = faults_after old.faults comes.answer; spare = old.spare } in
    (new, record { answer = refl; held = refl; late = refl; fate = refl; faults = refl; spare = omega arith })

pub CreatesRow-some : (old : Holdings) (row : SchedRow) → (result : Result SchedRow CallFault) × (new : Holdings) × CreatesRow old row result new
CreatesRow-some old row =
    let looked = IsLookedUp-some old.held row.name in
    let comes = ComesTo-some (creation old.fate row looked.0) old in
    ((creation old.fate row looked.0).answer, comes.0, record { found = looked.0; is_found = looked.1; comes = comes.1 })

pub CallsByName-some : (old : Holdings) (row : SchedRow) → (result : Result SchedRow CallFault) × (new : Holdings) × CallsByName old row result new
CallsByName-some old row =
    let looked = IsLookedUp-some old.held row.name in
    let comes = ComesTo-some (call old.fate row looked.0) old in
    ((call old.fate row looked.0).answer, comes.0, record { found = looked.0; is_found = looked.1; comes = comes.1 })

pub Arrives-some : (old : Holdings) (row : SchedRow) → (stands : Bool) × (new : Holdings) × Arrives old row stands new
Arrives-some old row =
    let looked = IsLookedUp-some old.held row.name in
    let new : Holdings = record old { held = old.held ++ added row looked.0 } in
    let holds : HoldsRow old row looked.0 new = record { is_found = looked.1; held = refl; late = refl; fate = refl; faults = refl; spare = omega arith } in
    let stands = row_eq (unwrap_or looked.0 row) row in
    (stands, new, Arrives-told old new row looked.0 stands holds refl)

-- ---- a call by a name

-- a call that its look answers
at_look : (old between new : Holdings) (name : Name) (looked : Result (Option SchedRow) CallFault) (result answer : Result SchedRow CallFault)
    → LooksUp old name looked between → result ≡ answer → new ≡ between → fate_after_look old.fate looked ≡ Done
    → faults_after old.faults looked ≡ faults_after old.faults answer
    → ComesTo (record { answer = answer; held = []; late = [] }) old result new
at_look old between new name looked result answer looks is same spent counted = record {
  answer = is;
  held = ap (λ (h : Holdings). h.held) same ∙ looks.held ∙ sym (append-nil old.held);
  late = ap (λ (h : Holdings). h.late) same ∙ looks.late ∙ sym (append-nil old.late);
  fate = ap (λ (h : Holdings). h.fate) same ∙ looks.fate ∙ spent;
  faults = ap (λ (h : Holdings). h.faults) same ∙ looks.faults ∙ counted ∙ ap (λ (r : Result SchedRow CallFault). faults_after old.faults r) (sym is);
  spare = let e : new.spare ≡ old.spare = ap (λ (h : Holdings). h.spare) same ∙ looks.spare in omega arith;
}

-- a look that finds nothing changes nothing
nothing_looked : (old between : Holdings) (name : Name) → LooksUp old name (Ok None) between → between ≡ old
nothing_looked old between name looks = same_holdings between old looks.held looks.late looks.fate looks.faults looks.spare

-- a call by a name that comes to a creation
at_creation : (old between new : Holdings) (row : SchedRow) (result : Result SchedRow CallFault) → IsLookedUp old.held row.name None
    → LooksUp old row.name (Ok None) between → Creates between row result new → Calls old row result new
at_creation old between new row result none looks creates =
    by (subst (λ (h : Holdings). Creates h row result new) (nothing_looked old between row.name looks) creates)
  where
    by : Creates old row result new → Calls old row result new
    by (inr lacks) = inr lacks
    by (inl c) =
        let found : c.found ≡ None = IsLookedUp-same old.held row.name c.found None c.is_found none in
        inl (record { found = None; is_found = none; comes = subst (λ (f : Option SchedRow). ComesTo (creation old.fate row f) old result new) found c.comes })

-- what a look and a creation come to is what a call by a name comes to
pub Calls-by_parts : (old new : Holdings) (row : SchedRow) (result : Result SchedRow CallFault) → IsCall LooksUp Creates old row result new → Calls old row result new
Calls-by_parts old new row result c =
    by old.fate refl c.looked.found refl (subst (λ (a : Result (Option SchedRow) CallFault). AfterLook LooksUp Creates a c.between row result new) c.looked.answer c.after)
  where
    looked_as : (fate : Fate) → old.fate ≡ fate → (found : Option SchedRow) → c.looked.found ≡ found → LooksUp old row.name (look_answer fate found) c.between
    looked_as kind is_fate found is_found =
        let answer : c.found ≡ look_answer kind found = c.looked.answer ∙ rw (is_fate, is_found) in
        subst (λ (a : Result (Option SchedRow) CallFault). LooksUp old row.name a c.between) answer c.looked

    is_looked : (found : Option SchedRow) → c.looked.found ≡ found → IsLookedUp old.held row.name found
    is_looked found is = subst (IsLookedUp old.held row.name) is c.looked.is_found

    ends : (fate : Fate) → old.fate ≡ fate → (found : Option SchedRow) → c.looked.found ≡ found → ComesTo (call fate row found) old result new → Calls old row result new
    ends kind is_fate found is_found comes =
        inl (record { found = found; is_found = is_looked found is_found; comes = subst (λ (f : Fate). ComesTo (call f row found) old result new) (sym is_fate) comes })

    by : (fate : Fate) → old.fate ≡ fate → (found : Option SchedRow) → c.looked.found ≡ found → AfterLook LooksUp Creates (look_answer fate found) c.between row result new → Calls old row result new
    by Done f None e after = at_creation old c.between new row result (is_looked None e) (looked_as Done f None e) after
    by Done f (Some first) e after = ends Done f (Some first) e (at_look old c.between new row.name (Ok (Some first)) result (Ok first) (looked_as Done f (Some first) e) after.0 after.1 refl refl)
    by LostBefore f None e after = ends LostBefore f None e (at_look old c.between new row.name (Err Failed) result (Err Failed) (looked_as LostBefore f None e) after.0 after.1 refl refl)
    by LostBefore f (Some first) e after = ends LostBefore f (Some first) e (at_look old c.between new row.name (Err Failed) result (Err Failed) (looked_as LostBefore f (Some first) e) after.0 after.1 refl refl)
    by LostAfter f None e after = at_creation old c.between new row result (is_looked None e) (looked_as LostAfter f None e) after
    by LostAfter f (Some first) e after = ends LostAfter f (Some first) e (at_look old c.between new row.name (Err Failed) result (Err Failed) (looked_as LostAfter f (Some first) e) after.0 after.1 refl refl)
    by Late f None e after = at_creation old c.between new row result (is_looked None e) (looked_as Late f None e) after
    by Late f (Some first) e after = ends Late f (Some first) e (at_look old c.between new row.name (Ok (Some first)) result (Ok first) (looked_as Late f (Some first) e) after.0 after.1 refl refl)
