-- The due instants of a job, gathered one after another.
use Rattle.std.proofs.Common.{◌≡◌, ℕ, ◌+◌, ◌<◌, ◌≤◌, ◌⊎◌, inl, inr, List, [], ◌∷◌, ◌++◌, length, get_or, Option, None, Some, ℤ, pos, negsuc, ◌-ℤ◌, ◌≤ℤ◌, ◌<ℤ◌, unsigned_abs, refl, ap, subst, arith}
use Rattle.std.specs.Prelude.{All, Contains, ⊤}
use Rattle.std.proofs.Math.ListN.{get_or-map}
use Rattle.std.proofs.lemmas.Int.{ints}
use Rattle.std.proofs.lemmas.List.{length-map}
use Rattle.std.proofs.lemmas.List.Elements.{Contains-append_left, Contains-get_or, Contains-push, Contains-push_cases}
use Rattle.zone_minutes.specs.Window.{IsInWindow}
use Rattle.zone_minutes.specs.declared.minute.Minute.{Minute}
use Rattle.zone_minutes.specs.declared.minute.Window.{Window}
use Rattle.due_set.specs.Due.{IsRising}
use Rattle.due_set.specs.Table.{Table, IsAfter, IsJobDue, IsJobDueList, IsNextDue}
use Rattle.due_set.proofs.Rising.{Contains-none, IsRising-push}
use Rattle.due_set.proofs.TableLemmas.{cases_ltℤ}
use Rattle.due_list.specs.Parts.{numbers_of_instants}
use Rattle.due_set.proofs.CountLemmas.{abs_below}

-- the instant, where there is one, is in the window
abbrev pub IsInside : Window → Option ℤ → Type 0
IsInside window None = ⊤
IsInside window (Some instant) = IsInWindow window instant

-- the job's due instants up to the last one, if there is one
pub record DuesUpTo (table : Table) (version number : ℕ) (instants : List ℤ) (last : Option ℤ) : Type 0 where
  pub inside : IsInside table.window last
  pub rising : IsRising instants
  pub sound : (t : ℤ) → Contains instants t → IsJobDue table version number t
  pub none_after : (t : ℤ) → Contains instants t → IsAfter last t → ⊥
  pub complete : (t : ℤ) → IsJobDue table version number t → (IsAfter last t → ⊥) → Contains instants t

pub dues_none : (table : Table) (version number : ℕ) → DuesUpTo table version number [] None
dues_none table version number = record {
  inside = tt;
  rising = tt;
  sound = λ t h. absurd (Contains-none t h);
  none_after = λ t h after. Contains-none t h;
  complete = λ t due before. absurd (before tt);
}

after_or_not : (last : Option ℤ) (t : ℤ) → IsAfter last t ⊎ (IsAfter last t → ⊥)
after_or_not None t = inl tt
after_or_not (Some b) t = elim (cases_ltℤ b t) [ inl lt ↦ inl lt | inr le ↦ inr (λ lt. not_both b t le lt) ]
  where
    not_both : (b t : ℤ) → t ≤ℤ b → b <ℤ t → ⊥
    not_both b t le lt = omega (arith, ints)

earlier : (last : Option ℤ) (x t : ℤ) → (IsAfter last x → ⊥) → IsAfter last t → x <ℤ t
earlier None x t before after = absurd (before tt)
earlier (Some b) x t before after = elim (cases_ltℤ b x) [ inl lt ↦ absurd (before lt) | inr le ↦ chain x b t le after ]
  where
    chain : (x b t : ℤ) → x ≤ℤ b → b <ℤ t → x <ℤ t
    chain x b t le lt = omega (arith, ints)

-- one due instant more
pub dues_push : (table : Table) (version number : ℕ) (instants : List ℤ) (last : Option ℤ) (t : ℤ) → DuesUpTo table version number instants last
    → IsNextDue table version number last t → DuesUpTo table version number (instants ++ t ∷ []) (Some t)
dues_push table version number instants last t known next = record {
  inside = next.due.inside;
  rising = IsRising-push instants t known.rising before;
  sound = λ u h. elim (Contains-push_cases instants t u h) [
    | inl had ↦ known.sound u had
    | inr e ↦ subst (IsJobDue table version number) e next.due
  ];
  none_after = λ u h after. elim (Contains-push_cases instants t u h) [
    | inl had ↦ not_both u (before u had) after
    | inr e ↦ not_itself u e after
  ];
  complete = λ u due up_to. elim (after_or_not last u) [
    | inl after ↦ subst (Contains (instants ++ t ∷ [])) (same u (next.least u due after) up_to) (Contains-push instants t)
    | inr before_last ↦ Contains-append_left instants (t ∷ []) u (known.complete u due before_last)
  ];
}
  where
    before : (u : ℤ) → Contains instants u → u <ℤ t
    before u h = earlier last u t (known.none_after u h) next.later

    not_both : (u : ℤ) → u <ℤ t → t <ℤ u → ⊥
    not_both u a b = omega (arith, ints)

    not_itself : (u : ℤ) → t ≡ u → t <ℤ u → ⊥
    not_itself u e lt = omega (arith, ints)

    equal : (u : ℤ) → t ≤ℤ u → u ≤ℤ t → t ≡ u
    equal u a b = omega (arith, ints)

    same : (u : ℤ) → t ≤ℤ u → (t <ℤ u → ⊥) → t ≡ u
    same u le up_to = elim (cases_ltℤ t u) [ inl lt ↦ absurd (up_to lt) | inr ge ↦ equal u le ge ]

-- all of them
pub dues_all : (table : Table) (version number : ℕ) (instants : List ℤ) (last : Option ℤ) → DuesUpTo table version number instants last
    → ((t : ℤ) → IsJobDue table version number t → IsAfter last t → ⊥) → IsJobDueList table version number instants
dues_all table version number instants last known none =
    record { rising = known.rising; sound = known.sound; complete = λ t due. known.complete t due (none t due) }

pub instants_push : (minutes : List Minute) (minute : Minute) → numbers_of_instants (minutes ++ minute ∷ []) ≡ numbers_of_instants minutes ++ minute.0 ∷ []
instants_push [] minute = refl
instants_push (first ∷ minutes) minute = ap (λ (l : List ℤ). first.0 ∷ l) (instants_push minutes minute)

-- how many minutes of the window may be left behind the last instant
abbrev pub minutes_left : Window → Option ℤ → ℕ
minutes_left window None = unsigned_abs (window.until.0 -ℤ window.from.0) + 1
minutes_left window (Some last) = unsigned_abs (window.until.0 -ℤ last)

abs_le : (x y : ℤ) → pos 0 ≤ℤ x → x ≤ℤ y → unsigned_abs x ≤ unsigned_abs y
abs_le (pos m) (pos n) from le = omega (arith, ints)
abs_le (pos m) (negsuc n) from le = absurd (omega (arith, ints))
abs_le (negsuc m) y from le = absurd (omega (arith, ints))

pub fewer_left : (table : Table) (version number : ℕ) (last : Option ℤ) (t : ℤ) → IsNextDue table version number last t
    → minutes_left table.window (Some t) < minutes_left table.window last
fewer_left table version number last t next = by_last last next.later
  where
    in_window : IsInWindow table.window t
    in_window = next.due.inside

    by_last : (last : Option ℤ) → IsAfter last t → minutes_left table.window (Some t) < minutes_left table.window last
    by_last None later =
        let since : table.window.from.0 ≤ℤ t = in_window.since in
        let before : t <ℤ table.window.until.0 = in_window.before in
        let le : unsigned_abs (table.window.until.0 -ℤ t) ≤ unsigned_abs (table.window.until.0 -ℤ table.window.from.0) =
        abs_le (table.window.until.0 -ℤ t) (table.window.until.0 -ℤ table.window.from.0) (omega (arith, ints)) (omega (arith, ints)) in
        omega arith
    by_last (Some b) later =
        let after : b <ℤ t = later in
        let before : t <ℤ table.window.until.0 = in_window.before in
        abs_below (table.window.until.0 -ℤ t) (table.window.until.0 -ℤ b) (omega (arith, ints)) (omega (arith, ints))

-- each of the minutes is a due instant
pub each_due : (table : Table) (version number : ℕ) (minutes : List Minute) → IsJobDueList table version number (numbers_of_instants minutes)
    → All (λ minute. IsJobDue table version number minute.0) minutes
each_due table version number minutes list k d lt =
    let at_of : Minute → ℤ = λ minute. minute.0 in
    let size : length (numbers_of_instants minutes) ≡ length minutes = length-map minutes at_of in
    let among : Contains (numbers_of_instants minutes) (get_or (numbers_of_instants minutes) k d.0) = Contains-get_or (numbers_of_instants minutes) k d.0 (omega arith) in
    list.sound (get_or minutes k d).0 (subst (Contains (numbers_of_instants minutes)) (get_or-map at_of minutes k d) among)
