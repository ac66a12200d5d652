-- The lines that begin the versions of a run's tables.
use Rattle.std.proofs.Common.{◌≡◌, ℕ, suc, ◌≤◌, ◌+◌, List, [], ◌∷◌, ◌++◌, length, ℤ, ◌≤ℤ◌, refl, ◌∙◌, sym, arith, codes, decimal, All, length-append}
use Rattle.std.specs.Prelude.{AllPairs}
use Rattle.std.proofs.lemmas.Int.{ints}
use Rattle.std.proofs.lemmas.List.{append_cancel_left}
use Rattle.std.proofs.lemmas.List.Elements.{All-nil, All-cons, All-head, All-tail, All-push, All-weaker}
use Rattle.std.proofs.lemmas.List.Quantifiers.{all_pairs_push}
use Rattle.std.proofs.lemmas.Fmt.{decimal_injective}
use Rattle.zone_minutes.specs.Civil.{IsCalendarMinute}
use Rattle.zone_minutes.specs.Stamp.{stamp_text}
use Rattle.zone_minutes.specs.Window.{IsInWindow}
use Rattle.zone_minutes.specs.declared.minute.Minute.{Minute}
use Rattle.zone_minutes.specs.declared.minute.Window.{Window}
use Rattle.zone_minutes.proofs.StampLemmas.{stamp_text-injective}
use Rattle.script_text.proofs.CutLemmas.{IsCutAtSpace, same_cut}
use Rattle.script_text.proofs.OperandLemmas.{decimal_no_space, number_parts}
use Rattle.run_text.specs.Run.{Run, Section, run_with, with_section, with_version}
use Rattle.run_text.specs.Sound.{IsNotLater, AreVersionLines}
use Rattle.run_text.specs.Steps.{IsKnown, IsNextVersion}
use Rattle.run_text.specs.declared.part.Known.{Known}
use Rattle.run_text.specs.Versions.{version_line, HasVersionWord, last_from, BeginsVersion}
use Rattle.run_text.specs.declared.run.VersionLine.{VersionLine}

-- the first word of a version's line
pub version_word : (line : List ℕ) (number : ℕ) (from : Minute) → line ≡ version_line number from → HasVersionWord line
version_word line number from is = rw is refl

same_minute : (a b : Minute) → a.0 ≡ b.0 → a ≡ b
same_minute a b is = rw is

module _ (line rest : List ℕ) (stripped : line ≡ codes "version " ++ rest) (number : ℕ) (from : Minute) (is : line ≡ version_line number from) where
  -- what is behind the word
  pub behind_version_word : rest ≡ decimal number ++ 32 ∷ stamp_text from.0
  behind_version_word = append_cancel_left (codes "version ") rest (decimal number ++ 32 ∷ stamp_text from.0) (sym stripped ∙ is)

  pub version_parts : (front last : List ℕ) → IsCutAtSpace rest front last → number ≤ 7 → (front ≡ decimal number) × (last ≡ stamp_text from.0)
  version_parts front last cut small = number_parts rest front last number (stamp_text from.0) cut (omega arith) behind_version_word

-- what a version's line says, it says alone
pub one_version : (line : List ℕ) (k l : ℕ) (a b : Minute) → k ≤ 7 → l ≤ 7 → IsCalendarMinute a.0 → IsCalendarMinute b.0
    → line ≡ version_line k a → line ≡ version_line l b → (k ≡ l) × (a ≡ b)
one_version line k l a b small few in_a in_b first second =
    let rest = append_cancel_left (codes "version ") (decimal k ++ (32 ∷ stamp_text a.0)) (decimal l ++ (32 ∷ stamp_text b.0)) (sym first ∙ second) in
    let parts = same_cut 32 (decimal k) (decimal l) (stamp_text a.0) (stamp_text b.0) (decimal_no_space k (omega arith)) (decimal_no_space l (omega arith)) rest in
    (decimal_injective k l (omega arith) (omega arith) parts.0, same_minute a b (stamp_text-injective a.0 b.0 in_a in_b parts.1))

-- a line begins one version
pub one_beginning : (run : Run) (line : List ℕ) (a b : Minute) → BeginsVersion run line a → BeginsVersion run line b → a ≡ b
one_beginning run line a b first second =
    (one_version line (suc (length run.versions)) (suc (length run.versions)) a b (omega (arith, first.few)) (omega (arith, first.few))
    first.calendar second.calendar first.is second.is).1

-- the last of some versions with one more
pub last_push : (from : ℤ) (versions : List VersionLine) (version : VersionLine) → last_from from (versions ++ version ∷ []) ≡ version.from.0
last_push from [] version = refl
last_push from (first ∷ versions) version = last_push first.from.0 versions version

-- an instant that none of some versions comes before
last_after : (bound from : ℤ) (versions : List VersionLine) → bound ≤ℤ from → All (λ (v : VersionLine). bound ≤ℤ v.from.0) versions → bound ≤ℤ last_from from versions
last_after bound from [] below all = below
last_after bound from (first ∷ versions) below all =
    last_after bound first.from.0 versions (All-head (λ (v : VersionLine). bound ≤ℤ v.from.0) first versions all)
    (All-tail (λ (v : VersionLine). bound ≤ℤ v.from.0) first versions all)

-- none of some versions comes behind the last
each_before_last : (from : ℤ) (versions : List VersionLine) → AllPairs IsNotLater versions → All (λ (v : VersionLine). v.from.0 ≤ℤ last_from from versions) versions
each_before_last from [] in_order = All-nil (λ (v : VersionLine). v.from.0 ≤ℤ last_from from [])
each_before_last from (first ∷ versions) in_order =
    let behind : All (λ (v : VersionLine). first.from.0 ≤ℤ v.from.0) versions = λ k d inside. (in_order 0 (suc k) d (omega arith) (omega arith)).by_instant in
    let rest : AllPairs IsNotLater versions = λ i j d below inside. in_order (suc i) (suc j) d (omega arith) (omega arith) in
    All-cons (λ (v : VersionLine). v.from.0 ≤ℤ last_from first.from.0 versions) first versions
    (last_after first.from.0 first.from.0 versions (omega (arith, ints)) behind) (each_before_last first.from.0 versions rest)

-- a run without versions after the first
pub no_versions : (members : ℕ) (window : Window) (grace : ℕ) → AreVersionLines (run_with members window grace)
no_versions members window grace = record {
  few = omega arith;
  inside = All-nil (λ (v : VersionLine). IsInWindow window v.from.0);
  within = All-nil (λ (v : VersionLine). v.first_section ≤ 0);
  in_order = λ i j d below inside. absurd (omega arith);
}

-- the versions of a run with a section more
pub versions_kept : (run : Run) (section : Section) → AreVersionLines run → AreVersionLines (with_section run section)
versions_kept run section are = record {
  few = are.few;
  inside = are.inside;
  within = All-weaker (λ (v : VersionLine). v.first_section ≤ length run.sections) (λ (v : VersionLine). v.first_section ≤ length (run.sections ++ section ∷ []))
      (λ v below. omega (arith, below, length-append run.sections (section ∷ []))) run.versions are.within;
  in_order = are.in_order;
}

-- one version more
pub versions_pushed : (run : Run) (number : ℕ) (line : List ℕ) (from : Minute) → AreVersionLines run → BeginsVersion run line from
    → AreVersionLines (with_version run number from)
versions_pushed run number line from are begins =
    let version : VersionLine = record { line = number; from = from; first_section = length run.sections } in
    let since = last_after run.window.from.0 run.window.from.0 run.versions (omega (arith, ints))
    (All-weaker (λ (v : VersionLine). IsInWindow run.window v.from.0) (λ (v : VersionLine). run.window.from.0 ≤ℤ v.from.0) (λ v inside. inside.since) run.versions are.inside) in
    let before = each_before_last run.window.from.0 run.versions are.in_order in
    record {
      few = omega (arith, length-append run.versions (version ∷ []), begins.few);
      inside = All-push (λ (v : VersionLine). IsInWindow run.window v.from.0) run.versions version are.inside
          (record { since = omega (arith, ints, since, begins.in_order); before = begins.inside });
      within = All-push (λ (v : VersionLine). v.first_section ≤ length run.sections) run.versions version are.within (omega arith);
      in_order = all_pairs_push IsNotLater run.versions version are.in_order
          (λ k d inside. record { by_instant = omega (arith, ints, before k d inside, begins.in_order); by_sections = are.within k d inside });
    }

-- what is known of a run with a version more
pub known_begun : (known : Known) (run : Run) (number version : ℕ) (from : Minute) → IsKnown known run → IsNextVersion known version from
    → IsKnown (record { names = known.names; window = known.window; next = version + 1; from = from }) (with_version run number from)
known_begun known run number version from is next =
    let begun : VersionLine = record { line = number; from = from; first_section = length run.sections } in
    record {
      names = is.names;
      window = is.window;
      versions = omega (arith, is.versions, next.number, length-append run.versions (begun ∷ []));
      last = last_push run.window.from.0 run.versions begun;
    }

-- the version that a line begins is the one that comes next, by what is known
pub begins_next : (known : Known) (run : Run) (line : List ℕ) (version : ℕ) (from begun : Minute) → IsKnown known run → version ≤ 7 → IsCalendarMinute from.0
    → line ≡ version_line version from → BeginsVersion run line begun → IsNextVersion known version from
begins_next known run line version from begun is small calendar says begins =
    let same = one_version line version (suc (length run.versions)) from begun small (omega (arith, begins.few)) calendar begins.calendar says begins.is in
    record {
      number = same.0 ∙ is.versions;
      in_order = rw (← is.last, same.1) begins.in_order;
      inside = rw (← is.window, same.1) begins.inside;
    }
