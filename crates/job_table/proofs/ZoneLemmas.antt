-- The zones of a run: their numbers, and what is built of them.
use Rattle.std.proofs.Common.{◌≡◌, ◌⊎◌, inl, inr, ℕ, zero, suc, ◌+◌, ◌<◌, ◌≤◌, Bool, true, false, cond, not, if◌then◌else◌, Some, None, List, [], ◌∷◌, ◌++◌, length, map, pos, take, drop, get_or, refl, ap, ◌∙◌, sym, subst, arith, codes, bytes_eq, true≢false, take-append-drop, drop-cons}
use Rattle.std.specs.List.{AllByRecursion, position_or_len}
use Rattle.std.specs.Prelude.{All, position, nat_lt}
use Rattle.std.proofs.lemmas.Bool.Decides.{nat_tests}
use Rattle.std.proofs.lemmas.List.{length-map, take_more, take_all, map-append}
use Rattle.std.proofs.lemmas.List.Elements.{All-nil, All-cons, All-push}
use Rattle.std.proofs.lemmas.Slice.Eq.{bytes_eq-Decides}
use Rattle.std.proofs.Math.ListN.{get_or-map}
use Rattle.due_set.specs.Table.{IsBuiltFor, utc_over}
use Rattle.run_text.specs.Reading.{IsReadRun}
use Rattle.run_text.specs.Run.{NamedZone, zone_of, run_of}
use Rattle.run_text.specs.Sound.{IsSoundSource, IsSoundZone}
use Rattle.run_text.specs.declared.refusal.Refusal.{Refusal}
use Rattle.run_text.specs.declared.run.RunFile.{RunFile}
use Rattle.run_text.specs.declared.run.ZoneLine.{ZoneLine}
use Rattle.run_text.proofs.SoundLemmas.{sound_run}
use Rattle.zone_minutes.specs.Zone.{Zone, Source, FixedOffset, zone_over, IsReadable, IsSourceRefused}
use Rattle.zone_minutes.specs.declared.minute.Window.{Window}
use Rattle.job_table.specs.Table.{at_line, HasBadZone}
use Rattle.job_table.specs.Zones.{AreReadable, HasZone, NamesZone, zone_place_of, zone_number, zones_over}
use Rattle.cron_fields.specs.declared.cause.Cause.TheVariants.{BadZone}

named_place : (name : List ℕ) (zones : List NamedZone) → (zone_place_of name zones < length zones) ⊎ (HasZone name zones → ⊥)
named_place name [] = inr (λ none. none)
named_place name (zone ∷ zones) = by (bytes_eq zone.name name) refl (named_place name zones)
  where
    by : (b : Bool) → bytes_eq zone.name name ≡ b → (zone_place_of name zones < length zones) ⊎ (HasZone name zones → ⊥)
        → ((if b then 0 else 1 + zone_place_of name zones) < suc (length zones)) ⊎ ((zone.name ≡ name) ⊎ HasZone name zones → ⊥)
    by true e later = inl (omega arith)
    by false e (inl below) = inl (omega (arith, below))
    by false e (inr none) = inr (λ named. elim named [ inl same ↦ true≢false (sym ((bytes_eq-Decides zone.name name).1 same) ∙ e) | inr has ↦ none has ])

-- a zone's name has the number of one of the table's zones, or names none
pub number_or_none : (name : List ℕ) (zones : List NamedZone) → (zone_number name zones < 1 + length zones) ⊎ (NamesZone name zones → ⊥)
number_or_none name zones = by (bytes_eq name (codes "UTC")) refl (named_place name zones)
  where
    by : (b : Bool) → bytes_eq name (codes "UTC") ≡ b → (zone_place_of name zones < length zones) ⊎ (HasZone name zones → ⊥)
        → ((if b then 0 else 1 + zone_place_of name zones) < 1 + length zones) ⊎ (NamesZone name zones → ⊥)
    by true e place = inl (omega arith)
    by false e (inl below) = inl (omega (arith, below))
    by false e (inr none) = inr (λ named. elim named [ inl same ↦ true≢false (sym ((bytes_eq-Decides name (codes "UTC")).1 same) ∙ e) | inr has ↦ none has ])

has_below : (name : List ℕ) (zones : List NamedZone) → zone_place_of name zones < length zones → HasZone name zones
has_below name [] below = absurd (omega arith)
has_below name (zone ∷ zones) below = by (bytes_eq zone.name name) refl (has_below name zones) below
  where
    by : (b : Bool) → bytes_eq zone.name name ≡ b → (zone_place_of name zones < length zones → HasZone name zones) → (if b then 0 else 1 + zone_place_of name zones) < suc (length zones) → (zone.name ≡ name) ⊎ HasZone name zones
    by true e later below = inl ((bytes_eq-Decides zone.name name).0 e)
    by false e later below = inr (later (omega arith))

below_has : (name : List ℕ) (zones : List NamedZone) → HasZone name zones → zone_place_of name zones < length zones
below_has name zones has = elim (named_place name zones) [ inl below ↦ below | inr none ↦ absurd (none has) ]

number_is : (name : List ℕ) (zones : List NamedZone) → bytes_eq name (codes "UTC") ≡ false → zone_number name zones ≡ 1 + zone_place_of name zones
number_is name zones is = ap (λ b. if b then 0 else 1 + zone_place_of name zones) is

-- the place of a name among lines as they stand in a program
same_place : (name : List ℕ) (lines : List ZoneLine) → position_or_len (λ (line : ZoneLine). bytes_eq line.name.now name) lines ≡ zone_place_of name (map zone_of lines)
same_place name [] = refl
same_place name (line ∷ lines) = by (bytes_eq line.name.now name) (same_place name lines)
  where
    by : (b : Bool) → position_or_len (λ (l : ZoneLine). bytes_eq l.name.now name) lines ≡ zone_place_of name (map zone_of lines)
        → cond (not b) (1 + position_or_len (λ (l : ZoneLine). bytes_eq l.name.now name) lines) 0 ≡ (if b then 0 else 1 + zone_place_of name (map zone_of lines))
    by true later = refl
    by false later = ap (λ n. 1 + n) later

-- a line of the name is found
pub found_line : (name : List ℕ) (lines : List ZoneLine) (place : ℕ) → bytes_eq name (codes "UTC") ≡ false → Some place ≡ position (λ (line : ZoneLine). bytes_eq line.name.now name) lines
    → (place + 1 ≡ zone_number name (map zone_of lines)) × NamesZone name (map zone_of lines)
found_line name lines place utc is = by (nat_lt (position_or_len (λ (line : ZoneLine). bytes_eq line.name.now name) lines) (length lines)) refl is
  where
    first : ℕ
    first = position_or_len (λ (line : ZoneLine). bytes_eq line.name.now name) lines

    by : (b : Bool) → nat_lt first (length lines) ≡ b → Some place ≡ cond b (Some first) None → (place + 1 ≡ zone_number name (map zone_of lines)) × NamesZone name (map zone_of lines)
    by true below found =
        let here : place ≡ first = cc in
        let same : first ≡ zone_place_of name (map zone_of lines) = same_place name lines in
        let inside : first < length lines = grind (arith, nat_tests) in
        let number = number_is name (map zone_of lines) utc in
        let size = length-map lines zone_of in
        (omega arith, inr (has_below name (map zone_of lines) (omega arith)))
    by false past found = absurd cc

-- no line has the name
pub no_line : (name : List ℕ) (lines : List ZoneLine) → bytes_eq name (codes "UTC") ≡ false → None ≡ position (λ (line : ZoneLine). bytes_eq line.name.now name) lines → NamesZone name (map zone_of lines) → ⊥
no_line name lines utc is (inl same) = true≢false (sym ((bytes_eq-Decides name (codes "UTC")).1 same) ∙ utc)
no_line name lines utc is (inr has) = by (nat_lt (position_or_len (λ (line : ZoneLine). bytes_eq line.name.now name) lines) (length lines)) refl is
  where
    first : ℕ
    first = position_or_len (λ (line : ZoneLine). bytes_eq line.name.now name) lines

    by : (b : Bool) → nat_lt first (length lines) ≡ b → None ≡ cond b (Some first) None → ⊥
    by true below found = cc
    by false past found =
        let same : first ≡ zone_place_of name (map zone_of lines) = same_place name lines in
        let below = below_has name (map zone_of lines) has in
        let size = length-map lines zone_of in
        let inside : first < length lines = omega arith in
        grind (arith, nat_tests)

-- the table's zones that are built of these
pub record BuiltSoFar (window : Window) (zones : List NamedZone) (built : List Zone) : Type 0 where
  pub are : built ≡ zones_over window zones
  pub built_for : All (IsBuiltFor window) built
  pub readable : AreReadable zones

built_for_window : (window : Window) (source : Source) (zone : Zone) → zone ≡ zone_over source window → IsReadable source → IsBuiltFor window zone
built_for_window window source zone is readable =
    subst (IsBuiltFor window) (sym is) (record { from = refl; until = refl; read = readable })

pub built_first : (window : Window) (zone : Zone) → zone ≡ zone_over (FixedOffset (pos 0)) window → IsReadable (FixedOffset (pos 0)) → BuiltSoFar window [] (zone ∷ [])
built_first window zone is readable = record {
  are = ap (λ z. z ∷ []) is;
  built_for = All-cons (IsBuiltFor window) zone [] (built_for_window window (FixedOffset (pos 0)) zone is readable) (All-nil (IsBuiltFor window));
  readable = All-nil (λ (z : NamedZone). IsReadable z.source);
}

built_more : (window : Window) (zones : List NamedZone) (zone : NamedZone) (before after : List Zone) (more : Zone) → BuiltSoFar window zones before
    → more ≡ zone_over zone.source window → IsReadable zone.source → after ≡ before ++ more ∷ [] → BuiltSoFar window (zones ++ zone ∷ []) after
built_more window zones zone before after more so_far is readable after_is = record {
  are = after_is ∙ ap (λ l. l ++ more ∷ []) so_far.are ∙ ap (λ z. zones_over window zones ++ z ∷ []) is
      ∙ ap (λ l. utc_over window ∷ l) (sym (map-append (λ (z : NamedZone). zone_over z.source window) zones (zone ∷ [])));
  built_for = subst (All (IsBuiltFor window)) (sym after_is) (All-push (IsBuiltFor window) before more so_far.built_for (built_for_window window zone.source more is readable));
  readable = All-push (λ (z : NamedZone). IsReadable z.source) zones zone so_far.readable readable;
}

one_more : (items : List ZoneLine) (i : ℕ) (d : ZoneLine) → i < length items → take (i + 1) (map zone_of items) ≡ take i (map zone_of items) ++ zone_of (get_or items i d) ∷ []
one_more items i d lt =
    let inside : i < length (map zone_of items) = omega (arith, length-map items zone_of) in
    take_more (map zone_of items) i (zone_of d) inside ∙ ap (λ z. take i (map zone_of items) ++ z ∷ []) (get_or-map zone_of items i d)

parted : (items : List ZoneLine) (i : ℕ) (d : ZoneLine) → i < length items
    → map zone_of items ≡ take i (map zone_of items) ++ zone_of (get_or items i d) ∷ drop (suc i) (map zone_of items)
parted items i d lt =
    let inside : i < length (map zone_of items) = omega (arith, length-map items zone_of) in
    sym (take-append-drop i (map zone_of items))
    ∙ ap (λ l. take i (map zone_of items) ++ l) (drop-cons (map zone_of items) i (zone_of d) inside ∙ ap (λ z. z ∷ drop (suc i) (map zone_of items)) (get_or-map zone_of items i d))

-- the next zone of a run
pub built_next : (window : Window) (lines items : List ZoneLine) (i : ℕ) (d : ZoneLine) (before after : List Zone) (more : Zone) → items ≡ lines → i < length items
    → BuiltSoFar window (take i (map zone_of lines)) before → more ≡ zone_over (zone_of (get_or items i d)).source window → IsReadable (zone_of (get_or items i d)).source
    → after ≡ before ++ more ∷ [] → BuiltSoFar window (take (i + 1) (map zone_of lines)) after
built_next window lines items i d before after more same lt so_far is readable after_is =
    let here = subst (λ l. BuiltSoFar window (take i (map zone_of l)) before) (sym same) so_far in
    subst (λ l. BuiltSoFar window (take (i + 1) (map zone_of l)) after) same
    (subst (λ l. BuiltSoFar window l after) (sym (one_more items i d lt)) (built_more window (take i (map zone_of items)) (zone_of (get_or items i d)) before after more here is readable after_is))

-- the next zone of a run is refused
pub bad_zone : (window : Window) (lines items : List ZoneLine) (i : ℕ) (d : ZoneLine) (before : List Zone) → items ≡ lines → i < length items
    → BuiltSoFar window (take i (map zone_of lines)) before → (refusal : Refusal) → IsSourceRefused (zone_of (get_or items i d)).source × (refusal ≡ at_line (zone_of (get_or items i d)).line BadZone)
    → HasBadZone (map zone_of lines) refusal
bad_zone window lines items i d before same lt so_far refusal (refused, is) =
    let here = subst (λ l. BuiltSoFar window (take i (map zone_of l)) before) (sym same) so_far in
    subst (λ l. HasBadZone (map zone_of l) refusal) same (record {
      before = take i (map zone_of items);
      zone = zone_of (get_or items i d);
      after = drop (suc i) (map zone_of items);
      parts = parted items i d lt;
      readable = here.readable;
      refused = refused;
      is = is;
    })

-- all zones
pub built_all : (window : Window) (lines items : List ZoneLine) (i : ℕ) (built : List Zone) → items ≡ lines → length items ≤ i → BuiltSoFar window (take i (map zone_of lines)) built
    → BuiltSoFar window (map zone_of lines) built
built_all window lines items i built same all so_far =
    subst (λ l. BuiltSoFar window l built) (take_all i (map zone_of lines) (omega (arith, length-map lines zone_of, ap length same))) so_far

-- the table has UTC and as many zones as the run names
pub zones_count : (window : Window) (zones : List NamedZone) (built : List Zone) → built ≡ zones_over window zones → 1 + length zones ≡ length built
zones_count window zones built is = omega (arith, ap length is, length-map zones (λ (z : NamedZone). zone_over z.source window))

all_get : (P : NamedZone → Type 0) (zones : List NamedZone) (i : ℕ) (d : NamedZone) → AllByRecursion P zones → i < length zones → P (get_or zones i d)
all_get P [] i d all lt = absurd (omega arith)
all_get P (zone ∷ zones) zero d all lt = all.0
all_get P (zone ∷ zones) (suc i) d all lt = all_get P zones i d all.1 (omega arith)

-- a run that was read has 32 zones at most
pub few_zones : (run : RunFile) → IsReadRun run → length run.zones.items ≤ 32
few_zones run read = let zones = (sound_run read.text (run_of run) read.says).zones in omega (arith, zones.few, length-map run.zones.items zone_of)

-- the source of each zone of a run that was read
pub sound_source : (run : RunFile) (items : List ZoneLine) (i : ℕ) (d : ZoneLine) → IsReadRun run → items ≡ run.zones.items → i < length items → IsSoundSource (zone_of (get_or items i d)).source
sound_source run items i d read same lt =
    let all = subst (λ l. AllByRecursion IsSoundZone (map zone_of l)) (sym same) (sound_run read.text (run_of run) read.says).zones.each in
    subst (λ z. IsSoundSource z.source) (get_or-map zone_of items i d)
    (all_get IsSoundZone (map zone_of items) i (zone_of d) all (omega (arith, length-map items zone_of))).source
