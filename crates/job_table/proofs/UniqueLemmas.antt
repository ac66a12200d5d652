-- A run has one verdict: a table, or a refusal.
use Rattle.std.proofs.Common.{◌≡◌, ℕ, suc, ◌+◌, ◌≤◌, List, [], ◌∷◌, ◌++◌, length, map, Option, None, Some, refl, ap, ◌∙◌, sym, subst, inl, inr, arith, append_assoc}
use Rattle.std.specs.Prelude.{All}
use Rattle.std.specs.List.{AllZip}
use Rattle.std.proofs.lemmas.List.{append-nil}
use Rattle.std.proofs.lemmas.List.Elements.{All-head, All-tail}
use Rattle.anacron_text.specs.Answers.{Said}
use Rattle.anacron_text.specs.LineBody.{AnacronLineBody}
use Rattle.anacron_text.specs.LogicalLines.{joined}
use Rattle.anacron_text.specs.Settings.{no_settings}
use Rattle.anacron_text.proofs.AnswerLemmas.{same_answers_below}
use Rattle.crontab_text.specs.Answers.{IsLineOf, LineAnswer, Said as SaidByCrontab}
use Rattle.crontab_text.specs.LineBody.{LineBody}
use Rattle.crontab_text.specs.declared.answer.Style.{Style}
use Rattle.crontab_text.proofs.AnswerLemmas.{same_answer}
use Rattle.due_set.specs.Table.{Table}
use Rattle.run_text.specs.Follow.{style_of}
use Rattle.run_text.specs.Run.{NamedZone, Section, Run}
use Rattle.run_text.specs.declared.refusal.Refusal.{Refusal}
use Rattle.job_table.specs.Marks.{Mark, MarksZone, MarksJob, marks_from, anacron_marks, AreTableMarks, AreSectionMarks, AreMarks, IsMarkFault, AreSoundBehind, AreSound, IsFirstMarkFault}
use Rattle.job_table.specs.Table.{names_in, table_of, at_line, AreMarksRefused, HasBadZone, HasLineAtFault, HasVersionAtFault, IsDueCount, IsTableOf, IsRefusedRun}
use Rattle.job_table.specs.Versions.{AreVersionMarks, sections_in}
use Rattle.job_table.specs.Zones.{AreReadable, zone_number}
use Rattle.zone_minutes.specs.Zone.{IsReadable, IsSourceRefused}
use Rattle.zone_minutes.proofs.VerdictLemmas.{not_refused as not_read_and_refused}
use Rattle.job_table.proofs.DueCountLemmas.{one_count}
use Rattle.job_table.proofs.VersionMarkLemmas.{AreMarksFrom, from_first}
use Rattle.cron_fields.specs.declared.cause.Cause.TheVariants.{BadZone}
use Rattle.run_text.proofs.UniqueLemmas.{same_refusal}

same_body : (style : Style) (owner line : List ℕ) (a b : LineBody) → IsLineOf style owner line a → IsLineOf style owner line b → a ≡ b
same_body style owner line a b first second =
    let same : ◌≡◌ {A = LineAnswer} (SaidByCrontab a) (SaidByCrontab b) = same_answer style owner line (SaidByCrontab a) (SaidByCrontab b) first second in cc

same_bodies : (style : Style) (owner : List ℕ) (lines : List (List ℕ)) (a b : List LineBody) → AllZip (IsLineOf style owner) lines a → AllZip (IsLineOf style owner) lines b → a ≡ b
same_bodies style owner [] [] [] first second = refl
same_bodies style owner [] [] (b ∷ bs) first second = absurd second
same_bodies style owner [] (a ∷ as') b first second = absurd first
same_bodies style owner (l ∷ ls) [] b first second = absurd first
same_bodies style owner (l ∷ ls) (a ∷ as') [] first second = absurd second
same_bodies style owner (l ∷ ls) (a ∷ as') (b ∷ bs) first second =
    let head = same_body style owner l a b first.0 second.0 in
    let tail = same_bodies style owner ls as' bs first.1 second.1 in
    rw (head, tail) refl

same_said : (a b : List AnacronLineBody) → map Said a ≡ map Said b → a ≡ b
same_said [] [] is = refl
same_said [] (b ∷ bs) is = cc
same_said (a ∷ as') [] is = cc
same_said (a ∷ as') (b ∷ bs) is =
    let head : a ≡ b = cc in
    let tails : map Said as' ≡ map Said bs = cc in
    let tail = same_said as' bs tails in
    rw (head, tail) refl

-- the lines of a section have one list of marks
same_table_marks : (zones : List NamedZone) (style : Option Style) (section : Section) (zone : ℕ) (a b : List Mark) → AreTableMarks zones style section zone a → AreTableMarks zones style section zone b → a ≡ b
same_table_marks zones (Some style) section zone a b (x, said, is) (y, other, same) =
    is ∙ ap (λ l. marks_from zones section.label zone (section.line + 1) 1 l) (same_bodies style section.label section.lines x y said other) ∙ sym same
same_table_marks zones None section zone a b (x, said, is) (y, other, same) =
    let bodies = same_said x y (same_answers_below (joined section.lines) no_settings (map Said x) (map Said y) said other) in
    is ∙ ap (λ l. anacron_marks section.label zone (section.line + 1) (joined section.lines) l) bodies ∙ sym same

-- and so has a section
same_section_marks : (zones : List NamedZone) (section : Section) (a b : List Mark) → AreSectionMarks zones section a → AreSectionMarks zones section b → a ≡ b
same_section_marks zones section a b first second =
    first.all ∙ ap (λ l. MarksZone section.line section.zone ∷ l) (same_table_marks zones (style_of section.kind) section (zone_number section.zone zones) first.lines second.lines first.are second.are)
    ∙ sym second.all

-- a version has one list of marks
same_marks : (zones : List NamedZone) (sections : List Section) (a b : List Mark) → AreMarks zones sections a → AreMarks zones sections b → a ≡ b
same_marks zones [] a b first second = first ∙ sym second
same_marks zones (section ∷ sections) a b (x, m, here, rest, is) (y, n, there, more, same) =
    let one = same_section_marks zones section x y here there in
    let others = same_marks zones sections m n rest more in
    is ∙ ap (λ l. l ++ m) one ∙ ap (λ l. y ++ l) others ∙ sym same

-- a run has one list of marks for each version
same_from : (run : Run) (version : ℕ) (a b : List (List Mark)) → length a ≡ length b → AreMarksFrom run version a → AreMarksFrom run version b → a ≡ b
same_from run version [] [] size first second = refl
same_from run version [] (y ∷ b) size first second = absurd (omega arith)
same_from run version (x ∷ a) [] size first second = absurd (omega arith)
same_from run version (x ∷ a) (y ∷ b) size first second =
    let one = same_marks run.zones (sections_in run version) x y first.0 second.0 in
    let others = same_from run (suc version) a b (omega arith) first.1 second.1 in
    ap (λ (m : List Mark). m ∷ a) one ∙ ap (λ (l : List (List Mark)). y ∷ l) others

same_version_marks : (run : Run) (a b : List (List Mark)) → AreVersionMarks run a → AreVersionMarks run b → a ≡ b
same_version_marks run a b first second = same_from run 0 a b (first.versions ∙ sym second.versions) (from_first run a first) (from_first run b second)

-- a mark at fault has one fault
record SameFault (l m c d : ℕ) : Type 0 where
  line : l ≡ m
  cause : c ≡ d

same_fault : (zones : List NamedZone) (before : List Mark) (mark : Mark) (l m c d : ℕ) → IsMarkFault zones before mark l c → IsMarkFault zones before mark m d → SameFault l m c d
same_fault zones before (MarksZone at name) l m c d first second = record { line = first.1 ∙ sym second.1; cause = first.2 ∙ sym second.2 }
same_fault zones before (MarksJob at name zone kind) l m c d first second = record { line = first.1 ∙ sym second.1; cause = first.2 ∙ sym second.2 }

-- the first mark at fault is one
first_fault : (zones : List NamedZone) (pre front other after rest : List Mark) (x y : Mark) (l m c d : ℕ) → front ++ x ∷ after ≡ other ++ y ∷ rest
    → AreSoundBehind zones pre front → AreSoundBehind zones pre other → IsMarkFault zones (pre ++ front) x l c → IsMarkFault zones (pre ++ other) y m d → SameFault l m c d
first_fault zones pre [] [] after rest x y l m c d is sound also first second =
    let same : x ≡ y = cc in
    same_fault zones (pre ++ []) y l m c d (subst (λ z. IsMarkFault zones (pre ++ []) z l c) same first) second
first_fault zones pre [] (z ∷ other) after rest x y l m c d is sound also first second =
    let same : x ≡ z = cc in
    absurd (also.0 l c (subst (λ b. IsMarkFault zones b z l c) (append-nil pre) (subst (λ w. IsMarkFault zones (pre ++ []) w l c) same first)))
first_fault zones pre (z ∷ front) [] after rest x y l m c d is sound also first second =
    let same : y ≡ z = cc in
    absurd (sound.0 m d (subst (λ b. IsMarkFault zones b z m d) (append-nil pre) (subst (λ w. IsMarkFault zones (pre ++ []) w m d) same second)))
first_fault zones pre (z ∷ front) (w ∷ other) after rest x y l m c d is sound also first second =
    let same : w ≡ z = cc in
    let tails : front ++ x ∷ after ≡ other ++ y ∷ rest = cc in
    first_fault zones (pre ++ z ∷ []) front other after rest x y l m c d tails sound.1 (subst (λ u. AreSoundBehind zones (pre ++ u ∷ []) other) same also.1)
    (subst (λ b. IsMarkFault zones b x l c) (sym (append_assoc pre (z ∷ []) front)) first)
    (subst (λ b. IsMarkFault zones b y m d) (sym (append_assoc pre (z ∷ []) other)) (subst (λ u. IsMarkFault zones (pre ++ u ∷ other) y m d) same second))

-- no mark is at fault among some that are sound
no_fault : (zones : List NamedZone) (pre marks front after : List Mark) (x : Mark) (l c : ℕ) → marks ≡ front ++ x ∷ after → AreSoundBehind zones pre marks → IsMarkFault zones (pre ++ front) x l c → ⊥
no_fault zones pre [] [] after x l c is sound fault = cc
no_fault zones pre [] (z ∷ front) after x l c is sound fault = cc
no_fault zones pre (m ∷ marks) [] after x l c is sound fault =
    let same : x ≡ m = cc in
    sound.0 l c (subst (λ b. IsMarkFault zones b m l c) (append-nil pre) (subst (λ w. IsMarkFault zones (pre ++ []) w l c) same fault))
no_fault zones pre (m ∷ marks) (z ∷ front) after x l c is sound fault =
    let same : z ≡ m = cc in
    let tails : marks ≡ front ++ x ∷ after = cc in
    no_fault zones (pre ++ m ∷ []) marks front after x l c tails sound.1
    (subst (λ b. IsMarkFault zones b x l c) (sym (append_assoc pre (m ∷ []) front)) (subst (λ u. IsMarkFault zones (pre ++ u ∷ front) x l c) same fault))

sound_or_fault : (zones : List NamedZone) (marks : List Mark) (line cause : ℕ) → AreSound zones marks → IsFirstMarkFault zones marks line cause → ⊥
sound_or_fault zones marks line cause sound first = no_fault zones [] marks first.before first.after first.mark line cause first.parts sound first.here

one_line_fault : (zones : List NamedZone) (marks : List Mark) (l m c d : ℕ) → IsFirstMarkFault zones marks l c → IsFirstMarkFault zones marks m d → SameFault l m c d
one_line_fault zones marks l m c d first second =
    first_fault zones [] first.before second.before first.after second.after first.mark second.mark l m c d (sym first.parts ∙ second.parts) first.sound second.sound first.here second.here

-- a version at fault among some that are sound
sound_at : (zones : List NamedZone) (before after : List (List Mark)) (here : List Mark) → All (AreSound zones) (before ++ here ∷ after) → AreSound zones here
sound_at zones [] after here sound = All-head (AreSound zones) here after sound
sound_at zones (m ∷ before) after here sound = sound_at zones before after here (All-tail (AreSound zones) m (before ++ here ∷ after) sound)

all_sound_or_fault : (zones : List NamedZone) (marks : List (List Mark)) (refusal : Refusal) → All (AreSound zones) marks → HasVersionAtFault zones marks refusal → ⊥
all_sound_or_fault zones marks refusal sound fault =
    sound_or_fault zones fault.here refusal.line refusal.cause (sound_at zones fault.before fault.after fault.here (subst (All (AreSound zones)) fault.parts sound)) fault.fault.first

-- the first version at fault is one
first_version : (zones : List NamedZone) (before other after rest : List (List Mark)) (x y : List Mark) (a b : Refusal) → before ++ x ∷ after ≡ other ++ y ∷ rest
    → All (AreSound zones) before → All (AreSound zones) other → HasLineAtFault zones x a → HasLineAtFault zones y b → x ≡ y
first_version zones [] [] after rest x y a b is sound also fault too = cc
first_version zones [] (z ∷ other) after rest x y a b is sound also fault too =
    let same : x ≡ z = cc in
    absurd (sound_or_fault zones z a.line a.cause (All-head (AreSound zones) z other also) (subst (λ m. IsFirstMarkFault zones m a.line a.cause) same fault.first))
first_version zones (z ∷ before) [] after rest x y a b is sound also fault too =
    let same : y ≡ z = cc in
    absurd (sound_or_fault zones z b.line b.cause (All-head (AreSound zones) z before sound) (subst (λ m. IsFirstMarkFault zones m b.line b.cause) same too.first))
first_version zones (z ∷ before) (w ∷ other) after rest x y a b is sound also fault too =
    let tails : before ++ x ∷ after ≡ other ++ y ∷ rest = cc in
    first_version zones before other after rest x y a b tails (All-tail (AreSound zones) z before sound) (All-tail (AreSound zones) w other also) fault too

one_version_fault : (zones : List NamedZone) (marks : List (List Mark)) (a b : Refusal) → HasVersionAtFault zones marks a → HasVersionAtFault zones marks b → a ≡ b
one_version_fault zones marks a b p q =
    let same = first_version zones p.before q.before p.after q.after p.here q.here a b (sym p.parts ∙ q.parts) p.sound q.sound p.fault q.fault in
    let fault = subst (λ m. HasLineAtFault zones m a) same p.fault in
    let one = one_line_fault zones q.here a.line b.line a.cause b.cause fault.first q.fault.first in
    same_refusal a b one.line one.cause (fault.place ∙ sym q.fault.place)

pub one_table : (run : Run) (a b : Table) → IsTableOf run a → IsTableOf run b → a ≡ b
one_table run a b first second =
    first.is ∙ ap (table_of run) (same_version_marks run first.marks second.marks first.are second.are) ∙ sym second.is

-- a zone among some that are read
readable_at : (before after : List NamedZone) (zone : NamedZone) → AreReadable (before ++ zone ∷ after) → IsReadable zone.source
readable_at [] after zone readable = All-head (λ (zone : NamedZone). IsReadable zone.source) zone after readable
readable_at (z ∷ before) after zone readable = readable_at before after zone (All-tail (λ (zone : NamedZone). IsReadable zone.source) z (before ++ zone ∷ after) readable)

-- the first zone that is refused is one
first_refused : (before other after rest : List NamedZone) (x y : NamedZone) → before ++ x ∷ after ≡ other ++ y ∷ rest
    → AreReadable before → AreReadable other → IsSourceRefused x.source → IsSourceRefused y.source → x ≡ y
first_refused [] [] after rest x y is readable also refused too = cc
first_refused [] (z ∷ other) after rest x y is readable also refused too =
    let same : x ≡ z = cc in
    absurd (not_read_and_refused z.source (All-head (λ (zone : NamedZone). IsReadable zone.source) z other also) (subst (λ (w : NamedZone). IsSourceRefused w.source) same refused))
first_refused (z ∷ before) [] after rest x y is readable also refused too =
    let same : y ≡ z = cc in
    absurd (not_read_and_refused z.source (All-head (λ (zone : NamedZone). IsReadable zone.source) z before readable) (subst (λ (w : NamedZone). IsSourceRefused w.source) same too))
first_refused (z ∷ before) (w ∷ other) after rest x y is readable also refused too =
    let tails : before ++ x ∷ after ≡ other ++ y ∷ rest = cc in
    first_refused before other after rest x y tails (All-tail (λ (zone : NamedZone). IsReadable zone.source) z before readable) (All-tail (λ (zone : NamedZone). IsReadable zone.source) w other also) refused too

-- a zone that is refused isn't one of some that are read
not_read : (zones : List NamedZone) (refusal : Refusal) → AreReadable zones → HasBadZone zones refusal → ⊥
not_read zones refusal readable bad =
    not_read_and_refused bad.zone.source (readable_at bad.before bad.after bad.zone (subst AreReadable bad.parts readable)) bad.refused

-- the verdicts on the marks of all versions
not_refused : (run : Run) (marks : List (List Mark)) (count : ℕ) (refusal : Refusal) → All (AreSound run.zones) marks → length (names_in marks) ≤ 1000 → IsDueCount (table_of run marks) count → count ≤ 20_000
    → AreMarksRefused run marks refusal → ⊥
not_refused run marks count refusal sound few counted few_due (inl fault) = all_sound_or_fault run.zones marks refusal sound fault
not_refused run marks count refusal sound few counted few_due (inr (inl many)) = omega (arith, many.many, few)
not_refused run marks count refusal sound few counted few_due (inr (inr many)) =
    let same = one_count (table_of run marks) count many.count counted many.counted in omega (arith, many.many, few_due, same)

pub not_refused_run : (run : Run) (table : Table) (refusal : Refusal) → IsTableOf run table → IsRefusedRun run refusal → ⊥
not_refused_run run table refusal is (inl bad) = not_read run.zones refusal is.readable bad
not_refused_run run table refusal is (inr refused) =
    let same = same_version_marks run refused.marks is.marks refused.are is.are in
    not_refused run is.marks is.count refusal is.sound is.few_jobs (subst (λ t. IsDueCount t is.count) is.is is.counted) is.few_due
    (subst (λ m. AreMarksRefused run m refusal) same refused.why)

one_why : (run : Run) (marks : List (List Mark)) (a b : Refusal) → AreMarksRefused run marks a → AreMarksRefused run marks b → a ≡ b
one_why run marks a b (inl p) (inl q) = one_version_fault run.zones marks a b p q
one_why run marks a b (inl p) (inr (inl q)) = absurd (all_sound_or_fault run.zones marks a q.sound p)
one_why run marks a b (inl p) (inr (inr q)) = absurd (all_sound_or_fault run.zones marks a q.sound p)
one_why run marks a b (inr (inl p)) (inl q) = absurd (all_sound_or_fault run.zones marks b p.sound q)
one_why run marks a b (inr (inl p)) (inr (inl q)) = p.is ∙ sym q.is
one_why run marks a b (inr (inl p)) (inr (inr q)) = absurd (omega (arith, p.many, q.few))
one_why run marks a b (inr (inr p)) (inl q) = absurd (all_sound_or_fault run.zones marks b p.sound q)
one_why run marks a b (inr (inr p)) (inr (inl q)) = absurd (omega (arith, q.many, p.few))
one_why run marks a b (inr (inr p)) (inr (inr q)) = p.is ∙ sym q.is

one_bad_zone : (zones : List NamedZone) (a b : Refusal) → HasBadZone zones a → HasBadZone zones b → a ≡ b
one_bad_zone zones a b first second =
    first.is ∙ ap (λ (zone : NamedZone). at_line zone.line BadZone) (first_refused first.before second.before first.after second.after first.zone second.zone (sym first.parts ∙ second.parts) first.readable second.readable first.refused second.refused) ∙ sym second.is

pub one_refused_run : (run : Run) (a b : Refusal) → IsRefusedRun run a → IsRefusedRun run b → a ≡ b
one_refused_run run a b (inl first) (inl second) = one_bad_zone run.zones a b first second
one_refused_run run a b (inl first) (inr second) = absurd (not_read run.zones a second.readable first)
one_refused_run run a b (inr first) (inl second) = absurd (not_read run.zones b first.readable second)
one_refused_run run a b (inr first) (inr second) =
    let same = same_version_marks run first.marks second.marks first.are second.are in
    one_why run second.marks a b (subst (λ m. AreMarksRefused run m a) same first.why) second.why
