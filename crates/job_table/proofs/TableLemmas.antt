-- The jobs that marks bring, as those of a table.
use Rattle.std.proofs.Common.{inl, inr, ℕ, ◌+◌, ◌<◌, Bool, true, false, List, [], ◌∷◌, ◌++◌, length, Option, None, Some, refl, sym, subst, codes, bytes_eq, append_assoc, if◌then◌else◌}
use Rattle.std.proofs.lemmas.List.{append-nil}
use Rattle.std.proofs.lemmas.List.Elements.{All-nil, All-cons, All-append}
use Rattle.anacron_text.specs.LineBody.{AnacronLineBody, BlankBody as AnaBlank, CommentBody as AnaComment, AssignBody as AnaAssign, JobBody}
use Rattle.anacron_text.specs.LogicalLines.{joined, line_count}
use Rattle.crontab_text.specs.LineBody.{LineBody, BlankBody, CommentBody, AssignBody, EntryBody, NickBody}
use Rattle.crontab_text.specs.declared.answer.Style.{Style}
use Rattle.due_set.specs.Table.{Job, AreZonesBelow}
use Rattle.due_set.specs.declared.job.JobKind.TheVariants.{Crontab}
use Rattle.run_text.specs.Follow.{style_of}
use Rattle.run_text.specs.Run.{NamedZone, Section}
use Rattle.job_table.specs.Marks.{Mark, MarksZone, MarksJob, crontab_job_name, kind_of, marks_from, anacron_marks, AreTableMarks, AreMarks, IsMarkFault, AreSoundBehind, AreSound}
use Rattle.job_table.specs.Table.{jobs_of}
use Rattle.job_table.specs.Zones.{zone_number}
use Rattle.job_table.proofs.MarkLemmas.{jobs_of-append}
use Rattle.job_table.proofs.ZoneLemmas.{number_or_none}

-- each of the jobs that marks bring runs by one of so many zones
abbrev Below : List NamedZone → List Mark → Type 0
Below zones marks = AreZonesBelow (1 + length zones) (jobs_of marks)

-- the zone of a mark that isn't at fault has a number
zone_known : (zones : List NamedZone) (before : List Mark) (line : ℕ) (name : List ℕ) → ((at cause : ℕ) → IsMarkFault zones before (MarksZone line name) at cause → ⊥)
    → zone_number name zones < 1 + length zones
zone_known zones before line name sound = elim (number_or_none name zones) [ inl below ↦ below | inr none ↦ absurd (sound line 21 (none, refl, refl)) ]

marks_below : (zones : List NamedZone) (label : List ℕ) (before others : List Mark) (zone line count : ℕ) (bodies : List LineBody) → zone < 1 + length zones
    → AreSoundBehind zones before (marks_from zones label zone line count bodies ++ others) → Below zones (marks_from zones label zone line count bodies)
marks_below zones label before others zone line count [] is sound = All-nil (λ (job : Job). job.zone < 1 + length zones)
marks_below zones label before others zone line count (BlankBody ∷ bodies) is sound = marks_below zones label before others zone (line + 1) count bodies is sound
marks_below zones label before others zone line count (CommentBody ∷ bodies) is sound = marks_below zones label before others zone (line + 1) count bodies is sound
marks_below zones label before others zone line count (AssignBody name value ∷ bodies) is sound =
    by (bytes_eq name (codes "CRON_TZ")) sound (λ pre number. marks_below zones label pre others (zone_number value zones) (line + 1) count bodies number) (marks_below zones label before others zone (line + 1) count bodies is)
  where
    More : ℕ → List Mark
    More z = marks_from zones label z (line + 1) count bodies

    by : (b : Bool) → AreSoundBehind zones before ((if b then MarksZone line value ∷ More (zone_number value zones) else More zone) ++ others)
        → ((pre : List Mark) → zone_number value zones < 1 + length zones → AreSoundBehind zones pre (More (zone_number value zones) ++ others) → Below zones (More (zone_number value zones)))
        → (AreSoundBehind zones before (More zone ++ others) → Below zones (More zone))
        → Below zones (if b then MarksZone line value ∷ More (zone_number value zones) else More zone)
    by true all named same = named (before ++ MarksZone line value ∷ []) (zone_known zones before line value all.0) all.1
    by false all named same = same all
marks_below zones label before others zone line count (EntryBody fields user command ∷ bodies) is sound =
    All-cons (λ (job : Job). job.zone < 1 + length zones) _ (jobs_of (marks_from zones label zone (line + 1) (count + 1) bodies)) is
    (marks_below zones label (before ++ MarksJob line (crontab_job_name label count) zone (Crontab fields) ∷ []) others zone (line + 1) (count + 1) bodies is sound.1)
marks_below zones label before others zone line count (NickBody fields user command ∷ bodies) is sound =
    All-cons (λ (job : Job). job.zone < 1 + length zones) _ (jobs_of (marks_from zones label zone (line + 1) (count + 1) bodies)) is
    (marks_below zones label (before ++ MarksJob line (crontab_job_name label count) zone (kind_of fields) ∷ []) others zone (line + 1) (count + 1) bodies is sound.1)

sound_behind : (zones : List NamedZone) (before front back : List Mark) → AreSoundBehind zones before (front ++ back) → AreSoundBehind zones (before ++ front) back
sound_behind zones before [] back sound = subst (λ b. AreSoundBehind zones b back) (sym (append-nil before)) sound
sound_behind zones before (m ∷ front) back sound = subst (λ b. AreSoundBehind zones b back) (append_assoc before (m ∷ []) front) (sound_behind zones (before ++ m ∷ []) front back sound.1)

anacron_below : (zones : List NamedZone) (label : List ℕ) (zone line : ℕ) (lines : List (List ℕ)) (bodies : List AnacronLineBody) → zone < 1 + length zones → Below zones (anacron_marks label zone line lines bodies)
anacron_below zones label zone line [] bodies is = All-nil (λ (job : Job). job.zone < 1 + length zones)
anacron_below zones label zone line (text ∷ lines) [] is = All-nil (λ (job : Job). job.zone < 1 + length zones)
anacron_below zones label zone line (text ∷ lines) (AnaBlank ∷ bodies) is = anacron_below zones label zone (line + line_count text) lines bodies is
anacron_below zones label zone line (text ∷ lines) (AnaComment ∷ bodies) is = anacron_below zones label zone (line + line_count text) lines bodies is
anacron_below zones label zone line (text ∷ lines) (AnaAssign name value ∷ bodies) is = anacron_below zones label zone (line + line_count text) lines bodies is
anacron_below zones label zone line (text ∷ lines) (JobBody job ∷ bodies) is =
    All-cons (λ (j : Job). j.zone < 1 + length zones) _ (jobs_of (anacron_marks label zone (line + line_count text) lines bodies)) is
    (anacron_below zones label zone (line + line_count text) lines bodies is)

table_below : (zones : List NamedZone) (style : Option Style) (section : Section) (zone : ℕ) (before lines others : List Mark) → zone < 1 + length zones
    → AreTableMarks zones style section zone lines → AreSoundBehind zones before (lines ++ others) → Below zones lines
table_below zones (Some style) section zone before lines others number (bodies, said, is) sound =
    subst (Below zones) (sym is)
    (marks_below zones section.label before others zone (section.line + 1) 1 bodies number (subst (λ l. AreSoundBehind zones before (l ++ others)) is sound))
table_below zones None section zone before lines others number (bodies, said, is) sound =
    subst (Below zones) (sym is) (anacron_below zones section.label zone (section.line + 1) (joined section.lines) bodies number)

-- each job of some sections whose marks aren't at fault runs by one of the zones
zones_below_behind : (zones : List NamedZone) (before : List Mark) (sections : List Section) (marks : List Mark) → AreMarks zones sections marks → AreSoundBehind zones before marks → Below zones marks
zones_below_behind zones before [] marks is sound = subst (Below zones) (sym is) (All-nil (λ (job : Job). job.zone < 1 + length zones))
zones_below_behind zones before (section ∷ sections) marks (first, others, here, rest, is) sound =
    let opens = MarksZone section.line section.zone in
    let all : AreSoundBehind zones before (first ++ others) = subst (AreSoundBehind zones before) is sound in
    let opened : AreSoundBehind zones before (opens ∷ (here.lines ++ others)) = subst (λ m. AreSoundBehind zones before (m ++ others)) here.all all in
    let number = zone_known zones before section.line section.zone opened.0 in
    let of_lines = table_below zones (style_of section.kind) section (zone_number section.zone zones) (before ++ opens ∷ []) here.lines others number here.are opened.1 in
    let of_first : Below zones first = subst (Below zones) (sym here.all) of_lines in
    let later = zones_below_behind zones (before ++ first) sections others rest (sound_behind zones before first others all) in
    subst (Below zones) (sym is)
    (subst (AreZonesBelow (1 + length zones)) (sym (jobs_of-append first others)) (All-append (λ (job : Job). job.zone < 1 + length zones) (jobs_of first) (jobs_of others) of_first later))

pub zones_below : (zones : List NamedZone) (sections : List Section) (marks : List Mark) → AreMarks zones sections marks → AreSound zones marks → AreZonesBelow (1 + length zones) (jobs_of marks)
zones_below zones sections marks are sound = zones_below_behind zones [] sections marks are sound
