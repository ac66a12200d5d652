-- A section's marks, whatever its kind.
use Rattle.std.proofs.Common.{◌≡◌, ℕ, ◌+◌, List, [], ◌∷◌, ◌++◌, Option, None, Some, refl, ap, ◌∙◌, sym, subst, append_assoc}
use Rattle.anacron_text.specs.LogicalLines.{joined}
use Rattle.anacron_text.specs.Settings.{no_settings}
use Rattle.crontab_text.specs.declared.answer.Style.{Style}
use Rattle.due_set.specs.Table.{Job}
use Rattle.run_text.specs.Follow.{style_of}
use Rattle.run_text.specs.Run.{NamedZone, Section}
use Rattle.run_text.specs.Table.{AreSaid}
use Rattle.run_text.specs.declared.refusal.Refusal.{Refusal}
use Rattle.job_table.specs.Collect.{RefusesSection}
use Rattle.job_table.specs.Marks.{Mark, MarksZone, marks_from, anacron_marks, AreTableMarks, AreSectionMarks}
use Rattle.job_table.specs.Table.{at_line, HasLineAtFault}
use Rattle.job_table.specs.Zones.{NamesZone, zone_number}
use Rattle.job_table.proofs.AnacrontabLemmas.{what_is_said as what_an_anacrontab_says}
use Rattle.job_table.proofs.CrontabLemmas.{what_is_said as what_a_crontab_says}
use Rattle.job_table.proofs.MarkLemmas.{refuses_zone}
use Rattle.cron_fields.specs.declared.cause.Cause.TheVariants.{UnknownZone}

table_marks : (zones : List NamedZone) (style : Option Style) (section : Section) (zone : ℕ) → AreSaid style section.label section.lines → (lines : List Mark) × AreTableMarks zones style section zone lines
table_marks zones (Some style) section zone said =
    let (bodies, are) = what_a_crontab_says style section.label section.lines said in
    (marks_from zones section.label zone (section.line + 1) 1 bodies, (bodies, are, refl))
table_marks zones None section zone said =
    let (bodies, are) = what_an_anacrontab_says no_settings (joined section.lines) said in
    (anacron_marks section.label zone (section.line + 1) (joined section.lines) bodies, (bodies, are, refl))

-- a section whose lines say something has marks
pub some_marks : (zones : List NamedZone) (section : Section) → AreSaid (style_of section.kind) section.label section.lines → (marks : List Mark) × AreSectionMarks zones section marks
some_marks zones section said =
    let (lines, are) = table_marks zones (style_of section.kind) section (zone_number section.zone zones) said in
    (MarksZone section.line section.zone ∷ lines, record { lines = lines; are = are; all = refl })

-- the zone of the section isn't one of the run's
pub zone_refused : (zones : List NamedZone) (section : Section) (old : List Job) (refusal : Refusal) → AreSaid (style_of section.kind) section.label section.lines
    → (NamesZone section.zone zones → ⊥) → refusal ≡ at_line section.line UnknownZone → RefusesSection zones old section refusal
zone_refused zones section old refusal said other is =
    let (marks, are) = some_marks zones section said in
    let named = MarksZone section.line section.zone ∷ [] in
    record {
      marks = marks;
      are = are;
      refuses = λ before others collected.
          subst (λ m. HasLineAtFault zones m refusal)
          (sym (append_assoc (before ++ named) are.lines others) ∙ ap (λ m. m ++ others) (append_assoc before named are.lines ∙ ap (λ m. before ++ m) (sym are.all)))
          (refuses_zone zones old section.line section.zone refusal other is before (are.lines ++ others) collected);
    }
