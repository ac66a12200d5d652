-- A section, from the line that opens it to its last.
use Rattle.std.proofs.Common.{◌≡◌, ℕ, ◌+◌, ◌<◌, List, ◌∷◌, length, ap, ◌∙◌, inl, inr, arith}
use Rattle.crontab_text.specs.Lines.{lines_of}
use Rattle.run_text.specs.Follow.{Above, Sections, inside, OpensNone}
use Rattle.run_text.specs.Grammar.{IsSectionLine}
use Rattle.run_text.specs.Run.{Run, opened}
use Rattle.run_text.specs.Steps.{place_of, at_table, IsComplete, CarriesBack, RefusedFrom, RefusesTable}
use Rattle.run_text.specs.declared.opening.Opening.{Opening}
use Rattle.run_text.specs.declared.reader.Reader.{Reader}
use Rattle.run_text.specs.declared.refusal.Refusal.{Refusal}
use Rattle.run_text.specs.declared.run.SectionKind.{SectionKind}
use Rattle.run_text.specs.declared.table.Tables.{Tables}
use Rattle.run_text.proofs.PhraseLemmas.{one_opening, opening_word}
use Rattle.run_text.proofs.StepLemmas.{one_line_at, wrong_line}

-- the reader passed a line that opens a section, by its form
pub record PassesOpening (old new : Reader) (opening : Opening) : Type 0 where
  pub line : List ℕ
  pub lines : lines_of old.rest.now ≡ line ∷ lines_of new.rest.now
  pub number : new.number ≡ old.number + 1
  pub is : IsSectionLine line opening.kind opening.label.now opening.zone.now opening.count

-- what stands above a section's first line, by the number of the line that opens it
abbrev at_number : ℕ → Opening → Run → Above
at_number number opening run = inside run (opened number opening.kind opening.label.now opening.zone.now) opening.count

-- the line that opens a section whose lines are all there
pub opening_leads : {tables : Tables} (old new : Reader) (opening : Opening) → PassesOpening old new opening → IsComplete new opening
    → (run : Run) → CarriesBack tables (place_of old (Sections run)) (place_of new (at_table new opening run))
opening_leads old new opening passes is_whole run =
    one_line_at old new (Sections run) (at_table new opening run) passes.line passes.number passes.lines
    (inr (inr (inl (record {
      kind = opening.kind;
      label = opening.label.now;
      zone = opening.zone.now;
      count = opening.count;
      opens = record { is = passes.is; whole = is_whole };
      next_is = ap (λ n. at_number n opening run) passes.number;
    }))))

-- no section opens where too few lines are left
opens_none : (line : List ℕ) (kind : SectionKind) (label zone : List ℕ) (count behind : ℕ) → IsSectionLine line kind label zone count → behind < count → OpensNone behind line
opens_none line kind label zone count behind is few k l z n opens =
    let same = one_opening line kind k label l zone z count n is opens.is in
    omega (arith, same.count, opens.whole)

pub opening_refused : (tables : Tables) (old new : Reader) (opening : Opening) (refusal : Refusal) → PassesOpening old new opening → RefusesTable tables new opening refusal
    → (run : Run) → RefusedFrom tables (place_of old (Sections run)) refusal
opening_refused tables old new opening refusal passes (inl (few, cause, of_line)) run =
    wrong_line tables (old.number + 1) (Sections run) old.rest.now passes.line new.rest.now refusal passes.lines (
      inl (
        opening_word passes.line opening.kind opening.label.now opening.zone.now opening.count passes.is,
        opens_none passes.line opening.kind opening.label.now opening.zone.now opening.count (length (lines_of new.rest.now)) passes.is few,
        cause,
      ),
      (of_line.0 ∙ passes.number, of_line.1),
    )
opening_refused tables old new opening refusal passes (inr (is_whole, refused)) run =
    (opening_leads {tables = tables} old new opening passes is_whole run).refuses refusal (refused run)
