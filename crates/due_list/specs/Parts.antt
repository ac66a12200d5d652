-- Parts of a list that are gathered one after another. Private functions alone cite it.
use Rattle.std.specs.Prelude.{◌≡◌, ℕ, ◌+◌, List, [], ◌∷◌, ◌++◌, map, flat_map, Option, None, Some, ℤ}
use Rattle.std.specs.List.{AllZip}
use Rattle.crontab_text.specs.declared.answer.LineFault.{LineFault}
use Rattle.zone_minutes.specs.declared.minute.Minute.{Minute}
use Rattle.cron_io.specs.Lines.{text_of_lines}
use Rattle.due_list.specs.declared.fault.TableFault.{TableFault}

-- the numbers of some instants
abbrev pub numbers_of_instants : List Minute → List ℤ
numbers_of_instants minutes = map (λ minute. minute.0) minutes

-- lines of this kind were appended to a text
pub record AppendsLines (old new : List ℕ) (Are : List (List ℕ) → Type 0) : Type 0 where
  pub lines : List (List ℕ)
  pub are : Are lines
  pub new_is : new ≡ old ++ text_of_lines lines

-- lines of this kind were appended to a text for each of these numbers, in order
pub record AppendsParts (Are : ℕ → List (List ℕ) → Type 0) (numbers old new : List ℕ) : Type 0 where
  pub parts : List (List (List ℕ))
  pub are : AllZip Are numbers parts
  pub new_is : new ≡ old ++ text_of_lines (flat_map (λ part. part) parts)

-- faults of this kind were added behind others
pub record AddsFaults (old new : List TableFault) (Are : List TableFault → Type 0) : Type 0 where
  pub faults : List TableFault
  pub are : Are faults
  pub new_is : new ≡ old ++ faults

-- the fault of a table's line, if it has one, behind so many lines of a file
abbrev pub fault_behind : ℕ → Option LineFault → List TableFault
fault_behind above None = []
fault_behind above (Some fault) = record { line = above + fault.line; cause = fault.cause; place = fault.place } ∷ []
