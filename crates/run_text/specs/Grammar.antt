-- The product's own lines of a run file. Words are separated by one space. Source: docs/RUN_FILE.md.
use Rattle.std.specs.Prelude.{◌≡◌, ◌⊎◌, ℕ, ◌<◌, ◌≤◌, ◌==◌, if◌then◌else◌, List, [], ◌∷◌, ◌++◌, length, codes, decimal}
use Rattle.std.specs.List.{AllByRecursion}
use Rattle.zone_minutes.specs.Window.{IsWithinLimits, window_line}
use Rattle.zone_minutes.specs.declared.minute.Window.{Window}
use Rattle.run_text.specs.declared.run.SectionKind.{SectionKind}
use Rattle.run_text.specs.declared.run.SectionKind.TheVariants.{User, System, Anacron}

-- replicas N
abbrev pub replicas_line : ℕ → List ℕ
replicas_line members = codes "replicas " ++ decimal members

-- the line names a number of replicas, from 1 to 7
pub record IsReplicasLine (line : List ℕ) (members : ℕ) : Type 0 where
  pub is : line ≡ replicas_line members
  pub some : 1 ≤ members
  pub few : members ≤ 7

-- the line names a window within the limits
pub record IsWindowLine (line : List ℕ) (window : Window) : Type 0 where
  pub is : line ≡ window_line window
  pub limits : IsWithinLimits window

-- the line names a grace of at most 525,600 minutes, which are 365 days
pub record IsGraceLine (line : List ℕ) (grace : ℕ) : Type 0 where
  pub is : line ≡ codes "grace " ++ decimal grace
  pub short : grace ≤ 525_600

-- a lower-case letter or `_`
abbrev pub IsLabelStart : ℕ → Type 0
IsLabelStart c = ((97 ≤ c) × (c ≤ 122)) ⊎ (c ≡ 95)

-- a lower-case letter, a digit, `_` or `-`
abbrev pub IsLabelByte : ℕ → Type 0
IsLabelByte c = IsLabelStart c ⊎ (((48 ≤ c) × (c ≤ 57)) ⊎ (c ≡ 45))

-- what may begin a label, and up to 31 of what may stand in one
abbrev pub IsLabel : List ℕ → Type 0
IsLabel [] = ⊥
IsLabel (c ∷ cs) = IsLabelStart c × AllByRecursion IsLabelByte cs × (length cs ≤ 31)

-- an ASCII letter, a digit, `/`, `_`, `-` or `+`
abbrev pub IsZoneByte : ℕ → Type 0
IsZoneByte c =
    ((65 ≤ c) × (c ≤ 90)) ⊎ (((97 ≤ c) × (c ≤ 122)) ⊎ (((48 ≤ c) × (c ≤ 57)) ⊎ ((c ≡ 47) ⊎ ((c ≡ 95) ⊎ ((c ≡ 45) ⊎ (c ≡ 43))))))

-- the name of a zone: 1 to 64 of such bytes
abbrev pub IsZoneName : List ℕ → Type 0
IsZoneName name = (0 < length name) × (length name ≤ 64) × AllByRecursion IsZoneByte name

-- the word that opens a section
abbrev pub section_word : SectionKind → List ℕ
section_word User = codes "crontab"
section_word System = codes "system"
section_word Anacron = codes "anacrontab"

-- crontab LABEL ZONE COUNT, system LABEL ZONE COUNT, or anacrontab LABEL ZONE COUNT
abbrev pub section_line : SectionKind → (label zone : List ℕ) → ℕ → List ℕ
section_line kind label zone count = section_word kind ++ (32 ∷ label ++ (32 ∷ zone ++ (32 ∷ decimal count)))

-- the line opens a section of so many lines
pub record IsSectionLine (line : List ℕ) (kind : SectionKind) (label zone : List ℕ) (count : ℕ) : Type 0 where
  pub is : line ≡ section_line kind label zone count
  pub is_label : IsLabel label
  pub is_zone : IsZoneName zone
  pub short : count ≤ 65_535

-- the text up to its first space
abbrev pub first_word : List ℕ → List ℕ
first_word [] = []
first_word (c ∷ cs) = if c == 32 then [] else c ∷ first_word cs

-- the line's first word opens a section
abbrev pub HasSectionWord : List ℕ → Type 0
HasSectionWord line = (kind : SectionKind) × (first_word line ≡ section_word kind)
