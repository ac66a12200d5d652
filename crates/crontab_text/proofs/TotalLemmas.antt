-- Each text can be cut and skipped, each word is a user or none, and so on.
use Rattle.std.proofs.Common.{◌≡◌, ◌≢◌, ◌⊎◌, ℕ, ◌+◌, ◌-◌, ◌<◌, ◌≤◌, List, [], ◌∷◌, length, get_or, refl, ap, subst, inl, inr, arith}
use Rattle.cron_fields.specs.Field.{IsField}
use Rattle.cron_fields.specs.Seed.{Seed}
use Rattle.cron_fields.specs.declared.field.FieldKind.{FieldKind}
use Rattle.cron_fields.specs.declared.field.FieldSet.{FieldSet}
use Rattle.cron_fields.proofs.FaultLemmas.{field_fault_within}
use Rattle.cron_fields.proofs.FieldReading.{field_exists}
use Rattle.crontab_text.specs.Assignment.{IsNameStart, IsNameByte, IsNoNameByte, IsVariableName, HasQuotes, IsUnquoted, IsValue, IsAssignment}
use Rattle.crontab_text.specs.Blanks.{IsBlank, SkipsBlanks, DropsBlanks, IsCutAt, IsFirstWord}
use Rattle.crontab_text.specs.Entry.{BeginsWithFields, IsBadWord, IsFieldsFault}
use Rattle.crontab_text.specs.Tail.{IsUser, IsUserByte, EndsWithCommand, IsCommandFault, IsTail, IsTailFault}
use Rattle.crontab_text.specs.declared.answer.Style.{Style}
use Rattle.crontab_text.specs.declared.answer.Style.TheVariants.{User, System}
use Rattle.crontab_text.proofs.AssignmentLemmas.{in_quotes, has_quotes, assignment_from_steps, no_name_no_assignment, no_equals_no_assignment}
use Rattle.crontab_text.proofs.Choice.{decided_or, decided_and, decided_all, decided_not, in_range}
use Rattle.cron_fields.proofs.Choice.{le_or_not, Decided}
use Rattle.std.proofs.lemmas.Bool.{cases_eq}

blank_or_not : (c : ℕ) → Decided (IsBlank c)
blank_or_not c = decided_or (cases_eq c 32) (cases_eq c 9)

-- the blanks that a text begins with can be skipped
pub some_skip : (text : List ℕ) → (rest : List ℕ) × SkipsBlanks text rest
some_skip [] = ([], record { blanks = []; parts = refl; all = tt; begins = tt })
some_skip (c ∷ cs) = elim (blank_or_not c) [
  | inl blank ↦
      let (rest, skips) = some_skip cs in
      (rest, record { blanks = c ∷ skips.blanks; parts = ap (λ t. c ∷ t) skips.parts; all = (blank, skips.all); begins = skips.begins })
  | inr mark ↦ (c ∷ cs, record { blanks = []; parts = refl; all = tt; begins = mark })
]

-- and those that it ends with can be dropped
pub some_drop : (text : List ℕ) → (front : List ℕ) × DropsBlanks text front
some_drop [] = ([], record { blanks = []; parts = refl; all = tt; ends = tt })
some_drop (c ∷ cs) = let (front, drops) = some_drop cs in before c cs front drops
  where
    before : (c : ℕ) (cs front : List ℕ) → DropsBlanks cs front → (front : List ℕ) × DropsBlanks (c ∷ cs) front
    before c cs [] drops = elim (blank_or_not c) [
      | inl blank ↦ ([], record { blanks = c ∷ drops.blanks; parts = ap (λ t. c ∷ t) drops.parts; all = (blank, drops.all); ends = tt })
      | inr mark ↦ (c ∷ [], record { blanks = drops.blanks; parts = ap (λ t. c ∷ t) drops.parts; all = drops.all; ends = mark })
    ]
    before c cs (d ∷ front) drops =
        (c ∷ d ∷ front, record { blanks = drops.blanks; parts = ap (λ t. c ∷ t) drops.parts; all = drops.all; ends = drops.ends })

-- a text can be cut before its first byte of a kind
pub some_cut : (P : ℕ → Type 0) → ((c : ℕ) → Decided (P c)) → (text : List ℕ) → (front : List ℕ) × (back : List ℕ) × IsCutAt P text front back
some_cut P decide [] = ([], [], record { parts = refl; lacks = tt; begins = tt })
some_cut P decide (c ∷ cs) = elim (decide c) [
  | inl is ↦ ([], c ∷ cs, record { parts = refl; lacks = tt; begins = is })
  | inr other ↦
      let (front, back, cut) = some_cut P decide cs in
      (c ∷ front, back, record { parts = ap (λ t. c ∷ t) cut.parts; lacks = (other, cut.lacks); begins = cut.begins })
]

-- each text has a first word, which may be empty
pub some_word : (text : List ℕ) → (word : List ℕ) × (after : List ℕ) × IsFirstWord text word after
some_word text =
    let (rest, skips) = some_skip text in
    let (word, after, cut) = some_cut IsBlank blank_or_not rest in
    (word, after, record { rest = rest; skips = skips; cut = cut })

name_start_or_not : (c : ℕ) → Decided (IsNameStart c)
name_start_or_not c = decided_or (in_range 97 122 c) (decided_or (in_range 65 90 c) (cases_eq c 95))

name_byte_or_not : (c : ℕ) → Decided (IsNameByte c)
name_byte_or_not c = decided_or (name_start_or_not c) (in_range 48 57 c)

name_or_not : (name : List ℕ) → Decided (IsVariableName name)
name_or_not [] = inr (λ is. is)
name_or_not (c ∷ cs) = decided_and (name_start_or_not c) (decided_all IsNameByte name_byte_or_not cs)

pub user_or_not : (user : List ℕ) → Decided (IsUser user)
user_or_not [] = inr (λ is. is)
user_or_not (c ∷ cs) = elim (name_start_or_not c) [
  | inr none ↦ inr (λ is. none is.0)
  | inl start ↦ elim (decided_all IsUserByte (λ d. decided_or (name_byte_or_not d) (decided_or (cases_eq d 46) (cases_eq d 45))) cs) [
    | inr none ↦ inr (λ is. none is.1)
    | inl all ↦ elim (le_or_not (length cs) 31) [
      | inr long ↦ inr (λ is. long is.2)
      | inl short ↦ inl (start, all, short)
    ]
  ]
]

quotes_or_not : (text : List ℕ) → Decided (HasQuotes text)
quotes_or_not text = elim (le_or_not 2 (length text)) [
  | inr short ↦ inr (λ quotes. short quotes.two)
  | inl two ↦ elim (decided_or (cases_eq (get_or text 0 0) 34) (cases_eq (get_or text 0 0) 39)) [
    | inr none ↦ inr (λ quotes. none quotes.first)
    | inl first ↦ elim (cases_eq (get_or text (length text - 1) 0) (get_or text 0 0)) [
      | inr other ↦ inr (λ quotes. other quotes.last)
      | inl last ↦ inl (record { two = two; first = first; last = last })
    ]
  ]
]

some_unquoted : (text : List ℕ) → (inside : List ℕ) × IsUnquoted text inside
some_unquoted text = elim (quotes_or_not text) [
  | inl quotes ↦ (_, inl (in_quotes text quotes))
  | inr none ↦ (text, inr (refl, λ other inside. none (has_quotes text other inside)))
]

some_value : (text : List ℕ) → (value : List ℕ) × IsValue text value
some_value text =
    let (rest, skips) = some_skip text in
    let (trimmed, drops) = some_drop rest in
    let (value, unquoted) = some_unquoted trimmed in
    (value, record { rest = rest; trimmed = trimmed; skips = skips; drops = drops; unquoted = unquoted })

-- a text begins with `=`, or with nothing of that kind
equals_or_not : (text : List ℕ) → ((behind : List ℕ) × (text ≡ 61 ∷ behind)) ⊎ ((behind : List ℕ) → text ≢ 61 ∷ behind)
equals_or_not [] = inr (λ behind e. cc)
equals_or_not (c ∷ cs) = elim (cases_eq c 61) [
  | inl is ↦ inl (cs, ap (λ b. b ∷ cs) is)
  | inr other ↦ inr (λ behind e. let head : c ≡ 61 = cc in other head)
]

-- a text sets a variable, or none
pub assignment_or_not : (text : List ℕ) → ((name : List ℕ) × (value : List ℕ) × IsAssignment text name value) ⊎ ((name value : List ℕ) → IsAssignment text name value → ⊥)
assignment_or_not text =
    let (name, after, cut) = some_cut IsNoNameByte (λ c. decided_not (name_byte_or_not c)) text in
    let (rest, between) = some_skip after in
    elim (name_or_not name) [
      | inr none ↦ inr (no_name_no_assignment text name after cut none)
      | inl is_name ↦ elim (equals_or_not rest) [
        | inr none ↦ inr (no_equals_no_assignment text name after rest cut between none)
        | inl (behind, is) ↦
            let (value, value_is) = some_value behind in
            inl (
              name,
              value,
              assignment_from_steps text name value (record {
                after = after;
                behind = behind;
                cut = cut;
                is_name = is_name;
                between = subst (SkipsBlanks after) is between;
                value_is = value_is;
              }),
            )
      ]
    ]

-- a text ends with a command, or the command is at fault
pub some_command : (text : List ℕ) → ((command : List ℕ) × EndsWithCommand text command) ⊎ ((cause : ℕ) × (left : ℕ) × IsCommandFault text cause left)
some_command text = let (command, skips) = some_skip text in judge command skips
  where
    above : (n : ℕ) → (n ≤ 1000 → ⊥) → 1000 < n
    above n long = omega arith

    judge : (command : List ℕ) → SkipsBlanks text command → ((command : List ℕ) × EndsWithCommand text command) ⊎ ((cause : ℕ) × (left : ℕ) × IsCommandFault text cause left)
    judge [] skips = inr (11, 0, record { command = []; skips = skips; is = inl (refl, refl, refl) })
    judge (c ∷ cs) skips = elim (le_or_not (length (c ∷ cs)) 1000) [
      | inl short ↦ inl (c ∷ cs, record { skips = skips; is = record { some = omega arith; short = short } })
      | inr long ↦ inr (14, length (c ∷ cs), record { command = c ∷ cs; skips = skips; is = inr (above (length (c ∷ cs)) long, refl, refl) })
    ]

-- behind the fields stands what has to stand there, or a fault
pub some_tail : (style : Style) (text : List ℕ) → ((user : List ℕ) × (command : List ℕ) × IsTail style text user command) ⊎ ((cause : ℕ) × (left : ℕ) × IsTailFault style text cause left)
some_tail User text = elim (some_command text) [
  | inl (command, is) ↦ inl ([], command, (refl, is))
  | inr fault ↦ inr fault
]
some_tail System text =
    let (user, after, word) = some_word text in
    elim (user_or_not user) [
      | inr none ↦ inr (12, length user + length after, record { user = user; after = after; word = word; is = inl (none, refl, refl) })
      | inl is_user ↦ elim (some_command after) [
        | inl (command, is) ↦ inl (user, command, record { after = after; word = word; is_user = is_user; command_is = is })
        | inr (cause, left, fault) ↦ inr (cause, left, record { user = user; after = after; word = word; is = inr (is_user, fault) })
      ]
    ]

-- a word is a field, or at fault
some_field : (kind : FieldKind) (seed : Seed) (word : List ℕ) (here : ℕ) → length word ≤ here → ((set : FieldSet) × IsField kind word seed set) ⊎ ((cause : ℕ) × (left : ℕ) × IsBadWord kind word here cause left)
some_field kind seed [] here within = inr (10, 0, inl (refl, refl, refl))
some_field kind seed (c ∷ cs) here within = elim (field_exists kind (c ∷ cs) seed) [
  | inl field ↦ inl field
  | inr (cause, place, fault) ↦
      let inside = field_fault_within kind (c ∷ cs) cause place fault in
      inr (cause, here - place, inr (place, omega arith, fault, omega arith))
]

-- a text begins with the fields, or one is at fault
pub some_fields : (kinds : List FieldKind) (seed : Seed) (text : List ℕ) → ((sets : List FieldSet) × (after : List ℕ) × BeginsWithFields kinds seed text sets after) ⊎ ((cause : ℕ) × (left : ℕ) × IsFieldsFault kinds text cause left)
some_fields [] seed text = inl ([], text, refl)
some_fields (kind ∷ kinds) seed text =
    let (word, behind, first) = some_word text in
    elim (some_field kind seed word (length word + length behind) (omega arith)) [
      | inr (cause, left, bad) ↦ inr (cause, left, (word, behind, first, inl bad))
      | inl (set, field) ↦ elim (some_fields kinds seed behind) [
        | inl (sets, after, rest) ↦ inl (set ∷ sets, after, (word, behind, first, field, rest))
        | inr (cause, left, fault) ↦ inr (cause, left, (word, behind, first, inr (seed, set, field, fault)))
      ]
    ]
