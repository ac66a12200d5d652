-- A field of a crontab line (crontab(5)): what its text stands for, or the first rule that it breaks and where.
use Rattle.std.specs.Prelude.{◌≡◌, ◌≢◌, ◌⊎◌, ◌↔◌, ◌==◌, ℕ, ◌+◌, ◌<◌, List, [], ◌∷◌, ◌++◌, length, true, false, codes, slice_index}
use Rattle.std.specs.Char.{IsAsciiAlphanumeric}
use Rattle.std.specs.List.{AllByRecursion, AllZip, join_with_byte, sum_by}
use Rattle.cron_fields.specs.FieldSet.{Has}
use Rattle.cron_fields.specs.Seed.{Seed}
use Rattle.cron_fields.specs.Hash.{hashed_value}
use Rattle.cron_fields.specs.Atom.{HasNo, IsSplitAt}
use Rattle.cron_fields.specs.Item.{IsStepped, StepsTo, IsItem}
use Rattle.cron_fields.specs.ItemFault.{IsItemFault}
use Rattle.cron_fields.specs.declared.field.FieldKind.{FieldKind}
use Rattle.cron_fields.specs.declared.field.FieldSet.{FieldSet}
use Rattle.cron_fields.specs.Cause.{cause_number}
use Rattle.cron_fields.specs.declared.cause.Cause.TheVariants.{Tilde}

-- the items of a text: what stands between its commas
pub record AreItems (text : List ℕ) (items : List (List ℕ)) : Type 0 where
  pub some : 0 < length items
  pub text_is : text ≡ join_with_byte 44 items
  pub whole : AllByRecursion (HasNo 44) items

-- a value of one of the items
abbrev pub AnyStepsTo : FieldKind → List IsStepped → ℕ → Type 0
AnyStepsTo kind [] value = ⊥
AnyStepsTo kind (part ∷ parts) value = StepsTo kind part value ⊎ AnyStepsTo kind parts value

-- a list of items: the set has the values of each, and `star` where the text begins with `*`
pub record IsList (kind : FieldKind) (text : List ℕ) (set : FieldSet) : Type 0 where
  pub items : List (List ℕ)
  pub parts : List IsStepped
  pub split : AreItems text items
  pub each : AllZip (IsItem kind) items parts
  pub has : (value : ℕ) → Has set value ↔ AnyStepsTo kind parts value
  pub star : set.star ≡ (slice_index text 0 == 42)
  pub hashed : set.hashed ≡ false

-- `?`: the set has the value that the hash picks
pub record IsHashed (kind : FieldKind) (text : List ℕ) (seed : Seed) (set : FieldSet) : Type 0 where
  pub text_is : text ≡ codes "?"
  pub has : (value : ℕ) → Has set value ↔ (value ≡ hashed_value kind seed)
  pub star : set.star ≡ false
  pub hashed : set.hashed ≡ true

-- the text stands for the set
abbrev pub IsField : FieldKind → List ℕ → Seed → FieldSet → Type 0
IsField kind text seed set = IsHashed kind text seed set ⊎ IsList kind text set

-- a `~` anywhere: cause 8, at the first one
pub record IsTilde (text : List ℕ) (cause place : ℕ) : Type 0 where
  pub before : List ℕ
  pub after : List ℕ
  pub split : IsSplitAt 126 text before after
  pub cause_is : cause ≡ cause_number Tilde
  pub place_is : place ≡ length before

-- the text has an item
abbrev pub IsItemText : FieldKind → List ℕ → Type 0
IsItemText kind item = (steps : IsStepped) × IsItem kind item steps

-- the first item that is none, and what is wrong with it
pub record IsListFault (kind : FieldKind) (text : List ℕ) (cause place : ℕ) : Type 0 where
  pub before : List (List ℕ)
  pub item : List ℕ
  pub after : List (List ℕ)
  pub split : AreItems text (before ++ (item ∷ after))
  pub sound : AllByRecursion (IsItemText kind) before
  pub offset : ℕ
  pub fault : IsItemFault kind item cause offset
  pub place_is : place ≡ sum_by (λ one. length one + 1) before + offset

-- the first rule that the text breaks, by its number, and the place of the byte
abbrev pub IsFieldFault : FieldKind → List ℕ → ℕ → ℕ → Type 0
IsFieldFault kind text cause place =
    IsTilde text cause place ⊎ (HasNo 126 text × (text ≢ codes "?") × IsListFault kind text cause place)

-- a byte of a field: a letter, a digit, `*`, `,`, `-`, `/` or `?`
abbrev pub IsFieldByte : ℕ → Type 0
IsFieldByte c = IsAsciiAlphanumeric c ⊎ (c ≡ 42) ⊎ (c ≡ 44) ⊎ (c ≡ 45) ⊎ (c ≡ 47) ⊎ (c ≡ 63)
