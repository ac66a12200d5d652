-- The words of the command line: the options, how each is spelled, which may stand together, and what they ask for.
-- Source: docs/RUN_FILE.md.
use Rattle.std.specs.Prelude.{◌≡◌, ◌⊎◌, ◌≤◌, ℕ, Bool, true, false, List, [], ◌∷◌, ◌++◌, Option, None, Some, map, filter_map, get_or, codes, decimal, AllPairs, String, string_bytes}
use Rattle.std.specs.List.{list_any}
use Rattle.std.specs.Option.{option_to_list}
use Rattle.std.specs.declared.alloc.Global.{Global}
use Rattle.program_options.specs.declared.words.Asked.{Asked}
use Rattle.program_options.specs.declared.words.Choice.{Choice}
use Rattle.program_options.specs.declared.words.Choice.TheVariants as choice
use Rattle.program_options.specs.declared.words.Output.TheVariants.{Report, DueList, Check, Summary}
use Rattle.program_options.specs.declared.words.Request.{Request}
use Rattle.program_options.specs.declared.words.Request.TheVariants.{Text, Audit}
use Rattle.program_options.specs.declared.words.Wishes.{Wishes}

-- the words are this name and this value: two words, or one with `=` between the two
abbrev pub IsNameWithValue : (name value : List ℕ) → List (List ℕ) → Type 0
IsNameWithValue name value words = (words ≡ name ∷ value ∷ []) ⊎ (words ≡ (name ++ codes "=" ++ value) ∷ [])

-- the words spell the option
abbrev pub IsSpelledBy : Choice → List (List ℕ) → Type 0
IsSpelledBy choice.List words = words ≡ codes "--list" ∷ []
IsSpelledBy choice.Check words = words ≡ codes "--check" ∷ []
IsSpelledBy choice.Audit words = words ≡ codes "--audit" ∷ []
IsSpelledBy choice.Journal words = words ≡ codes "--journal" ∷ []
IsSpelledBy choice.Watch words = words ≡ codes "--watch" ∷ []
IsSpelledBy (choice.Make seed) words = (seed ≤ 4_294_967_295) × IsNameWithValue (codes "--make") (decimal seed) words
IsSpelledBy (choice.Lanes lanes) words = (1 ≤ lanes) × (lanes ≤ 8) × IsNameWithValue (codes "--lanes") (decimal lanes) words

-- the words begin with a spelling of the option, and the others follow it
abbrev pub BeginsWith : Choice → (words others : List (List ℕ)) → Type 0
BeginsWith choice words others = (own : List (List ℕ)) × IsSpelledBy choice own × (words ≡ own ++ others)

-- the words spell the options, one after the other
abbrev pub AreSpelledBy : List Choice → List (List ℕ) → Type 0
AreSpelledBy [] words = words ≡ []
AreSpelledBy (choice ∷ choices) words = (others : List (List ℕ)) × BeginsWith choice words others × AreSpelledBy choices others

-- The two options may stand on one command line, in this order. One text may be asked for, or an audit; beside a report there may be what
-- was seen of the board, and the journal.
abbrev pub MayStandTogether : Choice → Choice → Type 0
MayStandTogether choice.List (choice.Lanes lanes) = Unit {0}
MayStandTogether choice.Check (choice.Lanes lanes) = Unit {0}
MayStandTogether choice.Audit (choice.Lanes lanes) = Unit {0}
MayStandTogether choice.Journal (choice.Lanes lanes) = Unit {0}
MayStandTogether choice.Watch (choice.Lanes lanes) = Unit {0}
MayStandTogether (choice.Make seed) (choice.Lanes lanes) = Unit {0}
MayStandTogether (choice.Lanes lanes) choice.List = Unit {0}
MayStandTogether (choice.Lanes lanes) choice.Check = Unit {0}
MayStandTogether (choice.Lanes lanes) choice.Audit = Unit {0}
MayStandTogether (choice.Lanes lanes) choice.Journal = Unit {0}
MayStandTogether (choice.Lanes lanes) choice.Watch = Unit {0}
MayStandTogether (choice.Lanes lanes) (choice.Make seed) = Unit {0}
MayStandTogether choice.Journal choice.Watch = Unit {0}
MayStandTogether choice.Watch choice.Journal = Unit {0}
MayStandTogether choice other = ⊥

-- the words are those of the options, any two of which may stand together
pub record AreWordsOf (choices : List Choice) (words : List (List ℕ)) : Type 0 where
  pub spelled : AreSpelledBy choices words
  pub together : AllPairs MayStandTogether choices

-- what an option asks for in place of a report
abbrev pub request_asked : Choice → Option Request
request_asked choice.List = Some (Text DueList)
request_asked choice.Check = Some (Text Check)
request_asked choice.Audit = Some Audit
request_asked (choice.Make seed) = Some (Text (Summary seed))
request_asked choice = None

-- the number of lanes that an option asks for
abbrev pub lanes_asked : Choice → Option ℕ
lanes_asked (choice.Lanes lanes) = Some lanes
lanes_asked choice = None

-- the option asks for what was seen of the board
abbrev pub is_watch : Choice → Bool
is_watch choice.Watch = true
is_watch choice = false

-- the option asks for the journal
abbrev pub is_journal : Choice → Bool
is_journal choice.Journal = true
is_journal choice = false

-- what options ask the program for: the report, with what else they ask for of the run, unless one of them asks for something instead
abbrev pub request_of : List Choice → Request
request_of choices = get_or (filter_map request_asked choices) 0 (Text (Report (list_any is_watch choices) (list_any is_journal choices)))

-- on how many lanes: on one unless one of them asks for more
abbrev pub lanes_of : List Choice → ℕ
lanes_of choices = get_or (filter_map lanes_asked choices) 0 1

-- what options ask for
abbrev pub wanted : List Choice → Asked
wanted choices = record { request = request_of choices; lanes = lanes_of choices }

-- the words ask for this
abbrev pub Asks : List (List ℕ) → Asked → Type 0
Asks words asked = (choices : List Choice) × AreWordsOf choices words × (asked ≡ wanted choices)

-- the words are those of no options
abbrev pub HasNoOptions : List (List ℕ) → Type 0
HasNoOptions words = (choices : List Choice) → AreWordsOf choices words → ⊥

-- the options may stand together, and ask for this
pub record AreWishesOf (choices : List Choice) (wishes : Wishes) : Type 0 where
  pub together : AllPairs MayStandTogether choices
  pub instead : filter_map request_asked choices ≡ option_to_list wishes.instead
  pub watch : list_any is_watch choices ≡ wishes.watch
  pub journal : list_any is_journal choices ≡ wishes.journal
  pub lanes : filter_map lanes_asked choices ≡ option_to_list wishes.lanes

-- the texts of the program's arguments
abbrev pub texts_of : List (String Global) → List (List ℕ)
texts_of words = map string_bytes words

-- the words after the program's name
abbrev pub behind_name : List (List ℕ) → List (List ℕ)
behind_name [] = []
behind_name (name ∷ words) = words
