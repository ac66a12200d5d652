-- The line of a command, from its word and what stands behind it.
use Rattle.std.proofs.Common.{◌≡◌, ◌≢◌, ℕ, ◌<◌, ◌^◌, List, ◌∷◌, ◌++◌, ◌∙◌, rules, codes, decimal, ℤ}
use Rattle.std.specs.Fmt.{signed_decimal}
use Rattle.zone_minutes.specs.Stamp.{stamp_text}
use Rattle.zone_minutes.specs.declared.minute.Window.{Window}
use Rattle.script_text.specs.Command.{fate_word, IsStampIn, IsCount, IsSkew, IsCommandLine}
use Rattle.script_text.specs.Words.{IsMemberWord, campaign, stop, restart, reverse, IsMembersWord, cut, drop, repeat, IsNumberWord, again, arrive, IsInstantWord, settle, walk}
use Rattle.script_text.specs.declared.command.Command.{Command}
use Rattle.script_text.specs.declared.command.Command.TheVariants.{Round, Campaign, Stop, Break, Restart, Cut, Heal, Drop, Repeat, Reverse, Again, Skew, Fate, Arrive, Settle, Walk, Free}
use Rattle.script_text.specs.declared.command.FateWord.{FateWord}
use Rattle.script_text.proofs.CutLemmas.{Lacks, IsCutAtSpace, lacks_none, same_parts}

-- what a line says that is cut at its first space
pub from_parts : (line word operands : List ℕ) (members : ℕ) (window : Window) (command : Command) → IsCutAtSpace line word operands
    → IsCommandLine (word ++ 32 ∷ operands) members window command → IsCommandLine line members window command
from_parts line word operands members window command parts says = record { is = parts.parts ∙ says.is; in_range = says.in_range }

-- a word and what stands behind it are those of no command, whatever the word
pub record IsNone (word operands : List ℕ) (members : ℕ) (window : Window) : Type 0 where
  pub member : IsMemberWord word → (member : ℕ) → member < members → operands ≢ decimal member
  pub two : IsMembersWord word → (from to : ℕ) → from < members → to < members → operands ≢ decimal from ++ 32 ∷ decimal to
  pub no_break : word ≡ codes "break" → (member pass image : ℕ) → member < members → pass < 2 ^ 32 → image < 2 ^ 32 → operands ≢ decimal member ++ (32 ∷ decimal pass ++ 32 ∷ decimal image)
  pub no_skew : word ≡ codes "skew" → (member : ℕ) (minutes : ℤ) → member < members → IsSkew minutes → operands ≢ decimal member ++ 32 ∷ signed_decimal minutes
  pub no_fate : word ≡ codes "fate" → (member : ℕ) (fate : FateWord) → member < members → operands ≢ decimal member ++ 32 ∷ fate_word fate
  pub number : IsNumberWord word → (number : ℕ) → number < 2 ^ 32 → operands ≢ decimal number
  pub instant : IsInstantWord word → (at : ℤ) → IsStampIn window at → operands ≢ stamp_text at
  pub no_round : word ≡ codes "round" → (at : ℤ) (rounds : ℕ) → IsStampIn window at → IsCount 10_000 rounds → operands ≢ stamp_text at ++ 32 ∷ decimal rounds
  pub no_free : word ≡ codes "free" → (at : ℤ) (turns : ℕ) → IsStampIn window at → IsCount 20_000 turns → operands ≢ stamp_text at ++ 32 ∷ decimal turns

module _ (line word operands : List ℕ) (parts : IsCutAtSpace line word operands) where
  -- a line with that word and these operands
  abbrev Says : List ℕ → List ℕ → Type 0
  Says name rest = (word ≡ name) × (operands ≡ rest)

  pub says : (name rest : List ℕ) → Lacks 32 name → line ≡ name ++ 32 ∷ rest → Says name rest
  says name rest lacks is = same_parts line word name operands rest parts lacks is

  pub none_of : (members : ℕ) (window : Window) → IsNone word operands members window → (command : Command) → IsCommandLine line members window command → ⊥
  none_of members window none (Round at rounds) is =
      let (word_is, rest) = says (codes "round") (stamp_text at.0 ++ 32 ∷ decimal rounds) (search rules) is.is in
      none.no_round word_is at.0 rounds is.in_range.0 is.in_range.1 rest
  none_of members window none (Campaign member) is =
      let (word_is, rest) = says (codes "campaign") (decimal member) (search rules) is.is in
      none.member (campaign word_is) member is.in_range rest
  none_of members window none (Stop member) is =
      let (word_is, rest) = says (codes "stop") (decimal member) (search rules) is.is in
      none.member (stop word_is) member is.in_range rest
  none_of members window none (Break member pass image) is =
      let (word_is, rest) = says (codes "break") (decimal member ++ (32 ∷ decimal pass ++ 32 ∷ decimal image)) (search rules) is.is in
      none.no_break word_is member pass image is.in_range.0 is.in_range.1 is.in_range.2 rest
  none_of members window none (Restart member) is =
      let (word_is, rest) = says (codes "restart") (decimal member) (search rules) is.is in
      none.member (restart word_is) member is.in_range rest
  none_of members window none (Cut from to) is =
      let (word_is, rest) = says (codes "cut") (decimal from ++ 32 ∷ decimal to) (search rules) is.is in
      none.two (cut word_is) from to is.in_range.0 is.in_range.1 rest
  none_of members window none Heal is =
      lacks_none 32 word operands (rw (← parts.parts) (rw is.is (search rules)))
  none_of members window none (Drop from to) is =
      let (word_is, rest) = says (codes "drop") (decimal from ++ 32 ∷ decimal to) (search rules) is.is in
      none.two (drop word_is) from to is.in_range.0 is.in_range.1 rest
  none_of members window none (Repeat from to) is =
      let (word_is, rest) = says (codes "repeat") (decimal from ++ 32 ∷ decimal to) (search rules) is.is in
      none.two (repeat word_is) from to is.in_range.0 is.in_range.1 rest
  none_of members window none (Reverse member) is =
      let (word_is, rest) = says (codes "reverse") (decimal member) (search rules) is.is in
      none.member (reverse word_is) member is.in_range rest
  none_of members window none (Again letter) is =
      let (word_is, rest) = says (codes "again") (decimal letter) (search rules) is.is in
      none.number (again word_is) letter is.in_range rest
  none_of members window none (Skew member minutes) is =
      let (word_is, rest) = says (codes "skew") (decimal member ++ 32 ∷ signed_decimal minutes) (search rules) is.is in
      none.no_skew word_is member minutes is.in_range.0 is.in_range.1 rest
  none_of members window none (Fate member fate) is =
      let (word_is, rest) = says (codes "fate") (decimal member ++ 32 ∷ fate_word fate) (search rules) is.is in
      none.no_fate word_is member fate is.in_range rest
  none_of members window none (Arrive late) is =
      let (word_is, rest) = says (codes "arrive") (decimal late) (search rules) is.is in
      none.number (arrive word_is) late is.in_range rest
  none_of members window none (Settle at) is =
      let (word_is, rest) = says (codes "settle") (stamp_text at.0) (search rules) is.is in
      none.instant (settle word_is) at.0 is.in_range rest
  none_of members window none (Walk to) is =
      let (word_is, rest) = says (codes "walk") (stamp_text to.0) (search rules) is.is in
      none.instant (walk word_is) to.0 is.in_range rest
  none_of members window none (Free at turns) is =
      let (word_is, rest) = says (codes "free") (stamp_text at.0 ++ 32 ∷ decimal turns) (search rules) is.is in
      none.no_free word_is at.0 turns is.in_range.0 is.in_range.1 rest
