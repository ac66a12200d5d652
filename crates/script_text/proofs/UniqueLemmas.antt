-- A line says one command.
use Rattle.std.proofs.Common.{◌≡◌, ℕ, ◌+◌, ◌*◌, ◌<◌, ◌^◌, ◌==◌, if◌then◌else◌, List, [], ◌∷◌, ◌++◌, get_or, refl, ap, sym, subst, ◌∙◌, arith, codes, decimal, ℤ, pos, negsuc}
use Rattle.std.specs.Fmt.{signed_decimal}
use Rattle.std.proofs.lemmas.List.{append_cancel_left}
use Rattle.std.proofs.lemmas.Fmt.{decimal_injective, signed_decimal_injective}
use Rattle.std.proofs.lemmas.Int.{ints}
use Rattle.zone_minutes.specs.Stamp.{stamp_text}
use Rattle.zone_minutes.specs.declared.minute.Minute.{Minute}
use Rattle.zone_minutes.specs.declared.minute.Window.{Window}
use Rattle.zone_minutes.proofs.StampLemmas.{stamp_text-injective}
use Rattle.script_text.specs.Command.{fate_word, command_line, IsStampIn, IsSkew, IsCommandLine}
use Rattle.script_text.specs.declared.command.Command.{Command}
use Rattle.script_text.specs.declared.command.Command.TheVariants.{Round, Campaign, Stop, Break, Restart, Cut, Heal, Drop, Repeat, Reverse, Again, Skew, Fate, Arrive, Settle, Walk, Free}
use Rattle.script_text.specs.declared.command.FateWord.{FateWord}
use Rattle.script_text.specs.declared.command.FateWord.TheVariants.{Done, LostBefore, LostAfter, Late}
use Rattle.script_text.proofs.CutLemmas.{Lacks, same_cut}
use Rattle.script_text.proofs.OperandLemmas.{decimal_no_space, stamp_no_space}

-- which command it is, without what it names
data Kind : Type 0 where
  round : Kind
  campaign : Kind
  stop : Kind
  break : Kind
  restart : Kind
  cut : Kind
  heal : Kind
  drop : Kind
  repeat : Kind
  reverse : Kind
  again : Kind
  skew : Kind
  fate : Kind
  arrive : Kind
  settle : Kind
  walk : Kind
  free : Kind

-- by the first and the third letter of its line
abbrev letters : List ℕ → ℕ
letters line = get_or line 0 0 * 256 + get_or line 2 0

abbrev kind_at : ℕ → Kind
kind_at n =
    if n == 29301 then round else
    if n == 25453 then campaign else
    if n == 29551 then stop else
    if n == 25189 then break else
    if n == 29299 then restart else
    if n == 25460 then cut else
    if n == 26721 then heal else
    if n == 25711 then drop else
    if n == 29296 then repeat else
    if n == 29302 then reverse else
    if n == 24929 then again else
    if n == 29541 then skew else
    if n == 26228 then fate else
    if n == 24946 then arrive else
    if n == 29556 then settle else
    if n == 30572 then walk else
    free

abbrev kind_of : List ℕ → Kind
kind_of line = kind_at (letters line)

-- a command of that kind
abbrev IsOf : Kind → Command → Type 0
IsOf round command = (at : Minute) × (rounds : ℕ) × (command ≡ Round at rounds)
IsOf campaign command = (member : ℕ) × (command ≡ Campaign member)
IsOf stop command = (member : ℕ) × (command ≡ Stop member)
IsOf break command = (member : ℕ) × (pass : ℕ) × (image : ℕ) × (command ≡ Break member pass image)
IsOf restart command = (member : ℕ) × (command ≡ Restart member)
IsOf cut command = (from : ℕ) × (to : ℕ) × (command ≡ Cut from to)
IsOf heal command = command ≡ Heal
IsOf drop command = (from : ℕ) × (to : ℕ) × (command ≡ Drop from to)
IsOf repeat command = (from : ℕ) × (to : ℕ) × (command ≡ Repeat from to)
IsOf reverse command = (member : ℕ) × (command ≡ Reverse member)
IsOf again command = (letter : ℕ) × (command ≡ Again letter)
IsOf skew command = (member : ℕ) × (minutes : ℤ) × (command ≡ Skew member minutes)
IsOf fate command = (member : ℕ) × (word : FateWord) × (command ≡ Fate member word)
IsOf arrive command = (late : ℕ) × (command ≡ Arrive late)
IsOf settle command = (at : Minute) × (command ≡ Settle at)
IsOf walk command = (to : Minute) × (command ≡ Walk to)
IsOf free command = (at : Minute) × (turns : ℕ) × (command ≡ Free at turns)

is_of : (command : Command) → IsOf (kind_of (command_line command)) command
is_of (Round at rounds) = (at, rounds, refl)
is_of (Campaign member) = (member, refl)
is_of (Stop member) = (member, refl)
is_of (Break member pass image) = (member, pass, image, refl)
is_of (Restart member) = (member, refl)
is_of (Cut from to) = (from, to, refl)
is_of Heal = refl
is_of (Drop from to) = (from, to, refl)
is_of (Repeat from to) = (from, to, refl)
is_of (Reverse member) = (member, refl)
is_of (Again letter) = (letter, refl)
is_of (Skew member minutes) = (member, minutes, refl)
is_of (Fate member word) = (member, word, refl)
is_of (Arrive late) = (late, refl)
is_of (Settle at) = (at, refl)
is_of (Walk to) = (to, refl)
is_of (Free at turns) = (at, turns, refl)

-- a command by what it names
same_two : {A B : Type 0} (C : A → B → Command) (a c : A) (b d : B) → a ≡ c → b ≡ d → C a b ≡ C c d
same_two C a c b d first second = rw (first, second) refl

same_three : (C : ℕ → ℕ → ℕ → Command) (a c b d e f : ℕ) → a ≡ c → b ≡ d → e ≡ f → C a b e ≡ C c d f
same_three C a c b d e f first second third = rw (first, second, third) refl

-- what two texts name that are alike
same_number : (name : List ℕ) (x y : ℕ) → x < 2 ^ 64 → y < 2 ^ 64 → name ++ decimal x ≡ name ++ decimal y → x ≡ y
same_number name x y small little is = decimal_injective x y small little (append_cancel_left name (decimal x) (decimal y) is)

same_front : (name a b x y : List ℕ) → Lacks 32 a → Lacks 32 b → name ++ (a ++ 32 ∷ x) ≡ name ++ (b ++ 32 ∷ y) → (a ≡ b) × (x ≡ y)
same_front name a b x y lacks has is = same_cut 32 a b x y lacks has (append_cancel_left name (a ++ 32 ∷ x) (b ++ 32 ∷ y) is)

same_numbers : (name : List ℕ) (m n x y : ℕ) → m < 2 ^ 64 → n < 2 ^ 64 → x < 2 ^ 64 → y < 2 ^ 64
    → name ++ (decimal m ++ 32 ∷ decimal x) ≡ name ++ (decimal n ++ 32 ∷ decimal y) → (m ≡ n) × (x ≡ y)
same_numbers name m n x y one two three four is =
    let parts = same_front name (decimal m) (decimal n) (decimal x) (decimal y) (decimal_no_space m one) (decimal_no_space n two) is in
    (decimal_injective m n one two parts.0, decimal_injective x y three four parts.1)

pub same_minute : (a b : Minute) → a.0 ≡ b.0 → a ≡ b
same_minute a b is =
    let minute : ℤ → Minute = λ at. record { 0 = at } in
    let same : minute a.0 ≡ minute b.0 = ap minute is in
    same

same_stamp : (v w : Window) (a b : Minute) → IsStampIn v a.0 → IsStampIn w b.0 → stamp_text a.0 ≡ stamp_text b.0 → a ≡ b
same_stamp v w a b in_v in_w is = same_minute a b (stamp_text-injective a.0 b.0 in_v.calendar in_w.calendar is)

same_skew : (y z : ℤ) → IsSkew y → IsSkew z → signed_decimal y ≡ signed_decimal z → y ≡ z
same_skew (pos m) (pos n) one two is = signed_decimal_injective (pos m) (pos n) (omega (arith, ints, one.1)) (omega (arith, ints, two.1)) is
same_skew (pos m) (negsuc n) one two is = signed_decimal_injective (pos m) (negsuc n) (omega (arith, ints, one.1)) (omega (arith, ints, two.0)) is
same_skew (negsuc m) (pos n) one two is = signed_decimal_injective (negsuc m) (pos n) (omega (arith, ints, one.0)) (omega (arith, ints, two.1)) is
same_skew (negsuc m) (negsuc n) one two is = signed_decimal_injective (negsuc m) (negsuc n) (omega (arith, ints, one.0)) (omega (arith, ints, two.0)) is

-- a fate by the second and the sixth letter of its word
abbrev fate_at : ℕ → FateWord
fate_at n =
    if n == 111 then Done else
    if n == 209 then LostBefore else
    if n == 208 then LostAfter else
    Late

abbrev fate_of : List ℕ → FateWord
fate_of word = fate_at (get_or word 1 0 + get_or word 5 0)

fate_is : (fate : FateWord) → fate_of (fate_word fate) ≡ fate
fate_is Done = refl
fate_is LostBefore = refl
fate_is LostAfter = refl
fate_is Late = refl

pub same_fate : (a b : FateWord) → fate_word a ≡ fate_word b → a ≡ b
same_fate a b is = sym (fate_is a) ∙ ap fate_of is ∙ fate_is b

module _ (line : List ℕ) (m n : ℕ) (v w : Window) (small : m < 2 ^ 8) (few : n < 2 ^ 8) where
  -- the other command is of the same kind
  alike : (a b : Command) → IsCommandLine line m v a → IsCommandLine line n w b → IsOf (kind_of (command_line a)) b
  alike a b p q = subst (λ l. IsOf (kind_of l) b) (sym q.is ∙ p.is) (is_of b)

  pub one_command : (a b : Command) → IsCommandLine line m v a → IsCommandLine line n w b → a ≡ b
  one_command (Round at rounds) b p q =
      let (other, count, is) = alike (Round at rounds) b p q in
      let there : IsCommandLine line n w (Round other count) = subst (IsCommandLine line n w) is q in
      let parts = same_front (codes "round ") (stamp_text at.0) (stamp_text other.0) (decimal rounds) (decimal count) (stamp_no_space at.0) (stamp_no_space other.0) (sym p.is ∙ there.is) in
      let counts = decimal_injective rounds count (omega (arith, p.in_range.1.most)) (omega (arith, there.in_range.1.most)) parts.1 in
      same_two Round at other rounds count (same_stamp v w at other p.in_range.0 there.in_range.0 parts.0) counts ∙ sym is
  one_command (Campaign member) b p q =
      let (other, is) = alike (Campaign member) b p q in
      let there : IsCommandLine line n w (Campaign other) = subst (IsCommandLine line n w) is q in
      ap Campaign (same_number (codes "campaign ") member other (omega (arith, small, p.in_range)) (omega (arith, few, there.in_range)) (sym p.is ∙ there.is)) ∙ sym is
  one_command (Stop member) b p q =
      let (other, is) = alike (Stop member) b p q in
      let there : IsCommandLine line n w (Stop other) = subst (IsCommandLine line n w) is q in
      ap Stop (same_number (codes "stop ") member other (omega (arith, small, p.in_range)) (omega (arith, few, there.in_range)) (sym p.is ∙ there.is)) ∙ sym is
  one_command (Break member pass image) b p q =
      let (other, calls, kept, is) = alike (Break member pass image) b p q in
      let there : IsCommandLine line n w (Break other calls kept) = subst (IsCommandLine line n w) is q in
      let parts = same_front (codes "break ") (decimal member) (decimal other) (decimal pass ++ 32 ∷ decimal image) (decimal calls ++ 32 ∷ decimal kept) (decimal_no_space member (omega (arith, small, p.in_range.0))) (decimal_no_space other (omega (arith, few, there.in_range.0))) (sym p.is ∙ there.is) in
      let members = decimal_injective member other (omega (arith, small, p.in_range.0)) (omega (arith, few, there.in_range.0)) parts.0 in
      let rest = same_numbers [] pass calls image kept (omega (arith, p.in_range.1)) (omega (arith, there.in_range.1)) (omega (arith, p.in_range.2)) (omega (arith, there.in_range.2)) parts.1 in
      same_three Break member other pass calls image kept members rest.0 rest.1 ∙ sym is
  one_command (Restart member) b p q =
      let (other, is) = alike (Restart member) b p q in
      let there : IsCommandLine line n w (Restart other) = subst (IsCommandLine line n w) is q in
      ap Restart (same_number (codes "restart ") member other (omega (arith, small, p.in_range)) (omega (arith, few, there.in_range)) (sym p.is ∙ there.is)) ∙ sym is
  one_command (Cut from to) b p q =
      let (other, third, is) = alike (Cut from to) b p q in
      let there : IsCommandLine line n w (Cut other third) = subst (IsCommandLine line n w) is q in
      let same = same_numbers (codes "cut ") from other to third (omega (arith, small, p.in_range.0)) (omega (arith, few, there.in_range.0)) (omega (arith, small, p.in_range.1)) (omega (arith, few, there.in_range.1)) (sym p.is ∙ there.is) in
      same_two Cut from other to third same.0 same.1 ∙ sym is
  one_command Heal b p q = sym (alike Heal b p q)
  one_command (Drop from to) b p q =
      let (other, third, is) = alike (Drop from to) b p q in
      let there : IsCommandLine line n w (Drop other third) = subst (IsCommandLine line n w) is q in
      let same = same_numbers (codes "drop ") from other to third (omega (arith, small, p.in_range.0)) (omega (arith, few, there.in_range.0)) (omega (arith, small, p.in_range.1)) (omega (arith, few, there.in_range.1)) (sym p.is ∙ there.is) in
      same_two Drop from other to third same.0 same.1 ∙ sym is
  one_command (Repeat from to) b p q =
      let (other, third, is) = alike (Repeat from to) b p q in
      let there : IsCommandLine line n w (Repeat other third) = subst (IsCommandLine line n w) is q in
      let same = same_numbers (codes "repeat ") from other to third (omega (arith, small, p.in_range.0)) (omega (arith, few, there.in_range.0)) (omega (arith, small, p.in_range.1)) (omega (arith, few, there.in_range.1)) (sym p.is ∙ there.is) in
      same_two Repeat from other to third same.0 same.1 ∙ sym is
  one_command (Reverse member) b p q =
      let (other, is) = alike (Reverse member) b p q in
      let there : IsCommandLine line n w (Reverse other) = subst (IsCommandLine line n w) is q in
      ap Reverse (same_number (codes "reverse ") member other (omega (arith, small, p.in_range)) (omega (arith, few, there.in_range)) (sym p.is ∙ there.is)) ∙ sym is
  one_command (Again letter) b p q =
      let (other, is) = alike (Again letter) b p q in
      let there : IsCommandLine line n w (Again other) = subst (IsCommandLine line n w) is q in
      ap Again (same_number (codes "again ") letter other (omega (arith, p.in_range)) (omega (arith, there.in_range)) (sym p.is ∙ there.is)) ∙ sym is
  one_command (Skew member minutes) b p q =
      let (other, ahead, is) = alike (Skew member minutes) b p q in
      let there : IsCommandLine line n w (Skew other ahead) = subst (IsCommandLine line n w) is q in
      let parts = same_front (codes "skew ") (decimal member) (decimal other) (signed_decimal minutes) (signed_decimal ahead) (decimal_no_space member (omega (arith, small, p.in_range.0))) (decimal_no_space other (omega (arith, few, there.in_range.0))) (sym p.is ∙ there.is) in
      let members = decimal_injective member other (omega (arith, small, p.in_range.0)) (omega (arith, few, there.in_range.0)) parts.0 in
      same_two Skew member other minutes ahead members (same_skew minutes ahead p.in_range.1 there.in_range.1 parts.1) ∙ sym is
  one_command (Fate member word) b p q =
      let (other, last, is) = alike (Fate member word) b p q in
      let there : IsCommandLine line n w (Fate other last) = subst (IsCommandLine line n w) is q in
      let parts = same_front (codes "fate ") (decimal member) (decimal other) (fate_word word) (fate_word last) (decimal_no_space member (omega (arith, small, p.in_range))) (decimal_no_space other (omega (arith, few, there.in_range))) (sym p.is ∙ there.is) in
      let members = decimal_injective member other (omega (arith, small, p.in_range)) (omega (arith, few, there.in_range)) parts.0 in
      same_two Fate member other word last members (same_fate word last parts.1) ∙ sym is
  one_command (Arrive late) b p q =
      let (other, is) = alike (Arrive late) b p q in
      let there : IsCommandLine line n w (Arrive other) = subst (IsCommandLine line n w) is q in
      ap Arrive (same_number (codes "arrive ") late other (omega (arith, p.in_range)) (omega (arith, there.in_range)) (sym p.is ∙ there.is)) ∙ sym is
  one_command (Settle at) b p q =
      let (other, is) = alike (Settle at) b p q in
      let there : IsCommandLine line n w (Settle other) = subst (IsCommandLine line n w) is q in
      ap Settle (same_stamp v w at other p.in_range there.in_range (append_cancel_left (codes "settle ") (stamp_text at.0) (stamp_text other.0) (sym p.is ∙ there.is))) ∙ sym is
  one_command (Walk to) b p q =
      let (other, is) = alike (Walk to) b p q in
      let there : IsCommandLine line n w (Walk other) = subst (IsCommandLine line n w) is q in
      ap Walk (same_stamp v w to other p.in_range there.in_range (append_cancel_left (codes "walk ") (stamp_text to.0) (stamp_text other.0) (sym p.is ∙ there.is))) ∙ sym is
  one_command (Free at turns) b p q =
      let (other, count, is) = alike (Free at turns) b p q in
      let there : IsCommandLine line n w (Free other count) = subst (IsCommandLine line n w) is q in
      let parts = same_front (codes "free ") (stamp_text at.0) (stamp_text other.0) (decimal turns) (decimal count) (stamp_no_space at.0) (stamp_no_space other.0) (sym p.is ∙ there.is) in
      let counts = decimal_injective turns count (omega (arith, p.in_range.1.most)) (omega (arith, there.in_range.1.most)) parts.1 in
      same_two Free at other turns count (same_stamp v w at other p.in_range.0 there.in_range.0 parts.0) counts ∙ sym is
