-- The parts of an entry.
use Rattle.std.proofs.Common.{◌≡◌, ℕ, ◌+◌, ◌≤◌, List, [], ◌∷◌, length, refl, ap, ◌∙◌, subst, inl, inr, arith, length-append}
use Rattle.cron_fields.specs.Field.{IsField}
use Rattle.cron_fields.specs.Seed.{Seed}
use Rattle.cron_fields.specs.declared.field.FieldKind.{FieldKind}
use Rattle.cron_fields.specs.declared.field.FieldKind.TheVariants.{Minute, Hour, MonthDay, Month, WeekDay}
use Rattle.cron_fields.specs.declared.field.FieldSet.{FieldSet}
use Rattle.crontab_text.specs.Blanks.{SkipsBlanks, IsFirstWord}
use Rattle.crontab_text.specs.LineBreak.{IsLineBreak}
use Rattle.crontab_text.specs.Nickname.{IsNickFault}
use Rattle.crontab_text.specs.Entry.{five_kinds, BeginsWithFields, IsBadWord, IsFieldsFault, IsEntryFault}
use Rattle.crontab_text.specs.Tail.{IsTail, IsTailFault, IsBadCommand, IsCommandFault}
use Rattle.crontab_text.specs.TailParts.{IsSplitTail, IsGoodTail, IsBadTail}
use Rattle.crontab_text.specs.declared.answer.Style.{Style}
use Rattle.crontab_text.specs.declared.answer.Style.TheVariants.{User, System}
use Rattle.crontab_text.specs.declared.tail.Tail.{Tail}

-- a word and what is behind it are no longer than the text
pub word_within : (text word after : List ℕ) → IsFirstWord text word after → length word + length after ≤ length text
word_within text word after first =
    let cut : length first.rest ≡ length word + length after = ap length first.cut.parts ∙ length-append word after in
    let skip : length text ≡ length first.skips.blanks + length first.rest = ap length first.skips.parts ∙ length-append first.skips.blanks first.rest in
    omega arith

-- the first field is at fault
pub fault_here : (kind : FieldKind) (kinds : List FieldKind) (here cause left : ℕ) {text word after : List ℕ} → IsFirstWord text word after → here ≡ length word + length after → IsBadWord kind word here cause left → IsFieldsFault (kind ∷ kinds) text cause left
fault_here kind kinds here cause left {word = word} {after = after} first is bad =
    (word, after, first, inl (subst (λ n. IsBadWord kind word n cause left) is bad))

-- a later one is
pub fault_later : (kind : FieldKind) (kinds : List FieldKind) (cause left : ℕ) {text word after : List ℕ} {seed : Seed} {set : FieldSet} → IsFirstWord text word after → IsField kind word seed set → IsFieldsFault kinds after cause left → IsFieldsFault (kind ∷ kinds) text cause left
fault_later kind kinds cause left {word = word} {after = after} {seed = seed} {set = set} first field fault =
    (word, after, first, inr (seed, set, field, fault))

-- five words that are fields
pub five_fields : {seed : Seed} {text w1 t1 w2 t2 w3 t3 w4 t4 w5 t5 : List ℕ} {s1 s2 s3 s4 s5 : FieldSet} → IsFirstWord text w1 t1 → IsField Minute w1 seed s1 → IsFirstWord t1 w2 t2 → IsField Hour w2 seed s2 → IsFirstWord t2 w3 t3 → IsField MonthDay w3 seed s3 → IsFirstWord t3 w4 t4 → IsField Month w4 seed s4 → IsFirstWord t4 w5 t5 → IsField WeekDay w5 seed s5 → BeginsWithFields five_kinds seed text (s1 ∷ s2 ∷ s3 ∷ s4 ∷ s5 ∷ []) t5
five_fields {w1 = w1} {t1 = t1} {w2 = w2} {t2 = t2} {w3 = w3} {t3 = t3} {w4 = w4} {t4 = t4} {w5 = w5} {t5 = t5} word1 is1 word2 is2 word3 is3 word4 is4 word5 is5 =
    (w1, t1, word1, is1, (w2, t2, word2, is2, (w3, t3, word3, is3, (w4, t4, word4, is4, (w5, t5, word5, is5, refl)))))

-- the parts of a tail make one
pub tail_from_parts : (style : Style) (text : List ℕ) (tail : Tail) → IsSplitTail style text tail → IsGoodTail style tail → IsTail style text tail.user.text.now tail.command.now
tail_from_parts User text tail split good = (split.0, record { skips = split.1; is = good })
tail_from_parts System text tail split good = record {
  after = split.after;
  word = split.word;
  is_user = good.0;
  command_is = record { skips = split.skips; is = good.1 };
}

-- and a part that is at fault makes a fault of the tail
pub tail_fault_from_parts : (style : Style) (text : List ℕ) (tail : Tail) (cause left : ℕ) → IsSplitTail style text tail → IsBadTail style tail cause left → IsTailFault style text cause left
tail_fault_from_parts User text tail cause left split bad = record { command = tail.command.now; skips = split.1; is = bad }
tail_fault_from_parts System text tail cause left split (inl bad) = record {
  user = tail.user.text.now;
  after = split.after;
  word = split.word;
  is = inl (bad.0, bad.1, bad.2 ∙ split.left);
}
tail_fault_from_parts System text tail cause left split (inr bad) = record {
  user = tail.user.text.now;
  after = split.after;
  word = split.word;
  is = inr (bad.0, record { command = tail.command.now; skips = split.skips; is = bad.1 });
}

-- Faults stand within the text.
bad_word_within : (kind : FieldKind) (word : List ℕ) (here cause left : ℕ) → IsBadWord kind word here cause left → left ≤ here
bad_word_within kind word here cause left (inl missing) = omega (arith, missing.2)
bad_word_within kind word here cause left (inr (place, some, fault, is)) = omega (arith, is)

fields_fault_within : (kinds : List FieldKind) (text : List ℕ) (cause left : ℕ) → IsFieldsFault kinds text cause left → left ≤ length text
fields_fault_within [] text cause left fault = absurd fault
fields_fault_within (kind ∷ kinds) text cause left (word, behind, first, inl bad) =
    omega (arith, bad_word_within kind word (length word + length behind) cause left bad, word_within text word behind first)
fields_fault_within (kind ∷ kinds) text cause left (word, behind, first, inr (seed, set, is, fault)) =
    omega (arith, fields_fault_within kinds behind cause left fault, word_within text word behind first)

fields_within : (kinds : List FieldKind) (seed : Seed) (text : List ℕ) (sets : List FieldSet) (after : List ℕ) → BeginsWithFields kinds seed text sets after → length after ≤ length text
fields_within [] seed text [] after begins = omega (arith, ap length begins)
fields_within [] seed text (set ∷ sets) after begins = absurd begins
fields_within (kind ∷ kinds) seed text [] after begins = absurd begins
fields_within (kind ∷ kinds) seed text (set ∷ sets) after (word, behind, first, is, rest) =
    omega (arith, fields_within kinds seed behind sets after rest, word_within text word behind first)

skip_within : (text rest : List ℕ) → SkipsBlanks text rest → length rest ≤ length text
skip_within text rest skips =
    let size : length text ≡ length skips.blanks + length rest = ap length skips.parts ∙ length-append skips.blanks rest in omega arith

bad_command_within : (command : List ℕ) (cause left : ℕ) → IsBadCommand command cause left → left ≤ length command
bad_command_within command cause left (inl none) = omega (arith, none.2)
bad_command_within command cause left (inr long) = omega (arith, long.2)

command_fault_within : (text : List ℕ) (cause left : ℕ) → IsCommandFault text cause left → left ≤ length text
command_fault_within text cause left fault =
    omega (arith, bad_command_within fault.command cause left fault.is, skip_within text fault.command fault.skips)

pub tail_fault_within : (style : Style) (text : List ℕ) (cause left : ℕ) → IsTailFault style text cause left → left ≤ length text
tail_fault_within User text cause left fault = command_fault_within text cause left fault
tail_fault_within System text cause left fault =
    let whole = word_within text fault.user fault.after fault.word in
    elim fault.is as (λ _. left ≤ length text) [
      | inl bad ↦ omega (arith, bad.2)
      | inr late ↦ omega (arith, command_fault_within fault.after cause left late.1)
    ]

pub entry_fault_within : (style : Style) (text : List ℕ) (cause left : ℕ) → IsEntryFault style text cause left → left ≤ length text
entry_fault_within style text cause left (inl fault) = fields_fault_within five_kinds text cause left fault
entry_fault_within style text cause left (inr late) =
    omega (arith, tail_fault_within style late.tail cause left late.fault, fields_within five_kinds late.seed text late.sets late.tail late.fields_are)

pub nick_fault_within : (style : Style) (text : List ℕ) (cause left : ℕ) → IsNickFault style text cause left → left ≤ length text
nick_fault_within style text cause left fault =
    let whole = word_within text fault.word fault.tail fault.cut in
    elim fault.is as (λ _. left ≤ length text) [
      | inl bad ↦ omega (arith, bad.2)
      | inr late ↦ omega (arith, tail_fault_within style fault.tail cause left late.1)
    ]

pub break_within : (style : Style) (line : List ℕ) (cause left : ℕ) → IsLineBreak style line cause left → left ≤ length line
break_within style line cause left break =
    let whole = skip_within line break.text break.skips in
    elim break.breaks as (λ _. left ≤ length line) [
      | inl entry ↦ omega (arith, entry_fault_within style break.text cause left entry.1)
      | inr nick ↦ omega (arith, nick_fault_within style break.text cause left nick.1)
    ]
