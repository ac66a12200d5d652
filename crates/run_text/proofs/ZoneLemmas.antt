-- The line that names a zone.
use Rattle.std.proofs.Common.{◌≡◌, ◌≢◌, ℕ, ◌<◌, List, ◌∷◌, ◌++◌, length, get_or, true, Ok, ℤ, refl, ap, ◌∙◌, sym, arith, rules, codes}
use Rattle.std.proofs.lemmas.List.Elements.{All-from_recursion, recursion_from_All}
use Rattle.std.proofs.lemmas.List.{append_cancel_left}
use Rattle.hex.specs.Hex.{decode_of, is_hex_digit}
use Rattle.hex.proofs.HexLemmas.{decode_of-ok, decode_of-digits, decode_of-same}
use Rattle.zone_minutes.specs.Zone.{Source, FixedOffset, TzifFile}
use Rattle.run_text.specs.Grammar.{IsZoneName}
use Rattle.run_text.specs.Run.{bytes_or_none}
use Rattle.run_text.specs.Zones.{IsOffsetText, IsSourceText, fixed, posix, tzif, IsHexText, IsZoneLine, HasZoneWord}
use Rattle.run_text.proofs.ListLemmas.{Lacks}
use Rattle.run_text.proofs.OffsetLemmas.{one_offset}
use Rattle.run_text.proofs.PhraseLemmas.{same_space, zone_no_space}
use Rattle.script_text.proofs.CutLemmas.{IsCutAtSpace}

-- two texts with another byte at a place
texts_differ : {a b : List ℕ} (place : ℕ) → a ≡ b → (get_or a place 0 ≡ get_or b place 0 → ⊥) → ⊥
texts_differ place is differs = differs (ap (λ l. get_or l place 0) is)

fixed_no_posix : codes "fixed" ≡ codes "posix" → ⊥
fixed_no_posix is = texts_differ 0 is (λ e. omega arith)

fixed_no_tzif : codes "fixed" ≡ codes "tzif" → ⊥
fixed_no_tzif is = texts_differ 0 is (λ e. omega arith)

posix_no_tzif : codes "posix" ≡ codes "tzif" → ⊥
posix_no_tzif is = texts_differ 0 is (λ e. omega arith)

-- the text of a zone line names one source
pub one_source : (kind text : List ℕ) (a b : Source) → IsSourceText kind text a → IsSourceText kind text b → a ≡ b
one_source kind text a b (fixed is x says a_is) (fixed also y tells b_is) = a_is ∙ ap FixedOffset (one_offset text x y says tells) ∙ sym b_is
one_source kind text a b (fixed is x says a_is) (posix also b_is) = absurd (fixed_no_posix (sym is ∙ also))
one_source kind text a b (fixed is x says a_is) (tzif also y decodes some b_is) = absurd (fixed_no_tzif (sym is ∙ also))
one_source kind text a b (posix is a_is) (fixed also y tells b_is) = absurd (fixed_no_posix (sym also ∙ is))
one_source kind text a b (posix is a_is) (posix also b_is) = a_is ∙ sym b_is
one_source kind text a b (posix is a_is) (tzif also y decodes some b_is) = absurd (posix_no_tzif (sym is ∙ also))
one_source kind text a b (tzif is x decodes some a_is) (fixed also y tells b_is) = absurd (fixed_no_tzif (sym also ∙ is))
one_source kind text a b (tzif is x decodes some a_is) (posix also b_is) = absurd (posix_no_tzif (sym also ∙ is))
one_source kind text a b (tzif is x decodes some a_is) (tzif also y reads more b_is) = a_is ∙ ap TzifFile (decode_of-same text x y decodes reads) ∙ sym b_is

-- the word of a source has no space
pub kind_no_space : (kind text : List ℕ) (source : Source) → IsSourceText kind text source → Lacks 32 kind
kind_no_space kind text source (fixed is x says a_is) = rw is (search rules)
kind_no_space kind text source (posix is a_is) = rw is (search rules)
kind_no_space kind text source (tzif is x decodes some a_is) = rw is (search rules)

-- the first word of a zone's line
pub zone_word : (line name : List ℕ) (source : Source) → IsZoneLine line name source → HasZoneWord line
zone_word line name source is = rw is.is refl

module _ (line name : List ℕ) (source : Source) (is : IsZoneLine line name source) where
  -- what is behind the word
  pub behind_zone_word : (rest : List ℕ) → line ≡ codes "zone " ++ rest → rest ≡ name ++ (32 ∷ is.kind ++ (32 ∷ is.text))
  behind_zone_word rest stripped =
      append_cancel_left (codes "zone ") rest (name ++ (32 ∷ is.kind ++ (32 ∷ is.text))) (sym stripped ∙ is.is)

  pub behind_name : (rest front last : List ℕ) → line ≡ codes "zone " ++ rest → IsCutAtSpace rest front last → (front ≡ name) × (last ≡ is.kind ++ (32 ∷ is.text))
  behind_name rest front last stripped cut =
      same_space rest front name last (is.kind ++ (32 ∷ is.text)) cut (behind_zone_word rest stripped) (zone_no_space name is.is_name)

  pub behind_kind : (rest front last kind text : List ℕ) → line ≡ codes "zone " ++ rest → IsCutAtSpace rest front last → IsCutAtSpace last kind text → (kind ≡ is.kind) × (text ≡ is.text)
  behind_kind rest front last kind text stripped cut next =
      same_space last kind is.kind text is.text next (behind_name rest front last stripped cut).1 (kind_no_space is.kind is.text source is.is_source)

  pub source_behind : (rest front last kind text : List ℕ) → line ≡ codes "zone " ++ rest → IsCutAtSpace rest front last → IsCutAtSpace last kind text → IsSourceText kind text source
  source_behind rest front last kind text stripped cut next =
      let same = behind_kind rest front last kind text stripped cut next in
      rw (same.0, same.1) is.is_source

-- the line of such parts
pub zone_from_parts : (line rest name last kind text : List ℕ) (source : Source) → line ≡ codes "zone " ++ rest → IsCutAtSpace rest name last → IsCutAtSpace last kind text
    → IsSourceText kind text source → IsZoneName name → IsZoneLine line name source
zone_from_parts line rest name last kind text source stripped cut next is_source is_name = record {
  kind = kind;
  text = text;
  is = stripped ∙ ap (λ t. codes "zone " ++ t) (cut.parts ∙ ap (λ t. name ++ 32 ∷ t) next.parts);
  is_name = is_name;
  is_source = is_source;
}

-- what a zone's line says, it says alone
pub one_zone : (line a b : List ℕ) (x y : Source) → IsZoneLine line a x → IsZoneLine line b y → (a ≡ b) × (x ≡ y)
one_zone line a b x y first second =
    let rest = a ++ (32 ∷ first.kind ++ (32 ∷ first.text)) in
    let cut : IsCutAtSpace rest a (first.kind ++ (32 ∷ first.text)) = record { parts = refl; lacks = zone_no_space a first.is_name } in
    let next : IsCutAtSpace (first.kind ++ (32 ∷ first.text)) first.kind first.text = record { parts = refl; lacks = kind_no_space first.kind first.text x first.is_source } in (
      (behind_name line b y second rest _ _ first.is cut).0,
      one_source first.kind first.text x y first.is_source (source_behind line b y second rest _ _ first.kind first.text first.is cut next),
    )

-- hexadecimal digits stand for some bytes
pub decodes : (text : List ℕ) → IsHexText text → (bytes : List ℕ) × (decode_of text ≡ Ok bytes) × (0 < length bytes)
decodes text is =
    let read = decode_of-digits text is.even (All-from_recursion (λ c. is_hex_digit c ≡ true) text is.digits) in
    let parts = decode_of-ok text read.0 read.1 in
    (read.0, read.1, omega (arith, parts.2, is.some))

pub is_hex : (text bytes : List ℕ) → decode_of text ≡ Ok bytes → 0 < length bytes → IsHexText text
is_hex text bytes read some =
    let parts = decode_of-ok text bytes read in
    record { some = omega (arith, parts.2); even = parts.0; digits = recursion_from_All (λ c. is_hex_digit c ≡ true) text parts.1 }

-- a file's text
pub hex_source : (kind text : List ℕ) → kind ≡ codes "tzif" → IsHexText text → IsSourceText kind text (TzifFile (bytes_or_none (decode_of text)))
hex_source kind text is hex =
    let read = decodes text hex in
    tzif is read.0 read.1 read.2 (ap (λ r. TzifFile (bytes_or_none r)) read.1)

-- a text that is none of the three
pub no_fixed : (kind text : List ℕ) → kind ≡ codes "fixed" → ((offset : ℤ) → IsOffsetText text offset → ⊥) → (source : Source) → IsSourceText kind text source → ⊥
no_fixed kind text is none source (fixed also offset says source_is) = none offset says
no_fixed kind text is none source (posix also source_is) = fixed_no_posix (sym is ∙ also)
no_fixed kind text is none source (tzif also bytes read some source_is) = fixed_no_tzif (sym is ∙ also)

pub no_source : (kind text : List ℕ) → kind ≢ codes "fixed" → kind ≢ codes "posix" → (kind ≡ codes "tzif" → IsHexText text → ⊥) → (source : Source) → IsSourceText kind text source → ⊥
no_source kind text fixed_not posix_not hex_not source (fixed is offset says source_is) = fixed_not is
no_source kind text fixed_not posix_not hex_not source (posix is source_is) = posix_not is
no_source kind text fixed_not posix_not hex_not source (tzif is bytes read some source_is) = hex_not is (is_hex text bytes read some)
