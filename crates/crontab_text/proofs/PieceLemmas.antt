-- Each command has one list of pieces.
use Rattle.std.proofs.Common.{◌≡◌, ◌≢◌, ℕ, ◌+◌, ◌<◌, ◌≤◌, zero, suc, false, ◌&&◌, List, [], ◌∷◌, ◌++◌, length, flat_map, refl, ap, ◌∙◌, sym, subst, inl, inr, arith, length-append}
use Rattle.std.specs.List.{AllByRecursion}
use Rattle.std.specs.Prelude.{◌==◌}
use Rattle.std.proofs.lemmas.Bool.Decides.{nat_tests}
use Rattle.crontab_text.specs.Blanks.{LacksAny}
use Rattle.crontab_text.specs.Percent.{CommandPiece, TextPiece, NewLinePiece, IsPercent, spelled, IsPiece, AreInOrder, ArePieces, BeginsWithPercent, BeginsWithEscape, MayEndBefore, BeginsWithPiece, bytes_said, text_said_by}
use Rattle.crontab_text.proofs.Choice.{decided_and}
use Rattle.cron_fields.proofs.Choice.{Decided}
use Rattle.std.proofs.lemmas.Bool.{cases_eq}
use Rattle.crontab_text.proofs.PercentLemmas.{spelled-other, spelled-percent, spelled_some, bare_piece, no_escape, begins_with_text, begins_with_newline}

-- the bytes of some pieces
abbrev bytes_of : List CommandPiece → List ℕ
bytes_of pieces = flat_map spelled pieces

percent_or_not : (text : List ℕ) → Decided (BeginsWithPercent text)
percent_or_not [] = inr (λ is. is)
percent_or_not (c ∷ cs) = cases_eq c 37

escape_or_not : (text : List ℕ) → Decided (BeginsWithEscape text)
escape_or_not [] = inr (λ is. is)
escape_or_not (c ∷ cs) = decided_and (cases_eq c 92) (percent_or_not cs)

-- the rest of a text that begins with a byte, up to where it may end
record TextEnd (c : ℕ) (cs : List ℕ) : Type 0 where
  front : List ℕ
  rest : List ℕ
  parts : cs ≡ front ++ rest
  lacks : LacksAny IsPercent front
  ends : MayEndBefore (c ∷ front) rest

end_behind : (c d : ℕ) (front rest : List ℕ) → MayEndBefore (d ∷ front) rest → MayEndBefore (c ∷ d ∷ front) rest
end_behind c d front [] ends = tt
end_behind c d front (r ∷ rest) (inl escape) = inl escape
end_behind c d front (r ∷ rest) (inr bare) = inr bare

text_end : (c : ℕ) (cs : List ℕ) → (BeginsWithEscape (c ∷ cs) → ⊥) → TextEnd c cs
text_end c [] bare = record { front = []; rest = []; parts = refl; lacks = tt; ends = tt }
text_end c (d ∷ ds) bare = elim (cases_eq d 37) [
  | inl percent ↦ record { front = []; rest = d ∷ ds; parts = refl; lacks = tt; ends = inr (percent, λ is. bare (is, percent)) }
  | inr other ↦ elim (escape_or_not (d ∷ ds)) [
    | inl escape ↦ record { front = []; rest = d ∷ ds; parts = refl; lacks = tt; ends = inl escape }
    | inr plain ↦
        let more = text_end d ds plain in
        record { front = d ∷ more.front; rest = more.rest; parts = ap (λ t. d ∷ t) more.parts; lacks = (other, more.lacks); ends = end_behind c d more.front more.rest more.ends }
  ]
]

-- the first piece of a command
record FirstPiece (command : List ℕ) : Type 0 where
  piece : CommandPiece
  rest : List ℕ
  begins : BeginsWithPiece command piece rest
  shorter : length rest < length command

plain_first : (c : ℕ) (cs : List ℕ) → c ≢ 37 → (BeginsWithEscape (c ∷ cs) → ⊥) → FirstPiece (c ∷ cs)
plain_first c cs other plain =
    let text = text_end c cs plain in
    let size : length cs ≡ length text.front + length text.rest = ap length text.parts ∙ length-append text.front text.rest in
    record {
      piece = TextPiece (c ∷ text.front);
      rest = text.rest;
      begins = begins_with_text (c ∷ cs) (c ∷ cs) (c ∷ text.front) text.rest (ap (λ t. c ∷ t) text.parts) (inr (refl, plain)) other (omega arith) text.lacks text.ends;
      shorter = omega arith;
    }

not_slash : (c : ℕ) → c ≡ 37 → c ≡ 92 → ⊥
not_slash c percent slash = omega arith

escaped_first : (c d : ℕ) (ds : List ℕ) → c ≡ 92 → d ≡ 37 → FirstPiece (c ∷ d ∷ ds)
escaped_first c d ds slash percent =
    let text = text_end d ds (λ escape. not_slash d percent escape.0) in
    let size : length ds ≡ length text.front + length text.rest = ap length text.parts ∙ length-append text.front text.rest in
    record {
      piece = TextPiece (d ∷ text.front);
      rest = text.rest;
      begins = begins_with_text (c ∷ d ∷ ds) (d ∷ ds) (d ∷ text.front) text.rest (ap (λ t. d ∷ t) text.parts) (inl (ap (λ b. b ∷ d ∷ ds) slash, percent)) (λ is. not_slash c is slash) (omega arith) text.lacks text.ends;
      shorter = omega arith;
    }

escape_first : (command : List ℕ) → BeginsWithEscape command → FirstPiece command
escape_first [] escape = absurd escape
escape_first (c ∷ []) escape = absurd escape.1
escape_first (c ∷ d ∷ ds) escape = escaped_first c d ds escape.0 escape.1

first_piece : (c : ℕ) (cs : List ℕ) → FirstPiece (c ∷ cs)
first_piece c cs = elim (cases_eq c 37) [
  | inl percent ↦ record {
    piece = NewLinePiece;
    rest = cs;
    begins = subst (λ b. BeginsWithPiece (b ∷ cs) NewLinePiece cs) (sym percent) (begins_with_newline cs);
    shorter = omega arith;
  }
  | inr other ↦ elim (escape_or_not (c ∷ cs)) [
    | inl escape ↦ escape_first (c ∷ cs) escape
    | inr plain ↦ plain_first c cs other plain
  ]
]

pieces_up_to : (n : ℕ) (command : List ℕ) → length command ≤ n → (pieces : List CommandPiece) × ArePieces command pieces
pieces_up_to n [] within = ([], record { command_is = refl; each = tt; in_order = tt })
pieces_up_to zero (c ∷ cs) within = absurd (omega arith)
pieces_up_to (suc n) (c ∷ cs) within =
    let first = first_piece c cs in
    let shorter = first.shorter in
    let (pieces, are) = pieces_up_to n first.rest (omega arith) in
    (first.piece ∷ pieces, first.begins pieces are)

-- each command has pieces
pub some_pieces : (command : List ℕ) → (pieces : List CommandPiece) × ArePieces command pieces
some_pieces command = pieces_up_to (length command) command (omega arith)

-- what may stand behind a text may stand behind its tail
order_drop : (c d : ℕ) (ds : List ℕ) (pieces : List CommandPiece) → AreInOrder (TextPiece (c ∷ d ∷ ds) ∷ pieces) → AreInOrder (TextPiece (d ∷ ds) ∷ pieces)
order_drop c d ds [] in_order = tt
order_drop c d ds (NewLinePiece ∷ pieces) in_order = in_order
order_drop c d ds (TextPiece text ∷ pieces) in_order = in_order

order_behind : (piece : CommandPiece) (pieces : List CommandPiece) → AreInOrder (piece ∷ pieces) → AreInOrder pieces
order_behind piece [] in_order = tt
order_behind piece (next ∷ pieces) in_order = in_order.1

-- a text isn't longer than another one with the same bytes behind it
no_longer : (c d : ℕ) (ds : List ℕ) (ps qs : List CommandPiece) → LacksAny IsPercent (d ∷ ds) → AllByRecursion IsPiece ps → AllByRecursion IsPiece qs → AreInOrder (TextPiece (c ∷ []) ∷ ps) → AreInOrder (TextPiece (d ∷ ds) ∷ qs) → bytes_of ps ≡ d ∷ (ds ++ bytes_of qs) → ⊥
no_longer c d ds [] qs lacks ep eq p q e = cc
no_longer c d ds (NewLinePiece ∷ ps) qs lacks ep eq p q e = let head : d ≡ 37 = cc in lacks.0 head
no_longer c d ds (TextPiece [] ∷ ps) qs lacks ep eq p q e = ep.0
no_longer c d ds (TextPiece (t ∷ ts) ∷ ps) qs lacks ep eq p q e =
    let w : 92 ∷ t ∷ (ts ++ bytes_of ps) ≡ d ∷ (ds ++ bytes_of qs) = subst (λ s. s ++ bytes_of ps ≡ d ∷ (ds ++ bytes_of qs)) (spelled-percent t ts p.0) e in
    let head : d ≡ 92 = cc in
    let tail : t ∷ (ts ++ bytes_of ps) ≡ ds ++ bytes_of qs = cc in
    no_escape d ds qs head lacks.1 eq q (subst BeginsWithPercent tail p.0)

-- a text ends at one place
same_end : (c : ℕ) (cs ds : List ℕ) (ps qs : List CommandPiece) → LacksAny IsPercent cs → LacksAny IsPercent ds → AllByRecursion IsPiece ps → AllByRecursion IsPiece qs → AreInOrder (TextPiece (c ∷ cs) ∷ ps) → AreInOrder (TextPiece (c ∷ ds) ∷ qs) → cs ++ bytes_of ps ≡ ds ++ bytes_of qs → (cs ≡ ds) × (bytes_of ps ≡ bytes_of qs)
same_end c [] [] ps qs lc ld ep eq p q e = (refl, e)
same_end c [] (d ∷ ds) ps qs lc ld ep eq p q e = absurd (no_longer c d ds ps qs ld ep eq p (order_drop c d ds qs q) e)
same_end c (a ∷ as') [] ps qs lc ld ep eq p q e = absurd (no_longer c a as' qs ps lc eq ep q (order_drop c a as' ps p) (sym e))
same_end c (a ∷ as') (d ∷ ds) ps qs lc ld ep eq p q e =
    let head : d ≡ a = cc in
    let rest : as' ++ bytes_of ps ≡ ds ++ bytes_of qs = cc in
    let more = same_end a as' ds ps qs lc.1 ld.1 ep eq (order_drop c a as' ps p) (subst (λ b. AreInOrder (TextPiece (b ∷ ds) ∷ qs)) head (order_drop c d ds qs q)) rest in
    let tail = more.0 in
    (cc, more.1)

-- the first text of a command
same_text : (c d : ℕ) (cs ds : List ℕ) (ps qs : List CommandPiece) → LacksAny IsPercent cs → LacksAny IsPercent ds → AllByRecursion IsPiece ps → AllByRecursion IsPiece qs → AreInOrder (TextPiece (c ∷ cs) ∷ ps) → AreInOrder (TextPiece (d ∷ ds) ∷ qs) → spelled (TextPiece (c ∷ cs)) ++ bytes_of ps ≡ spelled (TextPiece (d ∷ ds)) ++ bytes_of qs → (c ≡ d) × (cs ≡ ds) × (bytes_of ps ≡ bytes_of qs)
same_text c d cs ds ps qs lc ld ep eq p q e = elim (cases_eq c 37) [
  | inl percent ↦ elim (cases_eq d 37) [
    | inl also ↦
        let w : 92 ∷ c ∷ (cs ++ bytes_of ps) ≡ 92 ∷ d ∷ (ds ++ bytes_of qs) = ap (λ s. s ++ bytes_of ps) (sym (spelled-percent c cs percent)) ∙ (e ∙ ap (λ s. s ++ bytes_of qs) (spelled-percent d ds also)) in
        by_tail (percent ∙ sym also) w
    | inr other ↦
        let w : 92 ∷ c ∷ (cs ++ bytes_of ps) ≡ d ∷ (ds ++ bytes_of qs) = ap (λ s. s ++ bytes_of ps) (sym (spelled-percent c cs percent)) ∙ (e ∙ ap (λ s. s ++ bytes_of qs) (spelled-other d ds other)) in
        absurd (no_slash c d ds (cs ++ bytes_of ps) qs percent ld eq q w)
  ]
  | inr other ↦ elim (cases_eq d 37) [
    | inl percent ↦
        let w : 92 ∷ d ∷ (ds ++ bytes_of qs) ≡ c ∷ (cs ++ bytes_of ps) = ap (λ s. s ++ bytes_of qs) (sym (spelled-percent d ds percent)) ∙ (sym e ∙ ap (λ s. s ++ bytes_of ps) (spelled-other c cs other)) in
        absurd (no_slash d c cs (ds ++ bytes_of qs) ps percent lc ep p w)
    | inr also ↦
        let w : c ∷ (cs ++ bytes_of ps) ≡ d ∷ (ds ++ bytes_of qs) = ap (λ s. s ++ bytes_of ps) (sym (spelled-other c cs other)) ∙ (e ∙ ap (λ s. s ++ bytes_of qs) (spelled-other d ds also)) in
        let head : c ≡ d = cc in
        by_tail head (ap (λ t. 92 ∷ t) w)
  ]
]
  where
    by_tail : c ≡ d → 92 ∷ c ∷ (cs ++ bytes_of ps) ≡ 92 ∷ d ∷ (ds ++ bytes_of qs) → (c ≡ d) × (cs ≡ ds) × (bytes_of ps ≡ bytes_of qs)
    by_tail head w =
        let rest : cs ++ bytes_of ps ≡ ds ++ bytes_of qs = cc in
        let same = same_end d cs ds ps qs lc ld ep eq (subst (λ b. AreInOrder (TextPiece (b ∷ cs) ∷ ps)) head p) q rest in
        (head, same.0, same.1)

    no_slash : (t d : ℕ) (ds after : List ℕ) (qs : List CommandPiece) → t ≡ 37 → LacksAny IsPercent ds → AllByRecursion IsPiece qs → AreInOrder (TextPiece (d ∷ ds) ∷ qs) → 92 ∷ t ∷ after ≡ d ∷ (ds ++ bytes_of qs) → ⊥
    no_slash t d ds after qs percent lacks each in_order w =
        let slash : d ≡ 92 = cc in
        let tail : t ∷ after ≡ ds ++ bytes_of qs = cc in
        no_escape d ds qs slash lacks each in_order (subst BeginsWithPercent tail percent)

-- pieces with the same bytes are the same
same_bytes : (ps qs : List CommandPiece) → AllByRecursion IsPiece ps → AllByRecursion IsPiece qs → AreInOrder ps → AreInOrder qs → bytes_of ps ≡ bytes_of qs → ps ≡ qs
same_bytes [] [] ep eq p q e = refl
same_bytes [] (piece ∷ qs) ep eq p q e = absurd (spelled_some piece (bytes_of qs) eq.0 (sym e))
same_bytes (piece ∷ ps) [] ep eq p q e = absurd (spelled_some piece (bytes_of ps) ep.0 e)
same_bytes (NewLinePiece ∷ ps) (NewLinePiece ∷ qs) ep eq p q e =
    let rest : bytes_of ps ≡ bytes_of qs = cc in
    let tails = same_bytes ps qs ep.1 eq.1 (order_behind NewLinePiece ps p) (order_behind NewLinePiece qs q) rest in
    cc
same_bytes (NewLinePiece ∷ ps) (TextPiece text ∷ qs) ep eq p q e =
    let bare = bare_piece (TextPiece text) (bytes_of qs) eq.0 (subst BeginsWithPercent e refl) in cc
same_bytes (TextPiece text ∷ ps) (NewLinePiece ∷ qs) ep eq p q e =
    let bare = bare_piece (TextPiece text) (bytes_of ps) ep.0 (subst BeginsWithPercent (sym e) refl) in cc
same_bytes (TextPiece [] ∷ ps) (TextPiece text ∷ qs) ep eq p q e = absurd ep.0
same_bytes (TextPiece (c ∷ cs) ∷ ps) (TextPiece [] ∷ qs) ep eq p q e = absurd eq.0
same_bytes (TextPiece (c ∷ cs) ∷ ps) (TextPiece (d ∷ ds) ∷ qs) ep eq p q e =
    let same = same_text c d cs ds ps qs ep.0 eq.0 ep.1 eq.1 p q e in
    let tails = same_bytes ps qs ep.1 eq.1 (order_behind (TextPiece (c ∷ cs)) ps p) (order_behind (TextPiece (d ∷ ds)) qs q) same.2 in
    let head = same.0 in
    let rest = same.1 in
    cc

-- a command has one list of pieces
pub same_pieces : (command : List ℕ) (a b : List CommandPiece) → ArePieces command a → ArePieces command b → a ≡ b
same_pieces command a b first second =
    same_bytes a b first.each second.each first.in_order second.in_order (sym first.command_is ∙ second.command_is)

-- what pieces say
abbrev said_of : List CommandPiece → List ℕ
said_of pieces = flat_map bytes_said pieces

said_newline : (text : List ℕ) → text_said_by (37 ∷ text) ≡ 10 ∷ text_said_by text
said_newline [] = refl
said_newline (c ∷ cs) = refl

said_escape : (c : ℕ) (text : List ℕ) → c ≡ 37 → text_said_by (92 ∷ c ∷ text) ≡ c ∷ text_said_by text
said_escape c text percent = rw percent refl

said_plain : (c : ℕ) (text : List ℕ) → c ≢ 37 → (c ≡ 92 → BeginsWithPercent text → ⊥) → text_said_by (c ∷ text) ≡ c ∷ text_said_by text
said_plain c [] other plain = let no : (c == 37) ≡ false = grind (arith, nat_tests) in rw no refl
said_plain c (d ∷ ds) other plain =
    let no : (c == 37) ≡ false = grind (arith, nat_tests) in
    let bare : ((c == 92) && (d == 37)) ≡ false = grind (arith, nat_tests) in
    rw (bare, no) refl

-- a text that begins with another byte than a percent sign says itself
said_text : (c : ℕ) (cs : List ℕ) (pieces : List CommandPiece) → c ≢ 37 → LacksAny IsPercent cs → AllByRecursion IsPiece pieces → AreInOrder (TextPiece (c ∷ cs) ∷ pieces) → text_said_by (bytes_of pieces) ≡ said_of pieces → text_said_by (c ∷ (cs ++ bytes_of pieces)) ≡ c ∷ (cs ++ said_of pieces)
said_text c [] pieces other lacks each in_order said =
    said_plain c (bytes_of pieces) other (λ slash begins. no_escape c [] pieces slash tt each in_order begins) ∙ ap (λ t. c ∷ t) said
said_text c (d ∷ ds) pieces other lacks each in_order said =
    said_plain c (d ∷ (ds ++ bytes_of pieces)) other (λ slash begins. lacks.0 begins)
    ∙ ap (λ t. c ∷ t) (said_text d ds pieces lacks.0 lacks.1 each (order_drop c d ds pieces in_order) said)

said_rest : (c : ℕ) (cs : List ℕ) (pieces : List CommandPiece) → LacksAny IsPercent cs → AllByRecursion IsPiece pieces → AreInOrder (TextPiece (c ∷ cs) ∷ pieces) → text_said_by (bytes_of pieces) ≡ said_of pieces → text_said_by (cs ++ bytes_of pieces) ≡ cs ++ said_of pieces
said_rest c [] pieces lacks each in_order said = said
said_rest c (d ∷ ds) pieces lacks each in_order said = said_text d ds pieces lacks.0 lacks.1 each (order_drop c d ds pieces in_order) said

said_by_bytes : (pieces : List CommandPiece) → AllByRecursion IsPiece pieces → AreInOrder pieces → text_said_by (bytes_of pieces) ≡ said_of pieces
said_by_bytes [] each in_order = refl
said_by_bytes (NewLinePiece ∷ pieces) each in_order =
    said_newline (bytes_of pieces) ∙ ap (λ t. 10 ∷ t) (said_by_bytes pieces each.1 (order_behind NewLinePiece pieces in_order))
said_by_bytes (TextPiece [] ∷ pieces) each in_order = absurd each.0
said_by_bytes (TextPiece (c ∷ cs) ∷ pieces) each in_order =
    let rest = said_by_bytes pieces each.1 (order_behind (TextPiece (c ∷ cs)) pieces in_order) in
    elim (cases_eq c 37) as (λ _. text_said_by (bytes_of (TextPiece (c ∷ cs) ∷ pieces)) ≡ said_of (TextPiece (c ∷ cs) ∷ pieces)) [
      | inl percent ↦
          ap (λ s. text_said_by (s ++ bytes_of pieces)) (spelled-percent c cs percent)
          ∙ (said_escape c (cs ++ bytes_of pieces) percent ∙ ap (λ t. c ∷ t) (said_rest c cs pieces each.0 each.1 in_order rest))
      | inr other ↦
          ap (λ s. text_said_by (s ++ bytes_of pieces)) (spelled-other c cs other)
          ∙ said_text c cs pieces other each.0 each.1 in_order rest
    ]

-- what the pieces of a command say, the command says
pub pieces_say : (command : List ℕ) (pieces : List CommandPiece) → ArePieces command pieces → flat_map bytes_said pieces ≡ text_said_by command
pieces_say command pieces are =
    sym (said_by_bytes pieces are.each are.in_order) ∙ ap text_said_by (sym are.command_is)
