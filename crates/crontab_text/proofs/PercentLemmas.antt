-- The pieces of a command.
use Rattle.std.proofs.Common.{◌≡◌, ◌≢◌, ℕ, ◌+◌, ◌-◌, ◌<◌, ◌≤◌, zero, suc, List, [], ◌∷◌, ◌++◌, length, get_or, take, drop, flat_map, refl, ap, ◌∙◌, sym, subst, inl, inr, arith, add-one}
use Rattle.std.specs.List.{AllByRecursion}
use Rattle.std.proofs.lemmas.List.{drop_more, length-take-le, get_or-take}
use Rattle.std.proofs.lemmas.Bool.Decides.{nat_tests}
use Rattle.crontab_text.specs.Blanks.{LacksAny, MayBeginWith, IsFirstIndex}
use Rattle.crontab_text.specs.Percent.{CommandPiece, TextPiece, NewLinePiece, IsPercent, spelled, IsPiece, MayFollowPiece, AreInOrder, ArePieces, BeginsWithPercent, BeginsWithEscape, SkipsEscape, MayEndBefore, BeginsWithPiece}
use Rattle.crontab_text.proofs.ListLemmas.{lacks_before, MayEndWith-at_last}
use Rattle.std.proofs.lemmas.Bool.{cases_eq}

-- how a text is written that doesn't begin with a percent sign
pub spelled-other : (c : ℕ) (cs : List ℕ) → c ≢ 37 → spelled (TextPiece (c ∷ cs)) ≡ c ∷ cs
spelled-other c cs other = grind (arith, nat_tests)

pub spelled-percent : (c : ℕ) (cs : List ℕ) → c ≡ 37 → spelled (TextPiece (c ∷ cs)) ≡ 92 ∷ c ∷ cs
spelled-percent c cs is = grind (arith, nat_tests)

-- a piece is written with at least a byte
pub spelled_some : (piece : CommandPiece) (rest : List ℕ) → IsPiece piece → spelled piece ++ rest ≡ [] → ⊥
spelled_some NewLinePiece rest is e = cc
spelled_some (TextPiece []) rest is e = is
spelled_some (TextPiece (c ∷ cs)) rest is e =
    elim (cases_eq c 37) as (λ _. ⊥) [
      | inl same ↦ let w : 92 ∷ (c ∷ cs) ++ rest ≡ [] = subst (λ t. t ++ rest ≡ []) (spelled-percent c cs same) e in cc
      | inr other ↦ let w : c ∷ (cs ++ rest) ≡ [] = subst (λ t. t ++ rest ≡ []) (spelled-other c cs other) e in cc
    ]

-- a backslash is no percent sign
not_both : (c : ℕ) → c ≡ 92 → c ≡ 37 → ⊥
not_both c backslash percent = omega arith

-- a piece whose spelling begins with a percent sign is the end of a line
pub bare_piece : (piece : CommandPiece) (rest : List ℕ) → IsPiece piece → BeginsWithPercent (spelled piece ++ rest) → piece ≡ NewLinePiece
bare_piece NewLinePiece rest is begins = refl
bare_piece (TextPiece []) rest is begins = absurd is
bare_piece (TextPiece (c ∷ cs)) rest is begins =
    elim (cases_eq c 37) as (λ _. TextPiece (c ∷ cs) ≡ NewLinePiece) [
      | inl same ↦ absurd (not_both 92 refl (subst (λ t. BeginsWithPercent (t ++ rest)) (spelled-percent c cs same) begins))
      | inr other ↦ absurd (other (subst (λ t. BeginsWithPercent (t ++ rest)) (spelled-other c cs other) begins))
    ]

-- behind a lone backslash no `%` stands bare
pub no_escape : (d : ℕ) (ds : List ℕ) (pieces : List CommandPiece) → d ≡ 92 → LacksAny IsPercent ds → AllByRecursion IsPiece pieces → AreInOrder (TextPiece (d ∷ ds) ∷ pieces) → BeginsWithPercent (ds ++ flat_map spelled pieces) → ⊥
no_escape d (x ∷ ds) pieces is lacks each in_order begins = lacks.0 begins
no_escape d [] [] is lacks each in_order begins = begins
no_escape d [] (piece ∷ pieces) is lacks each in_order begins =
    let bare = bare_piece piece (flat_map spelled pieces) each.0 begins in
    subst (λ p. MayFollowPiece (TextPiece (d ∷ [])) p) bare in_order.0 is

-- a text that a command begins with, where it begins with another byte than a percent sign
not_percent : (c d : ℕ) (rest ds : List ℕ) (pieces : List CommandPiece) → c ∷ rest ≡ d ∷ (ds ++ flat_map spelled pieces) → d ≢ 37 → LacksAny IsPercent ds → AllByRecursion IsPiece pieces → AreInOrder (TextPiece (d ∷ ds) ∷ pieces) → (text : List ℕ) → MayEndBefore text (c ∷ rest) → ⊥
not_percent c d rest ds pieces e other lacks each in_order text (inl escape) =
    let head : d ≡ c = cc in
    let tail : rest ≡ ds ++ flat_map spelled pieces = cc in
    no_escape d ds pieces (head ∙ escape.0) lacks each in_order (subst BeginsWithPercent tail escape.1)
not_percent c d rest ds pieces e other lacks each in_order text (inr bare) =
    let head : d ≡ c = cc in other (head ∙ bare.0)

-- what may stand behind a text that may end there
pub follows_text : (text rest : List ℕ) → MayEndBefore text rest → (piece : CommandPiece) (pieces : List CommandPiece) → ArePieces rest (piece ∷ pieces) → MayFollowPiece (TextPiece text) piece
follows_text text [] ends piece pieces are = absurd (spelled_some piece (flat_map spelled pieces) are.each.0 (sym are.command_is))
follows_text text (c ∷ rest) (inl escape) NewLinePiece pieces are = absurd (not_newline c rest escape.0 are.command_is)
  where
    not_newline : (c : ℕ) (rest : List ℕ) → c ≡ 92 → c ∷ rest ≡ 37 ∷ flat_map spelled pieces → ⊥
    not_newline c rest is e = let head : c ≡ 37 = cc in absurd (omega arith)
follows_text text (c ∷ rest) (inr bare) NewLinePiece pieces are = bare.1
follows_text text (c ∷ rest) ends (TextPiece []) pieces are = absurd are.each.0
follows_text text (c ∷ rest) ends (TextPiece (d ∷ ds)) pieces are =
    elim (cases_eq d 37) as (λ _. d ≡ 37) [
      | inl same ↦ same
      | inr other ↦
          let e = are.command_is ∙ ap (λ t. t ++ flat_map spelled pieces) (spelled-other d ds other) in
          absurd (not_percent c d rest ds pieces e other are.each.0 are.each.1 are.in_order text ends)
    ]

-- a piece before others
pieces_behind : (piece : CommandPiece) (pieces : List CommandPiece) → AreInOrder pieces → ((next : CommandPiece) (more : List CommandPiece) → pieces ≡ next ∷ more → MayFollowPiece piece next) → AreInOrder (piece ∷ pieces)
pieces_behind piece [] in_order follows = tt
pieces_behind piece (next ∷ pieces) in_order follows = (follows next pieces refl, in_order)

pub begins_with_text : (command text front rest : List ℕ) → text ≡ front ++ rest → SkipsEscape command text → MayBeginWith (λ c. c ≢ 37) command → 0 < length front → LacksAny IsPercent (drop 1 front) → MayEndBefore front rest → BeginsWithPiece command (TextPiece front) rest
begins_with_text command text [] rest parts skips other some lacks ends pieces are = absurd (omega arith)
begins_with_text command text (c ∷ cs) rest parts skips other some lacks ends pieces are = record {
  command_is = written ∙ ap (λ t. spelled (TextPiece (c ∷ cs)) ++ t) are.command_is;
  each = (lacks, are.each);
  in_order = pieces_behind (TextPiece (c ∷ cs)) pieces are.in_order (λ next more is.
      follows_text (c ∷ cs) rest ends next more (subst (ArePieces rest) is are));
}
  where
    written : command ≡ spelled (TextPiece (c ∷ cs)) ++ rest
    written = elim skips as (λ _. command ≡ spelled (TextPiece (c ∷ cs)) ++ rest) [
      | inl escape ↦
          let is : c ≡ 37 = subst BeginsWithPercent parts escape.1 in
          escape.0 ∙ (ap (λ t. 92 ∷ t) parts ∙ ap (λ t. t ++ rest) (sym (spelled-percent c cs is)))
      | inr plain ↦
          let whole : command ≡ c ∷ (cs ++ rest) = plain.0 ∙ parts in
          whole ∙ ap (λ t. t ++ rest) (sym (spelled-other c cs (subst (MayBeginWith (λ d. d ≢ 37)) whole other)))
    ]

pub begins_with_newline : (rest : List ℕ) → BeginsWithPiece (37 ∷ rest) NewLinePiece rest
begins_with_newline rest pieces are = record {
  command_is = ap (λ t. 37 ∷ t) are.command_is;
  each = (tt, are.each);
  in_order = pieces_behind NewLinePiece pieces are.in_order (λ next more is. tt);
}

-- the texts that may end before a percent sign
begins_at_percent : (bs : List ℕ) (i : ℕ) → i < length bs → get_or bs i 0 ≡ 37 → BeginsWithPercent (drop i bs)
begins_at_percent [] i inside is = absurd (omega arith)
begins_at_percent (b ∷ bs) zero inside is = is
begins_at_percent (b ∷ bs) (suc i) inside is = begins_at_percent bs i (omega arith) is

pub end_before_escape : (bytes : List ℕ) (i : ℕ) → i + 1 < length bytes → get_or bytes i 0 ≡ 92 → get_or bytes (i + 1) 0 ≡ 37 → MayEndBefore (take i bytes) (drop i bytes)
end_before_escape bytes i inside is next =
    let inner : i < length bytes = omega arith in
    rw (drop_more bytes i 0 inner) (inl (is, begins_at_percent bytes (i + 1) inside next))

pub end_before_percent : (bytes : List ℕ) (i : ℕ) → i + 1 < length bytes → get_or bytes i 0 ≢ 92 → get_or bytes (i + 1) 0 ≡ 37 → MayEndBefore (take (i + 1) bytes) (drop (i + 1) bytes)
end_before_percent bytes i inside other next =
    let size : length (take (i + 1) bytes) ≡ i + 1 = length-take-le (i + 1) bytes (omega arith) in
    let last : get_or (take (i + 1) bytes) (length (take (i + 1) bytes) - 1) 0 ≡ get_or bytes i 0 =
    ap (λ n. get_or (take (i + 1) bytes) (n - 1) 0) size ∙ (ap (λ n. get_or (take (i + 1) bytes) n 0) (omega arith) ∙ get_or-take (i + 1) bytes i 0 (omega arith)) in
    rw (drop_more bytes (i + 1) 0 inside) (inr (next, MayEndWith-at_last (λ d. d ≢ 92) (take (i + 1) bytes) (λ some same. other (sym last ∙ same))))

-- the first percent sign behind the first byte, and the backslash before it
pub lacks_behind : (b : ℕ) (bs : List ℕ) (i : ℕ) → i ≤ length bs → ((k : ℕ) → k < i → IsPercent (get_or bs k 0) → ⊥) → LacksAny IsPercent (drop 1 (take (suc i) (b ∷ bs)))
lacks_behind b bs i within before = lacks_before IsPercent bs i within before

pub is_escape : (bytes : List ℕ) → 1 < length bytes → get_or bytes 0 0 ≡ 92 → get_or bytes 1 0 ≡ 37 → BeginsWithEscape bytes
is_escape [] some is next = absurd (omega arith)
is_escape (b ∷ []) some is next = absurd (omega arith)
is_escape (b ∷ d ∷ bs) some is next = (is, next)

-- what `text_end` finds at the first percent sign of the bytes behind the first
pub record EndsAtPercent (bytes : List ℕ) (end : ℕ) : Type 0 where
  pub some : 0 < end
  pub within : end ≤ length bytes
  pub lacks : LacksAny IsPercent (drop 1 (take end bytes))
  pub ends : MayEndBefore (take end bytes) (drop end bytes)

pub ends_before_escape : (bytes : List ℕ) (i : ℕ) → (BeginsWithEscape bytes → ⊥) → IsFirstIndex IsPercent (drop 1 bytes) i → get_or bytes i 0 ≡ 92 → EndsAtPercent bytes i
ends_before_escape [] i bare first is = absurd (omega (arith, first.inside))
ends_before_escape (b ∷ bs) zero bare first is =
    absurd (bare (is_escape (b ∷ bs) (omega (arith, first.inside)) is first.here))
ends_before_escape (b ∷ bs) (suc i) bare first is =
    let inside : suc i < length bs = first.inside in
    record {
      some = omega arith;
      within = omega arith;
      lacks = lacks_behind b bs i (omega arith) (λ k below. first.before k (omega arith));
      ends = end_before_escape (b ∷ bs) (suc i) (omega arith) is (rw add-one first.here);
    }

pub ends_before_percent : (bytes : List ℕ) (i : ℕ) → IsFirstIndex IsPercent (drop 1 bytes) i → get_or bytes i 0 ≢ 92 → EndsAtPercent bytes (i + 1)
ends_before_percent [] i first other = absurd (omega (arith, first.inside))
ends_before_percent (b ∷ bs) i first other =
    let inside : i < length bs = first.inside in
    record {
      some = omega arith;
      within = omega arith;
      lacks = rw add-one (lacks_behind b bs i (omega arith) first.before);
      ends = end_before_percent (b ∷ bs) i (omega arith) other (rw add-one first.here);
    }

-- a command that doesn't begin with a backslash begins with no escape
pub not_escape : (command : List ℕ) → ((rest : List ℕ) → command ≢ 92 ∷ rest) → BeginsWithEscape command → ⊥
not_escape [] none begins = begins
not_escape (c ∷ cs) none begins = none cs (ap (λ b. b ∷ cs) begins.0)

-- nor does it begin with a percent sign
pub not_bare : (command : List ℕ) → ((rest : List ℕ) → command ≢ 37 ∷ rest) → MayBeginWith (λ c. c ≢ 37) command
not_bare [] none = tt
not_bare (c ∷ cs) none = λ is. none cs (ap (λ b. b ∷ cs) is)
