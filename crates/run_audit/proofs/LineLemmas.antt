-- Lines cut at the first newline.
use Rattle.std.proofs.Common.{ℕ, List, Bor, IfSome, IfNone, Option, None, Some, arith}
use Rattle.std.proofs.lemmas.Str.Pattern.{IsSplitOnceResult, split_parts}
use Rattle.script_text.proofs.CutLemmas.{Lacks-from_get_or}
use Rattle.run_audit.specs.Reading.{IsLineFirst}
use Rattle.run_audit.specs.Verdict.{LacksNewline}

-- what `split_once` answers with
pub line_of : (text : List ℕ) (r : Option (Bor (List ℕ) × Bor (List ℕ))) → IsSplitOnceResult 10 text r → IfSome r (λ parts. IsLineFirst text parts.0.now parts.1.now)
line_of text None split = tt
line_of text (Some parts) split =
    let (is, lacks) = split_parts 10 text (Some parts) split (omega arith) in
    record { parts = is; lacks = Lacks-from_get_or 10 parts.0.now lacks }

pub no_line : (text : List ℕ) (r : Option (Bor (List ℕ) × Bor (List ℕ))) → IsSplitOnceResult 10 text r → IfNone r (LacksNewline text)
no_line text None split = Lacks-from_get_or 10 text (split_parts 10 text None split (omega arith))
no_line text (Some parts) split = tt
