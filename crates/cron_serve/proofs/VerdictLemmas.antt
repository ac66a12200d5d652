-- An input has one verdict.
use Rattle.std.proofs.Common.{◌≡◌, inl, inr, ℕ, ◌≤◌, List, length, sym, ◌∙◌, arith}
use Rattle.run_text.specs.declared.refusal.Refusal.{Refusal}
use Rattle.run_input.proofs.VerdictLemmas.{frame_or_refused, one_refused_frame, one_refused_run_file, taken_or_refused}
use Rattle.cron_serve.specs.Input.{IsOfInput, IsRefusedBytes, IsRefusedInput, Suits}
use Rattle.program_options.specs.declared.words.Output.{Output}
use Rattle.program_options.specs.declared.words.Output.TheVariants.{Report, DueList, Check, Summary}

one_refused : (output : Output) (bytes : List ℕ) (a b : Refusal) → IsRefusedBytes output bytes a → IsRefusedBytes output bytes b → a ≡ b
one_refused (Report watch journal) bytes a b first second = one_refused_run_file bytes a b first second
one_refused DueList bytes a b first second = one_refused_run_file bytes a b first second
one_refused Check bytes a b first second = one_refused_frame bytes a b first second
one_refused (Summary seed) bytes a b first second = absurd first

-- an input is refused for one thing
pub one_input : (output : Output) (bytes : List ℕ) (a b : Refusal) → IsRefusedInput output bytes a → IsRefusedInput output bytes b → a ≡ b
one_input output bytes a b (of, inl (large, is)) (of', inl (also, other)) = is ∙ sym other
one_input output bytes a b (of, inl (large, is)) (of', inr (short, why)) = absurd (omega arith)
one_input output bytes a b (of, inr (short, why)) (of', inl (large, is)) = absurd (omega arith)
one_input output bytes a b (of, inr (short, why)) (of', inr (also, other)) = one_refused output bytes a b why other

suits_or_refused_bytes : (output : Output) (bytes : List ℕ) (refusal : Refusal) → Suits output bytes → IsRefusedBytes output bytes refusal → ⊥
suits_or_refused_bytes (Report watch journal) bytes refusal suits refused = taken_or_refused bytes suits.0 suits.1 refusal suits.2 refused
suits_or_refused_bytes DueList bytes refusal suits refused = taken_or_refused bytes suits.0 suits.1 refusal suits.2 refused
suits_or_refused_bytes Check bytes refusal suits refused = frame_or_refused bytes suits.0 refusal suits.1 refused
suits_or_refused_bytes (Summary seed) bytes refusal suits refused = refused

suits_short : (output : Output) (bytes : List ℕ) → IsOfInput output → Suits output bytes → length bytes ≤ 1_048_576
suits_short (Report watch journal) bytes of suits = suits.2.short
suits_short DueList bytes of suits = suits.2.short
suits_short Check bytes of suits = suits.1.short
suits_short (Summary seed) bytes of suits = absurd of

-- an input that suits what is to be written isn't refused
pub suits_or_refused : (output : Output) (bytes : List ℕ) (refusal : Refusal) → Suits output bytes → IsRefusedInput output bytes refusal → ⊥
suits_or_refused output bytes refusal suits (of, inl (large, is)) = let short = suits_short output bytes of suits in omega arith
suits_or_refused output bytes refusal suits (of, inr (short, why)) = suits_or_refused_bytes output bytes refusal suits why
