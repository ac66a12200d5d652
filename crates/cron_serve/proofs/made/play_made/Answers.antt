use Rattle.std.proofs.Common.{◌≡◌, ◌∙◌, ◌≤◌, ℕ, List, length, subst, sym}
use Rattle.std.specs.Prelude.{IsUtf8}
use Rattle.std.proofs.lemmas.Str.{IsUtf8-string_bytes}
use Rattle.run_text.specs.Steps.{IfRefused}
use Rattle.run_text.specs.declared.refusal.RunFault.{RunFault}
use Rattle.generated_run.specs.Made.{made_text}
use Rattle.generated_run.proofs.TextLemmas.{text_is_short}
use Rattle.run_input.specs.Input.{IsRefusedAsRun}
use Rattle.cron_serve.proofs.MadeLemmas.{never_refused}
use Rattle.cron_serve.proofs.made.play_made.Goals as goal

pub play-requires-clause-short : goal.play-requires-clause-short
play-requires-clause-short g c = λ lives borrowed.
    subst (λ (l : List ℕ). length l ≤ 1_048_576) (sym (c.as_bytes.ensures.value ∙ c.in_ok-text.ensures.made)) (text_is_short c.args.seed)

pub unreachable-requires : goal.unreachable-requires
unreachable-requires g c =
    let refusal = c.in-Err-Refused.field-0-0 in
    let bytes = c.as_bytes.result.now in
    let made : bytes ≡ made_text c.args.seed = c.as_bytes.ensures.value ∙ c.in_ok-text.ensures.made in
    let refused : IsRefusedAsRun bytes refusal =
    subst (λ (fault : RunFault). IfRefused fault (IsRefusedAsRun bytes)) c.in-Err-Refused.field-0-is c.in-Err-Refused.ensures.refused in
    never_refused c.args.seed refusal (subst IsUtf8 c.in_ok-text.ensures.made (IsUtf8-string_bytes c.in_ok-text.text))
    (subst (λ (l : List ℕ). IsRefusedAsRun l refusal) made refused)
