-- The lines of what was seen of a board.
use Rattle.std.proofs.Common.{◌≡◌, ◌<◌, ◌+◌, ℕ, List, [], ◌∷◌, ◌++◌, length, map, take, get_or, ap, ◌∙◌}
use Rattle.std.proofs.lemmas.List.{append-nil, map-append, take_more}
use Rattle.std.proofs.lemmas.List.Concat.{flat_map-append}
use Rattle.cron_io.specs.Lines.{text_of_lines}
use Rattle.script_play.specs.declared.seen.Seen.{Seen}
use Rattle.cron_serve.specs.Watch.{watch_line, watch_text}

-- one line more
pub watch_more : (seen : List Seen) (i : ℕ) (d : Seen) → i < length seen → watch_text (take (i + 1) seen) ≡ watch_text (take i seen) ++ (watch_line (get_or seen i d) ++ 10 ∷ [])
watch_more seen i d within =
    ap watch_text (take_more seen i d within)
    ∙ ap text_of_lines (map-append watch_line (take i seen) (get_or seen i d ∷ []))
    ∙ flat_map-append (λ (l : List ℕ). l ++ 10 ∷ []) (map watch_line (take i seen)) (watch_line (get_or seen i d) ∷ [])
    ∙ ap (λ (l : List ℕ). watch_text (take i seen) ++ l) (append-nil (watch_line (get_or seen i d) ++ 10 ∷ []))
