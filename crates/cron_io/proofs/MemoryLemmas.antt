-- What a read of a source in memory takes.
use Rattle.std.proofs.Common.{◌≡◌, ℕ, ◌+◌, ◌<◌, min, List, [], ◌++◌, length, take, drop, sym, ap, ◌∙◌, arith, take-append-drop, length-drop}
use Rattle.std.proofs.lemmas.List.{drop-drop}
use Rattle.std.proofs.Math.ListN.{drop_of_length-le}

-- a read takes the front of what is left, and no byte of it only where none is left
pub take_front : (bytes into : List ℕ) (at count : ℕ) → take count into ≡ take count (drop at bytes)
    → count ≡ min (length (drop at bytes)) (length into)
    → (drop at bytes ≡ take count into ++ drop (at + count) bytes) × (count ≡ 0 → 0 < length into → drop (at + count) bytes ≡ [])
take_front bytes into at count front all =
    let rest : drop count (drop at bytes) ≡ drop (at + count) bytes = drop-drop count at bytes in
    let parts = sym (take-append-drop count (drop at bytes)) in (
      parts ∙ ap (λ l. l ++ drop count (drop at bytes)) (sym front) ∙ ap (λ l. take count into ++ l) rest,
      λ none some. drop_of_length-le bytes (let size = length-drop at bytes in omega arith),
    )
