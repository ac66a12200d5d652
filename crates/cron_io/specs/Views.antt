-- What is seen of a source and of a sink.
use Rattle.std.specs.Prelude.{ℕ, List, Option}

-- of a source: the bytes that are left, where it tells them, and how often a read has failed
pub record SourceView : Type 0 where
  pub left : Option (List ℕ)
  pub faults : ℕ

-- of a sink: the bytes that were written, where it tells them, how often a write has failed, and how many bytes it still
-- takes, where it tells that
pub record SinkView : Type 0 where
  pub written : Option (List ℕ)
  pub faults : ℕ
  pub room : Option ℕ
