-- What contracts see of a reader of lines.
use Rattle.std.specs.Prelude.{ℕ, List, drop}
use Rattle.crontab_text.specs.declared.answer.Style.{Style}

-- a table: its text, its style and its owner, where the next line begins, and how many lines stand before it
pub record TableReader : Type 0 where
  pub text : List ℕ
  pub style : Style
  pub owner : List ℕ
  pub place : ℕ
  pub passed : ℕ

-- a table of which nothing is read
abbrev pub table_reader : List ℕ → Style → List ℕ → TableReader
table_reader text style owner = record { text = text; style = style; owner = owner; place = 0; passed = 0 }

-- what is left of the text
abbrev pub rest_of : TableReader → List ℕ
rest_of reader = drop reader.place reader.text
