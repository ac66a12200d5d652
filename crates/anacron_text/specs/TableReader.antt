-- What contracts see of a reader of lines.
use Rattle.std.specs.Prelude.{ℕ, List, drop}
use Rattle.anacron_text.specs.Settings.{no_settings}
use Rattle.anacron_text.specs.declared.settings.Settings.{Settings}

-- a table: its text, what its variables say so far, where the next line begins, and how many lines of the text stand
-- before it
pub record AnacronTableReader : Type 0 where
  pub text : List ℕ
  pub settings : Settings
  pub place : ℕ
  pub passed : ℕ

-- a table of which nothing is read
abbrev pub anacron_table_reader : List ℕ → AnacronTableReader
anacron_table_reader text = record { text = text; settings = no_settings; place = 0; passed = 0 }

-- what is left of the text
abbrev pub anacron_rest_of : AnacronTableReader → List ℕ
anacron_rest_of reader = drop reader.place reader.text
