use Rattle.anacron_text.proofs.SettingLemmas.{placed_value}
use Rattle.anacron_text.proofs.setting.value_of.Goals as goal

pub returns : goal.returns
returns c =
    placed_value c.args.behind.now c.skip_blanks-rest.result.now c.drop_blanks-trimmed.result.now c.unquote-text.result.now
    c.skip_blanks-rest.ensures.skips c.skip_blanks-rest.ensures.stands c.drop_blanks-trimmed.ensures.drops c.drop_blanks-trimmed.ensures.front c.unquote-text.ensures
