use Rattle.std.proofs.Common.{◌∙◌}
use Rattle.clap.specs.Words.{found_of}
use Rattle.clap.proofs.WalkLemmas.{first_value-rows}
use Rattle.meson_command.proofs.Reading.{one_read}
use Rattle.meson_command.proofs.words.word_or.Goals as goal

pub returns : goal.returns
returns c = one_read c.get_str.result c.args.otherwise _ _ (c.get_str.ensures ∙ first_value-rows (found_of c.args.matches.now) c.args.name.now) c.unwrap_or.ensures
