use Rattle.meson_lex.proofs.Written.{literal_string, literal_return, literal_text}
use Rattle.meson_lex.proofs.laws.literal_is_plain_string.Goals as goal

pub returns : goal.returns
returns c = record {
  string = literal_string;
  no_return = literal_return;
  stands = λ text rest none empty. none;
  text = literal_text;
}
