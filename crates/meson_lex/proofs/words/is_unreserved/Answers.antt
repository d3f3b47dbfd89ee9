use Rattle.std.proofs.Common.{◌∙◌}
use Rattle.std.proofs.lemmas.Bool.{false≢true}
use Rattle.meson_lex.specs.Kinds.{reserved}
use Rattle.meson_lex.proofs.FrontComplete.{word_kind_none}
use Rattle.meson_lex.proofs.words.is_unreserved.Goals as goal

pub returns-in_default : goal.returns-in_default
returns-in_default c = (λ t. absurd (false≢true t), λ none. absurd (c.in_default.not-Identifier (c.word_kind.ensures ∙ word_kind_none reserved c.args.word.now none)))
