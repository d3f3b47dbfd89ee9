use Rattle.std.proofs.Common.{get_or, not, eqb, refl, arith}
use Rattle.std.proofs.lemmas.Bool.{agree_below_at}
use Rattle.meson_lex.specs.Bytes.{is_word_byte}
use Rattle.meson_lex.specs.declared.bytes.TheConstants.{WORD_BYTES}
use Rattle.meson_lex.proofs.bytes.is_word_byte.Goals as goal

pub returns : goal.returns
returns c = agree_below_at (λ b. not (eqb (get_or WORD_BYTES b 0) 46)) is_word_byte 256 c.args.b refl (omega arith)
