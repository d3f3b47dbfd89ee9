use Rattle.std.proofs.Common.{◌≡◌, ◌++◌, length, option_map, chars, encode_utf8_all, string_bytes}
use denote.Text.{Utf8}
use denote.Shadow.{shadow}
use Rattle.meson_lex.specs.Literals.{unescaped}
use Rattle.meson_lex.proofs.literals.unescaped.Given as goal

-- the text so far, and then what is left
abbrev pub invariant-loop-front : goal.invariant-loop-front
invariant-loop-front l = shadow (Utf8 l.rest) × (option_map encode_utf8_all (unescaped (chars l.inner)) ≡ option_map (λ cs. string_bytes l.text ++ encode_utf8_all cs) (unescaped (chars l.rest)))

abbrev pub decreases-loop-front : goal.decreases-loop-front
decreases-loop-front l = length l.rest
