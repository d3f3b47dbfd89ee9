-- The token of a value of the code over its source.
use Rattle.std.specs.Prelude.{ℕ, List, map}
use Rattle.meson_lex.specs.Located as spec
use Rattle.meson_syntax.specs.declared.token.Token.{Token}
use Rattle.meson_syntax.specs.View.{text_at}

abbrev pub token_of : List ℕ → Token → spec.Token
token_of source t = record { kind = t.kind; text = text_at source t.span; from = t.span.from; to = t.span.to }

abbrev pub tokens_of : List ℕ → List Token → List spec.Token
tokens_of source ts = map (token_of source) ts
