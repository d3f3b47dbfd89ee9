-- The significant tokens of a source, gathered item by item. No public contract names this.
use Rattle.std.specs.Prelude.{◌≡◌, ℕ, false, List, [], ◌∷◌, ◌++◌, Result, Ok, Err}
use Rattle.meson_lex.specs.declared.kinds.Item.{Item}
use Rattle.meson_lex.specs.declared.fault.LexFault.{LexFault}
use Rattle.meson_lex.specs.Items.{Lexeme, IsItemList}
use Rattle.meson_lex.specs.Faults.{HasItemsThenFault}
use Rattle.meson_lex.specs.Significant.{Role, Gap, Ends, Opens, Closes, Other, role, State, start, step_by, ends_line, only_if}
use Rattle.meson_lex.specs.Located.{Token, line_end_at, closing_at, located}
use Rattle.meson_syntax.specs.View.{text_at}

pub record GatheredTokens : Type 0 where
  pub source : List ℕ
  pub tokens : List Token
  pub state : State
  -- where the last token ended
  pub end : ℕ

abbrev pub no_tokens : List ℕ → GatheredTokens
no_tokens source = record { source = source; tokens = []; state = start; end = 0 }

abbrev pub token_for : List ℕ → Item → Token
token_for source x = record { kind = x.kind; text = text_at source x.span; from = x.span.from; to = x.span.to }

abbrev pub spot_for : Role → GatheredTokens → Item → List Token
spot_for Gap g x = []
spot_for Ends g x = only_if (ends_line g.state.depth g.state.fresh) (line_end_at g.end)
spot_for Opens g x = token_for g.source x ∷ []
spot_for Closes g x = token_for g.source x ∷ []
spot_for Other g x = token_for g.source x ∷ []

abbrev pub end_for : Role → GatheredTokens → Item → ℕ
end_for Gap g x = g.end
end_for Ends g x = g.end
end_for Opens g x = x.span.to
end_for Closes g x = x.span.to
end_for Other g x = x.span.to

-- with an item that is a token by itself
abbrev pub pushed : GatheredTokens → Item → GatheredTokens
pushed g x = record {
  source = g.source;
  tokens = g.tokens ++ token_for g.source x ∷ [];
  state = record { depth = g.state.depth; fresh = false };
  end = x.span.to;
}

-- with a line end
abbrev pub line_ended : GatheredTokens → GatheredTokens
line_ended g = record {
  source = g.source;
  tokens = g.tokens ++ only_if (ends_line g.state.depth g.state.fresh) (line_end_at g.end);
  state = step_by Ends g.state;
  end = g.end;
}

-- with one more item
unfoldable pub gathered_with : GatheredTokens → Item → GatheredTokens
gathered_with g x = record {
  source = g.source;
  tokens = g.tokens ++ spot_for (role x.kind) g x;
  state = step_by (role x.kind) g.state;
  end = end_for (role x.kind) g x;
}

-- at the end of the source
abbrev pub closed : GatheredTokens → List Token
closed g = g.tokens ++ closing_at g.state.fresh g.end

-- with all that the lexer gives from here on
abbrev pub gathered_tokens : GatheredTokens → List (Result Item LexFault) → Result (List Token) LexFault
gathered_tokens g [] = Ok (closed g)
gathered_tokens g (Ok x ∷ more) = gathered_tokens (gathered_with g x) more
gathered_tokens g (Err fault ∷ more) = Err fault

-- the source has this fault
pub record IsFaulty (source : List ℕ) (fault : LexFault) : Type 0 where
  pub items : List Lexeme
  pub rest : List ℕ
  pub has : HasItemsThenFault 0 source items rest fault

-- these are the significant tokens of the source
pub record AreTokens (source : List ℕ) (tokens : List Token) : Type 0 where
  pub items : List Lexeme
  pub are_items : IsItemList source items
  pub are_located : tokens ≡ located items
