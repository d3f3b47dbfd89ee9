-- Examples of lines that are indented.
use Rattle.std.specs.Prelude.{◌≡◌, true, List, [], ◌∷◌, ◌++◌, ℕ, codes}
use Rattle.meson_lex.specs.declared.kinds.Kind.TheVariants.{Blank, Comment, Continuation, CloseRound, Identifier, LineEnd, MultilineString, OpenRound}
use Rattle.meson_lex.specs.Items.{Lexeme, joined}
use Rattle.meson_statements.specs.Indented.{indented, lexeme}

abbrev two : List ℕ
two = codes "  "

abbrev feed : List ℕ
feed = 10 ∷ []

abbrev return_feed : List ℕ
return_feed = 13 ∷ 10 ∷ []

-- items as they are written with an indent of two spaces
abbrev pub by_two : (end : List ℕ) → List Lexeme → List ℕ
by_two end items = joined (indented two end true items)

abbrev name : List ℕ → Lexeme
name text = lexeme Identifier text

abbrev line : Lexeme
line = lexeme LineEnd feed

pub record IndentRows : Type 0 where
  -- each line
  pub lines : by_two feed (name (codes "a") ∷ line ∷ name (codes "b") ∷ []) ≡ codes "  a" ++ feed ++ codes "  b" ++ feed
  -- the line ends of the other file
  pub returns : by_two return_feed (name (codes "a") ∷ line ∷ name (codes "b") ∷ []) ≡ codes "  a" ++ return_feed ++ codes "  b" ++ return_feed
  -- a line without text
  pub empty : by_two feed (name (codes "a") ∷ line ∷ line ∷ name (codes "b") ∷ []) ≡ codes "  a" ++ feed ++ feed ++ codes "  b" ++ feed
  -- a line of blanks alone
  pub blank : by_two feed (name (codes "a") ∷ line ∷ lexeme Blank two ∷ line ∷ name (codes "b") ∷ []) ≡ codes "  a" ++ feed ++ feed ++ codes "  b" ++ feed
  -- blanks that begin a line, and blanks in it
  pub further : by_two feed (name (codes "a") ∷ lexeme Blank two ∷ line ∷ lexeme Blank two ∷ name (codes "b") ∷ []) ≡ codes "  a  " ++ feed ++ codes "    b" ++ feed
  -- a string of two lines
  pub string : by_two feed (lexeme MultilineString (codes "'''" ++ feed ++ codes "'''") ∷ []) ≡ codes "  '''" ++ feed ++ codes "'''" ++ feed
  -- a comment, and brackets over two lines
  pub bracket : by_two feed (name (codes "f") ∷ lexeme OpenRound (codes "(") ∷ lexeme Comment (codes "# c") ∷ line ∷ lexeme CloseRound (codes ")") ∷ [])
      ≡ codes "  f(# c" ++ feed ++ codes "  )" ++ feed
  -- a continuation
  pub joined_line : by_two return_feed (name (codes "a") ∷ lexeme Continuation (codes "\\" ++ feed) ∷ name (codes "b") ∷ [])
      ≡ codes "  a\\" ++ return_feed ++ codes "  b" ++ return_feed
  -- no indent
  pub none : joined (indented [] feed true (name (codes "a") ∷ line ∷ lexeme Blank two ∷ name (codes "b") ∷ [])) ≡ codes "a" ++ feed ++ codes "  b" ++ feed
