-- Examples of code that is inserted beside statements and at the end of a file.
use Rattle.std.specs.Prelude.{◌≡◌, List, [], ◌∷◌, ◌++◌, ℕ, Some, None, codes}
use Rattle.meson_lex.specs.declared.kinds.Kind.TheVariants.{Blank, CloseRound, Comment, Identifier, LineEnd, OpenRound}
use Rattle.meson_lex.specs.declared.kinds.Span.{Span}
use Rattle.meson_lex.specs.Items.{Lexeme}
use Rattle.meson_statements.specs.declared.places.Side.TheVariants.{Above, Below, End}
use Rattle.meson_statements.specs.Gaps.{blank_lines_at_end, gap_between, indent_at}
use Rattle.meson_statements.specs.Indented.{lexeme}
use Rattle.meson_statements.specs.Places.{text_at}

abbrev feed : List ℕ
feed = 10 ∷ []

abbrev return_feed : List ℕ
return_feed = 13 ∷ 10 ∷ []

abbrev tab : List ℕ
tab = 9 ∷ []

abbrev name : List ℕ → Lexeme
name text = lexeme Identifier text

abbrev line : List ℕ → Lexeme
line end = lexeme LineEnd end

abbrev blank : List ℕ → Lexeme
blank text = lexeme Blank text

abbrev span : ℕ → ℕ → Span
span a b = record { from = a; to = b }

-- ---- the indent and the blank lines

pub record GapRows : Type 0 where
  -- the blanks of a line, spaces and TABs, and not those of the line before it
  pub indent : indent_at (codes "if a  " ++ feed ++ tab ++ codes "  b") 10 ≡ tab ++ codes "  "
  -- what is before them on the line is no part of it
  pub after_text : indent_at (codes "  a = b") 6 ≡ codes " "
  -- after a continuation
  pub continued : indent_at (codes "  \\" ++ feed ++ codes " b") 5 ≡ codes " "
  pub at_start : indent_at (codes "  a") 0 ≡ []
  pub all : indent_at (codes "  a") 2 ≡ codes "  "
  -- one line each
  pub one_line : gap_between None (codes "a") (codes "b") ≡ 0
  -- more than one line of either
  pub long_statement : gap_between None (codes "a" ++ feed ++ codes "b") (codes "c") ≡ 1
  pub long_code : gap_between None (codes "a") (codes "b" ++ return_feed ++ codes "c") ≡ 1
  -- as requested
  pub two : gap_between (Some 2) (codes "a") (codes "b") ≡ 2
  pub none : gap_between (Some 0) (codes "a" ++ feed ++ codes "b") (codes "c") ≡ 0
  -- the blank lines that end a file
  pub ended : blank_lines_at_end (name (codes "a") ∷ line feed ∷ []) ≡ 0
  pub not_ended : blank_lines_at_end (name (codes "a") ∷ blank (codes " ") ∷ []) ≡ 0
  pub one : blank_lines_at_end (name (codes "a") ∷ line feed ∷ line feed ∷ []) ≡ 1
  pub with_blanks : blank_lines_at_end (name (codes "a") ∷ line feed ∷ blank (codes " ") ∷ line feed ∷ line feed ∷ []) ≡ 2
  pub last_blanks : blank_lines_at_end (name (codes "a") ∷ line feed ∷ blank (codes " ") ∷ []) ≡ 1
  pub noted : blank_lines_at_end (line feed ∷ line feed ∷ lexeme Comment (codes "# c") ∷ line feed ∷ []) ≡ 0
  pub empty : blank_lines_at_end [] ≡ 0
  pub no_text : blank_lines_at_end (line feed ∷ line feed ∷ []) ≡ 2

-- ---- what is inserted

-- a file of one statement
abbrev one : List ℕ → List ℕ
one end = codes "a" ++ end

abbrev one_items : List ℕ → List Lexeme
one_items end = name (codes "a") ∷ line end ∷ []

-- a file of two lines, of which the second is indented by a TAB
abbrev inner : List ℕ → List ℕ
inner end = codes "a" ++ end ++ tab ++ codes "b" ++ end

abbrev inner_items : List ℕ → List Lexeme
inner_items end = name (codes "a") ∷ line end ∷ blank tab ∷ name (codes "b") ∷ line end ∷ []

-- code of one line, and of two
abbrev short : List ℕ
short = codes "x"

abbrev short_items : List Lexeme
short_items = name (codes "x") ∷ []

abbrev long : List ℕ
long = codes "f(" ++ feed ++ codes ")"

abbrev long_items : List Lexeme
long_items = name (codes "f") ∷ lexeme OpenRound (codes "(") ∷ line feed ∷ lexeme CloseRound (codes ")") ∷ []

pub record PlaceRows : Type 0 where
  -- one line each
  pub below : text_at (one feed) (one_items feed) None short short_items (Below (span 0 1)) ≡ codes "x" ++ feed
  pub above : text_at (one feed) (one_items feed) None short short_items (Above (span 0 1)) ≡ codes "x" ++ feed
  pub last : text_at (one feed) (one_items feed) None short short_items (End (Some (span 0 1))) ≡ codes "x" ++ feed
  -- code of two lines, and the line ends of the file
  pub below_long : text_at (one return_feed) (one_items return_feed) None long long_items (Below (span 0 1))
      ≡ return_feed ++ codes "f(" ++ return_feed ++ codes ")" ++ return_feed
  pub above_long : text_at (one return_feed) (one_items return_feed) None long long_items (Above (span 0 1))
      ≡ codes "f(" ++ return_feed ++ codes ")" ++ return_feed ++ return_feed
  pub last_long : text_at (one return_feed) (one_items return_feed) None long long_items (End (Some (span 0 1)))
      ≡ return_feed ++ codes "f(" ++ return_feed ++ codes ")" ++ return_feed
  -- the indent of the statement, and none at the end of the file
  pub below_inner : text_at (inner feed) (inner_items feed) None long long_items (Below (span 3 4))
      ≡ feed ++ tab ++ codes "f(" ++ feed ++ tab ++ codes ")" ++ feed
  pub above_inner : text_at (inner feed) (inner_items feed) None short short_items (Above (span 3 4)) ≡ tab ++ codes "x" ++ feed
  pub last_inner : text_at (inner feed) (inner_items feed) None short short_items (End (Some (span 0 1))) ≡ codes "x" ++ feed
  -- a file that ends in a blank line gets no more
  pub blank_there : text_at (one feed ++ feed) (one_items feed ++ line feed ∷ []) None long long_items (End (Some (span 0 1)))
      ≡ codes "f(" ++ feed ++ codes ")" ++ feed
  pub one_more : text_at (one feed ++ feed) (one_items feed ++ line feed ∷ []) (Some 2) short short_items (End (Some (span 0 1))) ≡ feed ++ codes "x" ++ feed
  -- as requested
  pub two : text_at (inner feed) (inner_items feed) (Some 2) short short_items (Below (span 3 4)) ≡ feed ++ feed ++ tab ++ codes "x" ++ feed
  pub none : text_at (inner return_feed) (inner_items return_feed) (Some 0) long long_items (Above (span 4 5))
      ≡ tab ++ codes "f(" ++ return_feed ++ tab ++ codes ")" ++ return_feed
  -- a file without statements
  pub first : text_at [] [] None long long_items (End None) ≡ codes "f(" ++ feed ++ codes ")" ++ feed
  pub first_parted : text_at (codes "# c" ++ feed) (lexeme Comment (codes "# c") ∷ line feed ∷ []) (Some 1) short short_items (End None)
      ≡ feed ++ codes "x" ++ feed
