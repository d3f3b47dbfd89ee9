-- A tree with its texts read from a source: that of a node at its span, that of a name at its place.
use Rattle.std.specs.Prelude.{◌≡◌, ℕ, List, [], ◌∷◌, map, slice_range, ⊤}
use Rattle.meson_lex.specs.declared.kinds.Span.{Span}
use Rattle.meson_lex.specs.Located.{Token, located}
use Rattle.meson_syntax.specs.Tree.{Name, Expression, identifier, boolean, integer, string, paren, array, dictionary, call, unary, row, postfix, conditional, Operands, no_operands, operand, Tail, method, index, Tails, no_tails, tail, Listing, listing, Argument, plain, named, pair, Arguments, no_arguments, argument, Statement, evaluate, assign, selection, iteration, breaks, continues, Branches, no_branches, branch, Otherwise, nothing_else, otherwise, Statements, no_statements, statement, Block, block, File, file}
use Rattle.meson_syntax.specs.View.{text_at, name_at}
use Rattle.meson_lex.specs.Items.{Lexeme, IsItemList}
use Rattle.meson_syntax.specs.declared.operator.Bracket.{Bracket}
use Rattle.meson_syntax.specs.declared.source.Limits.{Limits}
use Rattle.meson_syntax.specs.Spelling.{SpellsFile, SpellsListing}
use Rattle.meson_syntax.specs.Reads.{IsSpannedWithin}
use Rattle.meson_syntax.specs.ReadsList.{IsSpannedList}

module _ (source : List ℕ) where
  abbrev pub texts_of_name : Name Span → Name Span
  texts_of_name name = name_at source name.place

  abbrev mutual
    pub texts_of_expression : Expression Span → Expression Span
    texts_of_expression (identifier s x) = identifier s (text_at source s)
    texts_of_expression (boolean s b) = boolean s b
    texts_of_expression (integer s x) = integer s (text_at source s)
    texts_of_expression (string s q x) = string s q (text_at source s)
    texts_of_expression (paren s e) = paren s (texts_of_expression e)
    texts_of_expression (array l) = array (texts_of_listing l)
    texts_of_expression (dictionary l) = dictionary (texts_of_listing l)
    texts_of_expression (call s x l) = call s (texts_of_name x) (texts_of_listing l)
    texts_of_expression (unary s o e) = unary s o (texts_of_expression e)
    texts_of_expression (row s e os) = row s (texts_of_expression e) (texts_of_operands os)
    texts_of_expression (postfix s e ts) = postfix s (texts_of_expression e) (texts_of_tails ts)
    texts_of_expression (conditional s c y n) = conditional s (texts_of_expression c) (texts_of_expression y) (texts_of_expression n)

    pub texts_of_operands : Operands Span → Operands Span
    texts_of_operands no_operands = no_operands
    texts_of_operands (operand o e more) = operand o (texts_of_expression e) (texts_of_operands more)

    pub texts_of_tail : Tail Span → Tail Span
    texts_of_tail (method s x l) = method s (texts_of_name x) (texts_of_listing l)
    texts_of_tail (index s e) = index s (texts_of_expression e)

    pub texts_of_tails : Tails Span → Tails Span
    texts_of_tails no_tails = no_tails
    texts_of_tails (tail t more) = tail (texts_of_tail t) (texts_of_tails more)

    pub texts_of_listing : Listing Span → Listing Span
    texts_of_listing (listing s trailing list) = listing s trailing (texts_of_arguments list)

    pub texts_of_argument : Argument Span → Argument Span
    texts_of_argument (plain e) = plain (texts_of_expression e)
    texts_of_argument (named s x e) = named s (texts_of_name x) (texts_of_expression e)
    texts_of_argument (pair s e f) = pair s (texts_of_expression e) (texts_of_expression f)

    pub texts_of_arguments : Arguments Span → Arguments Span
    texts_of_arguments no_arguments = no_arguments
    texts_of_arguments (argument a more) = argument (texts_of_argument a) (texts_of_arguments more)

  abbrev mutual
    pub texts_of_statement : Statement Span → Statement Span
    texts_of_statement (evaluate e) = evaluate (texts_of_expression e)
    texts_of_statement (assign s x a e) = assign s (texts_of_name x) a (texts_of_expression e)
    texts_of_statement (selection s bs o) = selection s (texts_of_branches bs) (texts_of_otherwise o)
    texts_of_statement (iteration s xs e b) = iteration s (map texts_of_name xs) (texts_of_expression e) (texts_of_block b)
    texts_of_statement (breaks s) = breaks s
    texts_of_statement (continues s) = continues s

    pub texts_of_branches : Branches Span → Branches Span
    texts_of_branches no_branches = no_branches
    texts_of_branches (branch e b more) = branch (texts_of_expression e) (texts_of_block b) (texts_of_branches more)

    pub texts_of_otherwise : Otherwise Span → Otherwise Span
    texts_of_otherwise nothing_else = nothing_else
    texts_of_otherwise (otherwise b) = otherwise (texts_of_block b)

    pub texts_of_statements : Statements Span → Statements Span
    texts_of_statements no_statements = no_statements
    texts_of_statements (statement s more) = statement (texts_of_statement s) (texts_of_statements more)

    pub texts_of_block : Block Span → Block Span
    texts_of_block (block s statements) = block s (texts_of_statements statements)

  abbrev pub texts_of : File Span → File Span
  texts_of (file s b) = file s (texts_of_block b)

-- each token has the text at its place
abbrev pub AreSlices : List ℕ → List Token → Type 0
AreSlices source [] = ⊤
AreSlices source (t ∷ ts) = (t.text ≡ slice_range source t.from t.to) × AreSlices source ts

-- ---- texts

-- The tokens of a text are slices of it.
abbrev pub TokensAreSlices : Type 0
TokensAreSlices = (source : List ℕ) (items : List Lexeme) → IsItemList source items → AreSlices source (located items)

-- A tree that slices of a source spell has the texts that are there at its spans.
abbrev pub SpelledTexts : Type 0
SpelledTexts = (source : List ℕ) (f : File Span) (len depth : ℕ) (ts : List Token) → AreSlices source ts → SpellsFile f len depth ts
    → texts_of source f ≡ f

abbrev pub ListSpelledTexts : Type 0
ListSpelledTexts = (source : List ℕ) (l : Listing Span) (b : Bracket) (depth : ℕ) (ts : List Token) → AreSlices source ts → SpellsListing l b depth ts
    → texts_of_listing source l ≡ l

-- So has a tree that is spelled by a text, and a list that is one.
abbrev pub SpannedTexts : Type 0
SpannedTexts = (limits : Limits) (bytes : List ℕ) (f : File Span) → IsSpannedWithin limits bytes f → texts_of bytes f ≡ f

abbrev pub ListSpannedTexts : Type 0
ListSpannedTexts = (b : Bracket) (bytes : List ℕ) (l : Listing Span) → IsSpannedList b bytes l → texts_of_listing bytes l ≡ l
