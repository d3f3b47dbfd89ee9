-- The places of a tree's nodes among the items of their text.
use Rattle.std.specs.Prelude.{◌≡◌, ℕ, List, [], ◌∷◌, ◌++◌, length, Some, ⊤}
use Rattle.meson_lex.specs.declared.kinds.Span.{Span}
use Rattle.meson_lex.specs.Items.{Lexeme, joined}
use Rattle.meson_lex.specs.Significant.{Word, start, after, emitted, closing}
use Rattle.meson_lex.specs.Words.{spoken, IsTight}
use Rattle.meson_syntax.specs.Operators.{opens, closes}
use Rattle.meson_syntax.specs.Tree.{Expression, identifier, boolean, integer, string, paren, array, dictionary, call, unary, row, postfix, conditional, Argument, plain, named, pair, Statement, evaluate, assign, selection, iteration, breaks, continues}
use Rattle.meson_syntax.specs.Grammar.{expression_words, argument_words, statement_words}
use Rattle.meson_syntax.specs.Paths.{Sort, of_expression, of_statement, of_block, Node, ListAt, ElementAt, element_at, value_of, words_ahead, list_span, inner_words}

-- ---- spans of nodes

abbrev pub expression_span : {S : Type 0} → Expression S → S
expression_span (identifier s x) = s
expression_span (boolean s b) = s
expression_span (integer s x) = s
expression_span (string s q x) = s
expression_span (paren s e) = s
expression_span (array l) = list_span l
expression_span (dictionary l) = list_span l
expression_span (call s x l) = s
expression_span (unary s o e) = s
expression_span (row s e os) = s
expression_span (postfix s e ts) = s
expression_span (conditional s c y n) = s

abbrev pub argument_span : {S : Type 0} → Argument S → S
argument_span (plain e) = expression_span e
argument_span (named s x e) = s
argument_span (pair s e f) = s

abbrev pub statement_span : {S : Type 0} → Statement S → S
statement_span (evaluate e) = expression_span e
statement_span (assign s x a e) = s
statement_span (selection s bs o) = s
statement_span (iteration s xs e b) = s
statement_span (breaks s) = s
statement_span (continues s) = s

-- ---- nodes among items

-- The node of this span and these words. Left of its own items are those whose tokens are before its words, right of them the others.
pub record StandsAmongItems (items : List Lexeme) (s : Span) (before words behind : List Word) : Type 0 where
  pub left : List Lexeme
  pub own : List Lexeme
  pub right : List Lexeme
  pub parts : items ≡ left ++ (own ++ right)
  pub from : s.from ≡ length (joined left)
  pub to : s.to ≡ length (joined (left ++ own))
  pub is_left : emitted start left ≡ before
  pub is_own : emitted (after start left) own ≡ words
  pub is_right : emitted (after start (left ++ own)) right ++ closing (after start items).fresh ≡ behind
  pub tight : IsTight own

-- The expression or statement in a hole. (A block ends with a line end, which is not an item of its own.)
abbrev pub NodeStands : List Lexeme → (sort : Sort) → Node sort Span → (before behind : List Word) → Type 0
NodeStands items of_expression e before behind = StandsAmongItems items (expression_span e) before (expression_words e) behind
NodeStands items of_statement s before behind = StandsAmongItems items (statement_span s) before (statement_words s) behind
NodeStands items of_block b before behind = ⊤

-- A list, from its opening bracket to its closing one.
pub record ListStands (items : List Lexeme) (p : ListAt Span) : Type 0 where
  pub left : List Lexeme
  pub open_item : Lexeme
  pub inner : List Lexeme
  pub close_item : Lexeme
  pub right : List Lexeme
  pub parts : items ≡ left ++ open_item ∷ (inner ++ close_item ∷ right)
  pub is_open : open_item.kind ≡ opens p.bracket
  pub is_close : close_item.kind ≡ closes p.bracket
  pub from : (list_span p.list).from ≡ length (joined left)
  pub to : (list_span p.list).to ≡ length (joined (left ++ open_item ∷ (inner ++ close_item ∷ [])))
  pub is_left : emitted start left ≡ p.before
  pub is_inner : spoken inner ≡ inner_words p.list
  pub is_right : emitted (after start (left ++ open_item ∷ (inner ++ close_item ∷ []))) right ++ closing (after start items).fresh ≡ p.behind

-- A part of a list, between the words before it and those after it.
pub record PartStands (items : List Lexeme) (p : ListAt Span) (l : ListStands items p) (s : Span) (before words behind : List Word) : Type 0 where
  pub left : List Lexeme
  pub own : List Lexeme
  pub right : List Lexeme
  pub parts : l.inner ≡ left ++ (own ++ right)
  pub from : s.from ≡ length (joined (l.left ++ l.open_item ∷ left))
  pub to : s.to ≡ length (joined (l.left ++ l.open_item ∷ (left ++ own)))
  pub is_left : spoken left ≡ before
  pub is_own : spoken own ≡ words
  pub is_right : spoken right ≡ behind
  pub tight : IsTight own

-- An element of the list.
abbrev pub ElementStands : (items : List Lexeme) (p : ListAt Span) → ListStands items p → ElementAt Span → Type 0
ElementStands items p l e = PartStands items p l (argument_span e.element) e.before (argument_words e.element) e.behind

-- The value of an element, after the element's name if it has one.
abbrev pub ValueStands : (items : List Lexeme) (p : ListAt Span) → ListStands items p → ElementAt Span → Expression Span → Type 0
ValueStands items p l e v = PartStands items p l (expression_span v) (e.before ++ words_ahead e.element) (expression_words v) e.behind

-- The list, and each of its elements with its value.
pub record ListPlaces (items : List Lexeme) (p : ListAt Span) : Type 0 where
  pub list : ListStands items p
  pub elements : (n : ℕ) (e : ElementAt Span) → element_at p.list n ≡ Some e → ElementStands items p list e
  pub values : (n : ℕ) (e : ElementAt Span) → element_at p.list n ≡ Some e → (v : Expression Span) → value_of e.element ≡ Some v → ValueStands items p list e v
