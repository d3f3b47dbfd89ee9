-- Moved tokens spell the moved tree.
use Rattle.meson_edit.proofs.Words.{map, ◌≡◌, ℕ, ◌+◌, ◌<◌, ◌≤◌, Bool, true, false, List, [], ◌∷◌, ◌++◌, refl, ap, ◌∙◌, subst, Token, Kind, Span, looseness}
use Rattle.meson_edit.proofs.Words.{row_level, HasOperand, HasTail, HasBranch, Flagged, span_by, operator_kind, operator_rest, unary_kind, string_kind}
use Rattle.meson_edit.proofs.Words.{boolean_kind, assignment_kind, opens, closes, end_of, Covers, CoversBlock, One, IsOneToken, Then, Deeper, NewLine, Nothing}
use Rattle.meson_edit.proofs.Words.{Each, SaysName, SaysMoreNames, SaysNames, Comma, SpellsExpression, SpellsOperands, SpellsTail, SpellsTails, SpellsListing}
use Rattle.meson_edit.proofs.Words.{SpellsArguments, SpellsArgument, SpellsStatement, SpellsBranches, SpellsOtherwise, SpellsStatements, SpellsBlock, Name}
use Rattle.meson_edit.proofs.Words.{Expression, identifier, boolean, integer, string, paren, array, dictionary, call, unary, row, postfix, conditional}
use Rattle.meson_edit.proofs.Words.{Operands, no_operands, operand, Tail, method, index, Tails, no_tails, tail, Listing, listing, Argument, plain, named, pair}
use Rattle.meson_edit.proofs.Words.{is_named, Arguments, no_arguments, argument, Statement, evaluate, assign, selection, iteration, breaks, continues, Branches}
use Rattle.meson_edit.proofs.Words.{no_branches, branch, Otherwise, nothing_else, otherwise, Statements, no_statements, statement, Block, block, file, Bracket}
use Rattle.meson_edit.proofs.Words.{FilesMove, ListsMove, each_name, each_expression, each_operands, each_tail, each_tails, each_listing, each_argument}
use Rattle.meson_edit.proofs.Words.{each_arguments, each_statement, each_branches, each_otherwise, each_statements, each_block, token_by, tokens_by}
use Rattle.meson_lex.specs.declared.kinds.Kind.TheVariants as k
use Rattle.meson_syntax.specs.declared.operator.Bracket.TheVariants as bracket

module _ (g : ℕ → ℕ) where
  -- what P takes is taken by Q once it is moved
  abbrev Moves : (P Q : List Token → Type 0) → Type 0
  Moves P Q = (ts : List Token) → P ts → Q (tokens_by g ts)

  append : (a b : List Token) → tokens_by g (a ++ b) ≡ tokens_by g a ++ tokens_by g b
  append [] b = refl
  append (t ∷ a) b = ap (λ l. token_by g t ∷ l) (append a b)

  end : (last : ℕ) (ts : List Token) → g (end_of last ts) ≡ end_of (g last) (tokens_by g ts)
  end last [] = refl
  end last (t ∷ ts) = end t.to ts

  covers : (s : Span) (ts : List Token) → Covers s ts → Covers (span_by g s) (tokens_by g ts)
  covers s [] h = absurd h
  covers s (t ∷ ts) h = (ap g h.0, ap g h.1 ∙ end t.to ts)

  covers_block : (last : ℕ) (s : Span) (ts : List Token) → CoversBlock last s ts → CoversBlock (g last) (span_by g s) (tokens_by g ts)
  covers_block last s [] h = (ap g h.0, ap g h.1)
  covers_block last s (t ∷ ts) h = covers s (t ∷ ts) h

  one : (κ : Kind) → Moves (One κ) (One κ)
  one κ ts o = record { token = token_by g o.token; alone = ap (tokens_by g) o.alone; is = o.is }

  says : (κ : Kind) (x : List ℕ) → Moves (IsOneToken κ x) (IsOneToken κ x)
  says κ x ts o = record { token = token_by g o.token; alone = ap (tokens_by g) o.alone; is = o.is; says = o.says }

  both : {P Q R S : List Token → Type 0} → Moves P R → Moves Q S → Moves (Then P Q) (Then R S)
  both p q ts t = record {
    front = tokens_by g t.front;
    back = tokens_by g t.back;
    joined = ap (tokens_by g) t.joined ∙ append t.front t.back;
    first = p t.front t.first;
    second = q t.back t.second;
  }

  deeper : {P Q : ℕ → List Token → Type 0} → ((inner : ℕ) → Moves (P inner) (Q inner)) → (d : ℕ) → Moves (Deeper P d) (Deeper Q d)
  deeper p d ts w = record { inner = w.inner; less = w.less; spelled = p w.inner ts w.spelled }

  new_line : {P Q : ℕ → List Token → Type 0} → ((last : ℕ) → Moves (P last) (Q (g last))) → Moves (NewLine P) (NewLine Q)
  new_line p ts n = record {
    token = token_by g n.token;
    rest = tokens_by g n.rest;
    joined = ap (tokens_by g) n.joined;
    is = n.is;
    second = p n.token.to n.rest n.second;
  }

  nothing : Moves Nothing Nothing
  nothing ts h = ap (tokens_by g) h

  each : (κs : List Kind) → Moves (Each κs) (Each κs)
  each [] ts h = nothing ts h
  each (κ ∷ κs) ts h = both (one κ) (each κs) ts h

  name : (x : Name Span) → Moves (SaysName x) (SaysName (each_name (span_by g) x))
  name x ts h = (covers x.place ts h.0, says k.Identifier x.text ts h.1)

  more_names : (xs : List (Name Span)) → Moves (SaysMoreNames xs) (SaysMoreNames (map (each_name (span_by g)) xs))
  more_names [] ts h = nothing ts h
  more_names (x ∷ xs) ts h = both (one k.Comma) (both (name x) (more_names xs)) ts h

  names : (xs : List (Name Span)) → Moves (SaysNames xs) (SaysNames (map (each_name (span_by g)) xs))
  names [] ts h = absurd h
  names (x ∷ xs) ts h = both (name x) (more_names xs) ts h

  abbrev moved : Expression Span → Expression Span
  moved = each_expression (span_by g)

  comma : (more : Arguments Span) (trailing : Bool) → Moves (Comma more trailing) (Comma (each_arguments (span_by g) more) trailing)
  comma no_arguments true ts h = one k.Comma ts h
  comma no_arguments false ts h = nothing ts h
  comma (argument a more) trailing ts h = one k.Comma ts h

  rows : (os : Operands Span) → row_level os ≡ row_level (each_operands (span_by g) os)
  rows no_operands = refl
  rows (operand o e more) = refl

  loose : (e : Expression Span) → looseness e ≡ looseness (moved e)
  loose (identifier s x) = refl
  loose (boolean s b) = refl
  loose (integer s x) = refl
  loose (string s q x) = refl
  loose (paren s e) = refl
  loose (array l) = refl
  loose (dictionary l) = refl
  loose (call s x l) = refl
  loose (unary s o e) = refl
  loose (row s e os) = ap (λ n. 2 + n) (rows os)
  loose (postfix s e ts) = refl
  loose (conditional s c y n) = refl

  has_operand : (os : Operands Span) → HasOperand os → HasOperand (each_operands (span_by g) os)
  has_operand no_operands h = h
  has_operand (operand o e more) h = h

  has_tail : (ts : Tails Span) → HasTail ts → HasTail (each_tails (span_by g) ts)
  has_tail no_tails h = h
  has_tail (tail t more) h = h

  has_branch : (bs : Branches Span) → HasBranch bs → HasBranch (each_branches (span_by g) bs)
  has_branch no_branches h = h
  has_branch (branch e b more) h = h

  flagged : (trailing : Bool) (list : Arguments Span) → Flagged trailing list → Flagged trailing (each_arguments (span_by g) list)
  flagged trailing no_arguments h = h
  flagged trailing (argument a more) h = h

  is_same : (a : Argument Span) → is_named a ≡ is_named (each_argument (span_by g) a)
  is_same (plain e) = refl
  is_same (named s x e) = refl
  is_same (pair s e f) = refl

  mutual
    expression : (e : Expression Span) (d : ℕ) → Moves (SpellsExpression e d) (SpellsExpression (moved e) d)
    expression (identifier s x) d ts h = (covers s ts h.0, says k.Identifier x ts h.1)
    expression (boolean s b) d ts h = (covers s ts h.0, one (boolean_kind b) ts h.1)
    expression (integer s x) d ts h = (covers s ts h.0, says k.Integer x ts h.1)
    expression (string s q x) d ts h = (covers s ts h.0, says (string_kind q) x ts h.1)
    expression (paren s e) d ts h = (covers s ts h.0, both (one k.OpenRound) (both (deeper (expression e) d) (one k.CloseRound)) ts h.1)
    expression (array l) d ts h = list l bracket.Square d ts h
    expression (dictionary l) d ts h = list l bracket.Curly d ts h
    expression (call s x l) d ts h = (covers s ts h.0, both (name x) (list l bracket.Round d) ts h.1)
    expression (unary s o e) d ts h = (covers s ts h.0, subst (λ n. n ≤ 1) (loose e) h.1, both (one (unary_kind o)) (expression e d) ts h.2)
    expression (row s e os) d ts h = (
      covers s ts h.0,
      has_operand os h.1,
      subst (λ n. looseness (moved e) < 2 + n) (rows os) (subst (λ n. n < 2 + row_level os) (loose e) h.2),
      both (expression e d)
          (subst (λ n. Moves (SpellsOperands os (row_level os) d) (SpellsOperands (each_operands (span_by g) os) n d))
          (rows os) (operands os (row_level os) d)) ts h.3,
    )
    expression (postfix s e tails) d ts h =
        (covers s ts h.0, has_tail tails h.1, subst (λ n. n ≤ 0) (loose e) h.2, both (expression e d) (the_tails tails d) ts h.3)
    expression (conditional s c y n) d ts h = (
      covers s ts h.0,
      subst (λ m. m ≤ 8) (loose c) h.1,
      both (expression c d) (both (one k.Question) (both (deeper (expression y) d) (both (one k.Colon) (deeper (expression n) d)))) ts h.2,
    )

    operands : (os : Operands Span) (n d : ℕ) → Moves (SpellsOperands os n d) (SpellsOperands (each_operands (span_by g) os) n d)
    operands no_operands n d ts h = nothing ts h
    operands (operand o e more) n d ts h = (
      h.0,
      subst (λ m. m < 2 + n) (loose e) h.1,
      both (one (operator_kind o)) (both (each (operator_rest o)) (both (expression e d) (operands more n d))) ts h.2,
    )

    the_tail : (t : Tail Span) (d : ℕ) → Moves (SpellsTail t d) (SpellsTail (each_tail (span_by g) t) d)
    the_tail (method s x l) d ts h = (covers s ts h.0, both (one k.Dot) (both (name x) (list l bracket.Round d)) ts h.1)
    the_tail (index s e) d ts h = (covers s ts h.0, both (one k.OpenSquare) (both (deeper (expression e) d) (one k.CloseSquare)) ts h.1)

    the_tails : (tails : Tails Span) (d : ℕ) → Moves (SpellsTails tails d) (SpellsTails (each_tails (span_by g) tails) d)
    the_tails no_tails d ts h = nothing ts h
    the_tails (tail t more) d ts h = both (the_tail t d) (the_tails more d) ts h

    pub list : (l : Listing Span) (b : Bracket) (d : ℕ) → Moves (SpellsListing l b d) (SpellsListing (each_listing (span_by g) l) b d)
    list (listing s trailing items) b d ts h = (
      covers s ts h.0,
      h.1,
      flagged trailing items h.2,
      both (one (opens b)) (both (arguments items trailing b false d) (one (closes b))) ts h.3,
    )

    arguments : (items : Arguments Span) (trailing : Bool) (b : Bracket) (seen : Bool) (d : ℕ)
        → Moves (SpellsArguments items trailing b seen d) (SpellsArguments (each_arguments (span_by g) items) trailing b seen d)
    arguments no_arguments trailing b seen d ts h = nothing ts h
    arguments (argument a more) trailing b seen d ts h =
        both (the_argument a b seen d) (both (comma more trailing)
        (subst (λ s. Moves (SpellsArguments more trailing b (is_named a) d) (SpellsArguments (each_arguments (span_by g) more) trailing b s d))
        (is_same a) (arguments more trailing b (is_named a) d))) ts h

    the_argument : (a : Argument Span) (b : Bracket) (seen : Bool) (d : ℕ)
        → Moves (SpellsArgument a b seen d) (SpellsArgument (each_argument (span_by g) a) b seen d)
    the_argument (plain e) b seen d ts h = (h.0, h.1, deeper (expression e) d ts h.2)
    the_argument (named s x e) b seen d ts h = (covers s ts h.0, h.1, both (name x) (both (one k.Colon) (deeper (expression e) d)) ts h.2)
    the_argument (pair s e f) b seen d ts h = (covers s ts h.0, h.1, both (deeper (expression e) d) (both (one k.Colon) (deeper (expression f) d)) ts h.2)

  mutual
    the_statement : (s : Statement Span) (d : ℕ) → Moves (SpellsStatement s d) (SpellsStatement (each_statement (span_by g) s) d)
    the_statement (evaluate e) d ts h = expression e d ts h
    the_statement (assign s x a e) d ts h = (covers s ts h.0, both (name x) (both (one (assignment_kind a)) (expression e d)) ts h.1)
    the_statement (selection s bs o) d ts h =
        (covers s ts h.0, has_branch bs h.1, deeper (λ inner. both (branches bs k.WordIf inner) (both (the_otherwise o inner) (one k.WordEndif))) d ts h.2)
    the_statement (iteration s xs e b) d ts h = (
      covers s ts h.0,
      both (one k.WordForeach) (both (names xs) (both (one k.Colon)
          (deeper (λ inner. both (expression e inner) (both (new_line (the_block b inner)) (one k.WordEndforeach))) d))) ts h.1,
    )
    the_statement (breaks s) d ts h = (covers s ts h.0, one k.WordBreak ts h.1)
    the_statement (continues s) d ts h = (covers s ts h.0, one k.WordContinue ts h.1)

    branches : (bs : Branches Span) (word : Kind) (d : ℕ) → Moves (SpellsBranches bs word d) (SpellsBranches (each_branches (span_by g) bs) word d)
    branches no_branches word d ts h = nothing ts h
    branches (branch e b more) word d ts h = both (one word) (both (expression e d) (both (new_line (the_block b d)) (branches more k.WordElif d))) ts h

    the_otherwise : (o : Otherwise Span) (d : ℕ) → Moves (SpellsOtherwise o d) (SpellsOtherwise (each_otherwise (span_by g) o) d)
    the_otherwise nothing_else d ts h = nothing ts h
    the_otherwise (otherwise b) d ts h = both (one k.WordElse) (new_line (the_block b d)) ts h

    statements : (list : Statements Span) (d : ℕ) → Moves (SpellsStatements list d) (SpellsStatements (each_statements (span_by g) list) d)
    statements no_statements d ts h = nothing ts h
    statements (statement s more) d ts h = both (the_statement s d) (both (one k.LineEnd) (statements more d)) ts h

    the_block : (b : Block Span) (d last : ℕ) → Moves (SpellsBlock b d last) (SpellsBlock (each_block (span_by g) b) d (g last))
    the_block (block s list) d last ts h = (covers_block last s ts h.0, statements list d ts h.1)

pub files-move : FilesMove
files-move g zero (file s b) len d ts h = (
  ap g h.0 ∙ zero,
  ap g h.1,
  subst (λ last. SpellsBlock (each_block (span_by g) b) d last (tokens_by g ts)) zero (the_block g b d 0 ts h.2),
)

pub lists-move : ListsMove
lists-move g l b depth ts h = list g l b depth ts h
