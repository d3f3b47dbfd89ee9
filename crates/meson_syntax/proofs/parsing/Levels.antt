-- What is spelled has its levels and its depth.
use Rattle.std.proofs.Common.{ℕ, ◌<◌, ◌≤◌, Bool, false, List, [], ◌∷◌, arith}
use Rattle.meson_lex.specs.declared.kinds.Kind.{Kind}
use Rattle.meson_lex.specs.declared.kinds.Kind.TheVariants as k
use Rattle.meson_lex.specs.declared.kinds.Span.{Span}
use Rattle.meson_lex.specs.Located.{Token}
use Rattle.meson_syntax.specs.declared.operator.Bracket.{Bracket}
use Rattle.meson_syntax.specs.declared.operator.Bracket.TheVariants as bracket
use Rattle.meson_syntax.specs.Tree.{Expression, identifier, boolean, integer, string, paren, array, dictionary, call, unary, row, postfix, conditional, Operands, no_operands, operand, Tail, method, index, Tails, no_tails, tail, Listing, listing, Argument, plain, named, pair, is_named, Arguments, no_arguments, argument, Statement, evaluate, assign, selection, iteration, breaks, continues, Branches, no_branches, branch, Otherwise, nothing_else, otherwise, Statements, no_statements, statement, Block, block, File, file, Name}
use Rattle.meson_syntax.specs.Spelling.{SaysNames, SpellsExpression, SpellsOperands, SpellsTail, SpellsTails, SpellsListing, SpellsArguments, SpellsArgument, SpellsStatement, SpellsBranches, SpellsOtherwise, SpellsStatements, SpellsBlock, SpellsFile}
use Rattle.meson_syntax.specs.Grammar.{row_level, HasName, LevelExpression, LevelOperands, LevelTail, LevelTails, LevelListing, LevelArgument, LevelArguments, LevelStatement, LevelBranches, LevelOtherwise, LevelStatements, LevelBlock, LevelFile, expression_depth, operands_depth, tail_depth, tails_depth, listing_depth, argument_depth, arguments_depth, statement_depth, branches_depth, otherwise_depth, statements_depth, block_depth, file_depth}

mutual
  pub expression-level : (e : Expression Span) (d : ℕ) (ts : List Token) → SpellsExpression e d ts → LevelExpression e × (expression_depth e ≤ d)
  expression-level (identifier s x) d ts h = (tt, omega arith)
  expression-level (boolean s b) d ts h = (tt, omega arith)
  expression-level (integer s x) d ts h = (tt, omega arith)
  expression-level (string s q x) d ts h = (tt, omega arith)
  expression-level (paren s e) d ts h =
      let q = h.1.second.first in
      let less = q.less in
      let r = expression-level e q.inner h.1.second.front q.spelled in
      (r.0, omega arith)
  expression-level (array l) d ts h = listing-level l bracket.Square d ts h
  expression-level (dictionary l) d ts h = listing-level l bracket.Curly d ts h
  expression-level (call s x l) d ts h = listing-level l bracket.Round d h.1.back h.1.second
  expression-level (unary s o e) d ts h =
      let r = expression-level e d h.2.back h.2.second in
      ((h.1, r.0), r.1)
  expression-level (row s e os) d ts h =
      let p = h.3 in
      let x = expression-level e d p.front p.first in
      let y = operands-level os (row_level os) d p.back p.second in
      ((h.1, h.2, x.0, y.0), omega arith)
  expression-level (postfix s e tails) d ts h =
      let p = h.3 in
      let x = expression-level e d p.front p.first in
      let y = tails-level tails d p.back p.second in
      ((h.1, h.2, x.0, y.0), omega arith)
  expression-level (conditional s c y n) d ts h =
      let p = h.2 in
      let q = p.second.second in
      let yes = q.first in
      let no = q.second.second in
      let more = yes.less in
      let less = no.less in
      let a = expression-level c d p.front p.first in
      let b = expression-level y yes.inner q.front yes.spelled in
      let e = expression-level n no.inner q.second.back no.spelled in
      ((h.1, a.0, b.0, e.0), omega arith)

  operands-level : (os : Operands Span) (n d : ℕ) (ts : List Token) → SpellsOperands os n d ts → LevelOperands os n × (operands_depth os ≤ d)
  operands-level no_operands n d ts h = (tt, omega arith)
  operands-level (operand o e more) n d ts h =
      let p = h.2.second.second in
      let x = expression-level e d p.front p.first in
      let y = operands-level more n d p.back p.second in
      ((h.0, h.1, x.0, y.0), omega arith)

  tail-level : (t : Tail Span) (d : ℕ) (ts : List Token) → SpellsTail t d ts → LevelTail t × (tail_depth t ≤ d)
  tail-level (method s x l) d ts h = let p = h.1.second in listing-level l bracket.Round d p.back p.second
  tail-level (index s e) d ts h =
      let q = h.1.second.first in
      let less = q.less in
      let r = expression-level e q.inner h.1.second.front q.spelled in
      (r.0, omega arith)

  tails-level : (tails : Tails Span) (d : ℕ) (ts : List Token) → SpellsTails tails d ts → LevelTails tails × (tails_depth tails ≤ d)
  tails-level no_tails d ts h = (tt, omega arith)
  tails-level (tail t more) d ts h =
      let x = tail-level t d h.front h.first in
      let y = tails-level more d h.back h.second in
      ((x.0, y.0), omega arith)

  pub listing-level : (l : Listing Span) (b : Bracket) (d : ℕ) (ts : List Token) → SpellsListing l b d ts → LevelListing l b × (listing_depth l ≤ d)
  listing-level (listing s trailing list) b d ts h =
      let q = h.3.second in
      let some = h.1 in
      let r = arguments-level list trailing b false d q.front some q.first in
      ((h.2, r.0), omega arith)

  arguments-level : (list : Arguments Span) (trailing : Bool) (b : Bracket) (seen : Bool) (d : ℕ) (ts : List Token) → 0 < d → SpellsArguments list trailing b seen d ts
      → LevelArguments list b seen × (arguments_depth list < d)
  arguments-level no_arguments trailing b seen d ts some h = (tt, some)
  arguments-level (argument a more) trailing b seen d ts some h =
      let x = argument-level a b seen d h.front h.first in
      let y = arguments-level more trailing b (is_named a) d h.second.back some h.second.second in
      ((x.0, y.0), omega arith)

  argument-level : (a : Argument Span) (b : Bracket) (seen : Bool) (d : ℕ) (ts : List Token) → SpellsArgument a b seen d ts → LevelArgument a b seen × (argument_depth a < d)
  argument-level (plain e) b seen d ts h =
      let less = h.2.less in
      let r = expression-level e h.2.inner ts h.2.spelled in
      ((h.0, h.1, r.0), omega arith)
  argument-level (named s x e) b seen d ts h =
      let q = h.2.second.second in
      let less = q.less in
      let r = expression-level e q.inner h.2.second.back q.spelled in
      ((h.1, r.0), omega arith)
  argument-level (pair s e f) b seen d ts h =
      let p = h.2.first in
      let q = h.2.second.second in
      let more = p.less in
      let less = q.less in
      let x = expression-level e p.inner h.2.front p.spelled in
      let y = expression-level f q.inner h.2.second.back q.spelled in
      ((h.1, x.0, y.0), omega arith)

has-name : (xs : List (Name Span)) (ts : List Token) → SaysNames xs ts → HasName xs
has-name [] ts h = h
has-name (x ∷ xs) ts h = tt

mutual
  statement-level : (s : Statement Span) (d : ℕ) (ts : List Token) → SpellsStatement s d ts → LevelStatement s × (statement_depth s ≤ d)
  statement-level (evaluate e) d ts h = expression-level e d ts h
  statement-level (assign s x a e) d ts h = expression-level e d h.1.second.back h.1.second.second
  statement-level (selection s bs o) d ts h =
      let inner = h.2.inner in
      let less = h.2.less in
      let p = h.2.spelled in
      let x = branches-level bs k.WordIf inner p.front p.first in
      let y = otherwise-level o inner p.second.front p.second.first in
      ((h.1, x.0, y.0), omega arith)
  statement-level (iteration s xs e b) d ts h =
      let q = h.1.second in
      let r = q.second.second in
      let less = r.less in
      let p = r.spelled in
      let line = p.second.first in
      let x = expression-level e r.inner p.front p.first in
      let y = block-level b r.inner line.token.to line.rest line.second in
      ((has-name xs q.front q.first, x.0, y.0), omega arith)
  statement-level (breaks s) d ts h = (tt, omega arith)
  statement-level (continues s) d ts h = (tt, omega arith)

  branches-level : (bs : Branches Span) (word : Kind) (d : ℕ) (ts : List Token) → SpellsBranches bs word d ts → LevelBranches bs × (branches_depth bs ≤ d)
  branches-level no_branches word d ts h = (tt, omega arith)
  branches-level (branch e b more) word d ts h =
      let p = h.second in
      let q = p.second in
      let line = q.first in
      let x = expression-level e d p.front p.first in
      let y = block-level b d line.token.to line.rest line.second in
      let z = branches-level more k.WordElif d q.back q.second in
      ((x.0, y.0, z.0), omega arith)

  otherwise-level : (o : Otherwise Span) (d : ℕ) (ts : List Token) → SpellsOtherwise o d ts → LevelOtherwise o × (otherwise_depth o ≤ d)
  otherwise-level nothing_else d ts h = (tt, omega arith)
  otherwise-level (otherwise b) d ts h = let line = h.second in block-level b d line.token.to line.rest line.second

  statements-level : (list : Statements Span) (d : ℕ) (ts : List Token) → SpellsStatements list d ts → LevelStatements list × (statements_depth list ≤ d)
  statements-level no_statements d ts h = (tt, omega arith)
  statements-level (statement s more) d ts h =
      let x = statement-level s d h.front h.first in
      let y = statements-level more d h.second.back h.second.second in
      ((x.0, y.0), omega arith)

  block-level : (b : Block Span) (d last : ℕ) (ts : List Token) → SpellsBlock b d last ts → LevelBlock b × (block_depth b ≤ d)
  block-level (block s list) d last ts h = statements-level list d ts h.1

pub file-level : (f : File Span) (len d : ℕ) (ts : List Token) → SpellsFile f len d ts → LevelFile f × (file_depth f ≤ d)
file-level (file s b) len d ts h = block-level b d 0 ts h.2
