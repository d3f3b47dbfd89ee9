-- What stands in what: in an expression expressions, in a statement expressions and blocks, and in a block statements.
use Rattle.meson_calls.proofs.Words.{⊤, [], ◌∷◌, Any, an_expression, a_statement, a_block, arguments_parts, branches_parts, paren, array, dictionary, call}
use Rattle.meson_calls.proofs.Words.{unary, row, postfix, conditional, Operands, no_operands, operand, method, index, Tails, no_tails, tail, listing, plain}
use Rattle.meson_calls.proofs.Words.{named, pair, Arguments, no_arguments, argument, evaluate, assign, selection, iteration, Branches, no_branches, branch}
use Rattle.meson_calls.proofs.Words.{nothing_else, otherwise, Statements, no_statements, statement, block, child_nodes, operands_parts, statements_parts}
use Rattle.meson_calls.proofs.Words.{tails_parts, Every, every-append}

module _ {S : Type 0} where
  abbrev pub IsExpression : Any S → Type 0
  IsExpression (an_expression e) = ⊤
  IsExpression _ = ⊥

  abbrev pub IsStatement : Any S → Type 0
  IsStatement (a_statement s) = ⊤
  IsStatement _ = ⊥

  abbrev pub IsOther : Any S → Type 0
  IsOther (a_statement s) = ⊥
  IsOther _ = ⊤

  abbrev pub MayStand : Any S → Any S → Type 0
  MayStand (an_expression e) x = IsExpression x
  MayStand (a_statement s) x = IsOther x
  MayStand (a_block b) x = IsStatement x

  pub in_arguments : (list : Arguments S) → Every IsExpression (arguments_parts list)
  in_arguments no_arguments = tt
  in_arguments (argument (plain e) more) = (tt, in_arguments more)
  in_arguments (argument (named s x e) more) = (tt, in_arguments more)
  in_arguments (argument (pair s e f) more) = (tt, (tt, in_arguments more))

  in_operands : (os : Operands S) → Every IsExpression (operands_parts os)
  in_operands no_operands = tt
  in_operands (operand o e more) = (tt, in_operands more)

  in_tails : (ts : Tails S) → Every IsExpression (tails_parts ts)
  in_tails no_tails = tt
  in_tails (tail (method s x (listing r trailing list)) more) = every-append IsExpression (arguments_parts list) (tails_parts more) (in_arguments list) (in_tails more)
  in_tails (tail (index s e) more) = (tt, in_tails more)

  in_branches : (bs : Branches S) → Every IsOther (branches_parts bs)
  in_branches no_branches = tt
  in_branches (branch e b more) = (tt, (tt, in_branches more))

  in_statements : (list : Statements S) → Every IsStatement (statements_parts list)
  in_statements no_statements = tt
  in_statements (statement s more) = (tt, in_statements more)

  pub may_stand : (x : Any S) → Every (MayStand x) (child_nodes x)
  may_stand (an_expression (paren s e)) = (tt, tt)
  may_stand (an_expression (array (listing s trailing list))) = in_arguments list
  may_stand (an_expression (dictionary (listing s trailing list))) = in_arguments list
  may_stand (an_expression (call s x (listing r trailing list))) = in_arguments list
  may_stand (an_expression (unary s o e)) = (tt, tt)
  may_stand (an_expression (row s e os)) = (tt, in_operands os)
  may_stand (an_expression (postfix s e ts)) = (tt, in_tails ts)
  may_stand (an_expression (conditional s c y n)) = (tt, (tt, (tt, tt)))
  may_stand (an_expression _) = tt
  may_stand (a_statement (evaluate e)) = (tt, tt)
  may_stand (a_statement (assign s x a e)) = (tt, tt)
  may_stand (a_statement (selection s bs nothing_else)) = every-append IsOther (branches_parts bs) [] (in_branches bs) tt
  may_stand (a_statement (selection s bs (otherwise b))) = every-append IsOther (branches_parts bs) (a_block b ∷ []) (in_branches bs) (tt, tt)
  may_stand (a_statement (iteration s xs e b)) = (tt, (tt, tt))
  may_stand (a_statement _) = tt
  may_stand (a_block (block s list)) = in_statements list

  pub within_expression : (x : Any S) → IsExpression x → Every IsExpression (child_nodes x)
  within_expression (an_expression e) is = may_stand (an_expression e)
  within_expression (a_statement s) is = absurd is
  within_expression (a_block b) is = absurd is
