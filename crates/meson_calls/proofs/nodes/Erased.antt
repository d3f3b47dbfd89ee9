-- The children of a node without its spans are its own without theirs.
use Rattle.meson_calls.proofs.Words.{◌≡◌, [], ◌∷◌, ◌++◌, map, refl, sym, ap, ap₂, ◌∙◌, map-append, Any, an_expression, a_statement, a_block, arguments_parts}
use Rattle.meson_calls.proofs.Words.{branches_parts, Nowhere, array, dictionary, call, row, postfix, Operands, no_operands, operand, method, index, Tails}
use Rattle.meson_calls.proofs.Words.{no_tails, tail, listing, plain, named, pair, Arguments, no_arguments, argument, selection, Branches, no_branches, branch}
use Rattle.meson_calls.proofs.Words.{nothing_else, otherwise, Statements, no_statements, statement, block, erase_arguments, erase_block, erase_branches}
use Rattle.meson_calls.proofs.Words.{erase_expression, erase_operands, erase_statement, erase_statements, erase_tails, child_nodes, operands_parts}
use Rattle.meson_calls.proofs.Words.{statements_parts, tails_parts}

module _ {S : Type 0} where
  abbrev pub erase_any : Any S → Any Nowhere
  erase_any (an_expression e) = an_expression (erase_expression e)
  erase_any (a_statement s) = a_statement (erase_statement s)
  erase_any (a_block b) = a_block (erase_block b)

  in_arguments : (list : Arguments S) → arguments_parts (erase_arguments list) ≡ map erase_any (arguments_parts list)
  in_arguments no_arguments = refl
  in_arguments (argument (plain e) more) = ap (λ l. erase_any (an_expression e) ∷ l) (in_arguments more)
  in_arguments (argument (named s x e) more) = ap (λ l. erase_any (an_expression e) ∷ l) (in_arguments more)
  in_arguments (argument (pair s e f) more) = ap (λ l. erase_any (an_expression e) ∷ erase_any (an_expression f) ∷ l) (in_arguments more)

  in_operands : (os : Operands S) → operands_parts (erase_operands os) ≡ map erase_any (operands_parts os)
  in_operands no_operands = refl
  in_operands (operand o e more) = ap (λ l. erase_any (an_expression e) ∷ l) (in_operands more)

  in_tails : (ts : Tails S) → tails_parts (erase_tails ts) ≡ map erase_any (tails_parts ts)
  in_tails no_tails = refl
  in_tails (tail (method s x (listing r trailing list)) more) = ap₂ (λ l m. l ++ m) (in_arguments list) (in_tails more) ∙ sym (map-append erase_any (arguments_parts list) (tails_parts more))
  in_tails (tail (index s e) more) = ap (λ l. erase_any (an_expression e) ∷ l) (in_tails more)

  in_branches : (bs : Branches S) → branches_parts (erase_branches bs) ≡ map erase_any (branches_parts bs)
  in_branches no_branches = refl
  in_branches (branch e b more) = ap (λ l. erase_any (an_expression e) ∷ erase_any (a_block b) ∷ l) (in_branches more)

  in_statements : (list : Statements S) → statements_parts (erase_statements list) ≡ map erase_any (statements_parts list)
  in_statements no_statements = refl
  in_statements (statement s more) = ap (λ l. erase_any (a_statement s) ∷ l) (in_statements more)

  pub children_erased : (x : Any S) → child_nodes (erase_any x) ≡ map erase_any (child_nodes x)
  children_erased (an_expression (array (listing s trailing list))) = in_arguments list
  children_erased (an_expression (dictionary (listing s trailing list))) = in_arguments list
  children_erased (an_expression (call s x (listing r trailing list))) = in_arguments list
  children_erased (an_expression (row s e os)) = ap (λ l. erase_any (an_expression e) ∷ l) (in_operands os)
  children_erased (an_expression (postfix s e ts)) = ap (λ l. erase_any (an_expression e) ∷ l) (in_tails ts)
  children_erased (an_expression _) = refl
  children_erased (a_statement (selection s bs nothing_else)) = ap (λ l. l ++ []) (in_branches bs) ∙ sym (map-append erase_any (branches_parts bs) [])
  children_erased (a_statement (selection s bs (otherwise b))) =
      ap (λ l. l ++ erase_any (a_block b) ∷ []) (in_branches bs) ∙ sym (map-append erase_any (branches_parts bs) (a_block b ∷ []))
  children_erased (a_statement _) = refl
  children_erased (a_block (block s list)) = in_statements list
