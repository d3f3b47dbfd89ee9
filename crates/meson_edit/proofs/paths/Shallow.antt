-- What stands in a tree is no deeper than the tree.
use Rattle.meson_edit.proofs.Words.{option_map, ◌≡◌, ℕ, ◌≤◌, List, [], ◌∷◌, Some, sym, ap, ◌∙◌, subst, arith, expression_depth, operands_depth, tails_depth}
use Rattle.meson_edit.proofs.Words.{listing_depth, arguments_depth, statement_depth, branches_depth, statements_depth, block_depth, ListAt, ListIn}
use Rattle.meson_edit.proofs.Words.{expression_on_path, list_in, nth, Nowhere, Expression, paren, array, dictionary, call, unary, row, postfix, conditional}
use Rattle.meson_edit.proofs.Words.{Operands, no_operands, operand, method, index, Tails, no_tails, tail, listing, plain, named, pair, Arguments, no_arguments}
use Rattle.meson_edit.proofs.Words.{argument, evaluate, assign, selection, iteration, Branches, no_branches, branch, nothing_else, otherwise, Statements}
use Rattle.meson_edit.proofs.Words.{no_statements, statement, block, file, some-injective, Every, every-append, every-nth, map-some, and-then-some}
use Rattle.meson_edit.proofs.Words.{ListsAreShallow}
use Rattle.meson_syntax.specs.Children.{Any, an_expression, a_statement, a_block, arguments_parts, branches_parts}
use Rattle.meson_syntax.specs.inside.Children.{child_nodes, expression_any, node_at, operands_parts, statements_parts, tails_parts}
use Rattle.meson_syntax.proofs.PathNodes.{expression-reached, list-reached}

module _ {S : Type 0} where
  abbrev depth_of : Any S → ℕ
  depth_of (an_expression e) = expression_depth e
  depth_of (a_statement s) = statement_depth s
  depth_of (a_block b) = block_depth b

  -- no deeper than this
  module _ (d : ℕ) where
    abbrev Shallow : Any S → Type 0
    Shallow x = depth_of x ≤ d

    in-arguments : (list : Arguments S) → arguments_depth list ≤ d → Every Shallow (arguments_parts list)
    in-arguments no_arguments less = tt
    in-arguments (argument (plain e) more) less = (omega (arith, less), in-arguments more (omega (arith, less)))
    in-arguments (argument (named s x e) more) less = (omega (arith, less), in-arguments more (omega (arith, less)))
    in-arguments (argument (pair s e f) more) less = (omega (arith, less), (omega (arith, less), in-arguments more (omega (arith, less))))

    in-operands : (os : Operands S) → operands_depth os ≤ d → Every Shallow (operands_parts os)
    in-operands no_operands less = tt
    in-operands (operand o e more) less = (omega (arith, less), in-operands more (omega (arith, less)))

    in-tails : (ts : Tails S) → tails_depth ts ≤ d → Every Shallow (tails_parts ts)
    in-tails no_tails less = tt
    in-tails (tail (method s x (listing r trailing list)) more) less =
        every-append Shallow (arguments_parts list) (tails_parts more) (in-arguments list (omega (arith, less))) (in-tails more (omega (arith, less)))
    in-tails (tail (index s e) more) less = (omega (arith, less), in-tails more (omega (arith, less)))

    in-branches : (bs : Branches S) → branches_depth bs ≤ d → Every Shallow (branches_parts bs)
    in-branches no_branches less = tt
    in-branches (branch e b more) less = (omega (arith, less), (omega (arith, less), in-branches more (omega (arith, less))))

    in-statements : (list : Statements S) → statements_depth list ≤ d → Every Shallow (statements_parts list)
    in-statements no_statements less = tt
    in-statements (statement s more) less = (omega (arith, less), in-statements more (omega (arith, less)))

    in-node : (x : Any S) → depth_of x ≤ d → Every Shallow (child_nodes x)
    in-node (an_expression (paren s e)) less = (omega (arith, less), tt)
    in-node (an_expression (array (listing s trailing list))) less = in-arguments list (omega (arith, less))
    in-node (an_expression (dictionary (listing s trailing list))) less = in-arguments list (omega (arith, less))
    in-node (an_expression (call s x (listing r trailing list))) less = in-arguments list (omega (arith, less))
    in-node (an_expression (unary s o e)) less = (less, tt)
    in-node (an_expression (row s e os)) less = (omega (arith, less), in-operands os (omega (arith, less)))
    in-node (an_expression (postfix s e ts)) less = (omega (arith, less), in-tails ts (omega (arith, less)))
    in-node (an_expression (conditional s c y n)) less = (omega (arith, less), (omega (arith, less), (omega (arith, less), tt)))
    in-node (an_expression _) less = tt
    in-node (a_statement (evaluate e)) less = (less, tt)
    in-node (a_statement (assign s x a e)) less = (less, tt)
    in-node (a_statement (selection s bs nothing_else)) less = every-append Shallow (branches_parts bs) [] (in-branches bs (omega (arith, less))) tt
    in-node (a_statement (selection s bs (otherwise b))) less =
        every-append Shallow (branches_parts bs) (a_block b ∷ []) (in-branches bs (omega (arith, less))) (omega (arith, less), tt)
    in-node (a_statement (iteration s xs e b)) less = (omega (arith, less), (omega (arith, less), tt))
    in-node (a_statement _) less = tt
    in-node (a_block (block s list)) less = in-statements list less

    along : (path : List ℕ) (x y : Any S) → depth_of x ≤ d → node_at x path ≡ Some y → depth_of y ≤ d
    along [] x y less is = subst Shallow (some-injective x y is) less
    along (n ∷ path) x y less is =
        let o = and-then-some (λ z. node_at z path) (nth (child_nodes x) n) y is in along path o.0 y (every-nth Shallow (child_nodes x) n o.0 (in-node x less) o.1) o.2

  of-expression : (x : Any S) (e : Expression S) → expression_any x ≡ Some e → expression_depth e ≤ depth_of x
  of-expression (an_expression d) e is = subst (λ c. expression_depth c ≤ expression_depth d) (some-injective d e is) (omega arith)
  of-expression (a_statement s) e is = absurd cc
  of-expression (a_block b) e is = absurd cc

-- ---- lists

in-list : (e : Expression Nowhere) (l : ListIn Nowhere) → list_in e ≡ Some l → listing_depth l.list ≤ expression_depth e
in-list (array l) o is = subst (λ (u : ListIn Nowhere). listing_depth u.list ≤ listing_depth l) (some-injective _ _ is) (omega arith)
in-list (dictionary l) o is = subst (λ (u : ListIn Nowhere). listing_depth u.list ≤ listing_depth l) (some-injective _ _ is) (omega arith)
in-list (call s x l) o is = subst (λ (u : ListIn Nowhere). listing_depth u.list ≤ listing_depth l) (some-injective _ _ is) (omega arith)
in-list _ o is = absurd cc

pub lists-are-shallow : ListsAreShallow
lists-are-shallow (file s b) path q is =
    let t = file s b in
    let found = sym (list-reached Nowhere t path) ∙ ap (option_map (λ (p : ListAt Nowhere). p.list)) is in
    let e = and-then-some (λ (e : Expression Nowhere). option_map (λ (l : ListIn Nowhere). l.list) (list_in e)) (expression_on_path t path) q.list found in
    let x = and-then-some expression_any (node_at (a_block b) path) e.0 (sym (expression-reached Nowhere t path) ∙ e.1) in
    let l = map-some (λ (l : ListIn Nowhere). l.list) (list_in e.0) q.list e.2 in
    let inner = subst (λ m. listing_depth m ≤ expression_depth e.0) l.2 (in-list e.0 l.0 l.1) in
    let middle = of-expression x.0 e.0 x.2 in
    let outer = along (block_depth b) path (a_block b) x.0 (omega arith) x.1 in
    omega (arith, inner, middle, outer)
