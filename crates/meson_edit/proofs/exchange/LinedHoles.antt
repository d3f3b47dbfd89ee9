-- Before a statement or a block that a path names stand whole lines.
use Rattle.meson_edit.proofs.Words.{⊤, option_map, ◌≡◌, ℕ, Bool, List, [], ◌∷◌, ◌++◌, Some, refl, sym, subst, Word, new_line, Other, role, Kind, mark}
use Rattle.meson_edit.proofs.Words.{comma_words, operator_words, expression_words, tail_words, argument_words, arguments_words, statement_words, branches_words}
use Rattle.meson_edit.proofs.Words.{otherwise_words, block_words, tails_words, opens, closes, Sort, of_expression, of_statement, of_block, Node, Hole, around}
use Rattle.meson_edit.proofs.Words.{all_around, argument_children, arguments_children, listing_children, operands_children, tail_children, tails_children}
use Rattle.meson_edit.proofs.Words.{expression_children, branches_children, otherwise_children, statement_children, statements_children, block_children}
use Rattle.meson_edit.proofs.Words.{children, nth_hole, reach, Expression, identifier, boolean, integer, string, paren, array, dictionary, call, unary, row}
use Rattle.meson_edit.proofs.Words.{postfix, conditional, Operands, no_operands, operand, Tail, method, index, Tails, no_tails, tail, Listing, listing}
use Rattle.meson_edit.proofs.Words.{Argument, plain, named, pair, Arguments, no_arguments, argument, Statement, evaluate, assign, selection, iteration, breaks}
use Rattle.meson_edit.proofs.Words.{continues, Branches, no_branches, branch, Otherwise, nothing_else, otherwise, Statements, no_statements, statement, Block}
use Rattle.meson_edit.proofs.Words.{block, Bracket, flat-word, expression-flat, some-injective, Every, every-append, every-around, every-nth, map-some}
use Rattle.meson_edit.proofs.Words.{and-then-some}
use Rattle.meson_lex.specs.declared.kinds.Kind.TheVariants as k
use Rattle.meson_syntax.specs.declared.operator.Bracket.TheVariants as bracket
use Rattle.meson_edit.proofs.exchange.States.{Lines, no-lines, lines-append, line-more}
use Rattle.meson_edit.proofs.exchange.StatementLines.{asked-lines, loop-lines, statement-flat, branches-lines, block-lines}

module _ (S : Type 0) where
  -- ---- within expressions there are expressions alone

  abbrev IsInner : {T : Type 0} → Hole S T → Type 0
  IsInner h = h.sort ≡ of_expression

  inner-around : {T U : Type 0} (before behind : List Word) (make : T → U) (hs : List (Hole S T)) → Every IsInner hs → Every IsInner (all_around before behind make hs)
  inner-around before behind make hs e = every-around IsInner IsInner before behind make (λ h i. i) hs e

  argument-inner : (a : Argument S) → Every IsInner (argument_children a)
  argument-inner (plain e) = (refl, tt)
  argument-inner (named s x e) = (refl, tt)
  argument-inner (pair s e f) = (refl, (refl, tt))

  arguments-inner : (list : Arguments S) (trailing : Bool) → Every IsInner (arguments_children list trailing)
  arguments-inner no_arguments trailing = tt
  arguments-inner (argument a more) trailing =
      every-append IsInner _ _ (inner-around [] (comma_words more trailing ++ arguments_words more trailing) (λ x. argument x more) (argument_children a) (argument-inner a))
      (inner-around (argument_words a ++ comma_words more trailing) [] (argument a) (arguments_children more trailing) (arguments-inner more trailing))

  listing-inner : (l : Listing S) (b : Bracket) → Every IsInner (listing_children l b)
  listing-inner (listing s trailing list) b = inner-around (mark (opens b)) (mark (closes b)) (listing s trailing) (arguments_children list trailing) (arguments-inner list trailing)

  operands-inner : (os : Operands S) → Every IsInner (operands_children os)
  operands-inner no_operands = tt
  operands-inner (operand o e more) = (refl, inner-around (operator_words o ++ expression_words e) [] (operand o e) (operands_children more) (operands-inner more))

  tail-inner : (t : Tail S) → Every IsInner (tail_children t)
  tail-inner (method s x l) = inner-around (mark k.Dot ++ (k.Identifier, x.text) ∷ []) [] (method s x) (listing_children l bracket.Round) (listing-inner l bracket.Round)
  tail-inner (index s e) = (refl, tt)

  tails-inner : (ts : Tails S) → Every IsInner (tails_children ts)
  tails-inner no_tails = tt
  tails-inner (tail t more) =
      every-append IsInner _ _ (inner-around [] (tails_words more) (λ x. tail x more) (tail_children t) (tail-inner t)) (inner-around (tail_words t) [] (tail t) (tails_children more) (tails-inner more))

  pub expression-inner : (e : Expression S) → Every IsInner (expression_children e)
  expression-inner (identifier s x) = tt
  expression-inner (boolean s b) = tt
  expression-inner (integer s x) = tt
  expression-inner (string s q x) = tt
  expression-inner (paren s e) = (refl, tt)
  expression-inner (array l) = inner-around [] [] array (listing_children l bracket.Square) (listing-inner l bracket.Square)
  expression-inner (dictionary l) = inner-around [] [] dictionary (listing_children l bracket.Curly) (listing-inner l bracket.Curly)
  expression-inner (call s x l) = inner-around ((k.Identifier, x.text) ∷ []) [] (call s x) (listing_children l bracket.Round) (listing-inner l bracket.Round)
  expression-inner (unary s o e) = (refl, tt)
  expression-inner (row s e os) = (refl, inner-around (expression_words e) [] (row s e) (operands_children os) (operands-inner os))
  expression-inner (postfix s e ts) = (refl, inner-around (expression_words e) [] (postfix s e) (tails_children ts) (tails-inner ts))
  expression-inner (conditional s c y n) = (refl, (refl, (refl, tt)))

  -- ---- statements and blocks

  abbrev pub IsLined : Sort → List Word → Type 0
  IsLined of_expression before = ⊤
  IsLined of_statement before = Lines before
  IsLined of_block before = Lines before

  abbrev IsLinedHole : {T : Type 0} → Hole S T → Type 0
  IsLinedHole h = IsLined h.sort h.before

  lined-behind : (sort : Sort) (a b : List Word) → Lines a → IsLined sort b → IsLined sort (a ++ b)
  lined-behind of_expression a b p q = tt
  lined-behind of_statement a b p q = lines-append a b p q
  lined-behind of_block a b p q = lines-append a b p q

  lined-around : {T U : Type 0} (before behind : List Word) (make : T → U) (hs : List (Hole S T)) → Lines before → Every IsLinedHole hs → Every IsLinedHole (all_around before behind make hs)
  lined-around before behind make hs l e = every-around IsLinedHole IsLinedHole before behind make (λ h i. lined-behind h.sort before h.before l i) hs e

  branches-lined : (bs : Branches S) (word : Kind) → role word ≡ Other → Every IsLinedHole (branches_children bs word)
  branches-lined no_branches word other = tt
  branches-lined (branch e b more) word other = (
    tt,
    (
      asked-lines word (expression_words e) [] other (expression-flat S e) no-lines,
      lined-around (mark word ++ (expression_words e ++ (new_line ∷ block_words b))) [] (branch e b) (branches_children more k.WordElif)
          (asked-lines word (expression_words e) (block_words b) other (expression-flat S e) (block-lines S b)) (branches-lined more k.WordElif refl),
    ),
  )

  otherwise-lined : (o : Otherwise S) → Every IsLinedHole (otherwise_children o)
  otherwise-lined nothing_else = tt
  otherwise-lined (otherwise b) = (line-more (mark k.WordElse) [] (flat-word k.WordElse [] refl) no-lines, tt)

  statement-lined : (s : Statement S) → Every IsLinedHole (statement_children s)
  statement-lined (evaluate e) = (tt, tt)
  statement-lined (assign s x a e) = (tt, tt)
  statement-lined (selection s bs o) =
      every-append IsLinedHole _ _
      (lined-around [] (otherwise_words o ++ mark k.WordEndif) (λ x. selection s x o) (branches_children bs k.WordIf) no-lines (branches-lined bs k.WordIf refl))
      (lined-around (branches_words bs k.WordIf) (mark k.WordEndif) (selection s bs) (otherwise_children o) (branches-lines S bs k.WordIf refl) (otherwise-lined o))
  statement-lined (iteration s xs e b) = (tt, (loop-lines S xs (expression_words e) [] (expression-flat S e) no-lines, tt))
  statement-lined (breaks s) = tt
  statement-lined (continues s) = tt

  statements-lined : (list : Statements S) → Every IsLinedHole (statements_children list)
  statements-lined no_statements = tt
  statements-lined (statement s more) =
      (no-lines, lined-around (statement_words s ++ new_line ∷ []) [] (statement s) (statements_children more) (line-more (statement_words s) [] (statement-flat S s) no-lines) (statements-lined more))

  block-lined : (b : Block S) → Every IsLinedHole (block_children b)
  block-lined (block s list) = lined-around [] [] (block s) (statements_children list) no-lines (statements-lined list)

  -- ---- along a path

  abbrev Leads : (sort inner : Sort) → List Word → Type 0
  Leads of_expression inner before = inner ≡ of_expression
  Leads of_statement inner before = IsLined inner before
  Leads of_block inner before = IsLined inner before

  children-lead : (sort : Sort) (x : Node sort S) → Every (λ h. Leads sort h.sort h.before) (children S sort x)
  children-lead of_expression e = expression-inner e
  children-lead of_statement s = statement-lined s
  children-lead of_block b = block-lined b

  below-expression : (inner : Sort) (a : List Word) → inner ≡ of_expression → IsLined inner a
  below-expression inner a e = subst (λ s. IsLined s a) (sym e) tt

  below : (middle inner : Sort) (a b : List Word) → IsLined middle a → Leads middle inner b → IsLined inner (a ++ b)
  below of_expression inner a b p q = below-expression inner (a ++ b) q
  below of_statement inner a b p q = lined-behind inner a b p q
  below of_block inner a b p q = lined-behind inner a b p q

  leads-on : (sort middle inner : Sort) (a b : List Word) → Leads sort middle a → Leads middle inner b → Leads sort inner (a ++ b)
  leads-on of_expression middle inner a b p q = subst (λ s. Leads s inner b) p q
  leads-on of_statement middle inner a b p q = below middle inner a b p q
  leads-on of_block middle inner a b p q = below middle inner a b p q

  itself : (sort : Sort) → Leads sort sort []
  itself of_expression = refl
  itself of_statement = no-lines
  itself of_block = no-lines

  leads : (sort : Sort) (x : Node sort S) (path : List ℕ) (h : Hole S (Node sort S)) → reach S sort x path ≡ Some h → Leads sort h.sort h.before
  leads sort x [] h is = subst (λ h. Leads sort h.sort h.before) (some-injective _ _ is) (itself sort)
  leads sort x (n ∷ path) h is =
      let o = and-then-some (λ g. option_map (around g.before g.behind g.back) (reach S g.sort g.inside path)) (nth_hole S sort x n) h is in
      let g = o.0 in
      let m = map-some (around g.before g.behind g.back) (reach S g.sort g.inside path) h o.2 in
      let i = m.0 in
      let u = every-nth (λ h. Leads sort h.sort h.before) (children S sort x) n g (children-lead sort x) o.1 in
      subst (λ h. Leads sort h.sort h.before) m.2 (leads-on sort g.sort i.sort g.before i.before u (leads g.sort g.inside path i m.1))

  pub reach-lined : (b : Block S) (path : List ℕ) (h : Hole S (Block S)) → reach S of_block b path ≡ Some h → IsLined h.sort h.before
  reach-lined b path h is = leads of_block b path h is
