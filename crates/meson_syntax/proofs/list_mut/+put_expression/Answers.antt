use Rattle.std.proofs.Common.{◌∙◌, ◌++◌, ◌∷◌, [], refl, sym, ap, arith, rules}
use Rattle.meson_lex.specs.declared.kinds.Span.{Span}
use Rattle.meson_lex.specs.declared.kinds.Kind.TheVariants as k
use Rattle.meson_syntax.specs.Grammar.{mark}
use Rattle.meson_syntax.specs.declared.operator.Bracket.TheVariants as bracket
use Rattle.meson_syntax.specs.declared.tree.Arg.TheFolds.{the_lemmas}
use Rattle.meson_syntax.specs.Paths.{of_expression, argument_children, expression_children, operands_children, tail_children, tails_children}
use Rattle.meson_syntax.specs.inside.Putting.{only_child, put_among}
use Rattle.meson_syntax.specs.Tree.{paren, array, dictionary, call, unary, row, postfix, conditional, plain, named, pair, method, index, operands_of, tails_of}
use Rattle.meson_syntax.specs.View.{arg_view, expr_view, list_view, name_at, operands_view, tail_view, tails_view}
use Rattle.meson_syntax.proofs.PutViews.{paren-view, array-view, dictionary-view, call-view, unary-view, row-view, postfix-view, conditional-view, plain-view, named-view, pair-view, method-view, index-view, put-one, put-list, put-head, put-second, put-last, put-behind, put-end, put-step}
use Rattle.meson_syntax.proofs.PutElements.{put-in-list, none-in-list, put-in-operand, put-operand, no-operand, put-tail, no-tail}
use Rattle.meson_syntax.proofs.list_mut.+put_expression.Goals as goal

-- ---- expressions

pub put_below-returns-in-Paren : goal.put_below-returns-in-Paren
put_below-returns-in-Paren t c = λ source.
    put-one (expr_view source) expression_children c.args.steps.now (list_view source c.args.list.now) (list_view source c.put_in_only.new.list) c.args.n
    c.args.expr.now _ _ _ (paren c.in-Paren.span) _ _ _
    (ap (expr_view source) (c.get_mut.ensures.value ∙ c.in-Paren.inside-is)) (ap (expr_view source) c.in-Paren.is ∙ paren-view source _ _)
    (search (rules, the_lemmas)) refl (c.put_in_only.ensures source)

pub put_below-returns-in-Array : goal.put_below-returns-in-Array
put_below-returns-in-Array t c = λ source.
    put-list (expr_view source) expression_children c.args.steps.now (list_view source c.args.list.now) (list_view source c.put_in_list.new.list) c.args.n
    c.args.expr.now _ [] [] array bracket.Square _ _ _
    (ap (list_view source) c.in-Array.own-is) (ap (expr_view source) c.in-Array.is ∙ array-view source _) (search (rules, the_lemmas)) refl
    (c.put_in_list.ensures source bracket.Square)

pub put_below-returns-in-Dictionary : goal.put_below-returns-in-Dictionary
put_below-returns-in-Dictionary t c = λ source.
    put-list (expr_view source) expression_children c.args.steps.now (list_view source c.args.list.now)
    (list_view source c.put_in_list-in-Dictionary.new.list) c.args.n c.args.expr.now _ [] [] dictionary bracket.Curly _ _ _
    (ap (list_view source) c.in-Dictionary.own-is) (ap (expr_view source) c.in-Dictionary.is ∙ dictionary-view source _) (search (rules, the_lemmas)) refl
    (c.put_in_list-in-Dictionary.ensures source bracket.Curly)

pub put_below-returns-in-Call : goal.put_below-returns-in-Call
put_below-returns-in-Call t c = λ source.
    put-list (expr_view source) expression_children c.args.steps.now (list_view source c.args.list.now) (list_view source c.put_in_list-in-Call.new.list)
    c.args.n c.args.expr.now _ ((k.Identifier, _) ∷ []) [] (call c.in-Call.span (name_at source c.in-Call.name)) bracket.Round _ _ _
    (ap (list_view source) c.in-Call.arguments-is) (ap (expr_view source) c.in-Call.is ∙ call-view source _ _ _) (search (rules, the_lemmas)) refl
    (c.put_in_list-in-Call.ensures source bracket.Round)

pub put_below-returns-in-Unary : goal.put_below-returns-in-Unary
put_below-returns-in-Unary t c = λ source.
    put-one (expr_view source) expression_children c.args.steps.now (list_view source c.args.list.now) (list_view source c.put_in_only-in-Unary.new.list)
    c.args.n c.args.expr.now _ _ _ (unary c.in-Unary.span c.in-Unary.operator) _ _ _
    (ap (expr_view source) (c.get_mut-in-Unary.ensures.value ∙ c.in-Unary.operand-is)) (ap (expr_view source) c.in-Unary.is ∙ unary-view source _ _ _)
    (search (rules, the_lemmas)) refl (c.put_in_only-in-Unary.ensures source)

pub put_below-returns-then-n-eq0 : goal.put_below-returns-then-n-eq0
put_below-returns-then-n-eq0 t c = λ source.
    put-head (expr_view source) expression_children c.args.steps.now (list_view source c.args.list.now) (list_view source c.put_in_expr.new.list) c.args.n
    c.args.expr.now _ _ _
    (λ x. row c.in-Row.span x (operands_of (operands_view source c.in-Row.rest))) _ _ _ _
    (ap (expr_view source) (c.get_mut-then-n-eq0.ensures.value ∙ c.in-Row.first-is)) (ap (expr_view source) c.in-Row.is ∙ row-view source _ _ _)
    (search (rules, the_lemmas)) refl c.if-n-eq0.true (c.put_in_expr.ensures source)

pub put_below-returns-else-n-eq0 : goal.put_below-returns-else-n-eq0
put_below-returns-else-n-eq0 t c = λ source.
    put-behind (expr_view source) expression_children c.args.steps.now (list_view source c.args.list.now) (list_view source c.put_in_operands.new.list)
    c.args.n c.args.expr.now _ _ _
    (row c.in-Row.span (expr_view source c.in-Row.first)) _ operands_children _ _ _
    (ap (λ xs. operands_of (operands_view source xs)) c.in-Row.rest-is) (ap (expr_view source) c.in-Row.is ∙ row-view source _ _ _)
    (search (rules, the_lemmas)) refl (omega (arith, c.if-n-eq0.false)) (c.put_in_operands.ensures source)

pub put_below-returns-then-n-eq0-2 : goal.put_below-returns-then-n-eq0-2
put_below-returns-then-n-eq0-2 t c = λ source.
    put-head (expr_view source) expression_children c.args.steps.now (list_view source c.args.list.now)
    (list_view source c.put_in_expr-then-n-eq0-2.new.list) c.args.n c.args.expr.now _ _ _
    (λ x. postfix c.in-Postfix.span x (tails_of (tails_view source c.in-Postfix.tails))) _ _ _ _
    (ap (expr_view source) (c.get_mut-then-n-eq0-2.ensures.value ∙ c.in-Postfix.base-is))
    (ap (expr_view source) c.in-Postfix.is ∙ postfix-view source _ _ _) (search (rules, the_lemmas)) refl c.if-n-eq0-2.true
    (c.put_in_expr-then-n-eq0-2.ensures source)

pub put_below-returns-else-n-eq0-2 : goal.put_below-returns-else-n-eq0-2
put_below-returns-else-n-eq0-2 t c = λ source.
    put-behind (expr_view source) expression_children c.args.steps.now (list_view source c.args.list.now) (list_view source c.put_in_tails.new.list)
    c.args.n c.args.expr.now _ _ _
    (postfix c.in-Postfix.span (expr_view source c.in-Postfix.base)) _ tails_children _ _ _
    (ap (λ xs. tails_of (tails_view source xs)) c.in-Postfix.tails-is) (ap (expr_view source) c.in-Postfix.is ∙ postfix-view source _ _ _)
    (search (rules, the_lemmas)) refl (omega (arith, c.if-n-eq0-2.false)) (c.put_in_tails.ensures source)

pub put_below-returns-then-n-eq0-3 : goal.put_below-returns-then-n-eq0-3
put_below-returns-then-n-eq0-3 t c = λ source.
    put-head (expr_view source) expression_children c.args.steps.now (list_view source c.args.list.now)
    (list_view source c.put_in_expr-then-n-eq0-3.new.list) c.args.n c.args.expr.now _ _ _
    (λ x. conditional c.in-Conditional.span x (expr_view source c.in-Conditional.yes) (expr_view source c.in-Conditional.no)) _ _ _ _
    (ap (expr_view source) (c.get_mut-then-n-eq0-3.ensures.value ∙ c.in-Conditional.condition-is))
    (ap (expr_view source) c.in-Conditional.is ∙ conditional-view source _ _ _ _) (search (rules, the_lemmas)) refl c.if-n-eq0-3.true
    (c.put_in_expr-then-n-eq0-3.ensures source)

pub put_below-returns-then-n-eq1 : goal.put_below-returns-then-n-eq1
put_below-returns-then-n-eq1 t c = λ source.
    put-second (expr_view source) expression_children c.args.steps.now (list_view source c.args.list.now)
    (list_view source c.put_in_expr-then-n-eq1.new.list) c.args.n c.args.expr.now _ of_expression _ _
    (λ x. conditional c.in-Conditional.span (expr_view source c.in-Conditional.condition) x (expr_view source c.in-Conditional.no)) _ _ _ _ _
    (ap (expr_view source) (c.get_mut-then-n-eq1.ensures.value ∙ c.in-Conditional.yes-is))
    (ap (expr_view source) c.in-Conditional.is ∙ conditional-view source _ _ _ _) (search (rules, the_lemmas)) refl c.if-n-eq1.true
    (c.put_in_expr-then-n-eq1.ensures source)

pub put_below-returns-else-n-eq1 : goal.put_below-returns-else-n-eq1
put_below-returns-else-n-eq1 t c = λ source.
    put-last (expr_view source) expression_children c.args.steps.now (list_view source c.args.list.now) (list_view source c.put_in_only-else-n-eq1.new.list)
    c.args.n c.args.expr.now _ _ _
    (conditional c.in-Conditional.span (expr_view source c.in-Conditional.condition) (expr_view source c.in-Conditional.yes)) (_ ∷ _ ∷ []) _ _ _
    (ap (expr_view source) (c.get_mut-else-n-eq1.ensures.value ∙ c.in-Conditional.no-is))
    (ap (expr_view source) c.in-Conditional.is ∙ conditional-view source _ _ _ _) (search (rules, the_lemmas)) refl
    (omega (arith, c.if-n-eq0-3.false, c.if-n-eq1.false)) (c.put_in_only-else-n-eq1.ensures source)

-- ---- elements and tails

pub put_in_arg-returns-in-Plain : goal.put_in_arg-returns-in-Plain
put_in_arg-returns-in-Plain t c = λ source.
    put-one (arg_view source) argument_children c.args.steps.now (list_view source c.args.list.now) (list_view source c.put_in_only.new.list) c.args.n
    c.args.arg.now _ _ _ plain _ _ _
    (ap (expr_view source) c.in-Plain.value-is) (ap (arg_view source) c.in-Plain.is ∙ plain-view source _) (search (rules, the_lemmas)) refl
    (c.put_in_only.ensures source)

pub put_in_arg-returns-in-Named : goal.put_in_arg-returns-in-Named
put_in_arg-returns-in-Named t c = λ source.
    put-one (arg_view source) argument_children c.args.steps.now (list_view source c.args.list.now) (list_view source c.put_in_only-in-Named.new.list)
    c.args.n c.args.arg.now _ _ _ (named c.in-Named.span (name_at source c.in-Named.name)) _ _ _
    (ap (expr_view source) c.in-Named.value-is) (ap (arg_view source) c.in-Named.is ∙ named-view source _ _ _) (search (rules, the_lemmas)) refl
    (c.put_in_only-in-Named.ensures source)

pub put_in_arg-returns-then-n-eq0 : goal.put_in_arg-returns-then-n-eq0
put_in_arg-returns-then-n-eq0 t c = λ source.
    put-head (arg_view source) argument_children c.args.steps.now (list_view source c.args.list.now) (list_view source c.put_in_expr.new.list) c.args.n
    c.args.arg.now _ _ _
    (λ x. pair c.in-Pair.span x (expr_view source c.in-Pair.value)) _ _ _ _
    (ap (expr_view source) (c.get_mut.ensures.value ∙ c.in-Pair.key-is)) (ap (arg_view source) c.in-Pair.is ∙ pair-view source _ _ _)
    (search (rules, the_lemmas)) refl c.if-n-eq0.true (c.put_in_expr.ensures source)

pub put_in_arg-returns-else-n-eq0 : goal.put_in_arg-returns-else-n-eq0
put_in_arg-returns-else-n-eq0 t c = λ source.
    put-last (arg_view source) argument_children c.args.steps.now (list_view source c.args.list.now) (list_view source c.put_in_only-else-n-eq0.new.list)
    c.args.n c.args.arg.now _ _ _
    (pair c.in-Pair.span (expr_view source c.in-Pair.key)) (_ ∷ []) _ _ _
    (ap (expr_view source) (c.get_mut-else-n-eq0.ensures.value ∙ c.in-Pair.value-is)) (ap (arg_view source) c.in-Pair.is ∙ pair-view source _ _ _)
    (search (rules, the_lemmas)) refl (omega (arith, c.if-n-eq0.false)) (c.put_in_only-else-n-eq0.ensures source)

pub put_in_tail-returns-in-Method : goal.put_in_tail-returns-in-Method
put_in_tail-returns-in-Method t c = λ source.
    put-list (tail_view source) tail_children c.args.steps.now (list_view source c.args.list.now) (list_view source c.put_in_list.new.list) c.args.n
    c.args.tail.now _ (mark k.Dot ++ (k.Identifier, _) ∷ []) [] (method c.in-Method.span (name_at source c.in-Method.name)) bracket.Round _ _ _
    (ap (list_view source) c.in-Method.arguments-is) (ap (tail_view source) c.in-Method.is ∙ method-view source _ _ _) (search (rules, the_lemmas)) refl
    (c.put_in_list.ensures source bracket.Round)

pub put_in_tail-returns-in-Index : goal.put_in_tail-returns-in-Index
put_in_tail-returns-in-Index t c = λ source.
    put-one (tail_view source) tail_children c.args.steps.now (list_view source c.args.list.now) (list_view source c.put_in_only.new.list) c.args.n
    c.args.tail.now _ _ _ (index c.in-Index.span) _ _ _
    (ap (expr_view source) c.in-Index.index-is) (ap (tail_view source) c.in-Index.is ∙ index-view source _ _) (search (rules, the_lemmas)) refl
    (c.put_in_only.ensures source)

-- ---- steps of a path

pub put_in_only-returns-then-n-eq0 : goal.put_in_only-returns-then-n-eq0
put_in_only-returns-then-n-eq0 t c = λ source.
    let e = expr_view source c.args.expr.now in
    c.put_in_expr.ensures source ∙ ap (put_among c.args.steps.now (list_view source c.args.list.now) e (only_child e)) (sym c.if-n-eq0.true)

pub put_in_expr-returns-in-empty : goal.put_in_expr-returns-in-empty
put_in_expr-returns-in-empty t c = λ source.
    c.put_here.ensures source
    ∙ put-end Span of_expression (expr_view source c.args.expr.now) c.args.steps.now (list_view source c.args.list.now) c.in-empty.len_below

pub put_in_expr-returns-in-len1-up : goal.put_in_expr-returns-in-len1-up
put_in_expr-returns-in-len1-up t c = λ source.
    c.put_below.ensures source
    ∙ put-step Span of_expression (expr_view source c.args.expr.now) c.args.steps.now (list_view source c.args.list.now) c.in-len1-up.len_at_least

pub put_in_list-returns-then-spot-args : goal.put_in_list-returns-then-spot-args
put_in_list-returns-then-spot-args t c = λ source b.
    put-in-list source c.args.steps.now _ _ c.args.n b c.args.own.now c.get_mut-args.result.now c.arg_spot-spot.result.index c.arg_spot-spot.result.left
    c.index-args-spot.result c.put_in_arg.new.arg
    c.get_mut-args.ensures.value (c.arg_spot-spot.ensures source) c.if-spot-args.true (c.put_in_arg.ensures source)

pub put_in_list-returns-else-spot-args : goal.put_in_list-returns-else-spot-args
put_in_list-returns-else-spot-args t c = λ source b.
    let list = list_view source c.args.list.now in
    none-in-list source c.args.steps.now list list c.args.n b c.args.own.now c.get_mut-args.result.now c.arg_spot-spot.result.index c.arg_spot-spot.result.left
    c.get_mut-args.ensures.value (c.arg_spot-spot.ensures source) c.if-spot-args.false

pub put_in_operands-returns-then-n-operands : goal.put_in_operands-returns-then-n-operands
put_in_operands-returns-then-n-operands t c = λ source.
    put-operand source c.args.steps.now _ _ c.args.rest.now c.get_mut-operands.result.now c.args.n c.index-operands-n.result c.put_in_operand.new.operand
    c.get_mut-operands.ensures.value c.if-n-operands.true
    (c.put_in_operand.ensures source)

pub put_in_operands-returns-else-n-operands : goal.put_in_operands-returns-else-n-operands
put_in_operands-returns-else-n-operands t c = λ source.
    let list = list_view source c.args.list.now in
    no-operand source c.args.steps.now list list c.args.rest.now c.get_mut-operands.result.now c.args.n c.get_mut-operands.ensures.value c.if-n-operands.false

pub put_in_operand-returns : goal.put_in_operand-returns
put_in_operand-returns t c = λ source. put-in-operand source c.args.steps.now _ _ c.args.operand.now c.put_in_expr.new.expr (c.put_in_expr.ensures source)

pub put_in_tails-returns-then-spot-tails : goal.put_in_tails-returns-then-spot-tails
put_in_tails-returns-then-spot-tails t c = λ source.
    put-tail source c.args.steps.now _ _ c.args.behind.now c.get_mut-tails.result.now c.args.n c.tail_spot-spot.result.index c.tail_spot-spot.result.left
    c.index-tails-spot.result c.put_in_tail.new.tail
    c.get_mut-tails.ensures.value (c.tail_spot-spot.ensures source) c.if-spot-tails.true (c.put_in_tail.ensures source)

pub put_in_tails-returns-else-spot-tails : goal.put_in_tails-returns-else-spot-tails
put_in_tails-returns-else-spot-tails t c = λ source.
    let list = list_view source c.args.list.now in
    no-tail source c.args.steps.now list list c.args.behind.now c.get_mut-tails.result.now c.args.n c.tail_spot-spot.result.index c.tail_spot-spot.result.left
    c.get_mut-tails.ensures.value (c.tail_spot-spot.ensures source) c.if-spot-tails.false
