use Rattle.meson_variables.proofs.Words.{◌≡◌, ◌≢◌, ◌∙◌, sym, ap, subst, arith, Ok, Err, IfOk, IfErr, bytes_at, expr_view, list_view, view, call_of, call_with}
use Rattle.meson_variables.proofs.Words.{GoodListing, placed, OutOfMemory, as_many, no_file, no_expression, project_of, sources_of_call}
use Rattle.meson_syntax.specs.Paths as paths
use Rattle.meson_calls.proofs.Standing.{an_expression}
use Rattle.meson_calls.proofs.CallsAt.{listing_good}
use Rattle.meson_variables.proofs.SourcesAt.{sources_found, sources_refused, no_call}
use Rattle.meson_variables.proofs.target_sources.sources_at.Goals as goal

pub unreachable-requires : goal.unreachable-requires
unreachable-requires c =
    let none = no_file c.args.variables.now.files.now c.args.variables.now.trees.now c.args.call.now c.if-call-trees.true in
    let is = c.requires.target in
    cc

pub bytes-requires : goal.bytes-requires
bytes-requires c =
    let many = as_many c.args.variables.now.files.now c.args.variables.now.trees.now c.requires.parsed in
    omega arith

pub sources_of-requires-clause-good : goal.sources_of-requires-clause-good
sources_of-requires-clause-good c =
    let files = c.args.variables.now.files.now in
    let trees = c.args.variables.now.trees.now in
    let call = c.args.call.now in
    let bytes = bytes_at call.file files in
    let is = c.in-Some.ensures bytes ∙ ap (λ t. paths.expression_on_path (view bytes t) call.path.steps) c.index-trees-call.is in
    subst (λ source. GoodListing (list_view source c.in-Some-arguments_of.arguments.now)) (sym c.bytes.ensures)
    (listing_good files trees call c.index-trees-call.result (as_many files trees c.requires.parsed) c.if-call-trees.false (expr_view bytes c.in-Some.expr.now)
    (list_view bytes c.in-Some-arguments_of.arguments.now) c.requires.parsed is (c.in-Some-arguments_of.ensures bytes))

pub unreachable-requires-in-None-arguments_of : goal.unreachable-requires-in-None-arguments_of
unreachable-requires-in-None-arguments_of c =
    let files = c.args.variables.now.files.now in
    let trees = c.args.variables.now.trees.now in
    let call = c.args.call.now in
    let bytes = bytes_at call.file files in
    let e = expr_view bytes c.in-Some.expr.now in
    let is = c.in-Some.ensures bytes ∙ ap (λ t. paths.expression_on_path (view bytes t) call.path.steps) c.index-trees-call.is in
    let none = sym (no_call (call_of e) (c.in-None-arguments_of.ensures bytes)) ∙ an_expression files trees call c.index-trees-call.result (as_many files trees c.requires.parsed) c.if-call-trees.false e is in
    let target = c.requires.target in
    cc

pub unreachable-requires-in-None : goal.unreachable-requires-in-None
unreachable-requires-in-None c =
    let files = c.args.variables.now.files.now in
    let trees = c.args.variables.now.trees.now in
    let call = c.args.call.now in
    let bytes = bytes_at call.file files in
    let none = no_expression files trees call c.index-trees-call.result (as_many files trees c.requires.parsed) c.if-call-trees.false
    (c.in-None.ensures bytes ∙ ap (λ t. paths.expression_on_path (view bytes t) call.path.steps) c.index-trees-call.is) in
    let target = c.requires.target in
    cc

pub returns-clause-found : goal.returns-clause-found
returns-clause-found c =
    let files = c.args.variables.now.files.now in
    let trees = c.args.variables.now.trees.now in
    let call = c.args.call.now in
    let bytes = bytes_at call.file files in
    let arguments = c.in-Some-arguments_of.arguments.now in
    let is = c.in-Some.ensures bytes ∙ ap (λ t. paths.expression_on_path (view bytes t) call.path.steps) c.index-trees-call.is in
    sources_found files trees call c.index-trees-call.result (as_many files trees c.requires.parsed) c.if-call-trees.false (expr_view bytes c.in-Some.expr.now) (list_view bytes arguments)
    is (c.in-Some-arguments_of.ensures bytes) c.sources_of.result
    (λ function. subst (λ source. IfOk c.sources_of.result (λ s. sources_of_call (project_of c.args.variables.now) (placed call (call_with function (list_view source arguments))) ≡ Ok s)) c.bytes.ensures
    (c.sources_of.ensures.found function))

pub returns-clause-refused : goal.returns-clause-refused
returns-clause-refused c =
    let files = c.args.variables.now.files.now in
    let trees = c.args.variables.now.trees.now in
    let call = c.args.call.now in
    let bytes = bytes_at call.file files in
    let arguments = c.in-Some-arguments_of.arguments.now in
    let is = c.in-Some.ensures bytes ∙ ap (λ t. paths.expression_on_path (view bytes t) call.path.steps) c.index-trees-call.is in
    sources_refused files trees call c.index-trees-call.result (as_many files trees c.requires.parsed) c.if-call-trees.false (expr_view bytes c.in-Some.expr.now) (list_view bytes arguments)
    is (c.in-Some-arguments_of.ensures bytes) c.sources_of.result
    (λ function. subst (λ source. IfErr c.sources_of.result (λ x. x ≢ OutOfMemory → sources_of_call (project_of c.args.variables.now) (placed call (call_with function (list_view source arguments))) ≡ Err x)) c.bytes.ensures
    (c.sources_of.ensures.refused function))
