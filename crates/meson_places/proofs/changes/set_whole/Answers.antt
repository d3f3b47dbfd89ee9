use Rattle.std.proofs.Common.{◌≡◌, ◌<◌, length, Some, Err, sym, ap, ◌∙◌, subst, arith}
use Rattle.std.specs.Prelude.{if◌then◌else◌}
use Rattle.std.proofs.lemmas.Result.{IfOk-weaker}
use Rattle.meson_splice.specs.Files.{bytes_at}
use Rattle.meson_syntax.specs.Grammar.{expression_words}
use Rattle.meson_syntax.specs.View.{expr_view}
use Rattle.meson_calls.specs.declared.refusal.Refusal.TheVariants.{NoSuchValue, NotLiteral}
use Rattle.meson_calls.specs.Loading.{project}
use Rattle.meson_calls.specs.Project.{expression_at}
use Rattle.meson_calls.specs.Strings.{AreGood}
use Rattle.meson_calls.proofs.Loads.{as_many}
use Rattle.meson_steps.specs.Meanings.{AreMeant}
use Rattle.meson_places.specs.Changes.{set_assigned, set_whole}
use Rattle.meson_places.specs.Names.{loaded_in}
use Rattle.meson_places.specs.Values.{written_given}
use Rattle.meson_places.proofs.Refused.{refused_as}
use Rattle.meson_places.proofs.Standing.{past_all, stands, value_good}
use Rattle.meson_places.proofs.changes.set_whole.Goals as goal

pub returns-then-place-sources-clause-refused : goal.returns-then-place-sources-clause-refused
returns-then-place-sources-clause-refused c = λ w other.
    ap (set_whole (loaded_in c.args.sources) c.args.given.now w c.args.key.now c.args.place.now) (past_all c.args.sources.files.now c.args.sources.trees.now c.args.place.now c.if-place-sources.true)
    ∙ ap (λ k. Err (NoSuchValue k)) (sym c.in_ok-clone.ensures.cases)

pub returns-then-not-branch-clause-refused : goal.returns-then-not-branch-clause-refused
returns-then-not-branch-clause-refused c = λ w other.
    let l = loaded_in c.args.sources in
    let files = c.args.sources.files.now in
    let trees = c.args.sources.trees.now in
    let at_ = c.args.place.now in
    let g = c.args.given.now in
    let key = c.args.key.now in
    let bytes = bytes_at at_.file files in
    let e = expr_view bytes c.in-Some.value.now in
    let here : expression_at (project l) at_ ≡ Some e = stands files trees at_ c.index-sources-place.result (as_many files trees c.requires) c.if-place-sources.false ∙ sym (c.in-Some.ensures bytes) in
    ap (set_whole l g w key at_) here
    ∙ ap (λ b. if b then set_assigned g w key at_ e else Err (NotLiteral key)) (sym c.in_ok-is_assigned-in-Some.ensures ∙ c.if-not-branch.true)
    ∙ ap (λ k. Err (NotLiteral k)) (sym c.in_ok-clone-in-Some.ensures.cases)

pub bytes-source-requires : goal.bytes-source-requires
bytes-source-requires c =
    let many = as_many c.args.sources.files.now c.args.sources.trees.now c.requires in
    let inside = c.if-place-sources.false in
    let within : c.args.place.now.file < length c.args.sources.files.now = omega (arith, many, inside) in
    within

pub set_assigned-requires : goal.set_assigned-requires
set_assigned-requires c =
    let files = c.args.sources.files.now in
    let trees = c.args.sources.trees.now in
    let at_ = c.args.place.now in
    let bytes = bytes_at at_.file files in
    subst (λ s. AreGood (expression_words (expr_view s c.in-Some.value.now))) (sym c.bytes-source.ensures)
    (value_good files trees at_ c.index-sources-place.result (as_many files trees c.requires) c.if-place-sources.false (expr_view bytes c.in-Some.value.now) c.requires (c.in-Some.ensures bytes))

pub returns-else-not-branch-clause-meant : goal.returns-else-not-branch-clause-meant
returns-else-not-branch-clause-meant c = λ may.
    let l = loaded_in c.args.sources in
    let files = c.args.sources.files.now in
    let trees = c.args.sources.trees.now in
    let at_ = c.args.place.now in
    let g = c.args.given.now in
    let w = written_given g may in
    let key = c.args.key.now in
    let bytes = bytes_at at_.file files in
    let e = expr_view bytes c.in-Some.value.now in
    let here : expression_at (project l) at_ ≡ Some e = stands files trees at_ c.index-sources-place.result (as_many files trees c.requires) c.if-place-sources.false ∙ sym (c.in-Some.ensures bytes) in
    let whole : set_whole l g w key at_ (expression_at (project l) at_) ≡ set_assigned g w key at_ (expr_view c.bytes-source.result.now c.in-Some.value.now) =
    ap (set_whole l g w key at_) here
    ∙ ap (λ b. if b then set_assigned g w key at_ e else Err (NotLiteral key)) (sym c.in_ok-is_assigned-in-Some.ensures ∙ c.if-not-branch.false)
    ∙ ap (λ s. set_assigned g w key at_ (expr_view s c.in-Some.value.now)) (sym c.bytes-source.ensures) in
    IfOk-weaker c.set_assigned.result _ _ (λ steps m. subst (λ x. AreMeant x steps.items) (sym whole) m) (c.set_assigned.ensures.meant may)

pub returns-else-not-branch-clause-refused : goal.returns-else-not-branch-clause-refused
returns-else-not-branch-clause-refused c = λ w.
    let l = loaded_in c.args.sources in
    let files = c.args.sources.files.now in
    let trees = c.args.sources.trees.now in
    let at_ = c.args.place.now in
    let g = c.args.given.now in
    let key = c.args.key.now in
    let bytes = bytes_at at_.file files in
    let e = expr_view bytes c.in-Some.value.now in
    let here : expression_at (project l) at_ ≡ Some e = stands files trees at_ c.index-sources-place.result (as_many files trees c.requires) c.if-place-sources.false ∙ sym (c.in-Some.ensures bytes) in
    refused_as c.set_assigned.result (set_whole l g w key at_ (expression_at (project l) at_)) (set_assigned g w key at_ (expr_view c.bytes-source.result.now c.in-Some.value.now))
    (ap (set_whole l g w key at_) here
    ∙ ap (λ b. if b then set_assigned g w key at_ e else Err (NotLiteral key)) (sym c.in_ok-is_assigned-in-Some.ensures ∙ c.if-not-branch.false)
    ∙ ap (λ s. set_assigned g w key at_ (expr_view s c.in-Some.value.now)) (sym c.bytes-source.ensures)) (c.set_assigned.ensures.refused w)

pub returns-in_ok-clone-in-None-clause-refused : goal.returns-in_ok-clone-in-None-clause-refused
returns-in_ok-clone-in-None-clause-refused c = λ w other.
    let files = c.args.sources.files.now in
    let trees = c.args.sources.trees.now in
    let at_ = c.args.place.now in
    ap (set_whole (loaded_in c.args.sources) c.args.given.now w c.args.key.now at_)
    (stands files trees at_ c.index-sources-place.result (as_many files trees c.requires) c.if-place-sources.false ∙ sym (c.in-None.ensures (bytes_at at_.file files)))
    ∙ ap (λ k. Err (NoSuchValue k)) (sym c.in_ok-clone-in-None.ensures.cases)
