use Rattle.std.proofs.Common.{◌≡◌, ℕ, List, length, Option, Err, sym, ap, ◌∙◌, subst, arith}
use Rattle.std.specs.Prelude.{Bool}
use Rattle.std.proofs.lemmas.List.{length-map}
use Rattle.std.proofs.lemmas.Result.{IfOk-weaker}
use Rattle.meson_splice.specs.Files.{bytes_at}
use Rattle.meson_syntax.specs.View.{arg_view, expr_view}
use Rattle.meson_syntax.specs.Tree.{Expression, Nowhere}
use Rattle.meson_edit.specs.Edits.{Written}
use Rattle.meson_calls.specs.declared.call.CallRef.{CallRef}
use Rattle.meson_places.specs.declared.elements.ListKind.{ListKind}
use Rattle.meson_calls.specs.Loading.{project}
use Rattle.meson_calls.specs.Project.{expression_at}
use Rattle.meson_calls.proofs.Loads.{as_many}
use Rattle.meson_calls.specs.declared.refusal.Refusal.TheVariants.{NoSuchValue}
use Rattle.meson_steps.specs.Meanings.{AreMeant}
use Rattle.meson_places.specs.Changes.{added_there, added_to}
use Rattle.meson_places.specs.Colons.{ends_in_file, is_spaced_in}
use Rattle.meson_places.specs.Names.{loaded_in}
use Rattle.meson_places.specs.Slots.{elements_in, list_kind}
use Rattle.meson_places.proofs.Refused.{refused_as}
use Rattle.meson_places.proofs.Standing.{past_all, stands}
use Rattle.meson_places.proofs.additions.added_to.Goals as goal

pub returns-then-list-sources-clause-refused : goal.returns-then-list-sources-clause-refused
returns-then-list-sources-clause-refused c = λ w other.
    let files = c.args.sources.files.now in
    let at_ = c.args.list.now in
    ap (added_to (bytes_at at_.file files) (ends_in_file (loaded_in c.args.sources) at_.file) w c.args.key.now at_) (past_all files c.args.sources.trees.now at_ c.if-list-sources.true)
    ∙ ap (λ k. Err (NoSuchValue k)) (sym c.in_ok-clone.ensures.cases)

pub bytes-source-requires : goal.bytes-source-requires
bytes-source-requires c =
    let many = as_many c.args.sources.files.now c.args.sources.trees.now c.requires in
    omega arith

-- what is added to the expression there
module _ (spaced spaced_there : Bool) (w : Written (Expression Nowhere)) (key : List ℕ) (at_ : CallRef) (kind kind_there : Option ListKind) (many many_there : ℕ) where
  added_alike : spaced ≡ spaced_there → kind ≡ kind_there → many ≡ many_there → added_there spaced w key at_ kind many ≡ added_there spaced_there w key at_ kind_there many_there
  added_alike a b c = ap (λ s. added_there s w key at_ kind many) a ∙ ap (λ k. added_there spaced_there w key at_ k many) b ∙ ap (added_there spaced_there w key at_ kind_there) c

pub returns-in_ok-spaced-in-Some-clause-meant : goal.returns-in_ok-spaced-in-Some-clause-meant
returns-in_ok-spaced-in-Some-clause-meant c = λ w is_w.
    let l = loaded_in c.args.sources in
    let files = c.args.sources.files.now in
    let trees = c.args.sources.trees.now in
    let at_ = c.args.list.now in
    let key = c.args.key.now in
    let bytes = bytes_at at_.file files in
    let ends = ends_in_file l at_.file in
    let e = expr_view bytes c.in-Some.held.now in
    let spaced = c.in_ok-spaced-in-Some.spaced in
    let many = sym (length-map c.elements_in.result.now (arg_view bytes)) ∙ ap length (c.elements_in.ensures.elements bytes) in
    let is = c.in_ok-spaced-in-Some.ensures ∙ ap (λ b. is_spaced_in b ends (expr_view b c.in-Some.held.now)) c.bytes-source.ensures in
    let same : added_to bytes ends w key at_ (expression_at (project l) at_) ≡ added_there spaced w key at_ c.list_kind.result (length c.elements_in.result.now) =
    ap (added_to bytes ends w key at_) (stands files trees at_ c.index-sources-list.result (as_many files trees c.requires) c.if-list-sources.false ∙ sym (c.in-Some.ensures bytes))
    ∙ sym (added_alike spaced (is_spaced_in bytes ends e) w key at_ c.list_kind.result (list_kind e) (length c.elements_in.result.now) (length (elements_in e)) is (c.list_kind.ensures bytes) many) in
    IfOk-weaker c.added_there.result _ _ (λ steps m. subst (λ x. AreMeant x steps.items) (sym same) m) (c.added_there.ensures.meant w is_w)

pub returns-in_ok-spaced-in-Some-clause-refused : goal.returns-in_ok-spaced-in-Some-clause-refused
returns-in_ok-spaced-in-Some-clause-refused c = λ w.
    let l = loaded_in c.args.sources in
    let files = c.args.sources.files.now in
    let trees = c.args.sources.trees.now in
    let at_ = c.args.list.now in
    let key = c.args.key.now in
    let bytes = bytes_at at_.file files in
    let ends = ends_in_file l at_.file in
    let e = expr_view bytes c.in-Some.held.now in
    let spaced = c.in_ok-spaced-in-Some.spaced in
    let many = sym (length-map c.elements_in.result.now (arg_view bytes)) ∙ ap length (c.elements_in.ensures.elements bytes) in
    let is = c.in_ok-spaced-in-Some.ensures ∙ ap (λ b. is_spaced_in b ends (expr_view b c.in-Some.held.now)) c.bytes-source.ensures in
    refused_as c.added_there.result (added_to bytes ends w key at_ (expression_at (project l) at_)) (added_there spaced w key at_ c.list_kind.result (length c.elements_in.result.now))
    (ap (added_to bytes ends w key at_) (stands files trees at_ c.index-sources-list.result (as_many files trees c.requires) c.if-list-sources.false ∙ sym (c.in-Some.ensures bytes))
    ∙ sym (added_alike spaced (is_spaced_in bytes ends e) w key at_ c.list_kind.result (list_kind e) (length c.elements_in.result.now) (length (elements_in e)) is (c.list_kind.ensures bytes) many))
    (c.added_there.ensures.refused w)

pub returns-in_ok-clone-in-None-clause-refused : goal.returns-in_ok-clone-in-None-clause-refused
returns-in_ok-clone-in-None-clause-refused c = λ w other.
    let files = c.args.sources.files.now in
    let trees = c.args.sources.trees.now in
    let at_ = c.args.list.now in
    let bytes = bytes_at at_.file files in
    ap (added_to bytes (ends_in_file (loaded_in c.args.sources) at_.file) w c.args.key.now at_) (stands files trees at_ c.index-sources-list.result (as_many files trees c.requires) c.if-list-sources.false ∙ sym (c.in-None.ensures bytes))
    ∙ ap (λ k. Err (NoSuchValue k)) (sym c.in_ok-clone-in-None.ensures.cases)
