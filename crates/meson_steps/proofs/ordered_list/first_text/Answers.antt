use Rattle.std.proofs.Common.{◌≡◌, List, ℕ, Option, Some, None, sym, ap, ◌∙◌}
use Rattle.std.specs.Prelude.{Bool, if◌then◌else◌, option_map}
use Rattle.meson_edit.specs.Edits.{Written}
use Rattle.meson_edit.specs.Standing.{expression_span}
use Rattle.meson_syntax.specs.Tree.{Expression, Nowhere, erase_expression}
use Rattle.meson_syntax.specs.View.{expr_view}
use Rattle.meson_steps.specs.OrderedLists.{comment_after, lone_token, lone_written}
use Rattle.meson_steps.proofs.ordered_list.first_text.Goals as goal

pub returns-then-comment_after : goal.returns-then-comment_after
returns-then-comment_after c =
    let source = c.args.source.now in
    let e = expr_view source c.args.value.now in
    let test : comment_after source (expression_span e).to ≡ c.comment_after.result = ap (λ s. comment_after source s.to) (sym (c.span_of.ensures source)) ∙ sym c.comment_after.ensures in
    let text : Bool → Option (List ℕ) = λ b. option_map (λ (w : Written (Expression Nowhere)). w.bytes) (if b then None else lone_written e) in
    sym (ap text (test ∙ c.if-comment_after.true))

pub returns-in_ok-from_slice-in-Some : goal.returns-in_ok-from_slice-in-Some
returns-in_ok-from_slice-in-Some c =
    let source = c.args.source.now in
    let e = expr_view source c.args.value.now in
    let test : comment_after source (expression_span e).to ≡ c.comment_after.result = ap (λ s. comment_after source s.to) (sym (c.span_of.ensures source)) ∙ sym c.comment_after.ensures in
    let text : Bool → Option (List ℕ) = λ b. option_map (λ (w : Written (Expression Nowhere)). w.bytes) (if b then None else lone_written e) in
    let found : lone_token e ≡ Some c.in-Some.token.now = sym c.in_ok-token.ensures ∙ ap (option_map (λ x. x.now)) c.in-Some.is in
    let written : Option (List ℕ) → Option (List ℕ) = λ o. option_map (λ (w : Written (Expression Nowhere)). w.bytes) (option_map (λ t. record { bytes = t; node = erase_expression e }) o) in
    ap Some (c.of.ensures ∙ c.in_ok-from_slice-in-Some.ensures.items) ∙ ap written (sym found) ∙ sym (ap text (test ∙ c.if-comment_after.false))
