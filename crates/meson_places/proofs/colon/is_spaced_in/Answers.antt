use Rattle.std.proofs.Common.{◌≡◌, ℕ, List, ◌++◌, None, Some, sym, ap, ◌∙◌}
use Rattle.std.specs.Prelude.{Option}
use Rattle.std.specs.Option.{option_or}
use Rattle.meson_lex.specs.declared.kinds.Span.{Span}
use Rattle.meson_syntax.specs.Tree.{Argument, Expression}
use Rattle.meson_syntax.specs.View.{args_view, expr_view}
use Rattle.meson_edit.specs.Standing.{expression_span}
use Rattle.meson_places.specs.Colons.{ends_before, ends_in_file, is_spaced, key_ends, last_end}
use Rattle.meson_places.specs.Names.{loaded_in}
use Rattle.meson_places.specs.Slots.{elements_in}
use Rattle.meson_places.proofs.colon.is_spaced_in.Goals as goal

-- by its own last key, by the last one before it, and without a key
module _ (source : List ℕ) (own before : Option ℕ) where
  by_own : (end : Option ℕ) → own ≡ end → is_spaced source (option_or end before) ≡ is_spaced source (option_or own before)
  by_own end is = ap (λ o. is_spaced source (option_or o before)) (sym is)

  by_before : (end : Option ℕ) → own ≡ None → before ≡ end → is_spaced source end ≡ is_spaced source (option_or own before)
  by_before end none is = ap (is_spaced source) (sym is) ∙ ap (λ o. is_spaced source (option_or o before)) (sym none)

own_is : (source given items : List ℕ) (elements : List (Argument Span)) (e : Expression Span) → given ≡ items → items ≡ key_ends elements → elements ≡ elements_in e → last_end (key_ends (elements_in e)) ≡ last_end given
own_is source given items elements e g i x = sym (ap last_end (g ∙ i ∙ ap key_ends x))

pub returns-in-Some : goal.returns-in-Some
returns-in-Some c =
    let source = c.args.source.now in
    let e = expr_view source c.args.value.now in
    let before = last_end (ends_before (expression_span e).from (ends_in_file (loaded_in c.args.sources) c.args.file)) in
    let pushed = c.in_ok-push_key_ends.ensures source ∙ ap (λ xs. xs ++ key_ends (args_view source c.elements_in.result.now)) c.new-own.ensures.items in
    let own = own_is source c.as_slice.result.now _ (args_view source c.elements_in.result.now) e c.as_slice.ensures.value pushed (c.elements_in.ensures.elements source) in
    c.blank_at.ensures ∙ by_own source (last_end (key_ends (elements_in e))) before (Some c.in-Some.end) (own ∙ sym c.last_end.ensures ∙ c.in-Some.is)

pub returns-in-Some-last_before : goal.returns-in-Some-last_before
returns-in-Some-last_before c =
    let source = c.args.source.now in
    let e = expr_view source c.args.value.now in
    let before = last_end (ends_before (expression_span e).from (ends_in_file (loaded_in c.args.sources) c.args.file)) in
    let pushed = c.in_ok-push_key_ends.ensures source ∙ ap (λ xs. xs ++ key_ends (args_view source c.elements_in.result.now)) c.new-own.ensures.items in
    let own = own_is source c.as_slice.result.now _ (args_view source c.elements_in.result.now) e c.as_slice.ensures.value pushed (c.elements_in.ensures.elements source) in
    let there = ap (λ s. last_end (ends_before s.from c.as_slice-2.result.now)) (c.span_of.ensures source) ∙ ap (λ ends. last_end (ends_before (expression_span e).from ends)) (c.as_slice-2.ensures.value ∙ c.in_ok-ends.ensures) in
    c.blank_at-in-Some-last_before.ensures
    ∙ by_before source (last_end (key_ends (elements_in e))) before (Some c.in-Some-last_before.end) (own ∙ sym c.last_end.ensures ∙ c.in_default.is) (sym there ∙ sym c.last_before.ensures ∙ c.in-Some-last_before.is)

pub returns : goal.returns
returns c =
    let source = c.args.source.now in
    let e = expr_view source c.args.value.now in
    let before = last_end (ends_before (expression_span e).from (ends_in_file (loaded_in c.args.sources) c.args.file)) in
    let pushed = c.in_ok-push_key_ends.ensures source ∙ ap (λ xs. xs ++ key_ends (args_view source c.elements_in.result.now)) c.new-own.ensures.items in
    let own = own_is source c.as_slice.result.now _ (args_view source c.elements_in.result.now) e c.as_slice.ensures.value pushed (c.elements_in.ensures.elements source) in
    let there = ap (λ s. last_end (ends_before s.from c.as_slice-2.result.now)) (c.span_of.ensures source) ∙ ap (λ ends. last_end (ends_before (expression_span e).from ends)) (c.as_slice-2.ensures.value ∙ c.in_ok-ends.ensures) in
    by_before source (last_end (key_ends (elements_in e))) before None (own ∙ sym c.last_end.ensures ∙ c.in_default.is) (sym there ∙ sym c.last_before.ensures ∙ c.in-None.is)
