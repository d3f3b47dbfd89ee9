use Rattle.std.proofs.Common.{◌≡◌, ◌∙◌, true, List, ℕ, Some, None, sym, ap}
use Rattle.std.specs.Prelude.{if◌then◌else◌, Option}
use Rattle.meson_lex.specs.declared.kinds.Span.{Span}
use Rattle.meson_syntax.specs.View.{arg_view, expr_view, text_at}
use Rattle.meson_edit.specs.Standing.{expression_span}
use Rattle.meson_calls.specs.Keys.{is_key}
use Rattle.meson_calls.proofs.ArgumentViews.{named_view}
use Rattle.meson_inventory.specs.Info.{keyword_place}
use Rattle.meson_inventory.specs.declared.info.KeywordPlace.{KeywordPlace}
use Rattle.meson_inventory.proofs.info.keyword_place.Goals as goal

abbrev at : List ℕ → Span → Span → Option KeywordPlace
at key name value = Some (record { key = key; name = name; value = value })

pub returns-in_ok-key-in-Named : goal.returns-in_ok-key-in-Named
returns-in_ok-key-in-Named c =
    let source = c.args.source.now in
    let name = c.in-Named.name in
    let text = text_at source name in
    let value = expression_span (expr_view source c.in-Named.value) in
    let is = ap (arg_view source) c.in-Named.is ∙ named_view source c.in-Named.span name c.in-Named.value in
    let known : is_key c.args.role text ≡ true = cc (c.if-not-is_key.false, c.is_key.ensures, c.text_of-key.ensures) in
    let key : c.of.result ≡ text = cc (c.of.ensures, c.in_ok-key-in-Named.ensures.ok, c.identifier_text.ensures, c.text_of-key.ensures) in
    ap (λ k. at k name c.span_of.result) key ∙ ap (λ v. at text name v) (c.span_of.ensures source)
    ∙ sym (ap (λ b. if b then at text name value else None) known)
    ∙ sym (ap (keyword_place c.args.role) is)
