use Rattle.std.proofs.Common.{sym, ap, subst, ◌∙◌}
use Rattle.meson_edit.specs.Standing.{statement_span}
use Rattle.meson_syntax.specs.View.{stmt_view, text_at}
use Rattle.meson_calls.specs.Spelling.{HasNoneOf}
use Rattle.meson_calls.specs.Project.{place}
use Rattle.meson_following.specs.Passing.{asks_in, mattering_words}
use Rattle.meson_following.proofs.walk.Walk.may_pass.Goals as goal

pub returns-clause-passes : goal.returns-clause-passes
returns-clause-passes c = λ calm same.
    let source = c.args.self.now.source.now in
    record {
      words =
          subst (λ x. HasNoneOf (mattering_words x) (text_at source (statement_span (stmt_view source c.args.stmt.now)))) same
          (subst (λ s. HasNoneOf (mattering_words c.args.searches.now.variable.word) (text_at source s)) (c.span_of_stmt.ensures source) (c.may_be_in.ensures.none c.if-may_be_in.false));
      calm = sym c.is_calm.ensures ∙ calm;
      kept = sym c.is_kept.ensures ∙ c.if-not-is_kept.false;
      away =
          ap (λ steps. asks_in c.args.self.now.question.aim (place c.args.self.now.file steps)) (sym (c.as_slice.ensures.value ∙ c.in_ok-push.ensures.items))
          ∙ sym c.asks_in-asks.ensures ∙ c.if-asks.false;
    }
