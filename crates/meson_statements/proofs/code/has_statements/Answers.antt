use Rattle.std.proofs.Common.{◌≡◌, ◌==◌, false, length, not, sym, ap, ◌∙◌, subst}
use Rattle.meson_syntax.specs.Reads.{Reads}
use Rattle.meson_syntax.specs.Tree.{erase}
use Rattle.meson_syntax.specs.View.{view}
use Rattle.meson_edit.specs.Edits.{is_empty}
use Rattle.meson_edit.specs.ExchangedLines.{file_statements}
use Rattle.meson_statements.proofs.Statements.{none-there, not-true}
use Rattle.meson_statements.proofs.code.has_statements.Goals as goal

pub returns-in-Ok-clause-yes : goal.returns-in-Ok-clause-yes
returns-in-Ok-clause-yes c = λ some.
    let source = c.as_bytes.result.now in
    record {
      tree = erase (view source c.in-Ok.tree);
      reads = subst (λ b. Reads b (erase (view source c.in-Ok.tree))) c.as_bytes.ensures.value c.in-Ok.ensures.reads.reads;
      some = none-there source c.in-Ok.tree ∙ ap (λ l. length l == 0) (sym c.get.ensures) ∙ sym c.is_empty.ensures ∙ not-true c.is_empty.result some;
    }

pub returns-in-Ok-clause-no : goal.returns-in-Ok-clause-no
returns-in-Ok-clause-no c = λ x.
    let source = c.as_bytes.result.now in
    let there : is_empty (file_statements (erase (view source c.in-Ok.tree))) ≡ false =
    ap (λ t. is_empty (file_statements t)) (c.in-Ok.ensures.finds x.tree (subst (λ b. Reads b x.tree) (sym c.as_bytes.ensures.value) x.reads)) ∙ x.some in
    ap not (c.is_empty.ensures ∙ ap (λ l. length l == 0) c.get.ensures ∙ sym (none-there source c.in-Ok.tree) ∙ there)
