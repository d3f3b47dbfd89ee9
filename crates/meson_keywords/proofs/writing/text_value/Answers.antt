use Rattle.meson_keywords.proofs.Words.{sym, subst, IfOk, IsSet, written_value}
use Rattle.meson_keywords.specs.declared.value_kinds.ValueKind.TheVariants as value
use Rattle.meson_steps.proofs.SetLiterals.{text_set}
use Rattle.meson_keywords.proofs.writing.text_value.Goals as goal

pub returns-in-Text-clause-done : goal.returns-in-Text-clause-done
returns-in-Text-clause-done c =
    subst (λ s. IfOk c.written_text.result (IsSet (written_value value.Text c.args.key.now s))) (sym c.in-Text.is)
    (text_set c.in-Text.text c.written_text.result c.written_text.ensures.done c.written_text.ensures.utf8)
