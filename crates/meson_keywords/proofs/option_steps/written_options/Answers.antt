use Rattle.meson_keywords.proofs.Words.{◌++◌, ◌∷◌, [], ap, ap₂, ◌∙◌, codes, written_list}
use Rattle.meson_keywords.specs.declared.value_kinds.ElementKind.TheVariants as element
use Rattle.meson_keywords.proofs.option_steps.written_options.Goals as goal

pub returns-clause-done : goal.returns-clause-done
returns-clause-done c = c.in_ok-written_named.ensures
    ∙ ap₂ (λ key l. key ++ (codes ": " ++ l)) c.as_bytes.ensures.value (c.in_ok-list.ensures.done ∙ ap (λ x. (written_list element.Text (x ∷ [])).bytes) c.in_ok-entry.ensures)
