-- What is found before sources are added: the list to which they are added, and which of them are new.
use Rattle.std.specs.Prelude.{◌≡◌, ℕ, List, Result, Ok}
use Rattle.meson_lex.specs.declared.kinds.Span.{Span}
use Rattle.meson_splice.specs.Patch.{then_ok}
use Rattle.meson_calls.specs.declared.call.CallRef.{CallRef}
use Rattle.meson_calls.specs.declared.refusal.Refusal.{Refusal}
use Rattle.meson_calls.specs.Calls.{Call, keyword}
use Rattle.meson_calls.specs.NamedArguments.{once, sources_key}
use Rattle.meson_calls.specs.Project.{Placed, Project}
use Rattle.meson_variables.specs.TargetSources.{home, source_marks}
use Rattle.meson_steps.specs.Names.{checked_names}
use Rattle.meson_steps.specs.Steps.{Step}
use Rattle.meson_sources.specs.SourceEdits.{new_names}

abbrev pub Steps : Type 0
Steps = List Step

-- these steps, if the names may be added to the call
abbrev pub if_may_add : Placed (Call Span) → List (List ℕ) → Steps → Result (List Step) Refusal
if_may_add c names steps = then_ok (checked_names names) (λ _. once sources_key (keyword sources_key c.it) steps)

-- The names may be added. They are added to this list, and these are new.
pub record MayAdd (p : Project Span) (c : Placed (Call Span)) (names : List (List ℕ)) (list : CallRef) (new : List (List ℕ)) : Type 0 where
  pub may : (steps : Steps) → if_may_add c names steps ≡ Ok steps
  pub is_list : list ≡ home c.place (source_marks p c)
  pub are_new : new ≡ new_names (source_marks p c) names
