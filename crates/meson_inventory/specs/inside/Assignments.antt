-- The assignments that the code lists, by the places of their variables and values.
use Rattle.std.specs.Prelude.{⊤, ℕ, List, [], ◌∷◌}
use Rattle.std.specs.Option.{option_map_or}
use Rattle.meson_lex.specs.Kinds.{IsIdentifier}
use Rattle.meson_lex.specs.declared.kinds.Span.{Span}
use Rattle.meson_syntax.specs.declared.tree.Parsed.{Parsed}
use Rattle.meson_syntax.specs.Paths.{expression_on_path}
use Rattle.meson_syntax.specs.Tree.{File}
use Rattle.meson_syntax.specs.View.{text_at, view}
use Rattle.meson_edit.specs.Standing.{expression_span}
use Rattle.meson_calls.specs.declared.kept.KeptAssignment.{KeptAssignment}
use Rattle.meson_inventory.specs.declared.assignments.HeldAssignment.{HeldAssignment}

-- the offset after the expression on a path; 0 if none is there
abbrev pub value_end : File Span → List ℕ → ℕ
value_end f path = option_map_or (λ e. (expression_span {S = Span} e).to) (expression_on_path f path) 0

-- the assignment whose variable and value are at these places of a file
abbrev pub held_at : ℕ → List ℕ → Parsed → KeptAssignment → HeldAssignment
held_at file bytes t k = record {
  file = file;
  span = record { from = k.name.from; to = value_end (view bytes t) k.value.steps };
  variable = text_at bytes k.name;
  sets = k.sets;
}

-- at each of these places the variable is an identifier
abbrev pub AreNamed : List ℕ → List KeptAssignment → Type 0
AreNamed bytes [] = ⊤
AreNamed bytes (k ∷ ks) = IsIdentifier (text_at bytes k.name) × AreNamed bytes ks
