-- The assignment that goes next is there.
use Rattle.std.proofs.Common.{◌≡◌, ℕ, List, [], ◌∷◌, Option, Some, None, refl, ◌∙◌}
use Rattle.std.specs.Prelude.{Bool, true, false, if◌then◌else◌}
use Rattle.std.specs.Option.{option_or}
use Rattle.meson_lex.specs.declared.kinds.Span.{Span}
use Rattle.meson_splice.specs.declared.file_set.File.{File}
use Rattle.meson_calls.specs.Loading.{Loaded, project}
use Rattle.meson_calls.specs.Notes.{Note, notes}
use Rattle.meson_calls.specs.Project.{Placed, Project, child}
use Rattle.meson_targets.specs.TargetEdits.{StatementPlace}
use Rattle.meson_code.specs.AnchorLaws.{IsStatementAt}
use Rattle.meson_code.specs.Anchors.{statement_with}
use Rattle.meson_code.specs.Unused.{first_setting_among, if_unused, is_unused, next_unused, sets_name, setting, unused_setting}
use Rattle.meson_code.proofs.AnchorsFound.{with_there}

module _ (l : Loaded) where
  abbrev p : Project Span
  p = project l

  setting_there : (x : List ℕ) (n : Placed (Note Span)) (a : StatementPlace) → setting p x n ≡ Some a → IsStatementAt l a
  setting_there x n a is = go (sets_name x n.it) is
    where
      go : (b : Bool) → (if b then statement_with p (child n.place 0) else None) ≡ Some a → IsStatementAt l a
      go true h = with_there p (child n.place 0) a h
      go false h = absurd (let no : ⊥ = cc in no)

  either : (o r : Option StatementPlace) (a : StatementPlace) → (o ≡ Some a → IsStatementAt l a) → (r ≡ Some a → IsStatementAt l a) → option_or o r ≡ Some a → IsStatementAt l a
  either None r a one other is = other is
  either (Some b) r a one other is = one is

  first_there : (x : List ℕ) (ns : List (Placed (Note Span))) (a : StatementPlace) → first_setting_among p x ns ≡ Some a → IsStatementAt l a
  first_there x [] a is = absurd (let no : ⊥ = cc in no)
  first_there x (n ∷ ns) a is = either (setting p x n) (first_setting_among p x ns) a (setting_there x n a) (first_there x ns a) is

  unused_there : (files : List File) (x : List ℕ) (a : StatementPlace) → unused_setting files p x ≡ Some a → IsStatementAt l a
  unused_there files x a is = go (first_setting_among p x (notes p)) refl is
    where
      kept : (b : StatementPlace) (t : Bool) → first_setting_among p x (notes p) ≡ Some b → (if t then Some b else None) ≡ Some a → IsStatementAt l a
      kept b true found h = first_there x (notes p) a (found ∙ h)
      kept b false found h = absurd (let no : ⊥ = cc in no)

      go : (o : Option StatementPlace) → first_setting_among p x (notes p) ≡ o → if_unused files p x o ≡ Some a → IsStatementAt l a
      go None found h = absurd (let no : ⊥ = cc in no)
      go (Some b) found h = kept b (is_unused files p x b) found h

  pub next_there : (files : List File) (names : List (List ℕ)) (a : StatementPlace) → next_unused files p names ≡ Some a → IsStatementAt l a
  next_there files [] a is = absurd (let no : ⊥ = cc in no)
  next_there files (x ∷ names) a is = either (unused_setting files p x) (next_unused files p names) a (unused_there files x a) (next_there files names a) is
