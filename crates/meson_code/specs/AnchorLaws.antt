-- Where a statement is beside which code is put.
use Rattle.std.specs.Prelude.{◌≡◌, ℕ, true, List, Option, Some, Ok, Err}
use Rattle.meson_lex.specs.declared.kinds.Span.{Span}
use Rattle.meson_splice.specs.Files.{bytes_at, position_of_file}
use Rattle.meson_syntax.specs.Tree.{Statement}
use Rattle.meson_edit.specs.Standing.{statement_span}
use Rattle.meson_calls.specs.declared.refusal.Refusal.TheVariants.{NotFound}
use Rattle.meson_calls.specs.Loading.{Loaded, project}
use Rattle.meson_steps.specs.declared.argument.PlaceName.TheVariants as name
use Rattle.meson_steps.specs.declared.argument.Search.{Search}
use Rattle.meson_targets.specs.TargetEdits.{StatementPlace, statement_there}
use Rattle.meson_places.specs.Names.{is_searched, line_of, searched_file}
use Rattle.meson_code.specs.Anchors.{the_anchor}

-- a statement is at the place
abbrev pub IsStatementAt : Loaded → StatementPlace → Type 0
IsStatementAt l a = (x : Statement Span) × (statement_there (project l) a ≡ Some x)

-- the law: so it is of the one beside which code is put
abbrev pub AnchorsAreThere : Type 0
AnchorsAreThere = (l : Loaded) (s : Search) (a : StatementPlace) → the_anchor l s ≡ Ok a → IsStatementAt l a

-- ---- by a line

-- The statement at the place is in the file of this number, and its first byte is on the line of this number.
pub record StatementBegins (l : Loaded) (file line : ℕ) (a : StatementPlace) : Type 0 where
  pub in_file : a.block.file ≡ file
  pub it : Statement Span
  pub is_there : statement_there (project l) a ≡ Some it
  pub on_line : line_of (bytes_at file l.files) (statement_span it).from ≡ line

-- in the file of this name, and that file is searched
pub record IsOnLine (l : Loaded) (s : Search) (file : List ℕ) (line : ℕ) (a : StatementPlace) : Type 0 where
  pub within : Option ℕ
  pub is_within : searched_file l.files s.folder ≡ Ok within
  pub in_files : is_searched within a.block ≡ true
  pub number : ℕ
  pub is_number : position_of_file file l.files ≡ Some number
  pub begins : StatementBegins l number line a

-- the law: the statement that a line finds begins on that line of that file
abbrev pub AnchorsAreOnLine : Type 0
AnchorsAreOnLine = (l : Loaded) (s : Search) (file : List ℕ) (line : ℕ) → s.name ≡ name.Line file line → (a : StatementPlace) → the_anchor l s ≡ Ok a
    → IsOnLine l s file line a

-- the law: where a line finds none, no statement of the files that are searched begins on it
abbrev pub NoneOverlooked : Type 0
NoneOverlooked = (l : Loaded) (s : Search) (file : List ℕ) (line : ℕ) → s.name ≡ name.Line file line → the_anchor l s ≡ Err NotFound
    → (a : StatementPlace) → IsOnLine l s file line a → ⊥
