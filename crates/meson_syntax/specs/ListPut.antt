-- What a tree of the code becomes when a list is put in it.
use Rattle.std.specs.Prelude.{ℕ, ◌+◌, List, [], Option, Some, None}
use Rattle.meson_lex.specs.declared.kinds.Span.{Span}
use Rattle.meson_syntax.specs.declared.tree.List as rust
use Rattle.meson_syntax.specs.declared.tree.Parsed.{Parsed}
use Rattle.meson_syntax.specs.Tree.{Listing, File}
use Rattle.meson_syntax.specs.View.{list_view, view}
use Rattle.meson_syntax.specs.Codes.{code_file}
use Rattle.meson_syntax.specs.Moving.{moved}
use Rattle.meson_syntax.specs.MovedCode.{moved_parsed}
use Rattle.meson_syntax.specs.Paths.{ListAt, list_at}

-- a tree with another list in the place that was found
abbrev pub put_there : Option (ListAt Span) → Listing Span → File Span → File Span
put_there None l f = f
put_there (Some p) l f = p.back l

-- the code's tree with a list where a path names one; if it names none, the tree stays
abbrev pub with_list : List ℕ → rust.List → Parsed → Parsed
with_list path l t = code_file (put_there (list_at (view [] t) path) (list_view [] l) (view [] t))

-- What `shift` and then `put_list` make of a tree. Each border from the end of the list's `was` bytes on moves to after `now` bytes, and the list is put in.
abbrev pub list_exchanged : List ℕ → (from was now : ℕ) → rust.List → Parsed → Parsed
list_exchanged path from was now l t = with_list path l (moved_parsed (moved (from + was) was now) t)
