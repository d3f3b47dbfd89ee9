-- The reads that the code finds in parts of a file.
use Rattle.std.specs.Prelude.{◌≡◌, ℕ, List, ◌++◌}
use Rattle.std.specs.List.{filter_map}
use Rattle.meson_lex.specs.declared.kinds.Span.{Span}
use Rattle.meson_calls.specs.declared.call.CallRef.{CallRef}
use Rattle.meson_calls.specs.Parts.{Part}
use Rattle.meson_calls.specs.Project.{Placed}
use Rattle.meson_following.specs.Reads.{read_in_part}

-- the places at which a variable is read
abbrev pub reads_in : List ℕ → List (Placed (Part Span)) → List CallRef
reads_in x parts = filter_map (read_in_part x) parts

-- those of some parts come behind those before
abbrev pub Adds : List ℕ → List CallRef → List (Placed (Part Span)) → List CallRef → Type 0
Adds x before parts after = after ≡ before ++ reads_in x parts
