-- Notes of assignments and loops whose variables have names that are identifiers.
use Rattle.std.specs.Prelude.{List, [], ◌∷◌}
use Rattle.meson_lex.specs.Kinds.{IsIdentifier}
use Rattle.meson_syntax.specs.Tree.{Name}
use Rattle.meson_calls.specs.Notes.{Note, a_call, an_assignment, a_loop}
use Rattle.meson_calls.specs.Project.{Placed}

abbrev pub AreIdentifiers : {S : Type 0} → List (Name S) → Type 0
AreIdentifiers [] = Unit {0}
AreIdentifiers (x ∷ xs) = IsIdentifier x.text × AreIdentifiers xs

abbrev pub IsNamed : {S : Type 0} → Note S → Type 0
IsNamed (a_call c) = Unit {0}
IsNamed (an_assignment x sets e) = IsIdentifier x
IsNamed (a_loop xs) = AreIdentifiers xs

abbrev pub AreNamed : {S : Type 0} → List (Placed (Note S)) → Type 0
AreNamed [] = Unit {0}
AreNamed (n ∷ ns) = IsNamed n.it × AreNamed ns
