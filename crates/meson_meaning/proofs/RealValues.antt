-- Values whose literals stand in the build files.
use Rattle.std.proofs.Common.{ℕ, List, [], ◌∷◌, Option, Some, None}
use Rattle.std.specs.Prelude.{Bool, true, false, flat_map, if◌then◌else◌, bytes_eq, map}
use Rattle.meson_lex.specs.declared.kinds.Span.{Span}
use Rattle.meson_syntax.proofs.paths.Every.{Every, every-append}
use Rattle.meson_calls.specs.declared.call.CallRef.{CallRef}
use Rattle.meson_calls.specs.NamedArguments.{kwargs_key, sources_key}
use Rattle.meson_calls.specs.Project.{Project}
use Rattle.meson_meaning.specs.Expressions.{after_first, named_atoms, sources_of, unnamed_atoms}
use Rattle.meson_meaning.specs.Values.{Atom, Given, Literal, Value, a_literal, a_named, a_value, an_entry, anything, atoms_of, element, elements_of, given, in_folder, other, several, single, text}
use Rattle.meson_meaning.specs.Written.{IsReal, LiteralStands}

module _ (p : Project Span) where
  abbrev pub Reals : List (Atom CallRef) → Type 0
  Reals xs = Every (IsReal p) xs

  abbrev pub RealLiteral : Option (Literal CallRef) → Type 0
  RealLiteral None = Unit {0}
  RealLiteral (Some l) = LiteralStands p l

  abbrev pub Real : Value CallRef → Type 0
  Real (text t) = RealLiteral t
  Real (several xs) = Reals xs
  Real anything = Unit {0}

  abbrev pub RealIf : Option (Value CallRef) → Type 0
  RealIf None = Unit {0}
  RealIf (Some v) = Real v

  abbrev pub RealGiven : Given CallRef → Type 0
  RealGiven (a_literal l) = LiteralStands p l
  RealGiven (a_value v) = Real v
  RealGiven (a_named x v) = Real v
  RealGiven (an_entry v w) = Unit {0}

  pub atoms_real : (v : Value CallRef) → Real v → Reals (atoms_of v)
  atoms_real (text None) real = (tt, tt)
  atoms_real (text (Some l)) real = (real, tt)
  atoms_real (several xs) real = real
  atoms_real anything real = (tt, tt)

  pub given_real : (o : Option (Literal CallRef)) (v : Value CallRef) → RealLiteral o → Real v → RealGiven (given o v)
  given_real None v literal real = real
  given_real (Some l) v literal real = literal

  elements_one : (g : Given CallRef) → RealGiven g → Reals (elements_of g)
  elements_one (a_literal l) real = (real, tt)
  elements_one (a_value v) real = atoms_real v real
  elements_one (a_named x v) real = (tt, tt)
  elements_one (an_entry v w) real = (tt, tt)

  unnamed_one : (g : Given CallRef) → RealGiven g → Reals (unnamed_atoms g)
  unnamed_one (a_literal l) real = (real, tt)
  unnamed_one (a_value v) real = atoms_real v real
  unnamed_one (a_named x v) real = tt
  unnamed_one (an_entry v w) real = tt

  keyword_one : (sources kwargs : Bool) (v : Value CallRef) → Real v → Reals (if sources then atoms_of v else (if kwargs then other ∷ [] else []))
  keyword_one true kwargs v real = atoms_real v real
  keyword_one false true v real = (tt, tt)
  keyword_one false false v real = tt

  named_one : (g : Given CallRef) → RealGiven g → Reals (named_atoms g)
  named_one (a_literal l) real = tt
  named_one (a_value v) real = tt
  named_one (a_named x v) real = keyword_one (bytes_eq x sources_key) (bytes_eq x kwargs_key) v real
  named_one (an_entry v w) real = tt

  flat_real : (f : Given CallRef → List (Atom CallRef)) → ((g : Given CallRef) → RealGiven g → Reals (f g)) → (gs : List (Given CallRef)) → Every RealGiven gs → Reals (flat_map f gs)
  flat_real f each [] all = tt
  flat_real f each (g ∷ gs) all = every-append (IsReal p) (f g) (flat_map f gs) (each g all.0) (flat_real f each gs all.1)

  after_real : (gs : List (Given CallRef)) → Every RealGiven gs → Every RealGiven (after_first gs)
  after_real [] all = tt
  after_real (a_literal l ∷ gs) all = all.1
  after_real (a_value v ∷ gs) all = all.1
  after_real (a_named x v ∷ gs) all = after_real gs all.1
  after_real (an_entry v w ∷ gs) all = after_real gs all.1

  pub elements_real : (gs : List (Given CallRef)) → Every RealGiven gs → Reals (flat_map elements_of gs)
  elements_real gs all = flat_real elements_of elements_one gs all

  pub sources_real : (gs : List (Given CallRef)) → Every RealGiven gs → Reals (sources_of gs)
  sources_real gs all =
      every-append (IsReal p) (flat_map unnamed_atoms (after_first gs)) (flat_map named_atoms gs)
      (flat_real unnamed_atoms unnamed_one (after_first gs) (after_real gs all)) (flat_real named_atoms named_one gs all)

  pub folders_real : (n : ℕ) (xs : List (Atom CallRef)) → Reals xs → Reals (map (in_folder n) xs)
  folders_real n [] all = tt
  folders_real n (element l folder ∷ xs) all = (all.0, folders_real n xs all.1)
  folders_real n (single l folder ∷ xs) all = (all.0, folders_real n xs all.1)
  folders_real n (other ∷ xs) all = (tt, folders_real n xs all.1)
