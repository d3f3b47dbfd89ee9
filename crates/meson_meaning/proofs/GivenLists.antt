-- Values and arguments without some of the literals in lists.
use Rattle.std.proofs.Common.{◌≡◌, ℕ, List, [], ◌∷◌, ◌++◌, Option, Some, None, refl, sym, ap, ap₂, ◌∙◌}
use Rattle.std.specs.Prelude.{Bool, true, false, not, map, flat_map, if◌then◌else◌, bytes_eq}
use Rattle.std.specs.List.{filter}
use Rattle.std.proofs.lemmas.List.{map-append}
use Rattle.std.proofs.lemmas.List.Elements.{filter-append}
use Rattle.meson_calls.specs.NamedArguments.{kwargs_key, sources_key}
use Rattle.meson_meaning.specs.Expressions.{after_first, first_values, keyword_values, named_atoms, sources_of, unnamed_atoms}
use Rattle.meson_meaning.specs.Values.{Atom, Given, Literal, Value, a_literal, a_named, a_value, an_entry, anything, atoms_of, element, elements_of, in_folder, other, several, single, text, values_of}
use Rattle.meson_meaning.specs.Without.{Loses, atom_as, atom_stays, atoms_without, each_one, later_ones, literal_as, may_go, nothing, value_without}

module _ {S T : Type 0} (to : S → T) (gone : S → Bool) where
  abbrev pub given_goes : Given S → Bool
  given_goes (a_literal l) = gone l.stands
  given_goes (a_value v) = false
  given_goes (a_named x v) = false
  given_goes (an_entry v w) = false

  abbrev pub given_without : Given S → Given T
  given_without (a_literal l) = a_literal (literal_as to gone l)
  given_without (a_value v) = a_value (value_without to gone v)
  given_without (a_named x v) = a_named x (value_without to gone v)
  given_without (an_entry v w) = an_entry (value_without to gone v) (value_without to gone w)

  abbrev pub loses_after_given : Loses → Given S → Loses
  loses_after_given nothing g = nothing
  loses_after_given later_ones (a_literal l) = each_one
  loses_after_given later_ones (a_value v) = each_one
  loses_after_given later_ones (a_named x v) = later_ones
  loses_after_given later_ones (an_entry v w) = later_ones
  loses_after_given each_one g = each_one

  abbrev pub put_before : Bool → Given T → List (Given T) → List (Given T)
  put_before goes g gs = if goes then gs else g ∷ gs

  abbrev pub givens_without : Loses → List (Given S) → List (Given T)
  givens_without m [] = []
  givens_without m (g ∷ gs) = put_before (may_go m (given_goes g)) (given_without g) (givens_without (loses_after_given m g) gs)

  -- ---- lists of files

  abbrev aw : List (Atom S) → List (Atom T)
  aw = atoms_without to gone

  abbrev stay : List (Atom S) → List (Atom S)
  stay = filter (atom_stays gone)

  abbrev moved : Atom S → Atom T
  moved = atom_as to gone

  abbrev vw : Value S → Value T
  vw = value_without to gone

  pub atoms_kept : (v : Value S) → atoms_of (vw v) ≡ aw (atoms_of v)
  atoms_kept (text None) = refl
  atoms_kept (text (Some l)) = refl
  atoms_kept (several xs) = refl
  atoms_kept anything = refl

  pub atoms-append : (xs ys : List (Atom S)) → aw (xs ++ ys) ≡ aw xs ++ aw ys
  atoms-append xs ys = ap (map moved) (filter-append (atom_stays gone) xs ys) ∙ map-append moved (stay xs) (stay ys)

  both_lists : {X : Type 0} {a b c d : List X} → a ≡ b → c ≡ d → a ++ c ≡ b ++ d
  both_lists p q = ap₂ (λ x y. x ++ y) p q

  -- a list before others
  before_others : (v : Value S) (xs : List (Atom S)) (ys : List (Atom T)) → ys ≡ aw xs → atoms_of (vw v) ++ ys ≡ aw (atoms_of v ++ xs)
  before_others v xs ys is = both_lists (atoms_kept v) is ∙ sym (atoms-append (atoms_of v) xs)

  -- an element before others
  element_before : (l : Literal S) (folder : Option ℕ) (xs : List (Atom S)) (ys : List (Atom T)) → ys ≡ aw xs → (b : Bool)
      → (if b then ys else moved (element l folder) ∷ ys) ≡ map moved (if not b then element l folder ∷ stay xs else stay xs)
  element_before l folder xs ys is true = is
  element_before l folder xs ys is false = ap (λ zs. moved (element l folder) ∷ zs) is

  flat_put : (f : Given T → List (Atom T)) (b : Bool) (g : Given T) (gs : List (Given T)) → flat_map f (put_before b g gs) ≡ (if b then flat_map f gs else f g ++ flat_map f gs)
  flat_put f true g gs = refl
  flat_put f false g gs = refl

  pub elements_kept : (gs : List (Given S)) → flat_map elements_of (givens_without each_one gs) ≡ aw (flat_map elements_of gs)
  elements_kept [] = refl
  elements_kept (a_literal l ∷ gs) =
      flat_put elements_of (gone l.stands) (given_without (a_literal l)) (givens_without each_one gs)
      ∙ element_before l None (flat_map elements_of gs) (flat_map elements_of (givens_without each_one gs)) (elements_kept gs) (gone l.stands)
  elements_kept (a_value v ∷ gs) = before_others v (flat_map elements_of gs) (flat_map elements_of (givens_without each_one gs)) (elements_kept gs)
  elements_kept (a_named x v ∷ gs) = ap (λ xs. other ∷ xs) (elements_kept gs)
  elements_kept (an_entry v w ∷ gs) = ap (λ xs. other ∷ xs) (elements_kept gs)

  pub unnamed_kept : (gs : List (Given S)) → flat_map unnamed_atoms (givens_without each_one gs) ≡ aw (flat_map unnamed_atoms gs)
  unnamed_kept [] = refl
  unnamed_kept (a_literal l ∷ gs) =
      flat_put unnamed_atoms (gone l.stands) (given_without (a_literal l)) (givens_without each_one gs)
      ∙ element_before l None (flat_map unnamed_atoms gs) (flat_map unnamed_atoms (givens_without each_one gs)) (unnamed_kept gs) (gone l.stands)
  unnamed_kept (a_value v ∷ gs) = before_others v (flat_map unnamed_atoms gs) (flat_map unnamed_atoms (givens_without each_one gs)) (unnamed_kept gs)
  unnamed_kept (a_named x v ∷ gs) = unnamed_kept gs
  unnamed_kept (an_entry v w ∷ gs) = unnamed_kept gs

  in_folder_before : (n : ℕ) (l : Literal S) (folder : Option ℕ) (xs : List (Atom S)) (b : Bool) → map (in_folder n) (aw xs) ≡ aw (map (in_folder n) xs)
      → map (in_folder n) (map moved (if b then element l folder ∷ stay xs else stay xs))
      ≡ map moved (if b then in_folder n (element l folder) ∷ stay (map (in_folder n) xs) else stay (map (in_folder n) xs))
  in_folder_before n l folder xs true rest = ap (λ ys. in_folder n (moved (element l folder)) ∷ ys) rest
  in_folder_before n l folder xs false rest = rest

  pub folders_kept : (n : ℕ) (xs : List (Atom S)) → map (in_folder n) (aw xs) ≡ aw (map (in_folder n) xs)
  folders_kept n [] = refl
  folders_kept n (element l folder ∷ xs) = in_folder_before n l folder xs (not (gone l.stands)) (folders_kept n xs)
  folders_kept n (single l folder ∷ xs) = ap (λ ys. in_folder n (moved (single l folder)) ∷ ys) (folders_kept n xs)
  folders_kept n (other ∷ xs) = ap (λ ys. other ∷ ys) (folders_kept n xs)

  -- ---- arguments of a target

  after_first_kept : (gs : List (Given S)) → after_first (givens_without later_ones gs) ≡ givens_without each_one (after_first gs)
  after_first_kept [] = refl
  after_first_kept (a_literal l ∷ gs) = refl
  after_first_kept (a_value v ∷ gs) = refl
  after_first_kept (a_named x v ∷ gs) = after_first_kept gs
  after_first_kept (an_entry v w ∷ gs) = after_first_kept gs

  keyword_kept : (sources kwargs : Bool) (v : Value S) (xs : List (Atom S)) (ys : List (Atom T)) → ys ≡ aw xs
      → (if sources then atoms_of (vw v) else (if kwargs then other ∷ [] else [])) ++ ys ≡ aw ((if sources then atoms_of v else (if kwargs then other ∷ [] else [])) ++ xs)
  keyword_kept true kwargs v xs ys is = before_others v xs ys is
  keyword_kept false true v xs ys is = ap (λ zs. other ∷ zs) is
  keyword_kept false false v xs ys is = is

  named_put : (b : Bool) (l : Literal T) (gs : List (Given T)) → flat_map named_atoms (put_before b (a_literal l) gs) ≡ flat_map named_atoms gs
  named_put true l gs = refl
  named_put false l gs = refl

  named_kept : (m : Loses) (gs : List (Given S)) → flat_map named_atoms (givens_without m gs) ≡ aw (flat_map named_atoms gs)
  named_kept m [] = refl
  named_kept m (a_literal l ∷ gs) =
      named_put (may_go m (gone l.stands)) (literal_as to gone l) (givens_without (loses_after_given m (a_literal l)) gs) ∙ named_kept (loses_after_given m (a_literal l)) gs
  named_kept nothing (a_value v ∷ gs) = named_kept nothing gs
  named_kept later_ones (a_value v ∷ gs) = named_kept each_one gs
  named_kept each_one (a_value v ∷ gs) = named_kept each_one gs
  named_kept nothing (a_named x v ∷ gs) = keyword_kept (bytes_eq x sources_key) (bytes_eq x kwargs_key) v (flat_map named_atoms gs) (flat_map named_atoms (givens_without nothing gs)) (named_kept nothing gs)
  named_kept later_ones (a_named x v ∷ gs) = keyword_kept (bytes_eq x sources_key) (bytes_eq x kwargs_key) v (flat_map named_atoms gs) (flat_map named_atoms (givens_without later_ones gs)) (named_kept later_ones gs)
  named_kept each_one (a_named x v ∷ gs) = keyword_kept (bytes_eq x sources_key) (bytes_eq x kwargs_key) v (flat_map named_atoms gs) (flat_map named_atoms (givens_without each_one gs)) (named_kept each_one gs)
  named_kept nothing (an_entry v w ∷ gs) = named_kept nothing gs
  named_kept later_ones (an_entry v w ∷ gs) = named_kept later_ones gs
  named_kept each_one (an_entry v w ∷ gs) = named_kept each_one gs

  pub sources_kept : (gs : List (Given S)) → sources_of (givens_without later_ones gs) ≡ aw (sources_of gs)
  sources_kept gs =
      both_lists (ap (flat_map unnamed_atoms) (after_first_kept gs) ∙ unnamed_kept (after_first gs)) (named_kept later_ones gs)
      ∙ sym (atoms-append (flat_map unnamed_atoms (after_first gs)) (flat_map named_atoms gs))

  -- ---- values that are used

  first_kept : (gs : List (Given S)) → first_values (givens_without later_ones gs) ≡ map vw (first_values gs)
  first_kept [] = refl
  first_kept (a_literal l ∷ gs) = refl
  first_kept (a_value v ∷ gs) = refl
  first_kept (a_named x v ∷ gs) = first_kept gs
  first_kept (an_entry v w ∷ gs) = first_kept gs

  other_keyword : (sources : Bool) (v : Value S) (vs : List (Value S)) (ws : List (Value T)) → ws ≡ map vw vs
      → (if sources then [] else vw v ∷ []) ++ ws ≡ map vw ((if sources then [] else v ∷ []) ++ vs)
  other_keyword true v vs ws is = is
  other_keyword false v vs ws is = ap (λ us. vw v ∷ us) is

  keywords_put : (b : Bool) (l : Literal T) (gs : List (Given T)) → flat_map keyword_values (put_before b (a_literal l) gs) ≡ flat_map keyword_values gs
  keywords_put true l gs = refl
  keywords_put false l gs = refl

  keywords_kept : (m : Loses) (gs : List (Given S)) → flat_map keyword_values (givens_without m gs) ≡ map vw (flat_map keyword_values gs)
  keywords_kept m [] = refl
  keywords_kept m (a_literal l ∷ gs) =
      keywords_put (may_go m (gone l.stands)) (literal_as to gone l) (givens_without (loses_after_given m (a_literal l)) gs) ∙ keywords_kept (loses_after_given m (a_literal l)) gs
  keywords_kept nothing (a_value v ∷ gs) = keywords_kept nothing gs
  keywords_kept later_ones (a_value v ∷ gs) = keywords_kept each_one gs
  keywords_kept each_one (a_value v ∷ gs) = keywords_kept each_one gs
  keywords_kept nothing (a_named x v ∷ gs) = other_keyword (bytes_eq x sources_key) v (flat_map keyword_values gs) (flat_map keyword_values (givens_without nothing gs)) (keywords_kept nothing gs)
  keywords_kept later_ones (a_named x v ∷ gs) = other_keyword (bytes_eq x sources_key) v (flat_map keyword_values gs) (flat_map keyword_values (givens_without later_ones gs)) (keywords_kept later_ones gs)
  keywords_kept each_one (a_named x v ∷ gs) = other_keyword (bytes_eq x sources_key) v (flat_map keyword_values gs) (flat_map keyword_values (givens_without each_one gs)) (keywords_kept each_one gs)
  keywords_kept nothing (an_entry v w ∷ gs) = keywords_kept nothing gs
  keywords_kept later_ones (an_entry v w ∷ gs) = keywords_kept later_ones gs
  keywords_kept each_one (an_entry v w ∷ gs) = keywords_kept each_one gs

  pub target_uses_kept : (gs : List (Given S)) → first_values (givens_without later_ones gs) ++ flat_map keyword_values (givens_without later_ones gs) ≡ map vw (first_values gs ++ flat_map keyword_values gs)
  target_uses_kept gs = both_lists (first_kept gs) (keywords_kept later_ones gs) ∙ sym (map-append vw (first_values gs) (flat_map keyword_values gs))

  -- of another call
  pub values_kept : (gs : List (Given S)) → flat_map values_of (givens_without nothing gs) ≡ map vw (flat_map values_of gs)
  values_kept [] = refl
  values_kept (a_literal l ∷ gs) = ap (λ vs. text (Some (literal_as to gone l)) ∷ vs) (values_kept gs)
  values_kept (a_value v ∷ gs) = ap (λ vs. vw v ∷ vs) (values_kept gs)
  values_kept (a_named x v ∷ gs) = ap (λ vs. vw v ∷ vs) (values_kept gs)
  values_kept (an_entry v w ∷ gs) = ap (λ vs. vw v ∷ vw w ∷ vs) (values_kept gs)
