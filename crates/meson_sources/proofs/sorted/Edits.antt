-- Edits of one list, one after another: what its elements become, that all else stays, and that they may be done where they put texts beside or in the place of
-- elements without a name.
use Rattle.meson_edit.specs.Edits.{Replace}
use Rattle.meson_edit.specs.Places.{IsWritten}
use Rattle.meson_edit.proofs.sequences.Deepened.{edits-deepen, firsts-stay-within, insertions-stay-within}
use Rattle.meson_edit.proofs.sequences.Levelled.{firsts-keep-levels, replacements-keep-levels}
use Rattle.meson_syntax.specs.Grammar.{argument_depth, expression_depth}
use Rattle.meson_edit.specs.Sequences.{MayFollow}
use Rattle.meson_syntax.specs.Grammar.{LevelArgument}
use Rattle.meson_syntax.specs.declared.operator.Bracket.TheVariants as bracket
use Rattle.meson_sources.proofs.Words.{Bracket, is_named}
use Rattle.meson_steps.proofs.StepsDoable.{step_doable}
use Rattle.meson_sources.proofs.Words.{All, All-set, option_and_then, option_map, slice_set, [], ap, arith, drop, false, List, map, Option, refl, Some, subst, suc, sym, take, true}
use Rattle.meson_sources.proofs.Words.{ℕ, ◌++◌, ◌∙◌, ◌∷◌, ◌≡◌, ◌≤◌, expression_words, file_depth, holds_values, LevelExpression, LevelFile, list_at, ListAt, nth}
use Rattle.meson_sources.proofs.Words.{Argument, Expression, Nowhere, Plain, plain, some-injective, and-then-some, After, Edit, edited, edited_elements, edited_list}
use Rattle.meson_sources.proofs.Words.{element_added, elements, exchanged, First, with_elements, Written, insertions-keep-levels, CallRef, AreDoable, MayStandBetween, none}
use Rattle.meson_sources.proofs.Words.{all_stepped, step_in, stepped, edited_there, elements_with, there_again, all_nth, changed_there, elements_found, OnlyList}
use Rattle.meson_sources.proofs.SourcesAdded.{one_edit}
use Rattle.meson_sources.proofs.added.Lists.{both_only, edit_only, unchanged}

may_follow : (b : Bracket) (it : Argument Nowhere) (behind : List (Argument Nowhere)) (e : Expression Nowhere) → holds_values b ≡ true → is_named it ≡ false → LevelExpression e → MayFollow b it behind (plain e)
may_follow bracket.Square it behind e holds no_name level = level
may_follow bracket.Round it behind e holds no_name level = (no_name, level)
may_follow bracket.Curly it behind e holds no_name level = absurd cc

level_first : (b : Bracket) (e : Expression Nowhere) → holds_values b ≡ true → LevelExpression e → LevelArgument (plain e) b false
level_first bracket.Square e holds level = (refl, refl, level)
level_first bracket.Round e holds level = (refl, refl, level)
level_first bracket.Curly e holds level = absurd cc

-- ==== What they make.

-- the elements after edits of their list
abbrev pub all_edited : List Edit → List (Argument Nowhere) → Option (List (Argument Nowhere))
all_edited [] xs = Some xs
all_edited (e ∷ es) xs = option_and_then (all_edited es) (edited_elements e xs)

-- each is an edit of the list at this path
abbrev pub AreOfList : List ℕ → List Edit → Type 0
AreOfList path [] = Unit {0}
AreOfList path (e ∷ es) = ((t : Plain) → edited e t ≡ edited_list e path t) × AreOfList path es

module _ (list : CallRef) where
  -- the list has its elements as they are edited, and all else is as it was
  pub record ListEdited (es : List Edit) (xs : List (Argument Nowhere)) (trees after : List Plain) : Type 0 where
    pub ys : List (Argument Nowhere)
    pub are : all_edited es xs ≡ Some ys
    pub has : elements_found list after ≡ Some ys
    pub only : OnlyList list trees after

  pub list_edited : (es : List Edit) → AreOfList list.path.steps es → (xs : List (Argument Nowhere)) (trees after : List Plain) → elements_found list trees ≡ Some xs → all_stepped (map (step_in list) es) trees ≡ Some after → ListEdited es xs trees after
  list_edited [] of_list xs trees after had made =
      let same = some-injective _ _ made in
      record { ys = xs; are = refl; has = ap (elements_found list) (sym same) ∙ had; only = subst (OnlyList list trees) same (unchanged list trees xs had) }
  list_edited (e ∷ es) of_list xs trees after had made =
      let s = and-then-some (all_stepped (map (step_in list) es)) (stepped (step_in list e) trees) after made in
      let o = one_edit list e of_list.0 trees s.0 s.1 xs had in
      let r = list_edited es of_list.1 o.ys s.0 after o.has s.2 in
      record {
        ys = r.ys;
        are = ap (option_and_then (all_edited es)) o.are ∙ r.are;
        has = r.has;
        only = both_only list trees s.0 after (edit_only list e of_list.0 trees s.0 s.1) r.only;
      }

-- ==== That they may be done.

-- an expression that nests nothing, as it is written
pub record IsFlat (w : Written (Expression Nowhere)) : Type 0 where
  pub written : IsWritten w.bytes (expression_words w.node)
  pub level : LevelExpression w.node
  pub flat : expression_depth w.node ≡ 0

abbrev pub element_of : Written (Expression Nowhere) → Written (Argument Nowhere)
element_of w = record { bytes = w.bytes; node = plain w.node }

-- edits that may be done one after another where the list has these elements
pub data MayBeEdited (path : List ℕ) : List Edit → List (Argument Nowhere) → Type 0 where
  unedited : (xs : List (Argument Nowhere)) → MayBeEdited path [] xs
  alone : (w : Written (Expression Nowhere)) (es : List Edit) → IsFlat w → MayBeEdited path es (plain w.node ∷ []) → MayBeEdited path (First path (element_of w) ∷ es) []
  behind : (n : ℕ) (w : Written (Expression Nowhere)) (it : Expression Nowhere) (es : List Edit) (xs : List (Argument Nowhere)) → IsFlat w → nth xs n ≡ Some (plain it)
      → MayBeEdited path es (element_added n (plain w.node) xs (plain it)) → MayBeEdited path (After path n (element_of w) ∷ es) xs
  instead : (n : ℕ) (w : Written (Expression Nowhere)) (it : Expression Nowhere) (es : List Edit) (xs : List (Argument Nowhere)) → IsFlat w → nth xs n ≡ Some (plain it)
      → MayBeEdited path es (take n xs ++ plain w.node ∷ drop (suc n) xs) → MayBeEdited path (Replace path n w ∷ es) xs

-- the list is there, with these elements
pub record Stands (t : Plain) (path : List ℕ) (xs : List (Argument Nowhere)) : Type 0 where
  pub place : ListAt Nowhere
  pub is_place : list_at t path ≡ Some place
  pub are : elements place.list ≡ xs
  pub holds : holds_values place.bracket ≡ true

module _ (list : CallRef) where
  abbrev path : List ℕ
  path = list.path.steps

  -- the tree with other elements in the list
  abbrev with_list : (t : Plain) (xs : List (Argument Nowhere)) → Stands t path xs → List (Argument Nowhere) → Plain
  with_list t xs s ys = s.place.back (with_elements s.place.list ys)

  stands_with : (t : Plain) (xs : List (Argument Nowhere)) (s : Stands t path xs) (ys : List (Argument Nowhere)) → Stands (with_list t xs s ys) path ys
  stands_with t xs s ys =
      let again = there_again t path s.place s.is_place ys in
      record { place = again.there; is_place = again.is_there; are = ap elements again.list ∙ elements_with s.place.list ys; holds = ap holds_values again.bracket ∙ s.holds }

  made_there : (t : Plain) (xs : List (Argument Nowhere)) (s : Stands t path xs) (e : Edit) → ((u : Plain) → edited e u ≡ edited_list e path u) → (ys : List (Argument Nowhere)) → edited_elements e xs ≡ Some ys → edited e t ≡ Some (with_list t xs s ys)
  made_there t xs s e of_list ys is = of_list t ∙ edited_there t path s.place s.is_place e ys (ap (edited_elements e) s.are ∙ is)

  within : (t now : Plain) → MayStandBetween t → LevelFile now → file_depth now ≤ file_depth t → MayStandBetween now
  within t now stands level depth = let was = stands.1 in (level, omega (arith, was, depth))

  pub may_be_done : (es : List Edit) (xs : List (Argument Nowhere)) → MayBeEdited path es xs → (trees : List Plain) (t : Plain) → nth trees list.file ≡ Some t → All MayStandBetween trees → Stands t path xs
      → AreDoable (map (step_in list) es) trees
  may_be_done _ _ (unedited xs) trees t is all s = none trees
  may_be_done _ _ (alone w es f rest) trees t is all s =
      let e = First path (element_of w) in
      let stands = all_nth MayStandBetween trees list.file t all is in
      let now = with_list t [] s (plain w.node ∷ []) in
      let made = made_there t [] s e (λ u. refl) (plain w.node ∷ []) refl in
      let flat : argument_depth (plain w.node) ≡ 0 = f.flat in
      let level = firsts-keep-levels path (element_of w) t now s.place s.is_place (level_first s.place.bracket w.node s.holds f.level) stands.0 made in
      let may = within t now stands level (firsts-stay-within path (element_of w) flat t now made) in
      step_doable (step_in list e) (map (step_in list) es) trees t now is made f.written all may
      (may_be_done es (plain w.node ∷ []) rest (slice_set trees list.file now) now (changed_there trees list.file t now is) (All-set MayStandBetween trees list.file now may all) (stands_with t [] s (plain w.node ∷ [])))
  may_be_done _ _ (behind n w it es xs f there rest) trees t is all s =
      let e = After path n (element_of w) in
      let ys = element_added n (plain w.node) xs (plain it) in
      let stands = all_nth MayStandBetween trees list.file t all is in
      let now = with_list t xs s ys in
      let made = made_there t xs s e (λ u. refl) ys (ap (option_map (element_added n (plain w.node) xs)) there) in
      let flat : argument_depth (plain w.node) ≡ 0 = f.flat in
      let here = ap (λ l. nth l n) s.are ∙ there in
      let level = insertions-keep-levels path n (element_of w) t now s.place s.is_place (plain it) here (may_follow s.place.bracket (plain it) (drop (suc n) (elements s.place.list)) w.node s.holds refl f.level) stands.0 made in
      let may = within t now stands level (insertions-stay-within path n (element_of w) flat t now made) in
      step_doable (step_in list e) (map (step_in list) es) trees t now is made f.written all may
      (may_be_done es ys rest (slice_set trees list.file now) now (changed_there trees list.file t now is) (All-set MayStandBetween trees list.file now may all) (stands_with t xs s ys))
  may_be_done _ _ (instead n w it es xs f there rest) trees t is all s =
      let e = Replace path n w in
      let ys = take n xs ++ plain w.node ∷ drop (suc n) xs in
      let stands = all_nth MayStandBetween trees list.file t all is in
      let now = with_list t xs s ys in
      let made = made_there t xs s e (λ u. refl) ys (ap (option_and_then (exchanged n (λ v. w.node) xs)) there) in
      let deep = edits-deepen e path refl t now made in
      let flat = f.flat in
      let level = replacements-keep-levels path n w f.level t now stands.0 made in
      let depth : file_depth now ≤ file_depth t = omega (arith, deep, flat) in
      let may = within t now stands level depth in
      step_doable (step_in list e) (map (step_in list) es) trees t now is made f.written all may
      (may_be_done es ys rest (slice_set trees list.file now) now (changed_there trees list.file t now is) (All-set MayStandBetween trees list.file now may all) (stands_with t xs s ys))
