-- The lists of a value that stands in a project stand there, each open for elements without a name.
use Rattle.std.proofs.Common.{◌≡◌, ℕ, zero, suc, ◌+◌, ◌-◌, ◌<◌, true, false, List, [], ◌∷◌, get_or, length, map, Some, None, refl, sym, ap, ◌∙◌, subst, arith}
use Rattle.std.specs.Prelude.{Bool, bytes_eq, codes, if◌then◌else◌, option_map, slice_get}
use Rattle.std.specs.List.{list_all}
use Rattle.std.proofs.lemmas.Bool.{and_parts}
use Rattle.std.proofs.lemmas.List.{length-map}
use Rattle.std.proofs.lemmas.Option.{slice_get-map}
use Rattle.meson_lex.specs.declared.kinds.Span.{Span}
use Rattle.meson_syntax.specs.declared.operator.Bracket.{Bracket}
use Rattle.meson_syntax.specs.declared.operator.Bracket.TheVariants as bracket
use Rattle.meson_syntax.specs.Children.{an_expression}
use Rattle.meson_syntax.specs.inside.Children.{expression_parts, operands_parts}
use Rattle.meson_syntax.specs.Paths.{ListIn, list_in, nth}
use Rattle.meson_syntax.specs.Tree.{Argument, Expression, array, call, row, Operands, no_operands, operand}
use Rattle.meson_syntax.proofs.parsing.Steps.{some-injective}
use Rattle.meson_edit.specs.Edits.{elements}
use Rattle.meson_calls.specs.declared.call.CallRef.{CallRef}
use Rattle.meson_calls.specs.GoodLists.{GoodArgs}
use Rattle.meson_calls.specs.Project.{Project, child, expression_at}
use Rattle.meson_calls.proofs.ExpressionsAt.{child_stands}
use Rattle.meson_places.specs.declared.value_lists.FoundList.{FoundList}
use Rattle.meson_places.specs.Slots.{elements_in, has_no_name}
use Rattle.meson_places.specs.ValueLists.{ValueList, and_more, are_plus, is_list, last_of, lists_of, operand_lists, own_list}
use Rattle.meson_places.specs.inside.Found.{AreGoodLists}

-- elements without a name may come behind these
abbrev pub IsOpen : {S : Type 0} → Bracket → List (Argument S) → Type 0
IsOpen bracket.Square xs = Unit {0}
IsOpen bracket.Round xs = list_all has_no_name xs ≡ true
IsOpen bracket.Curly xs = ⊥

pub record ListThere (p : Project Span) (l : ValueList Span) : Type 0 where
  pub value : Expression Span
  pub is_at : expression_at p l.place ≡ Some value
  pub list : ListIn Span
  pub is_list : list_in value ≡ Some list
  pub are : elements list.list ≡ l.elements
  pub opened : IsOpen list.bracket l.elements

abbrev pub AllThere : Project Span → List (ValueList Span) → Type 0
AllThere p [] = Unit {0}
AllThere p (l ∷ ls) = ListThere p l × AllThere p ls

record Own (e : Expression Span) (xs : List (Argument Span)) : Type 0 where
  list : ListIn Span
  is_list : list_in e ≡ Some list
  are : elements list.list ≡ xs
  opened : IsOpen list.bracket xs

own : (e : Expression Span) → is_list e ≡ true → Own e (elements_in e)
own (array l) is = record { list = _; is_list = refl; are = refl; opened = tt }
own (call s f l) is = record { list = _; is_list = refl; are = refl; opened = (and_parts (bytes_eq f.text (codes "files")) (list_all has_no_name (elements l)) is).1 }
own _ is = absurd (let no : ⊥ = cc in no)

module _ (p : Project Span) where
  more_there : (c : CallRef) (e : Expression Span) → expression_at p c ≡ Some e → (ls : List (ValueList Span)) → AllThere p ls → AllThere p (and_more (own_list c e) ls)
  more_there c e at_ ls all = go (is_list e) refl
    where
      go : (b : Bool) → is_list e ≡ b → AllThere p (and_more (if b then Some (record { place = c; elements = elements_in e }) else None) ls)
      go false is = all
      go true is = let o = own e is in (record { value = e; is_at = at_; list = o.list; is_list = o.is_list; are = o.are; opened = o.opened }, all)

  module _ (c : CallRef) (whole : Expression Span) (at_ : expression_at p c ≡ Some whole) where
    operands_there : (os : Operands Span) (n : ℕ) → ((j : ℕ) → nth (expression_parts whole) (n + j) ≡ nth (operands_parts os) j) → AllThere p (operand_lists c n os)
    operands_there no_operands n parts = tt
    operands_there (operand o e more) n parts =
        let zero_more : n + 0 ≡ n = omega arith in
        let here : nth (expression_parts whole) n ≡ Some (an_expression e) = ap (nth (expression_parts whole)) (sym zero_more) ∙ parts 0 in
        more_there (child c n) e (child_stands p c whole at_ n e here) (operand_lists c (suc n) more)
        (operands_there more (suc n) (λ j. let next : suc n + j ≡ n + suc j = omega arith in ap (nth (expression_parts whole)) next ∙ parts (suc j)))

  sum_there : (c : CallRef) (s : Span) (e : Expression Span) (os : Operands Span) → expression_at p c ≡ Some (row s e os) → AllThere p (lists_of c (row s e os))
  sum_there c s e os at_ = go (are_plus os)
    where
      go : (b : Bool) → AllThere p (if b then and_more (own_list (child c 0) e) (operand_lists c 1 os) else [])
      go false = tt
      go true = more_there (child c 0) e (child_stands p c (row s e os) at_ 0 e refl) (operand_lists c 1 os) (operands_there c (row s e os) at_ os 1 (λ j. let next : 1 + j ≡ suc j = omega arith in ap (nth (expression_parts (row s e os))) next))

  pub lists_there : (c : CallRef) (e : Expression Span) → expression_at p c ≡ Some e → AllThere p (lists_of c e)
  lists_there c (row s e os) at_ = sum_there c s e os at_
  lists_there c e at_ = more_there c e at_ [] tt

  pub last_there : (ls : List (ValueList Span)) → AllThere p ls → (l : ValueList Span) → last_of ls ≡ Some l → ListThere p l
  last_there [] all l is = absurd (let no : ⊥ = cc in no)
  last_there (x ∷ []) all l is = subst (ListThere p) (some-injective x l is) all.0
  last_there (x ∷ y ∷ more) all l is = last_there (y ∷ more) all.1 l is

-- the last of some lists as the code has it
pub last_at : {X : Type 0} (xs : List X) → last_of xs ≡ slice_get xs (length xs - 1)
last_at [] = refl
last_at (x ∷ []) = refl
last_at (x ∷ y ∷ more) =
    let next : length (x ∷ y ∷ more) - 1 ≡ suc (length (y ∷ more) - 1) = omega arith in
    last_at (y ∷ more) ∙ ap (slice_get (x ∷ y ∷ more)) (sym next)

pub last_got : {X Y : Type 0} (f : X → Y) (xs : List X) → last_of (map f xs) ≡ option_map f (slice_get xs (length xs - 1))
last_got f xs = last_at (map f xs) ∙ ap (λ n. slice_get (map f xs) (n - 1)) (length-map xs f) ∙ slice_get-map f xs (length xs - 1)

-- the elements of one of some lists
pub good_list : (source : List ℕ) (ls : List FoundList) (i : ℕ) (d : FoundList) → i < length ls → AreGoodLists source ls → GoodArgs source (get_or ls i d).elements.now
good_list source [] i d within all = absurd (omega (arith, within))
good_list source (l ∷ ls) zero d within all = all.0
good_list source (l ∷ ls) (suc i) d within all = good_list source ls i d (omega (arith, within)) all.1

pub good_got : (source : List ℕ) (ls : List FoundList) (i : ℕ) (l : FoundList) → Some l ≡ slice_get ls i → AreGoodLists source ls → GoodArgs source l.elements.now
good_got source [] i l is all = absurd (let no : ⊥ = cc in no)
good_got source (m ∷ ls) zero l is all = let same : m ≡ l = cc in subst (λ k. GoodArgs source k.elements.now) same all.0
good_got source (m ∷ ls) (suc i) l is all = good_got source ls i l is all.1
