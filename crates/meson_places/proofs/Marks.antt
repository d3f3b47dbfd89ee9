-- The first element that says a value: what is found, and how a loop over lists finds it.
use Rattle.std.proofs.Common.{◌≡◌, ℕ, suc, ◌+◌, ◌<◌, true, false, List, [], ◌∷◌, length, get_or, drop, take, Option, Some, None, refl, sym, ap, ◌∙◌, arith, add-one}
use Rattle.std.specs.Prelude.{Bool, ◌||◌, if◌then◌else◌}
use Rattle.std.specs.List.{list_any}
use Rattle.meson_lex.specs.declared.kinds.Span.{Span}
use Rattle.meson_syntax.specs.declared.tree.Arg.{Arg}
use Rattle.meson_syntax.specs.Paths.{nth}
use Rattle.meson_syntax.specs.Tree.{Argument}
use Rattle.meson_syntax.specs.View.{arg_view, args_view}
use Rattle.meson_steps.specs.declared.given.Given.{Given}
use Rattle.meson_places.specs.declared.insertions.Mark.{Mark}
use Rattle.meson_places.specs.Equality.{element_says, lists_say}
use Rattle.meson_places.specs.Insertions.{find_mark, number_saying, or_later}
use Rattle.meson_places.specs.Laws.{IsFirstSaying}
use Rattle.meson_places.specs.ValueLists.{ValueList}
use Rattle.meson_places.proofs.ListElements.{rest_is}

-- ---- one after another

module _ (source : List ℕ) (g : Given) (args : List Arg) (i : ℕ) (d : Arg) (within : i < length args) where
  abbrev later : Option ℕ
  later = number_saying source g (i + 1) (args_view source (drop (i + 1) args))

  here : (b : Bool) → element_says source g (arg_view source (get_or args i d)) ≡ b → number_saying source g i (args_view source (drop i args)) ≡ (if b then Some i else later)
  here b is =
      ap (number_saying source g i) (rest_is source args i d within)
      ∙ ap (λ n. if element_says source g (arg_view source (get_or args i d)) then Some i else number_saying source g n (args_view source (drop (i + 1) args))) (sym (add-one i))
      ∙ ap (λ c. if c then Some i else later) is

  pub number_here : element_says source g (arg_view source (get_or args i d)) ≡ true → number_saying source g i (args_view source (drop i args)) ≡ Some i
  number_here holds = here true holds

  pub number_more : element_says source g (arg_view source (get_or args i d)) ≡ false → number_saying source g i (args_view source (drop i args)) ≡ later
  number_more fails = here false fails

-- ---- what is found

module _ (source : List ℕ) (g : Given) where
  record Found (xs : List (Argument Span)) (i n : ℕ) : Type 0 where
    steps : ℕ
    is : n ≡ i + steps
    element : Argument Span
    is_element : nth xs steps ≡ Some element
    says_it : element_says source g element ≡ true
    none_before : list_any (element_says source g) (take steps xs) ≡ false

  found : (xs : List (Argument Span)) (i n : ℕ) → number_saying source g i xs ≡ Some n → Found xs i n
  found [] i n is = absurd (let no : ⊥ = cc in no)
  found (x ∷ xs) i n is = go (element_says source g x) refl is (found xs (suc i) n)
    where
      go : (b : Bool) → element_says source g x ≡ b → (if b then Some i else number_saying source g (suc i) xs) ≡ Some n → (number_saying source g (suc i) xs ≡ Some n → Found xs (suc i) n) → Found (x ∷ xs) i n
      go true here h rest = let same : i ≡ n = cc in record { steps = 0; is = omega (arith, same); element = x; is_element = refl; says_it = here; none_before = refl }
      go false here h rest =
          let f = rest h in
          record { steps = suc f.steps; is = omega (arith, f.is); element = f.element; is_element = f.is_element; says_it = f.says_it; none_before = ap (λ b. b || list_any (element_says source g) (take f.steps xs)) here ∙ f.none_before }

  none_found : (xs : List (Argument Span)) (i : ℕ) → number_saying source g i xs ≡ None → list_any (element_says source g) xs ≡ false
  none_found [] i is = refl
  none_found (x ∷ xs) i is = go (element_says source g x) refl is (none_found xs (suc i))
    where
      go : (b : Bool) → element_says source g x ≡ b → (if b then Some i else number_saying source g (suc i) xs) ≡ None → (number_saying source g (suc i) xs ≡ None → list_any (element_says source g) xs ≡ false)
          → list_any (element_says source g) (x ∷ xs) ≡ false
      go true here h rest = absurd (let no : ⊥ = cc in no)
      go false here h rest = ap (λ b. b || list_any (element_says source g) xs) here ∙ rest h

  pub first_found : (ls : List (ValueList Span)) (m : Mark) → find_mark source g ls ≡ Some m → IsFirstSaying source g ls m
  first_found [] m is = absurd (let no : ⊥ = cc in no)
  first_found (l ∷ ls) m is = go (number_saying source g 0 l.elements) refl is (first_found ls m)
    where
      go : (o : Option ℕ) → number_saying source g 0 l.elements ≡ o → or_later l.place o (find_mark source g ls) ≡ Some m → (find_mark source g ls ≡ Some m → IsFirstSaying source g ls m) → IsFirstSaying source g (l ∷ ls) m
      go (Some n) here h rest =
          let f = found l.elements 0 n here in
          let same : record { list = l.place; number = n } ≡ m = cc in
          let number : f.steps ≡ m.number = omega (arith, f.is, ap (λ (k : Mark). k.number) same) in
          record {
            front = [];
            list = l;
            back = ls;
            are = refl;
            is_place = ap (λ (k : Mark). k.list) same;
            none_in_front = refl;
            element = f.element;
            is_element = ap (nth l.elements) (sym number) ∙ f.is_element;
            says_it = f.says_it;
            none_before = ap (λ k. list_any (element_says source g) (take k l.elements)) (sym number) ∙ f.none_before;
          }
      go None here h rest =
          let r = rest h in
          record {
            front = l ∷ r.front;
            list = r.list;
            back = r.back;
            are = ap (λ xs. l ∷ xs) r.are;
            is_place = r.is_place;
            none_in_front = ap (λ b. b || lists_say source r.front g) (none_found l.elements 0 here) ∙ r.none_in_front;
            element = r.element;
            is_element = r.is_element;
            says_it = r.says_it;
            none_before = r.none_before;
          }
