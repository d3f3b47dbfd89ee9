-- What variables stand for without spans, and what marks tell.
use Rattle.meson_variables.specs.Expansion.{is_list_operand}
use Rattle.meson_sources.proofs.Words.{filter, bytes_eq, codes, if◌then◌else◌, not, Ok, ok_or, option_and_then, option_map, ◌&&◌, [], ap, ap₂, Bool, false}
use Rattle.meson_sources.proofs.Words.{List, map, None, Option, refl, Some, suc, sym, true, zero, ℕ, ◌++◌, ◌+◌, ◌∙◌, ◌∷◌, ◌≡◌, map-append, then_ok, value}
use Rattle.meson_sources.proofs.Words.{string_kind, Argument, argument, Arguments, array, call, erase_argument, erase_arguments, erase_expression}
use Rattle.meson_sources.proofs.Words.{erase_listing, erase_operands, Expression, identifier, Listing, listing, named, no_arguments, no_operands, Nowhere}
use Rattle.meson_sources.proofs.Words.{operand, Operands, pair, plain, row, string, Placed, placed, Project, one_of, CallRef, NotRemovable, are_plus}
use Rattle.meson_sources.proofs.Words.{both_expanded, element, empty, expand, expand_argument, expand_by, expand_each, expand_listing, expand_operands}
use Rattle.meson_sources.proofs.Words.{Expansion, follow_single, has_names, is_files, is_list_variable, is_operand_by, is_plus, is_single_by, is_value_by, Item}
use Rattle.meson_sources.proofs.Words.{known, literal_item, Mark, max_followed, met, of_variable, opaque, operand_at, or_empty, Stand, within, items}
use Rattle.meson_sources.proofs.Words.{opaque_count, single, has_text, items_of, spot_of, spots_by, spots_named, spots_of}

-- ==== What variables stand for, in trees without spans; and that an expansion looks at no span.

-- ---- what variables stand for

abbrev pub Values : Type 0
Values = List ℕ → Option (Placed (Expression Nowhere))

abbrev pub list_by : Values → ℕ → List ℕ → Bool
list_by values zero x = false
list_by values (suc left) x = is_single_by (is_operand_by (list_by values left)) (values x)

unfoldable pub lists_by : Values → Expression Nowhere → Bool
lists_by values = is_operand_by (list_by values max_followed)

abbrev pub expand_with : Values → ℕ → Expression Nowhere → Stand → List (List ℕ) → Expansion Nowhere
expand_with values zero = expand_by (lists_by values) (λ x followed. met opaque followed)
expand_with values (suc left) = expand_by (lists_by values) (λ x followed. follow_single (expand_with values left) x followed (values x))

-- ---- without spans

abbrev pub bare_mark : {S : Type 0} → Mark S → Mark Nowhere
bare_mark (known i) = known (record { text = i.text; stands = tt; place = i.place; slot = i.slot; variable = i.variable })
bare_mark opaque = opaque
bare_mark (empty p) = empty p

abbrev pub bare : {S : Type 0} → Expansion S → Expansion Nowhere
bare e = record { marks = map bare_mark e.marks; followed = e.followed }

abbrev pub bare_value : {S : Type 0} → Placed (Expression S) → Placed (Expression Nowhere)
bare_value v = placed v.place (erase_expression v.it)

abbrev pub values_of : {S : Type 0} → Project S → Values
values_of p x = option_map bare_value (single p x)

module _ {S : Type 0} where
  names_bare : (list : Arguments S) → has_names (erase_arguments list) ≡ has_names list
  names_bare no_arguments = refl
  names_bare (argument (plain e) more) = names_bare more
  names_bare (argument (named s x e) more) = refl
  names_bare (argument (pair s e f) more) = names_bare more

  pub files_bare : (f : List ℕ) (l : Listing S) → is_files f (erase_listing l) ≡ is_files f l
  files_bare f (listing s trailing list) = ap (λ b. bytes_eq f (codes "files") && not b) (names_bare list)

  plus_bare : (os : Operands S) → are_plus (erase_operands os) ≡ are_plus os
  plus_bare no_operands = refl
  plus_bare (operand o e more) = ap (λ b. is_plus o && b) (plus_bare more)

  -- ---- which are lists

  operand_bare : (few many : List ℕ → Bool) → ((x : List ℕ) → few x ≡ many x) → (e : Expression S) → is_operand_by few (erase_expression e) ≡ is_operand_by many e
  operand_bare few many alike (array l) = refl
  operand_bare few many alike (call at_ f l) = files_bare f.text l
  operand_bare few many alike (identifier at_ x) = alike x
  operand_bare few many alike _ = refl

  value_bare : (few : Expression Nowhere → Bool) (many : Expression S → Bool) → ((e : Expression S) → few (erase_expression e) ≡ many e) → (e : Expression S) → is_value_by few (erase_expression e) ≡ is_value_by many e
  value_bare few many alike (array l) = refl
  value_bare few many alike (call at_ f l) = files_bare f.text l
  value_bare few many alike (row at_ e os) = ap₂ (λ a b. a && b) (plus_bare os) (alike e)
  value_bare few many alike _ = refl

  single_bare : (few : Expression Nowhere → Bool) (many : Expression S → Bool) → ((e : Expression S) → few (erase_expression e) ≡ many e) → (o : Option (Placed (Expression S))) → is_single_by few (option_map bare_value o) ≡ is_single_by many o
  single_bare few many alike None = refl
  single_bare few many alike (Some v) = value_bare few many alike v.it

  list_bare : (p : Project S) (left : ℕ) (x : List ℕ) → list_by (values_of p) left x ≡ is_list_variable p left x
  list_bare p zero x = refl
  list_bare p (suc left) x =
      single_bare (is_operand_by (list_by (values_of p) left)) (is_operand_by (is_list_variable p left))
      (operand_bare (list_by (values_of p) left) (is_list_variable p left) (list_bare p left)) (single p x)

  lists_bare : (p : Project S) (e : Expression S) → lists_by (values_of p) (erase_expression e) ≡ is_list_operand p e
  unfolding lists_by is_list_operand
  lists_bare p e = operand_bare (list_by (values_of p) max_followed) (is_list_variable p max_followed) (list_bare p max_followed) e

  -- ---- expansions

  within_bare : (p : CallRef) (e : Expansion S) → within p (bare e) ≡ bare (within p e)
  within_bare p e = ap (λ ms. record { marks = ms; followed = e.followed }) (go e.marks)
    where
      go : (ms : List (Mark S)) → or_empty p (map bare_mark ms) ≡ map bare_mark (or_empty p ms)
      go [] = refl
      go (m ∷ ms) = refl

  pub both_bare : (e f : Expansion S) → both_expanded (bare e) (bare f) ≡ bare (both_expanded e f)
  both_bare e f = ap (λ ms. record { marks = ms; followed = f.followed }) (sym (map-append bare_mark e.marks f.marks))

  literal_bare : (at_ : S) (s : Stand) (followed : List (List ℕ)) (o : Option (List ℕ)) → literal_item tt s followed o ≡ bare (literal_item at_ s followed o)
  literal_bare at_ s followed None = refl
  literal_bare at_ s followed (Some x) = refl

  either_bare : (a b : Bool) → a ≡ b → (yea nay : Expansion Nowhere) (yea2 nay2 : Expansion S) → yea ≡ bare yea2 → nay ≡ bare nay2 → (if a then yea else nay) ≡ bare (if b then yea2 else nay2)
  either_bare a true is yea nay yea2 nay2 one other = ap (λ c. if c then yea else nay) is ∙ one
  either_bare a false is yea nay yea2 nay2 one other = ap (λ c. if c then yea else nay) is ∙ other

  module _ (few : Expression Nowhere → Bool) (many : Expression S → Bool) (alike : (e : Expression S) → few (erase_expression e) ≡ many e)
      (follow : List ℕ → List (List ℕ) → Expansion Nowhere) (follows : List ℕ → List (List ℕ) → Expansion S) (same : (x : List ℕ) (followed : List (List ℕ)) → follow x followed ≡ bare (follows x followed)) where
    mutual
      expression_bare : (e : Expression S) (s : Stand) (followed : List (List ℕ)) → expand_by few follow (erase_expression e) s followed ≡ bare (expand_by many follows e s followed)
      expression_bare (string at_ q x) s followed = literal_bare at_ s followed (value (string_kind q) x)
      expression_bare (array l) s followed = ap (within s.place) (listing_bare l s followed) ∙ within_bare s.place _
      expression_bare (call at_ f l) s followed =
          either_bare (is_files f.text (erase_listing l)) (is_files f.text l) (files_bare f.text l) _ (met opaque followed) _ (met opaque followed) (ap (within s.place) (listing_bare l s followed) ∙ within_bare s.place _) refl
      expression_bare (identifier at_ x) s followed = either_bare (one_of followed x) (one_of followed x) refl (met opaque followed) (follow x followed) (met opaque followed) (follows x followed) refl (same x followed)
      expression_bare (row at_ e os) s followed =
          let first = expand_by many follows e (operand_at s 0) followed in
          either_bare (are_plus (erase_operands os) && few (erase_expression e)) (are_plus os && many e) (ap₂ (λ a b. a && b) (plus_bare os) (alike e))
          _ (met opaque followed) _ (met opaque followed)
          (ap (λ (x : Expansion Nowhere). both_expanded x (expand_operands few follow (erase_operands os) 1 s x.followed)) (expression_bare e (operand_at s 0) followed)
          ∙ ap (both_expanded (bare first)) (operands_bare os 1 s first.followed) ∙ both_bare first _) refl
      expression_bare _ s followed = refl

      operands_bare : (os : Operands S) (n : ℕ) (s : Stand) (followed : List (List ℕ)) → expand_operands few follow (erase_operands os) n s followed ≡ bare (expand_operands many follows os n s followed)
      operands_bare no_operands n s followed = refl
      operands_bare (operand o e more) n s followed =
          let first = expand_by many follows e (operand_at s n) followed in
          ap (λ (x : Expansion Nowhere). both_expanded x (expand_operands few follow (erase_operands more) (n + 1) s x.followed)) (expression_bare e (operand_at s n) followed)
          ∙ ap (both_expanded (bare first)) (operands_bare more (n + 1) s first.followed) ∙ both_bare first _

      listing_bare : (l : Listing S) (s : Stand) (followed : List (List ℕ)) → expand_listing few follow (erase_listing l) s followed ≡ bare (expand_listing many follows l s followed)
      listing_bare (listing at_ trailing list) s followed = each_bare list 0 s followed

      each_bare : (list : Arguments S) (n : ℕ) (s : Stand) (followed : List (List ℕ)) → expand_each few follow (erase_arguments list) n s followed ≡ bare (expand_each many follows list n s followed)
      each_bare no_arguments n s followed = refl
      each_bare (argument a more) n s followed =
          let first = expand_argument many follows a (element s n) followed in
          ap (λ (x : Expansion Nowhere). both_expanded x (expand_each few follow (erase_arguments more) (n + 1) s x.followed)) (argument_bare a (element s n) followed)
          ∙ ap (both_expanded (bare first)) (each_bare more (n + 1) s first.followed) ∙ both_bare first _

      argument_bare : (a : Argument S) (s : Stand) (followed : List (List ℕ)) → expand_argument few follow (erase_argument a) s followed ≡ bare (expand_argument many follows a s followed)
      argument_bare (plain e) s followed = expression_bare e s followed
      argument_bare (named at_ x e) s followed = refl
      argument_bare (pair at_ e f) s followed = refl

  follow_bare : (inner : Expression Nowhere → Stand → List (List ℕ) → Expansion Nowhere) (inners : Expression S → Stand → List (List ℕ) → Expansion S)
      → ((e : Expression S) (s : Stand) (followed : List (List ℕ)) → inner (erase_expression e) s followed ≡ bare (inners e s followed))
      → (x : List ℕ) (followed : List (List ℕ)) (o : Option (Placed (Expression S))) → follow_single inner x followed (option_map bare_value o) ≡ bare (follow_single inners x followed o)
  follow_bare inner inners same x followed None = refl
  follow_bare inner inners same x followed (Some v) = same v.it (of_variable x v.place) (x ∷ followed)

  -- what an expression holds is what it holds without spans
  pub expand_bare : (p : Project S) (left : ℕ) (e : Expression S) (s : Stand) (followed : List (List ℕ)) → expand_with (values_of p) left (erase_expression e) s followed ≡ bare (expand p left e s followed)
  expand_bare p zero e s followed =
      expression_bare (lists_by (values_of p)) (is_list_operand p) (lists_bare p) (λ x now. met opaque now) (λ x now. met opaque now) (λ x now. refl) e s followed
  expand_bare p (suc left) e s followed =
      expression_bare (lists_by (values_of p)) (is_list_operand p) (lists_bare p) (λ x now. follow_single (expand_with (values_of p) left) x now (values_of p x)) (λ x now. follow_single (expand p left) x now (single p x))
      (λ x now. follow_bare (expand_with (values_of p) left) (expand p left) (expand_bare p left) x now (single p x)) e s followed

-- ==== What marks tell: the items and, among them, what is not known, without spans and without the lists in which nothing is met.

abbrev pub bare_item : {S : Type 0} → Item S → Item Nowhere
bare_item i = record { text = i.text; stands = tt; place = i.place; slot = i.slot; variable = i.variable }

abbrev pub mark_contents : {S : Type 0} → List (Mark S) → List (Mark Nowhere)
mark_contents [] = []
mark_contents (known i ∷ ms) = known (bare_item i) ∷ mark_contents ms
mark_contents (opaque ∷ ms) = opaque ∷ mark_contents ms
mark_contents (empty p ∷ ms) = mark_contents ms

module _ {S : Type 0} where
  pub contents_append : (xs ys : List (Mark S)) → mark_contents (xs ++ ys) ≡ mark_contents xs ++ mark_contents ys
  contents_append [] ys = refl
  contents_append (known i ∷ xs) ys = ap (λ l. known (bare_item i) ∷ l) (contents_append xs ys)
  contents_append (opaque ∷ xs) ys = ap (λ l. opaque ∷ l) (contents_append xs ys)
  contents_append (empty p ∷ xs) ys = contents_append xs ys

  pub contents_within : (p : CallRef) (ms : List (Mark S)) → mark_contents (or_empty p ms) ≡ mark_contents ms
  contents_within p [] = refl
  contents_within p (m ∷ ms) = refl

  pub contents_bare : (ms : List (Mark S)) → mark_contents (map bare_mark ms) ≡ mark_contents ms
  contents_bare [] = refl
  contents_bare (known i ∷ ms) = ap (λ l. known (bare_item i) ∷ l) (contents_bare ms)
  contents_bare (opaque ∷ ms) = ap (λ l. opaque ∷ l) (contents_bare ms)
  contents_bare (empty p ∷ ms) = contents_bare ms

  -- ---- texts, how many are not known, and spots

  pub contents_items : (ms : List (Mark S)) → items (mark_contents ms) ≡ map bare_item (items ms)
  contents_items [] = refl
  contents_items (known i ∷ ms) = ap (λ l. bare_item i ∷ l) (contents_items ms)
  contents_items (opaque ∷ ms) = contents_items ms
  contents_items (empty p ∷ ms) = contents_items ms

  pub contents_unknown : (ms : List (Mark S)) → opaque_count (mark_contents ms) ≡ opaque_count ms
  contents_unknown [] = refl
  contents_unknown (known i ∷ ms) = contents_unknown ms
  contents_unknown (opaque ∷ ms) = ap suc (contents_unknown ms)
  contents_unknown (empty p ∷ ms) = contents_unknown ms

  bare_texts : (is : List (Item S)) → map (λ (i : Item Nowhere). i.text) (map bare_item is) ≡ map (λ i. i.text) is
  bare_texts [] = refl
  bare_texts (i ∷ is) = ap (λ l. i.text ∷ l) (bare_texts is)

  pub contents_texts : (ms : List (Mark S)) → map (λ (i : Item Nowhere). i.text) (items (mark_contents ms)) ≡ map (λ i. i.text) (items ms)
  contents_texts ms = ap (map (λ (i : Item Nowhere). i.text)) (contents_items ms) ∙ bare_texts (items ms)

  bare_named : (name : List ℕ) (is : List (Item S)) → filter (has_text name) (map bare_item is) ≡ map bare_item (filter (has_text name) is)
  bare_named name [] = refl
  bare_named name (i ∷ is) = go (has_text name i) (bare_named name is)
    where
      go : (b : Bool) → filter (has_text name) (map bare_item is) ≡ map bare_item (filter (has_text name) is)
          → (if b then bare_item i ∷ filter (has_text name) (map bare_item is) else filter (has_text name) (map bare_item is)) ≡ map bare_item (if b then i ∷ filter (has_text name) is else filter (has_text name) is)
      go true more = ap (λ l. bare_item i ∷ l) more
      go false more = more

  bare_spots : (is : List (Item S)) → spots_of (map bare_item is) ≡ spots_of is
  bare_spots [] = refl
  bare_spots (i ∷ is) = ap (λ o. option_and_then (λ spot. option_map (λ spots. spot ∷ spots) o) (spot_of i.slot)) (bare_spots is)

  bare_by : (n : ℕ) (is : List (Item S)) → spots_by n (map bare_item is) ≡ spots_by n is
  bare_by n [] = refl
  bare_by n (i ∷ is) = ap (λ o. ok_or o NotRemovable) (bare_spots (i ∷ is))

  pub contents_spots : (ms : List (Mark S)) (names : List (List ℕ)) → spots_named (mark_contents ms) names ≡ spots_named ms names
  contents_spots ms [] = refl
  contents_spots ms (name ∷ more) =
      let here = ap₂ (λ n is. spots_by n (filter (has_text name) is)) (contents_unknown ms) (contents_items ms)
      ∙ ap (spots_by (opaque_count ms)) (bare_named name (items ms)) ∙ bare_by (opaque_count ms) (items_of name ms) in
      ap₂ (λ a b. then_ok a (λ here. then_ok b (λ later. Ok (here ++ later)))) here (contents_spots ms more)
