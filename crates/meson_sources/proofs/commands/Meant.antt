-- The steps that commands mean, by what the code finds.
use Rattle.meson_syntax.specs.declared.tree.List as rust
use Rattle.meson_syntax.specs.declared.tree.Arg.TheVariants as arg
use Rattle.meson_variables.proofs.Anys.{any-map}
use Rattle.meson_syntax.specs.declared.tree.Arg.{Arg}
use Rattle.meson_syntax.specs.declared.tree.Expr.{Expr}
use Rattle.meson_calls.proofs.FirstValue.{value_is}
use Rattle.meson_variables.specs.declared.source.Sources.{Sources}
use Rattle.meson_sources.proofs.Words.{filter, list_any, ap₂, Err, IfOk, if◌then◌else◌, not, Ok, ok_or, option_and_then, option_map, Result, [], ap, arith, Bool, false}
use Rattle.meson_sources.proofs.Words.{get_or, length, List, map, None, Option, refl, Some, sym, true, zero-add, ℕ, ◌++◌, ◌<◌, ◌∙◌, ◌∷◌, ◌≡◌, ◌≤◌, length-map}
use Rattle.meson_sources.specs.inside.Additions.{MayAdd, if_may_add}
use Rattle.meson_sources.proofs.Words.{then_ok, Span, Expression, expr_view, Call, keyword, literal_of, Numbered, value_with_name, placed_call, IsFirstNamed}
use Rattle.meson_sources.proofs.Words.{kept_args, kwargs_key, not_hidden, once, sources_key, Placed, Project, CallRef, Refusal, DuplicateKeyword, NotRemovable}
use Rattle.meson_sources.proofs.Words.{once_few, once_twice, keyword_is, all_gathered, fixed, in_list, Item, Mark, max_followed, Slot, all_marked, no_marks}
use Rattle.meson_sources.proofs.Words.{number_of_slot, Tally, expand_arguments, first_empty, first_list, home, items, list_of_slot, opaque_count, or_call}
use Rattle.meson_sources.proofs.Words.{or_option, source_item, source_marks, sources_of_marks, SourceItem, arguments_are, gathered_marks, tally_is, bare}
use Rattle.meson_sources.proofs.Words.{AreBehind, AreMeant, checked_names, distinct, Step, ListStep, extra_of_call, behind_value, checked_extra, elements_there}
use Rattle.meson_sources.proofs.Words.{extra_added, extra_inserted, extra_key, extra_marks, extra_removed, has_text, inserted_in, insertion_steps}
use Rattle.meson_sources.proofs.Words.{into_new_list, is_known, items_of, new_names, plain_len, removed_at, sources_removed, Spot, spot_of}
use Rattle.meson_sources.proofs.Words.{spots_by, spots_named, spots_of, without_home, all_there, spot_if_there, spots_at, spots_from, spots_of_names, has_value}
use Rattle.meson_sources.proofs.Words.{new_among, extra_gathered, lone_or_new, new_list_steps}

-- ==== What gathered marks say of commands: the names that are new, where further ones go, and where the items of names stand.

-- ---- the fields of a tally of marks

pub record Told (t : Tally) (ms : List (Mark Span)) : Type 0 where
  pub are_items : t.items ≡ map source_item (items ms)
  pub are_numbers : t.numbers ≡ map (λ i. number_of_slot i.slot) (items ms)
  pub is_unknown : t.unknown ≡ opaque_count ms
  pub is_list : t.list ≡ first_list ms
  pub is_vacant : t.vacant ≡ first_empty ms

pub told : (t : Tally) (ms : List (Mark Span)) → t ≡ all_marked no_marks.tally ms → Told t ms
told t ms is =
    let whole = is ∙ tally_is no_marks.tally ms in
    record {
      are_items = ap (λ u. u.items) whole;
      are_numbers = ap (λ u. u.numbers) whole;
      is_unknown = ap (λ u. u.unknown) whole ∙ zero-add (opaque_count ms);
      is_list = ap (λ u. u.list) whole;
      is_vacant = ap (λ u. u.vacant) whole;
    }

pub as_many_numbers : (t : Tally) (ms : List (Mark Span)) → Told t ms → length t.numbers ≡ length t.items
as_many_numbers t ms fields =
    ap length fields.are_numbers ∙ length-map (items ms) (λ i. number_of_slot i.slot) ∙ sym (length-map (items ms) source_item) ∙ sym (ap length fields.are_items)

-- ---- new names

filter_alike : {X : Type 0} (f g : X → Bool) → ((x : X) → f x ≡ g x) → (xs : List X) → filter f xs ≡ filter g xs
filter_alike f g alike [] = refl
filter_alike f g alike (x ∷ xs) = ap (λ b. if b then x ∷ filter f xs else filter f xs) (alike x) ∙ ap (λ ys. if g x then x ∷ ys else ys) (filter_alike f g alike xs)

pub new_are : (ms : List (Mark Span)) (names : List (List ℕ)) → new_among (map source_item (items ms)) names ≡ new_names ms names
new_are ms names = filter_alike (λ name. not (list_any (has_value name) (map source_item (items ms)))) (λ name. not (is_known ms name)) (λ name. ap not (any-map (has_value name) source_item (items ms))) (distinct names)

-- ---- spots

abbrev numbers_of : List (Item Span) → List (Option ℕ)
numbers_of is = map (λ i. number_of_slot i.slot) is

abbrev spots_there : List (Item Span) → List (Option Spot)
spots_there is = map (λ i. spot_of i.slot) is

spot_is : (s : Slot) → spot_if_there (list_of_slot s) (number_of_slot s) ≡ spot_of s
spot_is (in_list p n) = refl
spot_is fixed = refl

spots_are : (name : List ℕ) (is : List (Item Span)) → spots_at name (map source_item is) (numbers_of is) ≡ spots_there (filter (has_text name) is)
spots_are name [] = refl
spots_are name (i ∷ is) = elim (has_text name i) as (λ b. (if b then spot_if_there (list_of_slot i.slot) (number_of_slot i.slot) ∷ spots_at name (map source_item is) (numbers_of is) else spots_at name (map source_item is) (numbers_of is))
    ≡ spots_there (if b then i ∷ filter (has_text name) is else filter (has_text name) is)) [
      | true ↦ ap (λ s. s ∷ spots_at name (map source_item is) (numbers_of is)) (spot_is i.slot) ∙ ap (λ ss. spot_of i.slot ∷ ss) (spots_are name is)
      | false ↦ spots_are name is
    ]

all_of : (is : List (Item Span)) → all_there (spots_there is) ≡ spots_of is
all_of [] = refl
all_of (i ∷ is) = ap (λ more. option_and_then (λ spot. option_map (λ spots. spot ∷ spots) more) (spot_of i.slot)) (all_of is)

from_items : (unknown : ℕ) (is : List (Item Span)) → spots_from unknown (spots_there is) ≡ spots_by unknown is
from_items unknown [] = refl
from_items unknown (i ∷ is) = ap (λ o. ok_or o NotRemovable) (all_of (i ∷ is))

pub named_spots : (ms : List (Mark Span)) (names : List (List ℕ))
    → spots_of_names (map source_item (items ms)) (numbers_of (items ms)) (opaque_count ms) names ≡ spots_named ms names
named_spots ms [] = refl
named_spots ms (name ∷ names) =
    let later = spots_of_names (map source_item (items ms)) (numbers_of (items ms)) (opaque_count ms) names in
    ap (λ first. then_ok first (λ here. then_ok later (λ more. Ok (here ++ more)))) (ap (spots_from (opaque_count ms)) (spots_are name (items ms)) ∙ from_items (opaque_count ms) (items_of name ms))
    ∙ ap (λ rest. then_ok (spots_by (opaque_count ms) (items_of name ms)) (λ here. then_ok rest (λ more. Ok (here ++ more)))) (named_spots ms names)

-- the same by a tally of the marks
pub told_spots : (t : Tally) (ms : List (Mark Span)) → Told t ms → (names : List (List ℕ)) → spots_of_names t.items t.numbers t.unknown names ≡ spots_named ms names
told_spots t ms fields names =
    ap (λ is. spots_of_names is t.numbers t.unknown names) fields.are_items
    ∙ ap (λ ns. spots_of_names (map source_item (items ms)) ns t.unknown names) fields.are_numbers
    ∙ ap (λ n. spots_of_names (map source_item (items ms)) (numbers_of (items ms)) n names) fields.is_unknown
    ∙ named_spots ms names

-- ==== The steps that commands on sources mean, by what the code finds.

module _ (p : Project Span) (c : CallRef) (source : List ℕ) (l : rust.List) (function : List ℕ) (names : List (List ℕ)) where
  abbrev it : Placed (Call Span)
  it = placed_call c function source l

  abbrev pub ms : List (Mark Span)
  ms = source_marks p it

  abbrev args : ℕ
  args = length (kept_args source (value_with_name sources_key) 0 (rust.out-List l).items)

  pub fields : (t : Tally) → t ≡ (all_gathered p max_followed c source (rust.out-List l).items).tally → Told t ms
  fields t is = told t ms (is ∙ gathered_marks p c source l function)

  few_are : {Y : Type 0} (y : Y) → args ≤ 1 → once sources_key (keyword sources_key it.it) y ≡ Ok y
  few_are y few = ap (λ xs. once sources_key xs y) (keyword_is source l function sources_key) ∙ once_few sources_key (kept_args source (value_with_name sources_key) 0 (rust.out-List l).items) y few

  many_are : {Y : Type 0} (y : Y) → 1 < args → once sources_key (keyword sources_key it.it) y ≡ Err (DuplicateKeyword sources_key)
  many_are y many = ap (λ xs. once sources_key xs y) (keyword_is source l function sources_key) ∙ once_twice sources_key (kept_args source (value_with_name sources_key) 0 (rust.out-List l).items) y many

  module _ (checked : checked_names names ≡ Ok tt) where
    pub added_twice : 1 < args → (steps : List Step) → if_may_add it names steps ≡ Err (DuplicateKeyword sources_key)
    added_twice many steps = ap (λ r. then_ok r (λ _. once sources_key (keyword sources_key it.it) steps)) checked ∙ many_are steps many

    pub removed_twice : 1 < args → sources_removed p it names ≡ Err (DuplicateKeyword sources_key)
    removed_twice many =
        let rest = λ (marks : List (Mark Span)). removed_at (spots_named marks (distinct names)) in
        ap (λ r. then_ok r (λ _. then_ok (once sources_key (keyword sources_key it.it) ms) rest)) checked ∙ ap (λ r. then_ok r rest) (many_are ms many)

    module _ (few : args ≤ 1) (t : Tally) (is : t ≡ (all_gathered p max_followed c source (rust.out-List l).items).tally) where
      pub may_add : (place : CallRef) → place ≡ or_call c (or_option t.list t.vacant) → (new : List (List ℕ)) → new ≡ new_among t.items names → MayAdd p it names place new
      may_add place is_place new is_new =
          let f = fields t is in
          record {
            may = λ steps. ap (λ r. then_ok r (λ _. once sources_key (keyword sources_key it.it) steps)) checked ∙ few_are steps few;
            is_list = is_place ∙ ap (λ o. or_call c (or_option o t.vacant)) f.is_list ∙ ap (λ o. or_call c (or_option (first_list ms) o)) f.is_vacant;
            are_new = is_new ∙ ap (λ xs. new_among xs names) f.are_items ∙ new_are ms names;
          }

      after_checks : sources_removed p it names ≡ removed_at (spots_of_names t.items t.numbers t.unknown (distinct names))
      after_checks =
          let rest = λ (marks : List (Mark Span)). removed_at (spots_named marks (distinct names)) in
          ap (λ r. then_ok r (λ _. then_ok (once sources_key (keyword sources_key it.it) ms) rest)) checked ∙ ap (λ r. then_ok r rest) (few_are ms few)
          ∙ ap removed_at (sym (told_spots t ms (fields t is) (distinct names)))

      pub gone : (steps : List ListStep) → AreMeant (removed_at (spots_of_names t.items t.numbers t.unknown (distinct names))) steps → AreMeant (sources_removed p it names) steps
      gone steps meant = record { steps = meant.steps; is = after_checks ∙ meant.is; bare = meant.bare }

      pub not_gone : (e : Refusal) → removed_at (spots_of_names t.items t.numbers t.unknown (distinct names)) ≡ Err e → sources_removed p it names ≡ Err e
      not_gone e refused = after_checks ∙ refused

-- the steps that put the new names into their list, however they do it
module _ {V : Type 0} (code : V → List ListStep) (put : CallRef → List (List ℕ) → List Step) (p : Project Span) (c : Placed (Call Span)) (names : List (List ℕ)) where
  pub put_meant : (list : CallRef) (new : List (List ℕ)) → MayAdd p c names list new → (r : Result V Refusal) → IfOk r (λ v. map Some (code v) ≡ map bare (put list new))
      → IfOk r (λ v. AreMeant (if_may_add c names (put (home c.place (source_marks p c)) (new_names (source_marks p c) names))) (code v))
  put_meant list new m (Ok v) are =
      let steps = put (home c.place (source_marks p c)) (new_names (source_marks p c) names) in
      record { steps = steps; is = m.may steps; bare = sym (are ∙ ap₂ (λ h ns. map bare (put h ns)) m.is_list m.are_new) }
  put_meant list new m (Err e) are = tt

-- ==== The steps that commands on extra files mean, by what the code finds.

none_hidden : {X : Type 0} (xs : List X) → length xs ≤ 0 → not_hidden xs ≡ Ok tt
none_hidden [] none = refl
none_hidden (x ∷ xs) none = absurd (omega arith)

module _ (p : Project Span) (c : CallRef) (source : List ℕ) (l : rust.List) (function : List ℕ) (names : List (List ℕ)) where
  abbrev extra_call : Placed (Call Span)
  extra_call = placed_call c function source l

  abbrev pub extras : List (Mark Span)
  extras = extra_marks p extra_call

  abbrev count : List ℕ → ℕ
  count key = length (kept_args source (value_with_name key) 0 (rust.out-List l).items)

  marks_are : (extra_gathered p max_followed c source (rust.out-List l).items).tally ≡ all_marked no_marks.tally extras
  marks_are =
      ap (λ e. all_marked no_marks.tally e.marks) (arguments_are p c (λ n. fixed) (kept_args source (value_with_name extra_key) 0 (rust.out-List l).items) [])
      ∙ ap (λ ks. all_marked no_marks.tally (expand_arguments p c (λ n. fixed) ks []).marks) (sym (keyword_is source l function extra_key))

  pub extra_fields : (t : Tally) → t ≡ (extra_gathered p max_followed c source (rust.out-List l).items).tally → Told t extras
  extra_fields t is = told t extras (is ∙ marks_are)

  abbrev after_hidden : Result (Unit {0}) Refusal → Result (List (Mark Span)) Refusal
  after_hidden r = then_ok r (λ _. once extra_key (keyword extra_key extra_call.it) extras)

  module _ (checked : checked_names names ≡ Ok tt) where
    by_names : checked_extra p extra_call names ≡ after_hidden (not_hidden (keyword kwargs_key extra_call.it))
    by_names = ap (λ r. then_ok r (λ _. after_hidden (not_hidden (keyword kwargs_key extra_call.it)))) checked

    module _ (none : count kwargs_key ≤ 0) where
      by_hidden : checked_extra p extra_call names ≡ once extra_key (kept_args source (value_with_name extra_key) 0 (rust.out-List l).items) extras
      by_hidden =
          by_names ∙ ap (λ xs. after_hidden (not_hidden xs)) (keyword_is source l function kwargs_key)
          ∙ ap after_hidden (none_hidden (kept_args source (value_with_name kwargs_key) 0 (rust.out-List l).items) none)
          ∙ ap (λ xs. once extra_key xs extras) (keyword_is source l function extra_key)

      pub extra_twice : 1 < count extra_key → checked_extra p extra_call names ≡ Err (DuplicateKeyword extra_key)
      extra_twice many = by_hidden ∙ once_twice extra_key (kept_args source (value_with_name extra_key) 0 (rust.out-List l).items) extras many

      pub extra_once : count extra_key ≤ 1 → checked_extra p extra_call names ≡ Ok extras
      extra_once few = by_hidden ∙ once_few extra_key (kept_args source (value_with_name extra_key) 0 (rust.out-List l).items) extras few

  -- ---- removal

  abbrev after_marks : Result (List (Mark Span)) Refusal → Result (List Step) Refusal
  after_marks r = then_ok r (λ marks. removed_at (spots_named marks (distinct names)))

  pub extra_unchecked : (e : Refusal) → checked_extra p extra_call names ≡ Err e → extra_removed p extra_call names ≡ Err e
  extra_unchecked e is = ap after_marks is

  module _ (checked : checked_extra p extra_call names ≡ Ok extras) (t : Tally) (is : t ≡ (extra_gathered p max_followed c source (rust.out-List l).items).tally) where
    extra_after_checks : extra_removed p extra_call names ≡ removed_at (spots_of_names t.items t.numbers t.unknown (distinct names))
    extra_after_checks = ap after_marks checked ∙ ap removed_at (sym (told_spots t extras (extra_fields t is) (distinct names)))

    pub extra_gone : (steps : List ListStep) → AreMeant (removed_at (spots_of_names t.items t.numbers t.unknown (distinct names))) steps → AreMeant (extra_removed p extra_call names) steps
    extra_gone steps meant = record { steps = meant.steps; is = extra_after_checks ∙ meant.is; bare = meant.bare }

    pub extra_not_gone : (e : Refusal) → removed_at (spots_of_names t.items t.numbers t.unknown (distinct names)) ≡ Err e → extra_removed p extra_call names ≡ Err e
    extra_not_gone e refused = extra_after_checks ∙ refused

-- ==== Extra files added: by the argument that is there, or by the home.

-- ---- the argument that is there

module _ (source key : List ℕ) (args : List Arg) (n : ℕ) (d : Arg) (within : n < length args) (first : IsFirstNamed source key args n) where
  pub lone : (c : CallRef) (names : List (List ℕ)) → 0 < length names → (s x : Span) (e : Expr) → get_or args n d ≡ arg.Named s x e
      → behind_value c n (literal_of (expr_view source e)) names ≡ lone_or_new c (length args) (kept_args source (value_with_name key) 0 args) names
  lone c [] some s x e is = absurd (omega arith)
  lone c (name ∷ names) some s x e is =
      ap (λ v. behind_value c n (literal_of v) (name ∷ names)) (sym (value_is source key args n d within first s x e is)) ∙ ap (λ vs. lone_or_new c (length args) vs (name ∷ names)) (sym first.is_first)

-- ---- by the home

module _ (p : Project Span) (c : CallRef) (source : List ℕ) (l : rust.List) (function : List ℕ) (names : List (List ℕ)) where
  abbrev added_call : Placed (Call Span)
  added_call = placed_call c function source l

  at_home : (h : CallRef) (new : List (List ℕ)) → extra_inserted p added_call (Some h) new ≡ Ok (inserted_in p h new)
  at_home h [] = refl
  at_home h (name ∷ new) = refl

  into_new : (new : List (List ℕ)) → into_new_list p c new ≡ new_list_steps c (length (elements_there p c)) new
  into_new [] = refl
  into_new (name ∷ new) = refl

  no_home : (values : List (Numbered (Expression Span))) (name : List ℕ) (new : List (List ℕ))
      → without_home p c values (name ∷ new) ≡ lone_or_new c (length (elements_there p c)) values (name ∷ new)
  no_home [] name new = ap Ok (into_new (name ∷ new))
  no_home (v ∷ values) name new = refl

  nowhere : (new : List (List ℕ)) → extra_inserted p added_call None new ≡ lone_or_new c (length (elements_there p c)) (keyword extra_key added_call.it) new
  nowhere [] = refl
  nowhere (name ∷ new) = no_home (keyword extra_key added_call.it) name new

  pub added_unchecked : (e : Refusal) → checked_extra p added_call names ≡ Err e → extra_added p added_call names ≡ Err e
  added_unchecked e is = ap (λ r. then_ok r (λ marks. extra_inserted p added_call (or_option (first_list marks) (first_empty marks)) (new_names marks names))) is

  module _ (checked : checked_extra p added_call names ≡ Ok (extras p c source l function names)) (t : Tally) (is : t ≡ (extra_gathered p max_followed c source (rust.out-List l).items).tally)
      (new : List (List ℕ)) (is_new : new ≡ new_among t.items names) (home : Option CallRef) (is_home : home ≡ or_option t.list t.vacant) where
    by_home : extra_added p added_call names ≡ extra_inserted p added_call home new
    by_home =
        let ms = extras p c source l function names in
        let f = extra_fields p c source l function names t is in
        let new_is = is_new ∙ ap (λ xs. new_among xs names) f.are_items ∙ new_are ms names in
        let home_is = is_home ∙ ap (λ o. or_option o t.vacant) f.is_list ∙ ap (or_option (first_list ms)) f.is_vacant in
        ap (λ r. then_ok r (λ marks. extra_inserted p added_call (or_option (first_list marks) (first_empty marks)) (new_names marks names))) checked
        ∙ ap (λ h. extra_inserted p added_call h (new_names ms names)) (sym home_is) ∙ ap (extra_inserted p added_call home) (sym new_is)

    pub home_meant : (h : CallRef) → home ≡ Some h → (n : ℕ) → n ≡ plain_len p h → (steps : List ListStep) → map Some steps ≡ map bare (insertion_steps h n new) → AreMeant (extra_added p added_call names) steps
    home_meant h some n is_n steps are = record {
      steps = inserted_in p h new;
      is = by_home ∙ ap (λ o. extra_inserted p added_call o new) some ∙ at_home h new;
      bare = sym (are ∙ ap (λ k. map bare (insertion_steps h k new)) is_n);
    }

    module _ (none : home ≡ None) (there : length (rust.out-List l).items ≡ length (elements_there p c)) where
      by_call : extra_added p added_call names ≡ lone_or_new c (length (rust.out-List l).items) (kept_args source (value_with_name extra_key) 0 (rust.out-List l).items) new
      by_call =
          by_home ∙ ap (λ o. extra_inserted p added_call o new) none ∙ nowhere new
          ∙ ap (λ k. lone_or_new c k (keyword extra_key added_call.it) new) (sym there)
          ∙ ap (λ vs. lone_or_new c (length (rust.out-List l).items) vs new) (keyword_is source l function extra_key)

      pub call_meant : (steps : List ListStep) → AreBehind (lone_or_new c (length (rust.out-List l).items) (kept_args source (value_with_name extra_key) 0 (rust.out-List l).items) new) [] steps → AreMeant (extra_added p added_call names) steps
      call_meant steps b = record { steps = b.steps; is = by_call ∙ b.is; bare = sym b.bare }

      pub call_refused : (e : Refusal) → lone_or_new c (length (rust.out-List l).items) (kept_args source (value_with_name extra_key) 0 (rust.out-List l).items) new ≡ Err e → extra_added p added_call names ≡ Err e
      call_refused e is = by_call ∙ is

-- ==== What gathered marks say of the extra files of a call.

abbrev sources_with : CallRef → List SourceItem → ℕ → Option CallRef → Option CallRef → Sources
sources_with c items unknown list vacant = record { items = items; opaque = unknown; home = or_call c (or_option list vacant) }

abbrev pub sources_by : CallRef → Tally → Sources
sources_by c t = sources_with c t.items t.unknown t.list t.vacant

answered : (c : CallRef) (ms : List (Mark Span)) (t : Tally) → Told t ms → sources_of_marks c ms ≡ sources_by c t
answered c ms t told =
    ap (λ is. sources_with c is (opaque_count ms) (first_list ms) (first_empty ms)) (sym told.are_items)
    ∙ ap (λ n. sources_with c t.items n (first_list ms) (first_empty ms)) (sym told.is_unknown)
    ∙ ap (λ o. sources_with c t.items t.unknown o (first_empty ms)) (sym told.is_list)
    ∙ ap (λ o. sources_with c t.items t.unknown t.list o) (sym told.is_vacant)

module _ (p : Project Span) (c : CallRef) (source : List ℕ) (l : rust.List) (function : List ℕ) where
  abbrev values : ℕ
  values = length (kept_args source (value_with_name extra_key) 0 (rust.out-List l).items)

  abbrev marks : List (Mark Span)
  marks = extra_marks p (placed_call c function source l)

  pub told_twice : 1 < values → extra_of_call p (placed_call c function source l) ≡ Err (DuplicateKeyword extra_key)
  told_twice many = ap (λ xs. once extra_key xs (sources_of_marks c marks)) (keyword_is source l function extra_key) ∙ once_twice extra_key _ (sources_of_marks c marks) many

  pub told_once : values ≤ 1 → (t : Tally) → t ≡ (extra_gathered p max_followed c source (rust.out-List l).items).tally
      → extra_of_call p (placed_call c function source l) ≡ Ok (sources_by c t)
  told_once few t is =
      ap (λ xs. once extra_key xs (sources_of_marks c marks)) (keyword_is source l function extra_key) ∙ once_few extra_key _ (sources_of_marks c marks) few
      ∙ ap Ok (answered c marks t (extra_fields p c source l function [] t is))
