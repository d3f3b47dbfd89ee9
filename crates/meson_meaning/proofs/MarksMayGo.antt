-- The sources of a target that stand in lists are literals that may be left out.
use Rattle.std.proofs.Common.{◌≡◌, ℕ, zero, suc, ◌+◌, List, [], ◌∷◌, ◌++◌, Option, Some, None, refl, sym, ap, ap₂, subst, ◌∙◌, arith}
use Rattle.std.specs.Prelude.{Bool, true, false, not, ◌&&◌, ◌||◌, if◌then◌else◌, bytes_eq, codes, is_some, Ok, option_map}
use Rattle.std.specs.Char.{encode_utf8}
use Rattle.std.specs.List.{AllByRecursion, cons_option, filter_map, list_any}
use Rattle.std.specs.Str.{chars, is_utf8}
use Rattle.std.proofs.lemmas.Slice.Eq.{bytes_eq-Decides}
use Rattle.meson_lex.specs.declared.kinds.Span.{Span}
use Rattle.meson_lex.specs.Literals.{value}
use Rattle.meson_syntax.specs.declared.operator.Bracket.{Bracket}
use Rattle.meson_syntax.specs.declared.operator.Bracket.TheVariants as bracket
use Rattle.meson_syntax.specs.Grammar.{LevelArguments, LevelListing}
use Rattle.meson_syntax.specs.Operators.{holds_pairs, string_kind}
use Rattle.meson_syntax.specs.Paths as paths
use Rattle.meson_syntax.specs.Paths.{ListIn, list_in, nth, value_of}
use Rattle.meson_syntax.specs.Tree.{Expression, identifier, string, array, call, row, Operands, no_operands, operand, Listing, listing, Argument, plain, named, pair, Arguments, no_arguments, argument, argument_list}
use Rattle.meson_syntax.proofs.paths.Every.{Every, every-append}
use Rattle.meson_syntax.proofs.paths.Reaching.{and-then-some, list-fits}
use Rattle.meson_calls.specs.declared.call.CallName.{CallName}
use Rattle.meson_calls.specs.declared.call.CallRef.{CallRef}
use Rattle.meson_calls.specs.declared.call.Role.TheVariants as role
use Rattle.meson_calls.specs.Calls.{Call, Numbered, first_argument, keyword, kept_number, numbered, positional, value_with_name, value_without_name}
use Rattle.meson_calls.specs.Finding.{the_call}
use Rattle.meson_calls.specs.Loading.{IsProject, Loaded, project}
use Rattle.meson_calls.specs.NamedArguments.{kwargs_key, rest, sources_key}
use Rattle.meson_calls.specs.Project.{BuildFile, Placed, Project, child, expression_at, nth_file}
use Rattle.meson_calls.specs.Roles.{has_role, one_of, target_functions}
use Rattle.meson_calls.proofs.ExpressionsAt.{child_stands}
use Rattle.meson_calls.proofs.ListNodes.{list_of}
use Rattle.meson_variables.specs.Expansion.{Expansion, Item, Mark, Slot, Stand, are_plus, element, empty, expand, expand_by, expand_each, expand_operands, fixed, follow_single, has_names, in_list, is_files, is_list_operand, known, literal_item, max_followed, met, of_variable, opaque, operand_at, or_empty, within}
use Rattle.meson_variables.specs.TargetSources.{expand_arguments, hidden, items, source_marks}
use Rattle.meson_variables.specs.Variables.{single}
use Rattle.meson_sources.specs.Effects.{element_spot, has_one_of, is_at}
use Rattle.meson_sources.specs.SourceEdits.{Spot, extra_key, extra_marks}
use Rattle.meson_sources.proofs.gone.Spots.{same_one}
use Rattle.meson_sources.proofs.met.Standing.{ElementAt, Elements, Operated, elements_stand, first_stands, others_stand, row_stands}
use Rattle.meson_sources.proofs.met.Targets.{arguments_stand}
use Rattle.meson_sources.proofs.trees.Calls.{called, target_at}
use Rattle.meson_sources.proofs.trees.Elements.{AreLevel, parsed_level, value_stands}
use Rattle.meson_sources.proofs.trees.Places.{single_stands}
use Rattle.meson_meaning.specs.Expressions.{call_with, of_files, of_target, sort_by, sort_of}
use Rattle.meson_meaning.specs.Spots.{MayGo, element_may_go, is_literal}
use Rattle.meson_meaning.specs.Without.{each_one, later_ones, loses}

-- ---- numbers of elements

pub plus_zero : (n : ℕ) → n + 0 ≡ n
plus_zero n = omega arith

pub shifted : (i j : ℕ) → i + suc j ≡ (i + 1) + j
shifted i j = omega arith

pub from_zero : (j : ℕ) → 0 + j ≡ j
from_zero j = omega arith

-- ---- elements of lists without entries

module _ (b : Bracket) (no_pairs : holds_pairs b ≡ false) where
  pub each_may : (list : Arguments Span) (seen : Bool) → LevelArguments list b seen → (j : ℕ) (e : Expression Span) → nth (argument_list list) j ≡ Some (plain e) → is_literal e ≡ true
      → element_may_go each_one list j ≡ true
  each_may no_arguments seen level j e is literal = absurd cc
  each_may (argument (plain d) more) seen level zero e is literal = let same : d ≡ e = cc in ap is_literal same ∙ literal
  each_may (argument (plain d) more) seen level (suc j) e is literal = each_may more false level.1 j e is literal
  each_may (argument (named s x d) more) seen level zero e is literal = absurd cc
  each_may (argument (named s x d) more) seen level (suc j) e is literal = each_may more true level.1 j e is literal
  each_may (argument (pair s d f) more) seen level j e is literal = absurd cc

  abbrev pub Unnamed : (ℕ → Type 0) → List (Numbered (Expression Span)) → Type 0
  Unnamed P as_given = Every (λ a. is_literal a.value ≡ true → P a.number) as_given

  abbrev pub unnamed : ℕ → Arguments Span → List (Numbered (Expression Span))
  unnamed i list = filter_map (kept_number value_without_name) (numbered i list)

  each_unnamed : (list : Arguments Span) (seen : Bool) → LevelArguments list b seen → (i : ℕ) (P : ℕ → Type 0) → ((j : ℕ) → element_may_go each_one list j ≡ true → P (i + j))
      → Unnamed P (unnamed i list)
  each_unnamed no_arguments seen level i P may = tt
  each_unnamed (argument (plain e) more) seen level i P may =
      ((λ literal. subst P (plus_zero i) (may 0 literal)), each_unnamed more false level.1 (i + 1) P (λ j goes. subst P (shifted i j) (may (suc j) goes)))
  each_unnamed (argument (named s x e) more) seen level i P may = each_unnamed more true level.1 (i + 1) P (λ j goes. subst P (shifted i j) (may (suc j) goes))
  each_unnamed (argument (pair s d f) more) seen level i P may = absurd cc

  -- after the first one
  pub later_unnamed : (list : Arguments Span) (seen : Bool) → LevelArguments list b seen → (i : ℕ) (P : ℕ → Type 0) → ((j : ℕ) → element_may_go later_ones list j ≡ true → P (i + j))
      → Unnamed P (rest (unnamed i list))
  later_unnamed no_arguments seen level i P may = tt
  later_unnamed (argument (plain e) more) seen level i P may = each_unnamed more false level.1 (i + 1) P (λ j goes. subst P (shifted i j) (may (suc j) goes))
  later_unnamed (argument (named s x e) more) seen level i P may = later_unnamed more true level.1 (i + 1) P (λ j goes. subst P (shifted i j) (may (suc j) goes))
  later_unnamed (argument (pair s d f) more) seen level i P may = absurd cc

-- ---- sorts of calls

pub files_sort : (f : List ℕ) (l : Listing Span) → is_files f l ≡ true → sort_of (call_with f l) ≡ of_files
files_sort f l is = ap (λ b. sort_by b (has_role role.Target (call_with f l))) is

no_target : one_of target_functions (codes "files") ≡ false
unfolding encode_utf8 chars is_utf8
no_target = refl

no_files : (f : List ℕ) (l : Listing Span) → one_of target_functions f ≡ true → is_files f l ≡ false
no_files f (listing r trailing list) target = go (bytes_eq f (codes "files")) (bytes_eq-Decides f (codes "files")).0
  where
    go : (b : Bool) → (b ≡ true → f ≡ codes "files") → (b && not (has_names list)) ≡ false
    go false same = refl
    go true same = let both : true ≡ false = sym target ∙ ap (one_of target_functions) (same refl) ∙ no_target in absurd cc

pub target_sort : (f : List ℕ) (l : Listing Span) → one_of target_functions f ≡ true → is_some (first_argument (call_with f l)) ≡ true → sort_of (call_with f l) ≡ of_target
target_sort f l target first = ap₂ sort_by (no_files f l target) (ap₂ (λ a b. a && b) target first)

module _ (p : Project Span) (levels : AreLevel p) where
  pub level_there : (c : CallRef) (e : Expression Span) (l : ListIn Span) → expression_at p c ≡ Some e → list_in e ≡ Some l → LevelListing l.list l.bracket
  level_there c e l is is_list =
      let o = and-then-some (λ (g : BuildFile Span). paths.expression_on_path g.tree c.path.steps) (nth_file p c.file) e is in
      let i = list_of Span o.0.tree c.path.steps e l o.2 is_list in
      let first = (list-fits Span o.0.tree c.path.steps i.place i.is_place).level (levels c.file o.0 o.1) in
      subst (λ b. LevelListing l.list b) i.bracket (subst (λ m. LevelListing m i.place.bracket) i.list first)

  -- ---- what is met

  abbrev pub SlotMayGo : Slot → Type 0
  SlotMayGo (in_list c n) = MayGo p (element_spot c n)
  SlotMayGo fixed = Unit {0}

  abbrev MarkMayGo : Mark Span → Type 0
  MarkMayGo (known i) = SlotMayGo i.slot
  MarkMayGo opaque = Unit {0}
  MarkMayGo (empty c) = Unit {0}

  abbrev Fine : Expansion Span → Type 0
  Fine x = Every MarkMayGo x.marks

  -- an expression stands at its place, and may be left out of its list if it is a literal
  record Here (s : Stand) (e : Expression Span) : Type 0 where
    is_at : expression_at p s.place ≡ Some e
    may : is_literal e ≡ true → SlotMayGo s.slot

  both_fine : (x y : Expansion Span) → Fine x → Fine y → Every MarkMayGo (x.marks ++ y.marks)
  both_fine x y first second = every-append MarkMayGo x.marks y.marks first second

  or_empty_fine : (q : CallRef) (ms : List (Mark Span)) → Every MarkMayGo ms → Every MarkMayGo (or_empty q ms)
  or_empty_fine q [] all = (tt, tt)
  or_empty_fine q (m ∷ ms) all = all

  if_fine : (b : Bool) (x : Expansion Span) (f : List (List ℕ)) → (b ≡ true → Fine x) → Fine (if b then x else met opaque f)
  if_fine true x f fine = fine refl
  if_fine false x f fine = (tt, tt)

  literal_fine : (at : Span) (s : Stand) (f : List (List ℕ)) (o : Option (List ℕ)) → (is_some o ≡ true → SlotMayGo s.slot) → Fine (literal_item at s f o)
  literal_fine at s f None may = (tt, tt)
  literal_fine at s f (Some text) may = (may refl, tt)

  -- the elements of the list at a place, from a number on
  abbrev pub MayLeave : CallRef → ℕ → List (Argument Span) → Type 0
  MayLeave c n es = (j : ℕ) (e : Expression Span) → nth es j ≡ Some (plain e) → is_literal e ≡ true → MayGo p (element_spot c (n + j))

  pub next_ones : (c : CallRef) (n : ℕ) (a : Argument Span) (more : Arguments Span) → MayLeave c n (a ∷ argument_list more) → MayLeave c (n + 1) (argument_list more)
  next_ones c n a more may = λ j e is literal. subst (λ k. MayGo p (element_spot c k)) (shifted n j) (may (suc j) e is literal)

  pub first_one : (c : CallRef) (n : ℕ) (e : Expression Span) (more : Arguments Span) → MayLeave c n (plain e ∷ argument_list more) → is_literal e ≡ true → MayGo p (element_spot c n)
  first_one c n e more may literal = subst (λ k. MayGo p (element_spot c k)) (plus_zero n) (may 0 e refl literal)

  module _ (lists : Expression Span → Bool) (follow : List ℕ → List (List ℕ) → Expansion Span) (follows : (x : List ℕ) (f : List (List ℕ)) → Fine (follow x f)) where
    seen_fine : (b : Bool) (x : List ℕ) (f : List (List ℕ)) → Fine (if b then met opaque f else follow x f)
    seen_fine true x f = (tt, tt)
    seen_fine false x f = follows x f

    mutual
      expression_fine : (e : Expression Span) (s : Stand) (f : List (List ℕ)) → Here s e → Fine (expand_by lists follow e s f)
      expression_fine (string at q x) s f h = literal_fine at s f (value (string_kind q) x) h.may
      expression_fine (array (listing r trailing list)) s f h =
          or_empty_fine s.place (expand_each lists follow list 0 s f).marks
          (each_fine list 0 s f (elements_stand p levels s.place (array (listing r trailing list)) _ h.is_at refl refl)
          (λ j e is literal. record {
            list = array (listing r trailing list);
            is_list = h.is_at;
            may = ap (element_may_go each_one list) (from_zero j) ∙ each_may bracket.Square refl list false (level_there s.place (array (listing r trailing list)) _ h.is_at refl).1 j e is literal;
          }))
      expression_fine (call at g (listing r trailing list)) s f h =
          if_fine (is_files g.text (listing r trailing list)) (within s.place (expand_each lists follow list 0 s f)) f
          (λ files. or_empty_fine s.place (expand_each lists follow list 0 s f).marks
          (each_fine list 0 s f (elements_stand p levels s.place (call at g (listing r trailing list)) _ h.is_at refl refl)
          (λ j e is literal. record {
            list = call at g (listing r trailing list);
            is_list = h.is_at;
            may =
                ap (λ sort. element_may_go (loses sort) list (0 + j)) (files_sort g.text (listing r trailing list) files)
                ∙ ap (element_may_go each_one list) (from_zero j)
                ∙ each_may bracket.Round refl list false (level_there s.place (call at g (listing r trailing list)) _ h.is_at refl).1 j e is literal;
          })))
      expression_fine (identifier at x) s f h = seen_fine (one_of f x) x f
      expression_fine (row at e os) s f h =
          if_fine (are_plus os && lists e) _ f
          (λ is. both_fine (expand_by lists follow e (operand_at s 0) f) (expand_operands lists follow os 1 s (expand_by lists follow e (operand_at s 0) f).followed)
          (expression_fine e (operand_at s 0) f (record { is_at = child_stands p s.place (row at e os) h.is_at 0 e refl; may = λ literal. tt }))
          (operands_fine os 1 s (expand_by lists follow e (operand_at s 0) f).followed (row_stands p s.place at e os h.is_at)))
      expression_fine _ s f h = (tt, tt)

      operands_fine : (os : Operands Span) (n : ℕ) (s : Stand) (f : List (List ℕ)) → Operated p s.place n os → Fine (expand_operands lists follow os n s f)
      operands_fine no_operands n s f all = tt
      operands_fine (operand o e more) n s f all =
          both_fine (expand_by lists follow e (operand_at s n) f) (expand_operands lists follow more (n + 1) s (expand_by lists follow e (operand_at s n) f).followed)
          (expression_fine e (operand_at s n) f (record { is_at = all.0; may = λ literal. tt }))
          (operands_fine more (n + 1) s (expand_by lists follow e (operand_at s n) f).followed all.1)

      each_fine : (list : Arguments Span) (n : ℕ) (s : Stand) (f : List (List ℕ)) → Elements p s.place n (argument_list list) → MayLeave s.place n (argument_list list)
          → Fine (expand_each lists follow list n s f)
      each_fine no_arguments n s f stand may = tt
      each_fine (argument (plain e) more) n s f stand may =
          both_fine (expand_by lists follow e (element s n) f) (expand_each lists follow more (n + 1) s (expand_by lists follow e (element s n) f).followed)
          (expression_fine e (element s n) f (record { is_at = (first_stands p (plain e) more n s.place stand e refl).is_at; may = first_one s.place n e more may }))
          (each_fine more (n + 1) s (expand_by lists follow e (element s n) f).followed (others_stand p (plain e) more n s.place stand) (next_ones s.place n (plain e) more may))
      each_fine (argument (named at x e) more) n s f stand may =
          (tt, each_fine more (n + 1) s f (others_stand p (named at x e) more n s.place stand) (next_ones s.place n (named at x e) more may))
      each_fine (argument (pair at e d) more) n s f stand may =
          (tt, each_fine more (n + 1) s f (others_stand p (pair at e d) more n s.place stand) (next_ones s.place n (pair at e d) more may))

  -- ---- variables that are followed

  followed_fine : (inner : Expression Span → Stand → List (List ℕ) → Expansion Span) → ((e : Expression Span) (s : Stand) (f : List (List ℕ)) → Here s e → Fine (inner e s f))
      → (x : List ℕ) (f : List (List ℕ)) (o : Option (Placed (Expression Span))) → single p x ≡ o → Fine (follow_single inner x f o)
  followed_fine inner each x f None is = (tt, tt)
  followed_fine inner each x f (Some d) is = each d.it (of_variable x d.place) (x ∷ f) (record { is_at = single_stands p x d is; may = λ literal. tt })

  expand_fine : (left : ℕ) (e : Expression Span) (s : Stand) (f : List (List ℕ)) → Here s e → Fine (expand p left e s f)
  expand_fine zero e s f h = expression_fine (is_list_operand p) (λ x g. met opaque g) (λ x g. (tt, tt)) e s f h
  expand_fine (suc left) e s f h =
      expression_fine (is_list_operand p) (λ x g. follow_single (expand p left) x g (single p x)) (λ x g. followed_fine (expand p left) (expand_fine left) x g (single p x) refl) e s f h

  -- ---- the arguments of a target

  module _ (c : CallRef) (slot : ℕ → Slot) where
    arguments_fine : (as_given : List (Numbered (Expression Span))) (f : List (List ℕ)) → Every (λ a. expression_at p (child c a.number) ≡ Some a.value) as_given
        → Every (λ a. is_literal a.value ≡ true → SlotMayGo (slot a.number)) as_given → Fine (expand_arguments p c slot as_given f)
    arguments_fine [] f stand may = tt
    arguments_fine (a ∷ more) f stand may =
        let s : Stand = record { place = child c a.number; slot = slot a.number; variable = None } in
        both_fine (expand p max_followed a.value s f) (expand_arguments p c slot more (expand p max_followed a.value s f).followed)
        (expand_fine max_followed a.value s f (record { is_at = stand.0; may = may.0 })) (arguments_fine more (expand p max_followed a.value s f).followed stand.1 may.1)

  fixed_may : (as_given : List (Numbered (Expression Span))) → Every (λ a. is_literal a.value ≡ true → SlotMayGo fixed) as_given
  fixed_may [] = tt
  fixed_may (a ∷ more) = ((λ literal. tt), fixed_may more)

  later : (c : CallRef) (i : ℕ) (b : Argument Span) (more : Arguments Span)
      → ((j : ℕ) (a : Argument Span) (x : Expression Span) → nth (b ∷ argument_list more) j ≡ Some a → value_of a ≡ Some x → expression_at p (child c (i + j)) ≡ Some x)
      → (j : ℕ) (a : Argument Span) (x : Expression Span) → nth (argument_list more) j ≡ Some a → value_of a ≡ Some x → expression_at p (child c ((i + 1) + j)) ≡ Some x
  later c i b more stand = λ j a x is value. subst (λ k. expression_at p (child c k) ≡ Some x) (shifted i j) (stand (suc j) a x is value)

  -- the values of the arguments of a name
  keyword_at : (key : List ℕ) (c : CallRef) (list : Arguments Span) (i : ℕ)
      → ((j : ℕ) (a : Argument Span) (x : Expression Span) → nth (argument_list list) j ≡ Some a → value_of a ≡ Some x → expression_at p (child c (i + j)) ≡ Some x)
      → Every (λ a. expression_at p (child c a.number) ≡ Some a.value) (filter_map (kept_number (value_with_name key)) (numbered i list))
  keyword_at key c no_arguments i stand = tt
  keyword_at key c (argument (plain e) more) i stand = keyword_at key c more (i + 1) (later c i (plain e) more stand)
  keyword_at key c (argument (pair s e f) more) i stand = keyword_at key c more (i + 1) (later c i (pair s e f) more stand)
  keyword_at key c (argument (named s x e) more) i stand =
      one (bytes_eq x.text key) (subst (λ k. expression_at p (child c k) ≡ Some e) (plus_zero i) (stand 0 (named s x e) e refl refl)) (keyword_at key c more (i + 1) (later c i (named s x e) more stand))
    where
      one : (b : Bool) → expression_at p (child c i) ≡ Some e → Every (λ a. expression_at p (child c a.number) ≡ Some a.value) (filter_map (kept_number (value_with_name key)) (numbered (i + 1) more))
          → Every (λ a. expression_at p (child c a.number) ≡ Some a.value) (cons_option (option_map (λ y. record { number = i; value = y }) (if b then Some e else None)) (filter_map (kept_number (value_with_name key)) (numbered (i + 1) more)))
      one true here others = (here, others)
      one false here others = others

  hidden_fine : (as_given : List (Numbered (Expression Span))) → Every MarkMayGo (hidden as_given)
  hidden_fine [] = tt
  hidden_fine (a ∷ more) = (tt, tt)

  items_may : (ms : List (Mark Span)) → Every MarkMayGo ms → Every (λ i. SlotMayGo i.slot) (items ms)
  items_may [] all = tt
  items_may (known i ∷ ms) all = (all.0, items_may ms all.1)
  items_may (opaque ∷ ms) all = items_may ms all.1
  items_may (empty c ∷ ms) all = items_may ms all.1

  -- ---- spots of items

  spot_may : (s : Spot) (slot : Slot) → SlotMayGo slot → is_at s slot ≡ true → MayGo p s
  spot_may s (in_list c n) may is = subst (MayGo p) (sym (same_one s (element_spot c n) is)) may
  spot_may s fixed may is = absurd cc

  item_found : (removed : List (List ℕ)) (s : Spot) (is : List (Item Span)) → Every (λ i. SlotMayGo i.slot) is → list_any (λ i. has_one_of removed i && is_at s i.slot) is ≡ true → MayGo p s
  item_found removed s [] all found = absurd cc
  item_found removed s (i ∷ is) all found = go (has_one_of removed i) (is_at s i.slot) (spot_may s i.slot all.0) (item_found removed s is all.1) found
    where
      go : (a b : Bool) → (b ≡ true → MayGo p s) → (list_any (λ i. has_one_of removed i && is_at s i.slot) is ≡ true → MayGo p s)
          → ((a && b) || list_any (λ i. has_one_of removed i && is_at s i.slot) is) ≡ true → MayGo p s
      go true true here later found = here refl
      go true false here later found = later found
      go false b here later found = later found

  pub spots_may : (removed : List (List ℕ)) (is : List (Item Span)) → Every (λ i. SlotMayGo i.slot) is → (spots : List Spot)
      → AllByRecursion (λ s. list_any (λ i. has_one_of removed i && is_at s i.slot) is ≡ true) spots → AllByRecursion (MayGo p) spots
  spots_may removed is all [] each = tt
  spots_may removed is all (s ∷ spots) each = (item_found removed s is all each.0, spots_may removed is all spots each.1)

pub every_rest : {X : Type 0} (P : X → Type 0) (xs : List X) → Every P xs → Every P (rest xs)
every_rest P [] all = tt
every_rest P (x ∷ xs) all = all.1

pub every_weaker : {X : Type 0} (P Q : X → Type 0) → ((x : X) → P x → Q x) → (xs : List X) → Every P xs → Every Q xs
every_weaker P Q f [] all = tt
every_weaker P Q f (x ∷ xs) all = (f x all.0, every_weaker P Q f xs all.1)

pub sources_may : (old : Loaded) → (is : IsProject old) → (id : CallName) (c : Placed (Call Span)) → the_call (project old) role.Target id ≡ Ok c
    → Every (λ (i : Item Span). SlotMayGo (project old) (parsed_level old.files old.parsed is.parsed) i.slot) (items (source_marks (project old) c))
sources_may old is id c found =
    let p = project old in
    let levels = parsed_level old.files old.parsed is.parsed in
    let t = target_at p id c found in
    let it = call t.it.span t.it.name (listing t.it.brackets t.it.trailing t.it.arguments) in
    let there = arguments_stand old is.parsed id c found in
    let sort = target_sort t.it.name.text (listing t.it.brackets t.it.trailing t.it.arguments) t.is_target t.has_first in
    let own : Every (λ a. is_literal a.value ≡ true → MayGo p (element_spot c.place a.number)) (rest (positional (called t.it).it)) =
    later_unnamed bracket.Round refl t.it.arguments false (level_there p levels c.place it _ t.it.at refl).1 0 (λ n. MayGo p (element_spot c.place n))
    (λ j goes. record { list = it; is_list = t.it.at; may = ap (λ s. element_may_go (loses s) t.it.arguments (0 + j)) sort ∙ ap (element_may_go later_ones t.it.arguments) (from_zero j) ∙ goes }) in
    let own_here : Every (λ a. is_literal a.value ≡ true → MayGo p (element_spot c.place a.number)) (rest (positional c.it)) =
    subst (λ (d : Placed (Call Span)). Every (λ a. is_literal a.value ≡ true → MayGo p (element_spot c.place a.number)) (rest (positional d.it))) t.is own in
    let stand = every_rest (λ a. expression_at p (child c.place a.number) ≡ Some a.value) (positional c.it)
    (every_weaker (λ a. ElementAt p c.place a.number a.value) (λ a. expression_at p (child c.place a.number) ≡ Some a.value) (λ a h. h.is_at) (positional c.it) there.without_name) in
    let first = expand_arguments p c.place (in_list c.place) (rest (positional c.it)) [] in
    let second = expand_arguments p c.place (λ n. fixed) (keyword sources_key c.it) first.followed in
    items_may p levels (source_marks p c)
    (every-append (MarkMayGo p levels) (first.marks ++ second.marks) (hidden (keyword kwargs_key c.it))
    (both_fine p levels first second (arguments_fine p levels c.place (in_list c.place) (rest (positional c.it)) [] stand own_here)
    (arguments_fine p levels c.place (λ n. fixed) (keyword sources_key c.it) first.followed there.of_sources (fixed_may p levels (keyword sources_key c.it))))
    (hidden_fine p levels (keyword kwargs_key c.it)))

pub extras_may : (old : Loaded) → (is : IsProject old) → (id : CallName) (c : Placed (Call Span)) → the_call (project old) role.Target id ≡ Ok c
    → Every (λ (i : Item Span). SlotMayGo (project old) (parsed_level old.files old.parsed is.parsed) i.slot) (items (extra_marks (project old) c))
extras_may old is id c found =
    let p = project old in
    let levels = parsed_level old.files old.parsed is.parsed in
    let t = target_at p id c found in
    let it = call t.it.span t.it.name (listing t.it.brackets t.it.trailing t.it.arguments) in
    let at : Every (λ a. expression_at p (child c.place a.number) ≡ Some a.value) (keyword extra_key (called t.it).it) =
    keyword_at p levels extra_key c.place t.it.arguments 0
    (λ j a x is_element is_value. subst (λ k. expression_at p (child c.place k) ≡ Some x) (sym (from_zero j)) (value_stands p levels c.place it _ t.it.at refl refl j a x is_element is_value)) in
    let here = subst (λ (d : Placed (Call Span)). Every (λ a. expression_at p (child c.place a.number) ≡ Some a.value) (keyword extra_key d.it)) t.is at in
    items_may p levels (extra_marks p c) (arguments_fine p levels c.place (λ n. fixed) (keyword extra_key c.it) [] here (fixed_may p levels (keyword extra_key c.it)))
