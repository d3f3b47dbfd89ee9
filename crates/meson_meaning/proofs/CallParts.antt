-- What a call is stays where literals are left out of its arguments.
use Rattle.std.proofs.Common.{◌≡◌, ◌≢◌, ℕ, ◌+◌, List, [], Option, Some, None, refl, ap, ap₂, ◌∙◌}
use Rattle.std.specs.Prelude.{Bool, true, false, not, ◌&&◌, if◌then◌else◌, bytes_eq, codes, option_map, option_and_then, is_some}
use Rattle.std.specs.List.{filter_map}
use Rattle.meson_lex.specs.Literals.{value}
use Rattle.meson_syntax.specs.Operators.{string_kind}
use Rattle.meson_syntax.specs.Tree.{Expression, identifier, boolean, integer, string, paren, array, dictionary, call, unary, row, postfix, conditional, Operands, no_operands, operand, Tail, method, index, Tails, no_tails, tail, Listing, listing, plain, named, pair, Arguments, no_arguments, argument}
use Rattle.meson_calls.specs.declared.call.Role.TheVariants as role
use Rattle.meson_calls.specs.Calls.{Numbered, first_argument, first_literal, first_of, kept_number, literal_of, numbered, value_without_name}
use Rattle.meson_calls.specs.Roles.{has_role, one_of, target_functions}
use Rattle.meson_variables.specs.Expansion.{are_plus, has_names, is_files, is_plus}
use Rattle.meson_following.specs.Effects.{is_name}
use Rattle.meson_following.specs.Names.{are_format, computed, format_naming, is_format, last_of, named_by, naming_by, naming_of, text_or_empty, between}
use Rattle.meson_meaning.specs.Expressions.{literal_at, call_with, literal_in, sort_by, sort_of}
use Rattle.meson_meaning.specs.Without.{literal_as, Loses, arguments_without, each_one, expression_without, kept_before, later_ones, listing_without, literal_goes, loses, loses_after, may_go, nothing, operands_without, tail_without, tails_without}

module _ {S T : Type 0} (to : S → T) (gone : S → Bool) where
  abbrev ew : Expression S → Expression T
  ew = expression_without to gone

  -- ---- expressions

  pub literal_stays : (e : Expression S) → literal_of (ew e) ≡ literal_of e
  literal_stays (identifier s x) = refl
  literal_stays (boolean s b) = refl
  literal_stays (integer s x) = refl
  literal_stays (string s q x) = refl
  literal_stays (paren s e) = refl
  literal_stays (array l) = refl
  literal_stays (dictionary l) = refl
  literal_stays (call s f l) = refl
  literal_stays (unary s o e) = refl
  literal_stays (row s e os) = refl
  literal_stays (postfix s e ts) = refl
  literal_stays (conditional s c y n) = refl

  literal_kept : (s : S) (o : Option (List ℕ)) → literal_at (to s) o ≡ option_map (literal_as to gone) (literal_at s o)
  literal_kept s None = refl
  literal_kept s (Some t) = refl

  pub literal_in_stays : (e : Expression S) → literal_in (ew e) ≡ option_map (literal_as to gone) (literal_in e)
  literal_in_stays (identifier s x) = refl
  literal_in_stays (boolean s b) = refl
  literal_in_stays (integer s x) = refl
  literal_in_stays (string s q x) = literal_kept s (value (string_kind q) x)
  literal_in_stays (paren s e) = refl
  literal_in_stays (array l) = refl
  literal_in_stays (dictionary l) = refl
  literal_in_stays (call s f l) = refl
  literal_in_stays (unary s o e) = refl
  literal_in_stays (row s e os) = refl
  literal_in_stays (postfix s e ts) = refl
  literal_in_stays (conditional s c y n) = refl

  pub is_name_stays : (e : Expression S) → is_name (ew e) ≡ is_name e
  is_name_stays (identifier s x) = refl
  is_name_stays (boolean s b) = refl
  is_name_stays (integer s x) = refl
  is_name_stays (string s q x) = refl
  is_name_stays (paren s e) = refl
  is_name_stays (array l) = refl
  is_name_stays (dictionary l) = refl
  is_name_stays (call s f l) = refl
  is_name_stays (unary s o e) = refl
  is_name_stays (row s e os) = refl
  is_name_stays (postfix s e ts) = refl
  is_name_stays (conditional s c y n) = refl

  pub plus_stays : (os : Operands S) → are_plus (operands_without to gone os) ≡ are_plus os
  plus_stays no_operands = refl
  plus_stays (operand o e more) = ap (λ b. is_plus o && b) (plus_stays more)

  last_stays : (e : Expression S) (os : Operands S) → literal_of (last_of (ew e) (operands_without to gone os)) ≡ literal_of (last_of e os)
  last_stays e no_operands = literal_stays e
  last_stays e (operand o f more) = last_stays f more

  format_stays : (t : Tail S) → is_format (tail_without to gone t) ≡ is_format t
  format_stays (method s f (listing r trailing list)) = refl
  format_stays (index s e) = refl

  formats_stay : (ts : Tails S) → are_format (tails_without to gone ts) ≡ are_format ts
  formats_stay no_tails = refl
  formats_stay (tail t no_tails) = format_stays t
  formats_stay (tail t (tail u more)) = refl

  computed_stays : (e : Expression S) → computed (ew e) ≡ computed e
  computed_stays (identifier s x) = refl
  computed_stays (boolean s b) = refl
  computed_stays (integer s x) = refl
  computed_stays (string s q x) = refl
  computed_stays (paren s e) = refl
  computed_stays (array l) = refl
  computed_stays (dictionary l) = refl
  computed_stays (call s f l) = refl
  computed_stays (unary s o e) = refl
  computed_stays (row s e os) =
      ap₂ (λ b naming. if b then naming else between [] []) (plus_stays os)
      (ap₂ (λ front back. between (text_or_empty front) (text_or_empty back)) (literal_stays e) (last_stays e os))
  computed_stays (postfix s e ts) = ap₂ (λ b text. format_naming (if b then text else None)) (formats_stay ts) (literal_stays e)
  computed_stays (conditional s c y n) = refl

  naming_stays : (e : Expression S) → naming_of (ew e) (literal_of (ew e)) ≡ naming_of e (literal_of e)
  naming_stays e = ap (naming_of (ew e)) (literal_stays e) ∙ go (literal_of e)
    where
      go : (o : Option (List ℕ)) → naming_of (ew e) o ≡ naming_of e o
      go None = computed_stays e
      go (Some text) = refl

  -- ---- the first argument

  abbrev unnamed : {U : Type 0} → Arguments U → ℕ → List (Numbered (Expression U))
  unnamed list n = filter_map (kept_number value_without_name) (numbered n list)

  abbrev value_of_first : {U : Type 0} → Arguments U → ℕ → Option (Expression U)
  value_of_first list n = option_map (λ a. a.value) (first_of (unnamed list n))

  first_stays_by : (m : Loses) → m ≢ each_one → (list : Arguments S) (n : ℕ) → value_of_first (arguments_without to gone m list) n ≡ option_map ew (value_of_first list n)
  first_stays_by m some no_arguments n = refl
  first_stays_by nothing some (argument (plain e) more) n = refl
  first_stays_by nothing some (argument (named s x e) more) n = first_stays_by nothing some more (n + 1)
  first_stays_by nothing some (argument (pair s e f) more) n = first_stays_by nothing some more (n + 1)
  first_stays_by later_ones some (argument (plain e) more) n = refl
  first_stays_by later_ones some (argument (named s x e) more) n = first_stays_by later_ones some more (n + 1)
  first_stays_by later_ones some (argument (pair s e f) more) n = first_stays_by later_ones some more (n + 1)
  first_stays_by each_one some (argument a more) n = absurd (some refl)

  pub first_stays : (m : Loses) → m ≢ each_one → (f : List ℕ) (l : Listing S) → first_argument (call_with f (listing_without to gone m l)) ≡ option_map ew (first_argument (call_with f l))
  first_stays m some f (listing s trailing list) = first_stays_by m some list 0

  pub naming_kept : (f : List ℕ) (l : Listing S) → named_by (call_with f (listing_without to gone nothing l)) ≡ named_by (call_with f l)
  naming_kept f l = ap naming_by (first_stays nothing (λ same. cc) f l) ∙ go (first_argument (call_with f l))
    where
      go : (o : Option (Expression S)) → naming_by (option_map ew o) ≡ naming_by o
      go None = refl
      go (Some e) = naming_stays e

  pub first_literal_kept : (m : Loses) → m ≢ each_one → (f : List ℕ) (l : Listing S) → first_literal (call_with f (listing_without to gone m l)) ≡ first_literal (call_with f l)
  first_literal_kept m some f l = ap (option_and_then literal_of) (first_stays m some f l) ∙ go (first_argument (call_with f l))
    where
      go : (o : Option (Expression S)) → option_and_then literal_of (option_map ew o) ≡ option_and_then literal_of o
      go None = refl
      go (Some e) = literal_stays e

  -- ---- the sort of a call

  kept_names : (b : Bool) (e : Expression T) (more : Arguments T) → has_names (kept_before b (plain e) more) ≡ has_names more
  kept_names true e more = refl
  kept_names false e more = refl

  names_stay : (m : Loses) (list : Arguments S) → has_names (arguments_without to gone m list) ≡ has_names list
  names_stay m no_arguments = refl
  names_stay m (argument (plain e) more) =
      kept_names (may_go m (literal_goes gone (literal_in e))) (ew e) (arguments_without to gone (loses_after m (plain e)) more) ∙ names_stay (loses_after m (plain e)) more
  names_stay nothing (argument (named s x e) more) = refl
  names_stay later_ones (argument (named s x e) more) = refl
  names_stay each_one (argument (named s x e) more) = refl
  names_stay nothing (argument (pair s e f) more) = names_stay nothing more
  names_stay later_ones (argument (pair s e f) more) = names_stay later_ones more
  names_stay each_one (argument (pair s e f) more) = names_stay each_one more

  files_stay : (m : Loses) (f : List ℕ) (l : Listing S) → is_files f (listing_without to gone m l) ≡ is_files f l
  files_stay m f (listing s trailing list) = ap (λ b. bytes_eq f (codes "files") && not b) (names_stay m list)

  mapped_some : (o : Option (Expression S)) → is_some (option_map ew o) ≡ is_some o
  mapped_some None = refl
  mapped_some (Some e) = refl

  target_stays : (m : Loses) → m ≢ each_one → (f : List ℕ) (l : Listing S) → has_role role.Target (call_with f (listing_without to gone m l)) ≡ has_role role.Target (call_with f l)
  target_stays m some f l = ap (λ o. one_of target_functions f && is_some o) (first_stays m some f l) ∙ ap (λ b. one_of target_functions f && b) (mapped_some (first_argument (call_with f l)))

  by_sort : (m : Loses) (f : List ℕ) (l : Listing S) (files target : Bool) → is_files f l ≡ files → has_role role.Target (call_with f l) ≡ target → m ≡ loses (sort_by files target)
      → sort_of (call_with f (listing_without to gone m l)) ≡ sort_by files target
  by_sort m f l true target is_list is_target is = ap (λ b. sort_by b (has_role role.Target (call_with f (listing_without to gone m l)))) (files_stay m f l ∙ is_list)
  by_sort m f l false true is_list is_target is = ap₂ sort_by (files_stay m f l ∙ is_list) (target_stays m (λ same. cc) f l ∙ is_target)
  by_sort m f l false false is_list is_target is = ap₂ sort_by (files_stay m f l ∙ is_list) (target_stays m (λ same. cc) f l ∙ is_target)

  pub sort_stays : (f : List ℕ) (l : Listing S) → sort_of (call_with f (listing_without to gone (loses (sort_of (call_with f l))) l)) ≡ sort_of (call_with f l)
  sort_stays f l = by_sort (loses (sort_of (call_with f l))) f l (is_files f l) (has_role role.Target (call_with f l)) refl refl refl
