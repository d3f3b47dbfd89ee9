-- What a call is does not depend on what nodes carry, and places tell spots.
use Rattle.std.proofs.Common.{◌≡◌, ℕ, suc, ◌+◌, List, [], ◌∷◌, ◌++◌, Option, Some, None, refl, ap, ap₂}
use Rattle.std.specs.Prelude.{Bool, true, false, not, ◌&&◌, bytes_eq, codes, nat_eq, option_map, is_some}
use Rattle.std.specs.List.{filter_map, list_any}
use Rattle.std.proofs.Math.Path.{fun_ext}
use Rattle.meson_lex.specs.Literals.{value}
use Rattle.meson_syntax.specs.Operators.{string_kind}
use Rattle.meson_syntax.specs.Tree.{Expression, identifier, boolean, integer, string, paren, array, dictionary, call, unary, row, postfix, conditional, Listing, listing, plain, named, pair, Arguments, no_arguments, argument}
use Rattle.meson_calls.specs.declared.call.CallRef.{CallRef}
use Rattle.meson_calls.specs.Calls.{Numbered, first_of, kept_number, numbered, value_without_name}
use Rattle.meson_calls.specs.Project.{child}
use Rattle.meson_calls.specs.Roles.{one_of, target_functions}
use Rattle.meson_sources.specs.Effects.{goes}
use Rattle.meson_sources.specs.SourceEdits.{Spot, is_path}
use Rattle.meson_variables.specs.Expansion.{has_names}
use Rattle.meson_meaning.specs.Expressions.{call_with, literal_at, literal_in, sort_by, sort_of}
use Rattle.meson_meaning.specs.Placing.{arguments_placed, expression_placed, listing_placed}
use Rattle.meson_meaning.specs.Spots.{is_literal, is_spot}
use Rattle.meson_meaning.specs.Without.{literal_goes}

-- ---- the sort of a call

names_placed : {S : Type 0} (q : CallRef) (n : ℕ) (list : Arguments S) → has_names (arguments_placed q n list) ≡ has_names list
names_placed q n no_arguments = refl
names_placed q n (argument (plain e) more) = names_placed q (suc n) more
names_placed q n (argument (named s x e) more) = refl
names_placed q n (argument (pair s e f) more) = names_placed q (suc (suc n)) more

abbrev has_first : {S : Type 0} → Arguments S → ℕ → Bool
has_first list i = is_some (option_map (λ (a : Numbered (Expression _)). a.value) (first_of (filter_map (kept_number value_without_name) (numbered i list))))

first_placed : {S : Type 0} (q : CallRef) (n i : ℕ) (list : Arguments S) → has_first (arguments_placed q n list) i ≡ has_first list i
first_placed q n i no_arguments = refl
first_placed q n i (argument (plain e) more) = refl
first_placed q n i (argument (named s x e) more) = first_placed q (suc n) (i + 1) more
first_placed q n i (argument (pair s e f) more) = first_placed q (suc (suc n)) (i + 1) more

pub sort_placed : {S : Type 0} (f : List ℕ) (q : CallRef) (l : Listing S) → sort_of (call_with f (listing_placed q l)) ≡ sort_of (call_with f l)
sort_placed f q (listing s trailing list) =
    ap₂ sort_by (ap (λ b. bytes_eq f (codes "files") && not b) (names_placed q 0 list)) (ap (λ b. one_of target_functions f && b) (first_placed q 0 0 list))

-- ---- spots

last_step : (xs ys : List ℕ) (a b : ℕ) → bytes_eq (xs ++ a ∷ []) (ys ++ b ∷ []) ≡ is_path xs ys && nat_eq a b
last_step [] [] a b = go (nat_eq a b)
  where
    go : (t : Bool) → t && true ≡ t
    go true = refl
    go false = refl
last_step [] (y ∷ []) a b = go (nat_eq a y)
  where
    go : (t : Bool) → t && false ≡ false
    go true = refl
    go false = refl
last_step [] (y ∷ z ∷ ys) a b = go (nat_eq a y)
  where
    go : (t : Bool) → t && false ≡ false
    go true = refl
    go false = refl
last_step (x ∷ []) [] a b = go (nat_eq x b)
  where
    go : (t : Bool) → t && false ≡ false
    go true = refl
    go false = refl
last_step (x ∷ w ∷ xs) [] a b = go (nat_eq x b)
  where
    go : (t : Bool) → t && false ≡ false
    go true = refl
    go false = refl
last_step (x ∷ xs) (y ∷ ys) a b = go (nat_eq x y) (is_path xs ys) (nat_eq a b) (last_step xs ys a b)
  where
    go : (t : Bool) {u : Bool} (v w : Bool) → u ≡ v && w → t && u ≡ (t && v) && w
    go true v w is = is
    go false v w is = refl

pub spot_here : (spots : List Spot) (q : CallRef) (n : ℕ) → is_spot spots (child q n) ≡ goes spots q n
spot_here spots q n =
    ap (λ test. list_any test spots) (fun_ext (λ (s : Spot). ap (λ b. nat_eq s.list.file q.file && b) (last_step s.list.path.steps q.path.steps s.number n)))

-- ---- literals

module _ (gone : CallRef → Bool) (c : CallRef) where
  tested : (o : Option (List ℕ)) → literal_goes gone (literal_at c o) ≡ gone c && is_some o
  tested None = go (gone c)
    where
      go : (t : Bool) → false ≡ t && false
      go true = refl
      go false = refl
  tested (Some t) = go (gone c)
    where
      go : (t : Bool) → t ≡ t && true
      go true = refl
      go false = refl

  never : false ≡ gone c && false
  never = go (gone c)
    where
      go : (t : Bool) → false ≡ t && false
      go true = refl
      go false = refl

  pub literal_test : {S : Type 0} (e : Expression S) → literal_goes gone (literal_in (expression_placed c e)) ≡ gone c && is_literal e
  literal_test (string s q x) = tested (value (string_kind q) x)
  literal_test (identifier s x) = never
  literal_test (boolean s b) = never
  literal_test (integer s x) = never
  literal_test (paren s e) = never
  literal_test (array l) = never
  literal_test (dictionary l) = never
  literal_test (call s f l) = never
  literal_test (unary s o e) = never
  literal_test (row s e os) = never
  literal_test (postfix s e ts) = never
  literal_test (conditional s d y n) = never
