-- Elements of lists that may be left out: literals that are elements of arrays, arguments of `files`, or sources of a target after its name.
use Rattle.std.specs.Prelude.{◌≡◌, ℕ, zero, suc, Bool, true, false, List, is_some, Some}
use Rattle.std.specs.List.{AllByRecursion, list_any}
use Rattle.meson_syntax.specs.Tree.{Expression, array, call, Listing, listing, plain, named, pair, Arguments, no_arguments, argument}
use Rattle.meson_calls.specs.declared.call.CallRef.{CallRef}
use Rattle.meson_calls.specs.Calls.{literal_of}
use Rattle.meson_calls.specs.Project.{Project, child, expression_at}
use Rattle.meson_following.specs.Makers.{is_same_place}
use Rattle.meson_sources.specs.SourceEdits.{Spot}
use Rattle.meson_meaning.specs.Expressions.{call_with, sort_of}
use Rattle.meson_meaning.specs.Without.{Loses, each_one, loses, loses_after, may_go}

-- whether an expression at a place is an element at one of these spots
abbrev pub is_spot : List Spot → CallRef → Bool
is_spot spots c = list_any (λ s. is_same_place (child s.list s.number) c) spots

abbrev pub is_literal : {S : Type 0} → Expression S → Bool
is_literal e = is_some (literal_of e)

-- whether the element of a number is a literal that may be left out; a list with an entry is that of a dictionary
abbrev pub element_may_go : {S : Type 0} → Loses → Arguments S → ℕ → Bool
element_may_go m no_arguments n = false
element_may_go m (argument (plain e) more) zero = may_go m (is_literal e)
element_may_go m (argument (plain e) more) (suc n) = element_may_go (loses_after m (plain e)) more n
element_may_go m (argument (named s x e) more) zero = false
element_may_go m (argument (named s x e) more) (suc n) = element_may_go m more n
element_may_go m (argument (pair s e f) more) n = false

abbrev pub listed_may_go : {S : Type 0} → Loses → Listing S → ℕ → Bool
listed_may_go m (listing s trailing list) n = element_may_go m list n

-- of an array, or a call
abbrev pub part_may_go : {S : Type 0} → Expression S → ℕ → Bool
part_may_go (array l) n = listed_may_go each_one l n
part_may_go (call s f l) n = listed_may_go (loses (sort_of (call_with f.text l))) l n
part_may_go e n = false

-- At the spot stands a literal that may be left out.
pub record MayGo {S : Type 0} (p : Project S) (s : Spot) : Type 0 where
  pub list : Expression S
  pub is_list : expression_at p s.list ≡ Some list
  pub may : part_may_go list s.number ≡ true

abbrev pub AreLiterals : {S : Type 0} → Project S → List Spot → Type 0
AreLiterals p spots = AllByRecursion (MayGo p) spots
