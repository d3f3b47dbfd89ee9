-- Lists of a file that get elements, each in its place where the list is in order.
use Rattle.std.specs.Prelude.{◌≡◌, ℕ, zero, suc, ◌+◌, nat_eq, Bool, true, false, List, [], ◌∷◌, ◌++◌, drop, insert, if◌then◌else◌, is_some, length, Option, Some, None, option_map, Result, Ok, Err}
use Rattle.meson_lex.specs.declared.fault.LexFault.{LexFault}
use Rattle.meson_lex.specs.declared.kinds.Item.{Item}
use Rattle.meson_lex.specs.declared.kinds.Kind.{Kind}
use Rattle.meson_lex.specs.declared.kinds.Kind.TheVariants as kind
use Rattle.meson_lex.specs.declared.kinds.Span.{Span}
use Rattle.meson_lex.specs.Literals.{value}
use Rattle.meson_lex.specs.Scan.{scan}
use Rattle.meson_syntax.specs.Operators.{string_kind}
use Rattle.meson_syntax.specs.Tree.{Argument, plain, named, pair, Expression, identifier, string, Nowhere, erase_expression}
use Rattle.meson_syntax.specs.View.{text_at}
use Rattle.meson_edit.specs.Edits.{After, First, Replace, Written}
use Rattle.meson_edit.specs.Standing.{expression_span}
use Rattle.meson_calls.specs.declared.call.CallRef.{CallRef}
use Rattle.meson_steps.specs.declared.order.InsertionPoint.{InsertionPoint}
use Rattle.meson_steps.specs.declared.order.InsertionPoint.TheVariants as point
use Rattle.meson_steps.specs.declared.order.SortKey.{SortKey}
use Rattle.meson_steps.specs.declared.order.SortKey.TheVariants as key
use Rattle.meson_steps.specs.declared.ordered_list.OrderedList.{OrderedList}
use Rattle.meson_steps.specs.Order.{insertion_point, put_key}
use Rattle.meson_steps.specs.Steps.{Step, step_in}

-- ---- the elements

abbrev pub text_key : Option (List ℕ) → SortKey
text_key None = key.Other
text_key (Some text) = key.Text text

-- A literal is ordered by its text, and an identifier by its name.
abbrev pub sort_key : {S : Type 0} → Expression S → SortKey
sort_key (identifier s x) = key.Name x
sort_key (string s q x) = text_key (value (string_kind q) x)
sort_key _ = key.Other

-- those of elements, up to the first with a name or a key
abbrev pub sort_keys : {S : Type 0} → List (Argument S) → List SortKey
sort_keys [] = []
sort_keys (plain e ∷ xs) = sort_key e ∷ sort_keys xs
sort_keys (named s x e ∷ xs) = []
sort_keys (pair s k v ∷ xs) = []

-- the token of a literal or an identifier
abbrev pub lone_token : {S : Type 0} → Expression S → Option (List ℕ)
lone_token (identifier s x) = Some x
lone_token (string s q x) = if is_some (value (string_kind q) x) then Some x else None
lone_token _ = None

-- as it is written
abbrev pub lone_written : {S : Type 0} → Expression S → Option (Written (Expression Nowhere))
lone_written e = option_map (λ token. record { bytes = token; node = erase_expression e }) (lone_token e)

-- ---- comments

-- whether the line ends with such an item, or what is after it is a comment
abbrev pub ends_line : Kind → Bool
ends_line kind.LineEnd = true
ends_line kind.Continuation = true
ends_line kind.Comment = true
ends_line _ = false

abbrev pub is_comment : Kind → Bool
is_comment kind.Comment = true
is_comment _ = false

-- whether the first line of a text, by its items, has a comment
abbrev pub comment_in : List (Result Item LexFault) → Bool
comment_in [] = false
comment_in (Ok x ∷ more) = if ends_line x.kind then is_comment x.kind else comment_in more
comment_in (Err fault ∷ more) = comment_in more

unfoldable pub has_comment : (text : List ℕ) → Bool
has_comment text = comment_in (scan 0 text)

-- whether a comment is between an offset and the end of its line
abbrev pub comment_after : (source : List ℕ) → (offset : ℕ) → Bool
comment_after source offset = has_comment (text_at source (record { from = offset; to = length source }))

-- ---- the list

-- A list that gets elements: the number of the first one that counts, after how many elements it ends, and the sort keys of those that count. And the first of
-- these, where another one may be put in front of it.
pub record Ordered : Type 0 where
  pub from : ℕ
  pub end : ℕ
  pub keys : List SortKey
  pub first : Option (Written (Expression Nowhere))

-- No comment comes after it on its line, and it is a literal or an identifier.
abbrev pub first_of : (source : List ℕ) → List (Argument Span) → Option (Written (Expression Nowhere))
first_of source [] = None
first_of source (plain e ∷ xs) = if comment_after source (expression_span e).to then None else lone_written e
first_of source (named s x e ∷ xs) = None
first_of source (pair s k v ∷ xs) = None

-- the list of these elements
abbrev pub ordered : (source : List ℕ) → (from end : ℕ) → List (Argument Span) → Ordered
ordered source from end xs = record { from = from; end = end; keys = sort_keys (drop from xs); first = first_of source (drop from xs) }

-- where an element with this key comes
abbrev pub point_in : Ordered → SortKey → InsertionPoint
point_in o k = insertion_point (is_some o.first) k o.keys

-- whether one that is put there is the first that counts, in a list that begins and ends there
abbrev pub comes_first : (from end : ℕ) → InsertionPoint → Bool
comes_first from end point.End = nat_eq from end
comes_first from end (point.After n) = false
comes_first from end point.Front = true

-- the list with it
abbrev pub put_one : Ordered → InsertionPoint → SortKey → Written (Expression Nowhere) → Ordered
put_one o p k w = record { from = o.from; end = suc o.end; keys = put_key p k o.keys; first = if comes_first o.from o.end p then Some w else o.first }

-- ---- the steps

-- a value after this many elements of a list
abbrev pub put_after : CallRef → ℕ → Written (Expression Nowhere) → Step
put_after list zero w = step_in list (First list.path.steps (record { bytes = w.bytes; node = plain w.node }))
put_after list (suc n) w = step_in list (After list.path.steps n (record { bytes = w.bytes; node = plain w.node }))

-- No edit puts an element in front of the first: that one becomes the new one, and comes after it again.
abbrev pub put_in_front : CallRef → Ordered → Option (Written (Expression Nowhere)) → Written (Expression Nowhere) → List Step
put_in_front list o None w = put_after list o.end w ∷ []
put_in_front list o (Some first) w = step_in list (Replace list.path.steps o.from w) ∷ put_after list (suc o.from) first ∷ []

abbrev pub put_steps : CallRef → Ordered → InsertionPoint → Written (Expression Nowhere) → List Step
put_steps list o point.End w = put_after list o.end w ∷ []
put_steps list o (point.After n) w = put_after list (suc (o.from + n)) w ∷ []
put_steps list o point.Front w = put_in_front list o o.first w

-- a value that is added, and its sort key
pub record Added : Type 0 where
  pub key : SortKey
  pub written : Written (Expression Nowhere)

-- One after another, each in the list as the one before left it.
abbrev pub all_put : CallRef → Ordered → List Added → List Step
all_put list o [] = []
all_put list o (a ∷ more) = put_steps list o (point_in o a.key) a.written ++ all_put list (put_one o (point_in o a.key) a.key a.written) more

-- ---- what they make of the elements

-- the number of elements before the one that is put there
abbrev pub number_at : Ordered → InsertionPoint → ℕ
number_at o point.End = o.end
number_at o (point.After n) = suc (o.from + n)
number_at o point.Front = o.from

abbrev pub all_elements : Ordered → List Added → List (Argument Nowhere) → List (Argument Nowhere)
all_elements o [] xs = xs
all_elements o (a ∷ more) xs =
    all_elements (put_one o (point_in o a.key) a.key a.written) more (insert xs (number_at o (point_in o a.key)) (plain a.written.node))

-- ---- the code

-- what the code knows of a list
pub record IsOrderedList (code : OrderedList) (o : Ordered) : Type 0 where
  pub from : code.from ≡ o.from
  pub end : code.end ≡ o.end
  pub keys : code.keys.items ≡ o.keys
  pub first : code.first ≡ option_map (λ w. w.bytes) o.first
