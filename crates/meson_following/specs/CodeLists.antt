-- What the code answers of lists.
use Rattle.std.specs.Prelude.{◌≡◌, ℕ, Bool, true, if◌then◌else◌, List, Some}
use Rattle.meson_lex.specs.declared.kinds.Span.{Span}
use Rattle.meson_syntax.specs.Tree.{Expression, Operands}
use Rattle.meson_calls.specs.declared.call.CallRef.{CallRef}
use Rattle.meson_calls.specs.Project.{child}
use Rattle.meson_following.specs.declared.follower.Follower.{Follower}
use Rattle.meson_following.specs.declared.lists.Lists.{Lists}
use Rattle.meson_following.specs.declared.lists.Seen as code_seen
use Rattle.meson_following.specs.CodeFollowing.{followed_project}
use Rattle.meson_following.specs.Lists.{Asked, Seen, has_list_by, is_list_by, is_list_maker, is_list_variable, is_made_list, has_plain_list, or_asked, told}
use Rattle.meson_following.specs.Makers.{Made, Maker}

-- this answer, after which this many variables may still be looked up
abbrev pub Answers : Bool → ℕ → Asked → Type 0
Answers is left asked = told is left ≡ asked

-- where this many variables may still be looked up
abbrev pub seen_at : code_seen.Seen → ℕ → Seen
seen_at s left = record { sure = s.sure; each = s.each; left = left }

module _ (l : Lists) where
  abbrev pub is_variable_at : CallRef → List ℕ → ℕ → Asked
  is_variable_at = is_list_variable (followed_project l.follower) l.depth

  abbrev pub is_list_at : CallRef → Expression Span → ℕ → Asked
  is_list_at = is_list_by is_variable_at

  abbrev pub has_list_at : CallRef → ℕ → Operands Span → ℕ → Asked
  has_list_at = has_list_by is_variable_at

  abbrev pub is_sum_at : CallRef → Expression Span → Operands Span → ℕ → Asked
  is_sum_at q e os left = if has_plain_list os then told true left else or_asked (is_list_at (child q 0) e left) (λ now. has_list_at q 1 os now)

module _ (f : Follower) (depth : ℕ) where
  abbrev pub is_maker_at : Maker Span → ℕ → Asked
  is_maker_at = is_list_maker (followed_project f) depth

  abbrev pub is_made_at : Made Span → ℕ → Asked
  is_made_at k = is_made_list is_maker_at (Some k)
